-- This file is made by .ci/laws_of_histories, from
-- crates/lr_examples/data/a_late_copy_of_an_executed_call.stdout.
use Rattle.std.specs.Prelude.{[], ◌∷◌, codes}
use Rattle.lr_base.specs.declared.events.Event.TheVariants.{Call, Ack as AckEvent, Deliver, Tick, Gossip as GossipEvent}
use Rattle.lr_base.specs.declared.events.Event.TheVariants.{Show}
use Rattle.lr_base.specs.declared.events.Outcome.TheVariants.{Send, Accept, Note as NoteLine, Take, Got, ClockAt}
use Rattle.lr_base.specs.declared.events.Outcome.TheVariants.{Refuse, State}
use Rattle.lr_base.specs.declared.events.Refusal.TheVariants.{Late, Again, Noted}
use Rattle.lr_base.specs.declared.events.Sent.TheVariants.{Update, Ack, Done, Gossip}
use Rattle.lr_base.specs.declared.names.Actor.TheVariants.{Client, Replica}
use Rattle.svc_claims.specs.declared.op.ClaimsOp.{ClaimsOp}
use Rattle.svc_claims.specs.declared.op.ClaimsOp.TheVariants.{Note}
use Rattle.lr_histories.specs.Terms.{PrintedHistory, cid, spot, step}

-- the history, with any outcome in the place of the one at its line 37
abbrev pub history : PrintedHistory ClaimsOp
history = record {
  config = record { replicas = 2; clients = 1; delta = 10 };
  steps = λ line.
      step (Call 0 0 5 (Note (codes "a") (codes "b"))) (Send 1 (Client 0) (Replica 0) (Update (cid 0 1) 5) ∷ [])
      ∷ step (Deliver 1) (Accept (spot 0 1) (cid 0 1) ∷ Send 2 (Replica 0) (Client 0) (Done (cid 0 1) (spot 0 1)) ∷ [])
      ∷ step (Tick 0 15) (ClockAt 15 ∷ [])
      ∷ step (Deliver 1) (Refuse (Again (spot 0 1)) ∷ Send 3 (Replica 0) (Client 0) (Done (cid 0 1) (spot 0 1)) ∷ [])
      ∷ step (Tick 0 16) (ClockAt 16 ∷ [])
      ∷ step (Deliver 1) (Refuse (Late 5 16) ∷ [])
      ∷ step (Tick 0 9) (ClockAt 16 ∷ [])
      ∷ step (Deliver 2) (Got (cid 0 1) ∷ [])
      ∷ step (AckEvent 0 0 7) (Send 4 (Client 0) (Replica 0) (Ack (cid 0 1) 7) ∷ [])
      ∷ step (Deliver 4) (NoteLine (spot 0 2) (cid 0 1) ∷ [])
      ∷ step (Deliver 1) (Refuse (Late 5 16) ∷ [])
      ∷ step (Deliver 4) (Refuse (Noted (spot 0 2)) ∷ [])
      ∷ step (Show 0) (State (record {
        replica = 0;
        view = 0;
        clock = 16;
        received = 2 ∷ 0 ∷ 0 ∷ [];
        log = spot 0 1 ∷ [];
        acks = spot 0 2 ∷ [];
        calls = cid 0 1 ∷ [];
        held = [];
        marks = [];
      }) ∷ [])
      ∷ step (GossipEvent 0 1) (Send 5 (Replica 0) (Replica 1) Gossip ∷ [])
      ∷ step (Deliver 5) (Take 2 ∷ [])
      ∷ step (Deliver 1) (Refuse (Late 5 16) ∷ [])
      ∷ step (Show 1) (line ∷ [])
      ∷ [];
  line = State (record {
    replica = 1;
    view = 0;
    clock = 0;
    received = 2 ∷ 0 ∷ 0 ∷ [];
    log = [];
    acks = spot 0 2 ∷ [];
    calls = [];
    held = [];
    marks = [];
  });
  altered = State (record {
    replica = 1;
    view = 0;
    clock = 0;
    received = 2 ∷ 0 ∷ 0 ∷ [];
    log = [];
    acks = spot 0 3 ∷ [];
    calls = [];
    held = [];
    marks = [];
  });
}
