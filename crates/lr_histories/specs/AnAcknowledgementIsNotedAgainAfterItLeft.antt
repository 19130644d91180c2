-- This file is made by .ci/laws_of_histories, from
-- crates/lr_examples/data/an_acknowledgement_is_noted_again_after_it_left.stdout.
use Rattle.std.specs.Prelude.{[], ◌∷◌, codes}
use Rattle.lr_base.specs.declared.events.Event.TheVariants.{Call, Ack as AckEvent, Deliver, Tick, Gossip as GossipEvent}
use Rattle.lr_base.specs.declared.events.Event.TheVariants.{Show}
use Rattle.lr_base.specs.declared.events.Outcome.TheVariants.{Send, Accept, Note as NoteLine, Take, Got, ClockAt}
use Rattle.lr_base.specs.declared.events.Outcome.TheVariants.{Refuse, State}
use Rattle.lr_base.specs.declared.events.Refusal.TheVariants.{Late, Noted}
use Rattle.lr_base.specs.declared.events.Sent.TheVariants.{Update, Ack, Done, Gossip}
use Rattle.lr_base.specs.declared.names.Actor.TheVariants.{Client, Replica}
use Rattle.svc_tally.specs.declared.op.TallyOp.{TallyOp}
use Rattle.svc_tally.specs.declared.op.TallyOp.TheVariants.{Add}
use Rattle.lr_histories.specs.Terms.{PrintedHistory, cid, spot, step}

-- the history, with any outcome in the place of the one at its line 52
abbrev pub history : PrintedHistory TallyOp
history = record {
  config = record { replicas = 2; clients = 1; delta = 10 };
  steps = λ line.
      step (Call 0 0 1 (Add (codes "x") 3)) (Send 1 (Client 0) (Replica 0) (Update (cid 0 1) 1) ∷ [])
      ∷ step (Deliver 1) (Accept (spot 0 1) (cid 0 1) ∷ Send 2 (Replica 0) (Client 0) (Done (cid 0 1) (spot 0 1)) ∷ [])
      ∷ step (Deliver 2) (Got (cid 0 1) ∷ [])
      ∷ step (AckEvent 0 0 2) (Send 3 (Client 0) (Replica 0) (Ack (cid 0 1) 2) ∷ [])
      ∷ step (Deliver 3) (NoteLine (spot 0 2) (cid 0 1) ∷ [])
      ∷ step (Deliver 3) (Refuse (Noted (spot 0 2)) ∷ [])
      ∷ step (GossipEvent 0 1) (Send 4 (Replica 0) (Replica 1) Gossip ∷ [])
      ∷ step (Deliver 4) (Take 2 ∷ [])
      ∷ step (GossipEvent 1 0) (Send 5 (Replica 1) (Replica 0) Gossip ∷ [])
      ∷ step (Deliver 5) (Take 0 ∷ [])
      ∷ step (Show 0) (State (record {
        replica = 0;
        view = 0;
        clock = 0;
        received = 2 ∷ 0 ∷ 0 ∷ [];
        log = [];
        acks = spot 0 2 ∷ [];
        calls = [];
        held = [];
        marks = [];
      }) ∷ [])
      ∷ step (Tick 0 13) (ClockAt 13 ∷ [])
      ∷ step (Show 0) (State (record {
        replica = 0;
        view = 0;
        clock = 13;
        received = 2 ∷ 0 ∷ 0 ∷ [];
        log = [];
        acks = [];
        calls = [];
        held = [];
        marks = [];
      }) ∷ [])
      ∷ step (Deliver 3) (NoteLine (spot 0 3) (cid 0 1) ∷ [])
      ∷ step (Show 0) (State (record {
        replica = 0;
        view = 0;
        clock = 13;
        received = 3 ∷ 0 ∷ 0 ∷ [];
        log = [];
        acks = spot 0 3 ∷ [];
        calls = [];
        held = [];
        marks = [];
      }) ∷ [])
      ∷ step (Deliver 3) (Refuse (Noted (spot 0 3)) ∷ [])
      ∷ step (Deliver 1) (Refuse (Late 1 13) ∷ [])
      ∷ step (GossipEvent 0 1) (Send 6 (Replica 0) (Replica 1) Gossip ∷ [])
      ∷ step (Deliver 6) (Take 1 ∷ [])
      ∷ step (Show 1) (State (record {
        replica = 1;
        view = 0;
        clock = 0;
        received = 3 ∷ 0 ∷ 0 ∷ [];
        log = [];
        acks = spot 0 2 ∷ spot 0 3 ∷ [];
        calls = [];
        held = [];
        marks = [];
      }) ∷ [])
      ∷ step (GossipEvent 1 0) (Send 7 (Replica 1) (Replica 0) Gossip ∷ [])
      ∷ step (Deliver 7) (Take 0 ∷ [])
      ∷ step (Show 0) (State (record {
        replica = 0;
        view = 0;
        clock = 13;
        received = 3 ∷ 0 ∷ 0 ∷ [];
        log = [];
        acks = [];
        calls = [];
        held = [];
        marks = [];
      }) ∷ [])
      ∷ step (Tick 1 13) (ClockAt 13 ∷ [])
      ∷ step (Show 1) (line ∷ [])
      ∷ [];
  line = State (record {
    replica = 1;
    view = 0;
    clock = 13;
    received = 3 ∷ 0 ∷ 0 ∷ [];
    log = [];
    acks = [];
    calls = [];
    held = [];
    marks = [];
  });
  altered = State (record {
    replica = 1;
    view = 0;
    clock = 13;
    received = 3 ∷ 0 ∷ 1 ∷ [];
    log = [];
    acks = [];
    calls = [];
    held = [];
    marks = [];
  });
}
