-- This file is made by .ci/laws_of_histories, from
-- examples/a_copy_that_comes_late.history.
use Rattle.std.specs.Prelude.{[], ◌∷◌, codes}
use Rattle.lr_base.specs.declared.events.Event.TheVariants.{Call, Resend, Ack as AckEvent, Deliver, Tick}
use Rattle.lr_base.specs.declared.events.Event.TheVariants.{Gossip as GossipEvent, Show}
use Rattle.lr_base.specs.declared.events.Outcome.TheVariants.{Send, Accept, Note as NoteLine, Take, Got, ClockAt}
use Rattle.lr_base.specs.declared.events.Outcome.TheVariants.{Refuse, State}
use Rattle.lr_base.specs.declared.events.Refusal.TheVariants.{Late, Again}
use Rattle.lr_base.specs.declared.events.Sent.TheVariants.{Update, Query, Ack, Done, Answer, Gossip}
use Rattle.lr_base.specs.declared.names.Actor.TheVariants.{Client, Replica}
use Rattle.svc_tally.specs.declared.op.TallyOp.{TallyOp}
use Rattle.svc_tally.specs.declared.op.TallyOp.TheVariants.{Add, Read}
use Rattle.lr_histories.specs.Terms.{PrintedHistory, cid, spot, step}

-- the history, with any outcome in the place of the one at its line 31
abbrev pub history : PrintedHistory TallyOp
history = record {
  config = record { replicas = 2; clients = 1; delta = 10 };
  steps = λ line.
      step (Call 0 0 5 (Add (codes "apples") 3)) (Send 1 (Client 0) (Replica 0) (Update (cid 0 1) 5) ∷ [])
      ∷ step (Resend 0 1 6) (Send 2 (Client 0) (Replica 1) (Update (cid 0 1) 6) ∷ [])
      ∷ step (Deliver 2) (Accept (spot 1 1) (cid 0 1) ∷ Send 3 (Replica 1) (Client 0) (Done (cid 0 1) (spot 1 1)) ∷ [])
      ∷ step (Deliver 3) (Got (cid 0 1) ∷ [])
      ∷ step (AckEvent 0 1 8) (Send 4 (Client 0) (Replica 1) (Ack (cid 0 1) 8) ∷ [])
      ∷ step (Deliver 4) (NoteLine (spot 1 2) (cid 0 1) ∷ [])
      ∷ step (Tick 0 16) (ClockAt 16 ∷ [])
      ∷ step (Deliver 1) (Refuse (Late 5 16) ∷ [])
      ∷ step (Deliver 2) (Refuse (Again (spot 1 1)) ∷ Send 5 (Replica 1) (Client 0) (Done (cid 0 1) (spot 1 1)) ∷ [])
      ∷ step (GossipEvent 1 0) (Send 6 (Replica 1) (Replica 0) Gossip ∷ [])
      ∷ step (Deliver 6) (Take 2 ∷ [])
      ∷ step (Show 0) (State (record {
        replica = 0;
        view = 0;
        clock = 16;
        received = 0 ∷ 2 ∷ 0 ∷ [];
        log = [];
        acks = spot 1 2 ∷ [];
        calls = [];
        held = [];
        marks = [];
      }) ∷ [])
      ∷ step (Call 0 0 17 (Read (codes "apples"))) (Send 7 (Client 0) (Replica 0) (Query (cid 0 2)) ∷ [])
      ∷ step (Deliver 7) (line ∷ [])
      ∷ step (Deliver 8) (Got (cid 0 2) ∷ [])
      ∷ [];
  line = Send 8 (Replica 0) (Client 0) (Answer (cid 0 2) (codes "3"));
  altered = Send 8 (Replica 0) (Client 0) (Answer (cid 0 2) (codes "4"));
}
