-- This file is made by .ci/laws_of_histories, from
-- examples/an_update_before_its_cause.history.
use Rattle.std.specs.Prelude.{[], ◌∷◌, codes}
use Rattle.lr_base.specs.declared.events.Event.TheVariants.{Call, Deliver, Gossip as GossipEvent, Show}
use Rattle.lr_base.specs.declared.events.Outcome.TheVariants.{Send, Accept, Hold, Take, Got, State}
use Rattle.lr_base.specs.declared.events.Sent.TheVariants.{Update, Query, Done, Answer, Gossip}
use Rattle.lr_base.specs.declared.names.Actor.TheVariants.{Client, Replica}
use Rattle.svc_tally.specs.declared.op.TallyOp.{TallyOp}
use Rattle.svc_tally.specs.declared.op.TallyOp.TheVariants.{Add, Read}
use Rattle.lr_histories.specs.Terms.{PrintedHistory, cid, spot, step}

-- the history, with any outcome in the place of the one at its line 44
abbrev pub history : PrintedHistory TallyOp
history = record {
  config = record { replicas = 3; clients = 2; delta = 10 };
  steps = λ line.
      step (Call 0 0 1 (Add (codes "a") 5)) (Send 1 (Client 0) (Replica 0) (Update (cid 0 1) 1) ∷ [])
      ∷ step (Deliver 1) (Accept (spot 0 1) (cid 0 1) ∷ Send 2 (Replica 0) (Client 0) (Done (cid 0 1) (spot 0 1)) ∷ [])
      ∷ step (Deliver 2) (Got (cid 0 1) ∷ [])
      ∷ step (Call 0 1 2 (Add (codes "a") 7)) (Send 3 (Client 0) (Replica 1) (Update (cid 0 2) 2) ∷ [])
      ∷ step (Deliver 3) (Accept (spot 1 1) (cid 0 2) ∷ Send 4 (Replica 1) (Client 0) (Done (cid 0 2) (spot 1 1)) ∷ [])
      ∷ step (Deliver 4) (Got (cid 0 2) ∷ [])
      ∷ step (Call 1 1 1 (Read (codes "a"))) (Send 5 (Client 1) (Replica 1) (Query (cid 1 1)) ∷ [])
      ∷ step (Deliver 5) (Send 6 (Replica 1) (Client 1) (Answer (cid 1 1) (codes "0")) ∷ [])
      ∷ step (Deliver 6) (Got (cid 1 1) ∷ [])
      ∷ step (Show 1) (State (record {
        replica = 1;
        view = 0;
        clock = 0;
        received = 0 ∷ 1 ∷ 0 ∷ 0 ∷ [];
        log = spot 1 1 ∷ [];
        acks = [];
        calls = [];
        held = [];
        marks = [];
      }) ∷ [])
      ∷ step (GossipEvent 1 2) (Send 7 (Replica 1) (Replica 2) Gossip ∷ [])
      ∷ step (Deliver 7) (Take 1 ∷ [])
      ∷ step (Call 1 2 2 (Read (codes "a"))) (Send 8 (Client 1) (Replica 2) (Query (cid 1 2)) ∷ [])
      ∷ step (Deliver 8) (Send 9 (Replica 2) (Client 1) (Answer (cid 1 2) (codes "0")) ∷ [])
      ∷ step (Deliver 9) (Got (cid 1 2) ∷ [])
      ∷ step (Call 0 2 3 (Read (codes "a"))) (Send 10 (Client 0) (Replica 2) (Query (cid 0 3)) ∷ [])
      ∷ step (Deliver 10) (Hold (cid 0 3) ∷ [])
      ∷ step (Show 2) (State (record {
        replica = 2;
        view = 0;
        clock = 0;
        received = 0 ∷ 1 ∷ 0 ∷ 0 ∷ [];
        log = spot 1 1 ∷ [];
        acks = [];
        calls = [];
        held = cid 0 3 ∷ [];
        marks = [];
      }) ∷ [])
      ∷ step (GossipEvent 0 2) (Send 11 (Replica 0) (Replica 2) Gossip ∷ [])
      ∷ step (Deliver 11) (Take 1 ∷ line ∷ [])
      ∷ step (Deliver 12) (Got (cid 0 3) ∷ [])
      ∷ step (Deliver 11) (Take 0 ∷ [])
      ∷ step (Deliver 7) (Take 0 ∷ [])
      ∷ step (Show 2) (State (record {
        replica = 2;
        view = 0;
        clock = 0;
        received = 1 ∷ 1 ∷ 0 ∷ 0 ∷ [];
        log = spot 0 1 ∷ spot 1 1 ∷ [];
        acks = [];
        calls = cid 0 1 ∷ cid 0 2 ∷ [];
        held = [];
        marks = [];
      }) ∷ [])
      ∷ [];
  line = Send 12 (Replica 2) (Client 0) (Answer (cid 0 3) (codes "12"));
  altered = Send 12 (Replica 2) (Client 0) (Answer (cid 0 3) (codes "13"));
}
