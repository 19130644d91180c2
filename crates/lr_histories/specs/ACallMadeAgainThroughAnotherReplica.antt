-- This file is made by .ci/laws_of_histories, from
-- examples/a_call_made_again_through_another_replica.history.
use Rattle.std.specs.Prelude.{[], ◌∷◌, codes}
use Rattle.lr_base.specs.declared.events.Event.TheVariants.{Call, Resend, Deliver, Gossip as GossipEvent, Show}
use Rattle.lr_base.specs.declared.events.Outcome.TheVariants.{Send, Accept, Take, Got, Stale, State}
use Rattle.lr_base.specs.declared.events.Sent.TheVariants.{Update, Query, Done, Answer, Gossip}
use Rattle.lr_base.specs.declared.names.Actor.TheVariants.{Client, Replica}
use Rattle.svc_tally.specs.declared.op.TallyOp.{TallyOp}
use Rattle.svc_tally.specs.declared.op.TallyOp.TheVariants.{Add, Read}
use Rattle.lr_histories.specs.Terms.{PrintedHistory, cid, spot, step}

-- the history, with any outcome in the place of the one at its line 25
abbrev pub history : PrintedHistory TallyOp
history = record {
  config = record { replicas = 2; clients = 1; delta = 100 };
  steps = λ line.
      step (Call 0 0 5 (Add (codes "apples") 3)) (Send 1 (Client 0) (Replica 0) (Update (cid 0 1) 5) ∷ [])
      ∷ step (Resend 0 1 9) (Send 2 (Client 0) (Replica 1) (Update (cid 0 1) 9) ∷ [])
      ∷ step (Deliver 2) (Accept (spot 1 1) (cid 0 1) ∷ Send 3 (Replica 1) (Client 0) (Done (cid 0 1) (spot 1 1)) ∷ [])
      ∷ step (Deliver 3) (Got (cid 0 1) ∷ [])
      ∷ step (Deliver 1) (Accept (spot 0 1) (cid 0 1) ∷ Send 4 (Replica 0) (Client 0) (Done (cid 0 1) (spot 0 1)) ∷ [])
      ∷ step (Deliver 4) (Stale (cid 0 1) ∷ [])
      ∷ step (GossipEvent 0 1) (Send 5 (Replica 0) (Replica 1) Gossip ∷ [])
      ∷ step (Deliver 5) (Take 1 ∷ [])
      ∷ step (Show 1) (State (record {
        replica = 1;
        view = 0;
        clock = 0;
        received = 1 ∷ 1 ∷ 0 ∷ [];
        log = spot 1 1 ∷ [];
        acks = [];
        calls = cid 0 1 ∷ [];
        held = [];
        marks = [];
      }) ∷ [])
      ∷ step (Call 0 1 12 (Read (codes "apples"))) (Send 6 (Client 0) (Replica 1) (Query (cid 0 2)) ∷ [])
      ∷ step (Deliver 6) (line ∷ [])
      ∷ step (Deliver 7) (Got (cid 0 2) ∷ [])
      ∷ [];
  line = Send 7 (Replica 1) (Client 0) (Answer (cid 0 2) (codes "3"));
  altered = Send 7 (Replica 1) (Client 0) (Answer (cid 0 2) (codes "4"));
}
