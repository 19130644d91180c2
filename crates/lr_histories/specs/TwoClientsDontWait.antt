-- This file is made by .ci/laws_of_histories, from
-- examples/two_clients_dont_wait.history.
use Rattle.std.specs.Prelude.{[], ◌∷◌, codes}
use Rattle.lr_base.specs.declared.events.Event.TheVariants.{Call, Deliver, Gossip as GossipEvent}
use Rattle.lr_base.specs.declared.events.Outcome.TheVariants.{Send, Accept, Take, Got}
use Rattle.lr_base.specs.declared.events.Sent.TheVariants.{Update, Query, Done, Answer, Gossip}
use Rattle.lr_base.specs.declared.names.Actor.TheVariants.{Client, Replica}
use Rattle.svc_tally.specs.declared.op.TallyOp.{TallyOp}
use Rattle.svc_tally.specs.declared.op.TallyOp.TheVariants.{Add, Read}
use Rattle.lr_histories.specs.Terms.{PrintedHistory, cid, spot, step}

-- the history, with any outcome in the place of the one at its line 27
abbrev pub history : PrintedHistory TallyOp
history = record {
  config = record { replicas = 2; clients = 2; delta = 10 };
  steps = λ line.
      step (Call 0 0 1 (Add (codes "votes") 1)) (Send 1 (Client 0) (Replica 0) (Update (cid 0 1) 1) ∷ [])
      ∷ step (Call 1 1 1 (Add (codes "votes") 4)) (Send 2 (Client 1) (Replica 1) (Update (cid 1 1) 1) ∷ [])
      ∷ step (Deliver 1) (Accept (spot 0 1) (cid 0 1) ∷ Send 3 (Replica 0) (Client 0) (Done (cid 0 1) (spot 0 1)) ∷ [])
      ∷ step (Deliver 2) (Accept (spot 1 1) (cid 1 1) ∷ Send 4 (Replica 1) (Client 1) (Done (cid 1 1) (spot 1 1)) ∷ [])
      ∷ step (Deliver 3) (Got (cid 0 1) ∷ [])
      ∷ step (Deliver 4) (Got (cid 1 1) ∷ [])
      ∷ step (GossipEvent 0 1) (Send 5 (Replica 0) (Replica 1) Gossip ∷ [])
      ∷ step (GossipEvent 1 0) (Send 6 (Replica 1) (Replica 0) Gossip ∷ [])
      ∷ step (Deliver 6) (Take 1 ∷ [])
      ∷ step (Deliver 5) (Take 1 ∷ [])
      ∷ step (Call 1 0 2 (Read (codes "votes"))) (Send 7 (Client 1) (Replica 0) (Query (cid 1 2)) ∷ [])
      ∷ step (Deliver 7) (line ∷ [])
      ∷ step (Deliver 8) (Got (cid 1 2) ∷ [])
      ∷ [];
  line = Send 8 (Replica 0) (Client 1) (Answer (cid 1 2) (codes "5"));
  altered = Send 8 (Replica 0) (Client 1) (Answer (cid 1 2) (codes "6"));
}
