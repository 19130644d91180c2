-- This file is made by .ci/laws_of_histories, from
-- examples/lost_gossip_made_good.history.
use Rattle.std.specs.Prelude.{[], ◌∷◌, codes}
use Rattle.lr_base.specs.declared.events.Event.TheVariants.{Call, Deliver, Gossip as GossipEvent}
use Rattle.lr_base.specs.declared.events.Outcome.TheVariants.{Send, Accept, Take, Got}
use Rattle.lr_base.specs.declared.events.Sent.TheVariants.{Update, Query, Done, Answer, Gossip}
use Rattle.lr_base.specs.declared.names.Actor.TheVariants.{Client, Replica}
use Rattle.svc_tally.specs.declared.op.TallyOp.{TallyOp}
use Rattle.svc_tally.specs.declared.op.TallyOp.TheVariants.{Add, Read}
use Rattle.lr_histories.specs.Terms.{PrintedHistory, cid, spot, step}

-- the history, with any outcome in the place of the one at its line 25
abbrev pub history : PrintedHistory TallyOp
history = record {
  config = record { replicas = 2; clients = 1; delta = 10 };
  steps = λ line.
      step (Call 0 0 1 (Add (codes "tea") 2)) (Send 1 (Client 0) (Replica 0) (Update (cid 0 1) 1) ∷ [])
      ∷ step (Deliver 1) (Accept (spot 0 1) (cid 0 1) ∷ Send 2 (Replica 0) (Client 0) (Done (cid 0 1) (spot 0 1)) ∷ [])
      ∷ step (Deliver 2) (Got (cid 0 1) ∷ [])
      ∷ step (GossipEvent 0 1) (Send 3 (Replica 0) (Replica 1) Gossip ∷ [])
      ∷ step (Call 0 0 2 (Add (codes "tea") 3)) (Send 4 (Client 0) (Replica 0) (Update (cid 0 2) 2) ∷ [])
      ∷ step (Deliver 4) (Accept (spot 0 2) (cid 0 2) ∷ Send 5 (Replica 0) (Client 0) (Done (cid 0 2) (spot 0 2)) ∷ [])
      ∷ step (Deliver 5) (Got (cid 0 2) ∷ [])
      ∷ step (GossipEvent 0 1) (Send 6 (Replica 0) (Replica 1) Gossip ∷ [])
      ∷ step (Deliver 6) (Take 2 ∷ [])
      ∷ step (Call 0 1 3 (Read (codes "tea"))) (Send 7 (Client 0) (Replica 1) (Query (cid 0 3)) ∷ [])
      ∷ step (Deliver 7) (line ∷ [])
      ∷ step (Deliver 8) (Got (cid 0 3) ∷ [])
      ∷ [];
  line = Send 8 (Replica 1) (Client 0) (Answer (cid 0 3) (codes "5"));
  altered = Send 8 (Replica 1) (Client 0) (Answer (cid 0 3) (codes "6"));
}
