-- This file is made by .ci/laws_of_histories, from
-- examples/a_query_waits_for_gossip.history.
use Rattle.std.specs.Prelude.{[], ◌∷◌, codes}
use Rattle.lr_base.specs.declared.events.Event.TheVariants.{Call, Deliver, Gossip as GossipEvent}
use Rattle.lr_base.specs.declared.events.Outcome.TheVariants.{Send, Accept, Hold, Take, Got}
use Rattle.lr_base.specs.declared.events.Sent.TheVariants.{Update, Query, Done, Answer, Gossip}
use Rattle.lr_base.specs.declared.names.Actor.TheVariants.{Client, Replica}
use Rattle.svc_tally.specs.declared.op.TallyOp.{TallyOp}
use Rattle.svc_tally.specs.declared.op.TallyOp.TheVariants.{Add, Read}
use Rattle.lr_histories.specs.Terms.{PrintedHistory, cid, spot, step}

-- the history, with any outcome in the place of the one at its line 17
abbrev pub history : PrintedHistory TallyOp
history = record {
  config = record { replicas = 2; clients = 1; delta = 10 };
  steps = λ line.
      step (Call 0 0 1 (Add (codes "pears") 2)) (Send 1 (Client 0) (Replica 0) (Update (cid 0 1) 1) ∷ [])
      ∷ step (Deliver 1) (Accept (spot 0 1) (cid 0 1) ∷ Send 2 (Replica 0) (Client 0) (Done (cid 0 1) (spot 0 1)) ∷ [])
      ∷ step (Deliver 2) (Got (cid 0 1) ∷ [])
      ∷ step (Call 0 1 2 (Read (codes "pears"))) (Send 3 (Client 0) (Replica 1) (Query (cid 0 2)) ∷ [])
      ∷ step (Deliver 3) (Hold (cid 0 2) ∷ [])
      ∷ step (GossipEvent 0 1) (Send 4 (Replica 0) (Replica 1) Gossip ∷ [])
      ∷ step (Deliver 4) (Take 1 ∷ line ∷ [])
      ∷ step (Deliver 5) (Got (cid 0 2) ∷ [])
      ∷ [];
  line = Send 5 (Replica 1) (Client 0) (Answer (cid 0 2) (codes "2"));
  altered = Send 5 (Replica 1) (Client 0) (Answer (cid 0 2) (codes "3"));
}
