-- This file is made by .ci/laws_of_histories, from
-- crates/lr_examples/data/a_query_waits_for_the_acceptance_that_its_label_names.stdout.
use Rattle.std.specs.Prelude.{[], ◌∷◌, codes}
use Rattle.lr_base.specs.declared.events.Event.TheVariants.{Call, Resend, Deliver, Gossip as GossipEvent, Show}
use Rattle.lr_base.specs.declared.events.Outcome.TheVariants.{Send, Accept, Hold, Take, Got, Stale, State}
use Rattle.lr_base.specs.declared.events.Sent.TheVariants.{Update, Query, Done, Answer, Gossip}
use Rattle.lr_base.specs.declared.names.Actor.TheVariants.{Client, Replica}
use Rattle.svc_tally.specs.declared.op.TallyOp.{TallyOp}
use Rattle.svc_tally.specs.declared.op.TallyOp.TheVariants.{Add, Read}
use Rattle.lr_histories.specs.Terms.{PrintedHistory, cid, spot, step}

-- the history, with any outcome in the place of the one at its line 26
abbrev pub history : PrintedHistory TallyOp
history = record {
  config = record { replicas = 3; clients = 1; delta = 10 };
  steps = λ line.
      step (Call 0 0 1 (Add (codes "x") 3)) (Send 1 (Client 0) (Replica 0) (Update (cid 0 1) 1) ∷ [])
      ∷ step (Resend 0 1 2) (Send 2 (Client 0) (Replica 1) (Update (cid 0 1) 2) ∷ [])
      ∷ step (Deliver 1) (Accept (spot 0 1) (cid 0 1) ∷ Send 3 (Replica 0) (Client 0) (Done (cid 0 1) (spot 0 1)) ∷ [])
      ∷ step (Deliver 2) (Accept (spot 1 1) (cid 0 1) ∷ Send 4 (Replica 1) (Client 0) (Done (cid 0 1) (spot 1 1)) ∷ [])
      ∷ step (Deliver 4) (Got (cid 0 1) ∷ [])
      ∷ step (Deliver 3) (Stale (cid 0 1) ∷ [])
      ∷ step (Call 0 0 3 (Read (codes "x"))) (Send 5 (Client 0) (Replica 0) (Query (cid 0 2)) ∷ [])
      ∷ step (Deliver 5) (Hold (cid 0 2) ∷ [])
      ∷ step (Show 0) (State (record {
        replica = 0;
        view = 0;
        clock = 0;
        received = 1 ∷ 0 ∷ 0 ∷ 0 ∷ [];
        log = spot 0 1 ∷ [];
        acks = [];
        calls = cid 0 1 ∷ [];
        held = cid 0 2 ∷ [];
        marks = [];
      }) ∷ [])
      ∷ step (GossipEvent 1 0) (Send 6 (Replica 1) (Replica 0) Gossip ∷ [])
      ∷ step (Deliver 6) (Take 1 ∷ line ∷ [])
      ∷ step (Deliver 7) (Got (cid 0 2) ∷ [])
      ∷ [];
  line = Send 7 (Replica 0) (Client 0) (Answer (cid 0 2) (codes "3"));
  altered = Send 7 (Replica 0) (Client 0) (Answer (cid 0 2) (codes "4"));
}
