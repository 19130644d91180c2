-- This file is made by .ci/laws_of_histories, from
-- crates/lr_examples/data/one_box_at_two_replicas.stdout.
use Rattle.std.specs.Prelude.{[], ◌∷◌, codes}
use Rattle.lr_base.specs.declared.events.Event.TheVariants.{Call, Deliver, Gossip as GossipEvent, Show}
use Rattle.lr_base.specs.declared.events.Outcome.TheVariants.{Send, Accept, Hold, Take, Got, State}
use Rattle.lr_base.specs.declared.events.Sent.TheVariants.{Update, Query, Done, Answer, Gossip}
use Rattle.lr_base.specs.declared.names.Actor.TheVariants.{Client, Replica}
use Rattle.svc_mail.specs.declared.op.MailOp.{MailOp}
use Rattle.svc_mail.specs.declared.op.MailOp.TheVariants.{Send as SendWord, Read}
use Rattle.lr_histories.specs.Terms.{PrintedHistory, cid, spot, step}

-- the history, with any outcome in the place of the one at its line 48
abbrev pub history : PrintedHistory MailOp
history = record {
  config = record { replicas = 2; clients = 2; delta = 10 };
  steps = λ line.
      step (Call 0 0 1 (SendWord (codes "bob") (codes "early"))) (Send 1 (Client 0) (Replica 0) (Update (cid 0 1) 1)
      ∷ [])
      ∷ step (Deliver 1) (Accept (spot 0 1) (cid 0 1) ∷ Send 2 (Replica 0) (Client 0) (Done (cid 0 1) (spot 0 1)) ∷ [])
      ∷ step (Call 1 1 2 (SendWord (codes "bob") (codes "again"))) (Send 3 (Client 1) (Replica 1) (Update (cid 1 1) 2)
      ∷ [])
      ∷ step (Deliver 3) (Accept (spot 1 1) (cid 1 1) ∷ Send 4 (Replica 1) (Client 1) (Done (cid 1 1) (spot 1 1)) ∷ [])
      ∷ step (Deliver 2) (Got (cid 0 1) ∷ [])
      ∷ step (Deliver 4) (Got (cid 1 1) ∷ [])
      ∷ step (Call 1 1 3 (SendWord (codes "bob") (codes "early"))) (Send 5 (Client 1) (Replica 1) (Update (cid 1 2) 3)
      ∷ [])
      ∷ step (Deliver 5) (Accept (spot 1 2) (cid 1 2) ∷ Send 6 (Replica 1) (Client 1) (Done (cid 1 2) (spot 1 2)) ∷ [])
      ∷ step (Deliver 6) (Got (cid 1 2) ∷ [])
      ∷ step (Call 1 1 4 (Read (codes "bob"))) (Send 7 (Client 1) (Replica 1) (Query (cid 1 3)) ∷ [])
      ∷ step (Deliver 7) (Send 8 (Replica 1) (Client 1) (Answer (cid 1 3) (codes "- 2 again early")) ∷ [])
      ∷ step (Call 0 1 5 (Read (codes "bob"))) (Send 9 (Client 0) (Replica 1) (Query (cid 0 2)) ∷ [])
      ∷ step (Deliver 9) (Hold (cid 0 2) ∷ [])
      ∷ step (GossipEvent 0 1) (Send 10 (Replica 0) (Replica 1) Gossip ∷ [])
      ∷ step (Deliver 10) (Take 1 ∷ Send 11 (Replica 1) (Client 0) (Answer (cid 0 2) (codes "- 3 again early early"))
      ∷ [])
      ∷ step (Deliver 11) (Got (cid 0 2) ∷ [])
      ∷ step (Call 0 0 6 (Read (codes "ann"))) (Send 12 (Client 0) (Replica 0) (Query (cid 0 3)) ∷ [])
      ∷ step (Deliver 12) (Hold (cid 0 3) ∷ [])
      ∷ step (Show 1) (State (record {
        replica = 1;
        view = 0;
        clock = 0;
        received = 1 ∷ 2 ∷ 0 ∷ [];
        log = spot 1 1 ∷ spot 1 2 ∷ [];
        acks = [];
        calls = cid 0 1 ∷ cid 1 1 ∷ cid 1 2 ∷ [];
        held = [];
        marks = [];
      }) ∷ [])
      ∷ step (GossipEvent 1 0) (Send 13 (Replica 1) (Replica 0) Gossip ∷ [])
      ∷ step (Deliver 13) (Take 2 ∷ line ∷ [])
      ∷ [];
  line = Send 14 (Replica 0) (Client 0) (Answer (cid 0 3) (codes "- 0"));
  altered = Send 14 (Replica 0) (Client 0) (Answer (cid 0 3) (codes "- 1"));
}
