-- This file is made by .ci/laws_of_histories, from
-- crates/lr_examples/data/an_update_is_accepted_at_two_replicas.stdout.
use Rattle.std.specs.Prelude.{[], ◌∷◌, codes}
use Rattle.lr_base.specs.declared.events.Event.TheVariants.{Call, Resend, Ack as AckEvent, Deliver}
use Rattle.lr_base.specs.declared.events.Event.TheVariants.{Gossip as GossipEvent, Show}
use Rattle.lr_base.specs.declared.events.Outcome.TheVariants.{Send, Accept, Note as NoteLine, Take, Got, Refuse, State}
use Rattle.lr_base.specs.declared.events.Refusal.TheVariants.{Again, Settled}
use Rattle.lr_base.specs.declared.events.Sent.TheVariants.{Update, Query, Ack, Done, Answer, Gossip}
use Rattle.lr_base.specs.declared.names.Actor.TheVariants.{Client, Replica}
use Rattle.svc_mail.specs.declared.op.MailOp.{MailOp}
use Rattle.svc_mail.specs.declared.op.MailOp.TheVariants.{Send as SendWord, Read}
use Rattle.lr_histories.specs.Terms.{PrintedHistory, cid, spot, step}

-- the history, with any outcome in the place of the one at its line 29
abbrev pub history : PrintedHistory MailOp
history = record {
  config = record { replicas = 2; clients = 2; delta = 50 };
  steps = λ line.
      step (Call 0 0 1 (SendWord (codes "ann") (codes "hello"))) (Send 1 (Client 0) (Replica 0) (Update (cid 0 1) 1)
      ∷ [])
      ∷ step (Resend 0 1 3) (Send 2 (Client 0) (Replica 1) (Update (cid 0 1) 3) ∷ [])
      ∷ step (Deliver 1) (Accept (spot 0 1) (cid 0 1) ∷ Send 3 (Replica 0) (Client 0) (Done (cid 0 1) (spot 0 1)) ∷ [])
      ∷ step (Deliver 2) (Accept (spot 1 1) (cid 0 1) ∷ Send 4 (Replica 1) (Client 0) (Done (cid 0 1) (spot 1 1)) ∷ [])
      ∷ step (GossipEvent 0 1) (Send 5 (Replica 0) (Replica 1) Gossip ∷ [])
      ∷ step (GossipEvent 1 0) (Send 6 (Replica 1) (Replica 0) Gossip ∷ [])
      ∷ step (Deliver 5) (Take 1 ∷ [])
      ∷ step (Deliver 6) (Take 1 ∷ [])
      ∷ step (Call 1 0 5 (Read (codes "ann"))) (Send 7 (Client 1) (Replica 0) (Query (cid 1 1)) ∷ [])
      ∷ step (Deliver 7) (Send 8 (Replica 0) (Client 1) (Answer (cid 1 1) (codes "- 1 hello")) ∷ [])
      ∷ step (Deliver 8) (Got (cid 1 1) ∷ [])
      ∷ step (Call 1 1 6 (Read (codes "ann"))) (Send 9 (Client 1) (Replica 1) (Query (cid 1 2)) ∷ [])
      ∷ step (Deliver 9) (line ∷ [])
      ∷ step (Deliver 10) (Got (cid 1 2) ∷ [])
      ∷ step (Show 0) (State (record {
        replica = 0;
        view = 0;
        clock = 0;
        received = 1 ∷ 1 ∷ 0 ∷ [];
        log = spot 0 1 ∷ [];
        acks = [];
        calls = cid 0 1 ∷ [];
        held = [];
        marks = [];
      }) ∷ [])
      ∷ step (Show 1) (State (record {
        replica = 1;
        view = 0;
        clock = 0;
        received = 1 ∷ 1 ∷ 0 ∷ [];
        log = spot 1 1 ∷ [];
        acks = [];
        calls = cid 0 1 ∷ [];
        held = [];
        marks = [];
      }) ∷ [])
      ∷ step (Deliver 1) (Refuse (Again (spot 0 1)) ∷ Send 11 (Replica 0) (Client 0) (Done (cid 0 1) (spot 0 1)) ∷ [])
      ∷ step (Deliver 2) (Refuse (Again (spot 1 1)) ∷ Send 12 (Replica 1) (Client 0) (Done (cid 0 1) (spot 1 1)) ∷ [])
      ∷ step (Deliver 3) (Got (cid 0 1) ∷ [])
      ∷ step (AckEvent 0 0 7) (Send 13 (Client 0) (Replica 0) (Ack (cid 0 1) 7) ∷ [])
      ∷ step (Deliver 13) (NoteLine (spot 0 2) (cid 0 1) ∷ [])
      ∷ step (Show 0) (State (record {
        replica = 0;
        view = 0;
        clock = 0;
        received = 2 ∷ 1 ∷ 0 ∷ [];
        log = spot 0 1 ∷ [];
        acks = spot 0 2 ∷ [];
        calls = cid 0 1 ∷ [];
        held = [];
        marks = [];
      }) ∷ [])
      ∷ step (Deliver 2) (Refuse (Again (spot 1 1)) ∷ Send 14 (Replica 1) (Client 0) (Done (cid 0 1) (spot 1 1)) ∷ [])
      ∷ step (GossipEvent 0 1) (Send 15 (Replica 0) (Replica 1) Gossip ∷ [])
      ∷ step (Deliver 15) (Take 1 ∷ [])
      ∷ step (Show 1) (State (record {
        replica = 1;
        view = 0;
        clock = 0;
        received = 2 ∷ 1 ∷ 0 ∷ [];
        log = [];
        acks = spot 0 2 ∷ [];
        calls = [];
        held = [];
        marks = [];
      }) ∷ [])
      ∷ step (Deliver 2) (Refuse Settled ∷ [])
      ∷ step (GossipEvent 1 0) (Send 16 (Replica 1) (Replica 0) Gossip ∷ [])
      ∷ step (Deliver 16) (Take 0 ∷ [])
      ∷ step (Show 0) (State (record {
        replica = 0;
        view = 0;
        clock = 0;
        received = 2 ∷ 1 ∷ 0 ∷ [];
        log = [];
        acks = spot 0 2 ∷ [];
        calls = [];
        held = [];
        marks = [];
      }) ∷ [])
      ∷ step (Deliver 1) (Refuse Settled ∷ [])
      ∷ [];
  line = Send 10 (Replica 1) (Client 1) (Answer (cid 1 2) (codes "- 1 hello"));
  altered = Send 10 (Replica 1) (Client 1) (Answer (cid 1 2) (codes "- 2 hello"));
}
