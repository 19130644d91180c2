-- This file is made by .ci/laws_of_histories, from
-- crates/lr_examples/data/what_front_ends_refuse.stdout.
use Rattle.std.specs.Prelude.{[], ◌∷◌, codes}
use Rattle.lr_base.specs.declared.events.Event.TheVariants.{Call, Resend, Ack as AckEvent, Deliver}
use Rattle.lr_base.specs.declared.events.Event.TheVariants.{Gossip as GossipEvent, Show}
use Rattle.lr_base.specs.declared.events.Outcome.TheVariants.{Send, Accept, Note as NoteLine, Take, Got, Stale, Refuse}
use Rattle.lr_base.specs.declared.events.Outcome.TheVariants.{State}
use Rattle.lr_base.specs.declared.events.Refusal.TheVariants.{Again, Settled, Noted, Unfinished, Idle, Nothing}
use Rattle.lr_base.specs.declared.events.Sent.TheVariants.{Update, Query, Ack, Done, Answer, Gossip}
use Rattle.lr_base.specs.declared.names.Actor.TheVariants.{Client, Replica}
use Rattle.svc_tally.specs.declared.op.TallyOp.{TallyOp}
use Rattle.svc_tally.specs.declared.op.TallyOp.TheVariants.{Add, Read}
use Rattle.lr_histories.specs.Terms.{PrintedHistory, cid, spot, step}

-- the history, with any outcome in the place of the one at its line 24
abbrev pub history : PrintedHistory TallyOp
history = record {
  config = record { replicas = 2; clients = 2; delta = 10 };
  steps = λ line.
      step (Resend 0 0 3) (Refuse Idle ∷ [])
      ∷ step (AckEvent 0 1 4) (Refuse Nothing ∷ [])
      ∷ step (Call 0 0 2 (Add (codes "x") 1)) (Send 1 (Client 0) (Replica 0) (Update (cid 0 1) 4) ∷ [])
      ∷ step (Call 0 1 9 (Read (codes "x"))) (Refuse (Unfinished (cid 0 1)) ∷ [])
      ∷ step (AckEvent 0 0 5) (Refuse Nothing ∷ [])
      ∷ step (Resend 0 1 8) (Send 2 (Client 0) (Replica 1) (Update (cid 0 1) 9) ∷ [])
      ∷ step (Deliver 1) (Accept (spot 0 1) (cid 0 1) ∷ Send 3 (Replica 0) (Client 0) (Done (cid 0 1) (spot 0 1)) ∷ [])
      ∷ step (Deliver 3) (Got (cid 0 1) ∷ [])
      ∷ step (Resend 0 1 10) (Refuse Idle ∷ [])
      ∷ step (Call 0 0 10 (Read (codes "x"))) (Send 4 (Client 0) (Replica 0) (Query (cid 0 2)) ∷ [])
      ∷ step (Deliver 4) (line ∷ [])
      ∷ step (Deliver 5) (Got (cid 0 2) ∷ [])
      ∷ step (AckEvent 0 1 7) (Send 6 (Client 0) (Replica 1) (Ack (cid 0 1) 10) ∷ [])
      ∷ step (Deliver 6) (NoteLine (spot 1 1) (cid 0 1) ∷ [])
      ∷ step (Deliver 2) (Refuse Settled ∷ [])
      ∷ step (AckEvent 1 0 1) (Refuse Nothing ∷ [])
      ∷ step (Show 1) (State (record {
        replica = 1;
        view = 0;
        clock = 0;
        received = 0 ∷ 1 ∷ 0 ∷ [];
        log = [];
        acks = spot 1 1 ∷ [];
        calls = [];
        held = [];
        marks = [];
      }) ∷ [])
      ∷ step (Deliver 6) (Refuse (Noted (spot 1 1)) ∷ [])
      ∷ step (AckEvent 0 1 20) (Send 7 (Client 0) (Replica 1) (Ack (cid 0 1) 20) ∷ [])
      ∷ step (Deliver 7) (Refuse (Noted (spot 1 1)) ∷ [])
      ∷ step (GossipEvent 1 0) (Send 8 (Replica 1) (Replica 0) Gossip ∷ [])
      ∷ step (Deliver 8) (Take 1 ∷ [])
      ∷ step (Show 0) (State (record {
        replica = 0;
        view = 0;
        clock = 0;
        received = 1 ∷ 1 ∷ 0 ∷ [];
        log = spot 0 1 ∷ [];
        acks = spot 1 1 ∷ [];
        calls = cid 0 1 ∷ [];
        held = [];
        marks = [];
      }) ∷ [])
      ∷ step (Deliver 1) (Refuse (Again (spot 0 1)) ∷ Send 9 (Replica 0) (Client 0) (Done (cid 0 1) (spot 0 1)) ∷ [])
      ∷ step (Deliver 9) (Stale (cid 0 1) ∷ [])
      ∷ step (Call 0 0 6 (Add (codes "x") 1)) (Send 10 (Client 0) (Replica 0) (Update (cid 0 3) 20) ∷ [])
      ∷ [];
  line = Send 5 (Replica 0) (Client 0) (Answer (cid 0 2) (codes "1"));
  altered = Send 5 (Replica 0) (Client 0) (Answer (cid 0 2) (codes "2"));
}
