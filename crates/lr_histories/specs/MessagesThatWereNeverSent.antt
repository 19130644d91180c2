-- This file is made by .ci/laws_of_histories, from
-- crates/lr_examples/data/messages_that_were_never_sent.stdout.
use Rattle.std.specs.Prelude.{[], ◌∷◌, codes}
use Rattle.lr_base.specs.declared.events.Event.TheVariants.{Call, Deliver, Show}
use Rattle.lr_base.specs.declared.events.Outcome.TheVariants.{Send, Accept, Got, Stale, NoMessage, Refuse, State}
use Rattle.lr_base.specs.declared.events.Refusal.TheVariants.{Again}
use Rattle.lr_base.specs.declared.events.Sent.TheVariants.{Update, Query, Done, Answer}
use Rattle.lr_base.specs.declared.names.Actor.TheVariants.{Client, Replica}
use Rattle.svc_tally.specs.declared.op.TallyOp.{TallyOp}
use Rattle.svc_tally.specs.declared.op.TallyOp.TheVariants.{Add, Read}
use Rattle.lr_histories.specs.Terms.{PrintedHistory, cid, spot, step}

-- the history, with any outcome in the place of the one at its line 48
abbrev pub history : PrintedHistory TallyOp
history = record {
  config = record { replicas = 1; clients = 1; delta = 0 };
  steps = λ line.
      step (Deliver 1) (NoMessage 1 ∷ [])
      ∷ step (Call 0 0 1 (Read (codes "z0"))) (Send 1 (Client 0) (Replica 0) (Query (cid 0 1)) ∷ [])
      ∷ step (Deliver 2) (NoMessage 2 ∷ [])
      ∷ step (Deliver 1) (Send 2 (Replica 0) (Client 0) (Answer (cid 0 1) (codes "0")) ∷ [])
      ∷ step (Deliver 2) (Got (cid 0 1) ∷ [])
      ∷ step (Deliver 3) (NoMessage 3 ∷ [])
      ∷ step (Call 0 0 1 (Add (codes "x") 18446744073709551615)) (Send 3 (Client 0) (Replica 0) (Update (cid 0 2) 1)
      ∷ [])
      ∷ step (Show 0) (State (record {
        replica = 0;
        view = 0;
        clock = 0;
        received = 0 ∷ 0 ∷ [];
        log = [];
        acks = [];
        calls = [];
        held = [];
        marks = [];
      }) ∷ [])
      ∷ step (Deliver 3) (Accept (spot 0 1) (cid 0 2) ∷ Send 4 (Replica 0) (Client 0) (Done (cid 0 2) (spot 0 1)) ∷ [])
      ∷ step (Deliver 4) (Got (cid 0 2) ∷ [])
      ∷ step (Deliver 3) (Refuse (Again (spot 0 1)) ∷ Send 5 (Replica 0) (Client 0) (Done (cid 0 2) (spot 0 1)) ∷ [])
      ∷ step (Call 0 0 12 (Read (codes "y"))) (Send 6 (Client 0) (Replica 0) (Query (cid 0 3)) ∷ [])
      ∷ step (Deliver 7) (NoMessage 7 ∷ [])
      ∷ step (Deliver 5) (Stale (cid 0 2) ∷ [])
      ∷ step (Deliver 6) (Send 7 (Replica 0) (Client 0) (Answer (cid 0 3) (codes "0")) ∷ [])
      ∷ step (Deliver 7) (Got (cid 0 3) ∷ [])
      ∷ step (Deliver 3) (Refuse (Again (spot 0 1)) ∷ Send 8 (Replica 0) (Client 0) (Done (cid 0 2) (spot 0 1)) ∷ [])
      ∷ step (Deliver 8) (Stale (cid 0 2) ∷ [])
      ∷ step (Deliver 9) (NoMessage 9 ∷ [])
      ∷ step (Deliver 7) (Stale (cid 0 3) ∷ [])
      ∷ step (Call 0 0 15 (Read (codes "y"))) (Send 9 (Client 0) (Replica 0) (Query (cid 0 4)) ∷ [])
      ∷ step (Deliver 9) (line ∷ [])
      ∷ step (Show 0) (State (record {
        replica = 0;
        view = 0;
        clock = 0;
        received = 1 ∷ 0 ∷ [];
        log = [];
        acks = [];
        calls = cid 0 2 ∷ [];
        held = [];
        marks = [];
      }) ∷ [])
      ∷ step (Show 0) (State (record {
        replica = 0;
        view = 0;
        clock = 0;
        received = 1 ∷ 0 ∷ [];
        log = [];
        acks = [];
        calls = cid 0 2 ∷ [];
        held = [];
        marks = [];
      }) ∷ [])
      ∷ [];
  line = Send 10 (Replica 0) (Client 0) (Answer (cid 0 4) (codes "0"));
  altered = Send 10 (Replica 0) (Client 0) (Answer (cid 0 4) (codes "1"));
}
