-- This file is made by .ci/laws_of_histories, from
-- crates/lr_examples/data/many_calls_while_one_is_open.stdout.
use Rattle.std.specs.Prelude.{[], ◌∷◌, codes}
use Rattle.lr_base.specs.declared.events.Event.TheVariants.{Call, Deliver, Show}
use Rattle.lr_base.specs.declared.events.Outcome.TheVariants.{Send, Accept, Got, Stale, NoMessage, Refuse, State}
use Rattle.lr_base.specs.declared.events.Refusal.TheVariants.{Unfinished}
use Rattle.lr_base.specs.declared.events.Sent.TheVariants.{Update, Query, Done, Answer}
use Rattle.lr_base.specs.declared.names.Actor.TheVariants.{Client, Replica}
use Rattle.svc_tally.specs.declared.op.TallyOp.{TallyOp}
use Rattle.svc_tally.specs.declared.op.TallyOp.TheVariants.{Add, Read}
use Rattle.lr_histories.specs.Terms.{PrintedHistory, cid, spot, step}

-- the history, with any outcome in the place of the one at its line 56
abbrev pub history : PrintedHistory TallyOp
history = record {
  config = record { replicas = 1; clients = 1; delta = 10 };
  steps = λ line.
      step (Call 0 0 12 (Read (codes "x"))) (Send 1 (Client 0) (Replica 0) (Query (cid 0 1)) ∷ [])
      ∷ step (Deliver 1) (Send 2 (Replica 0) (Client 0) (Answer (cid 0 1) (codes "0")) ∷ [])
      ∷ step (Call 0 0 12 (Add (codes "abcdefghij012345") 9223372036854775808)) (Refuse (Unfinished (cid 0 1)) ∷ [])
      ∷ step (Call 0 0 12 (Add (codes "abcdefghij012345") 0)) (Refuse (Unfinished (cid 0 1)) ∷ [])
      ∷ step (Deliver 3) (NoMessage 3 ∷ [])
      ∷ step (Deliver 3) (NoMessage 3 ∷ [])
      ∷ step (Call 0 0 16 (Add (codes "x") 7)) (Refuse (Unfinished (cid 0 1)) ∷ [])
      ∷ step (Deliver 2) (Got (cid 0 1) ∷ [])
      ∷ step (Call 0 0 20 (Read (codes "x"))) (Send 3 (Client 0) (Replica 0) (Query (cid 0 2)) ∷ [])
      ∷ step (Deliver 3) (Send 4 (Replica 0) (Client 0) (Answer (cid 0 2) (codes "0")) ∷ [])
      ∷ step (Deliver 3) (Send 5 (Replica 0) (Client 0) (Answer (cid 0 2) (codes "0")) ∷ [])
      ∷ step (Call 0 0 8 (Add (codes "abcdefghij012345") 212)) (Refuse (Unfinished (cid 0 2)) ∷ [])
      ∷ step (Deliver 4) (Got (cid 0 2) ∷ [])
      ∷ step (Deliver 5) (Stale (cid 0 2) ∷ [])
      ∷ step (Call 0 0 8 (Add (codes "x") 7)) (Send 6 (Client 0) (Replica 0) (Update (cid 0 3) 20) ∷ [])
      ∷ step (Show 0) (State (record {
        replica = 0;
        view = 0;
        clock = 0;
        received = 0 ∷ 0 ∷ [];
        log = [];
        acks = [];
        calls = [];
        held = [];
        marks = [];
      }) ∷ [])
      ∷ step (Deliver 7) (NoMessage 7 ∷ [])
      ∷ step (Deliver 6) (Accept (spot 0 1) (cid 0 3) ∷ Send 7 (Replica 0) (Client 0) (Done (cid 0 3) (spot 0 1)) ∷ [])
      ∷ step (Deliver 7) (Got (cid 0 3) ∷ [])
      ∷ step (Show 0) (State (record {
        replica = 0;
        view = 0;
        clock = 0;
        received = 1 ∷ 0 ∷ [];
        log = [];
        acks = [];
        calls = cid 0 3 ∷ [];
        held = [];
        marks = [];
      }) ∷ [])
      ∷ step (Call 0 0 10 (Read (codes "x"))) (Send 8 (Client 0) (Replica 0) (Query (cid 0 4)) ∷ [])
      ∷ step (Deliver 8) (Send 9 (Replica 0) (Client 0) (Answer (cid 0 4) (codes "7")) ∷ [])
      ∷ step (Deliver 9) (Got (cid 0 4) ∷ [])
      ∷ step (Call 0 0 14 (Add (codes "abcdefghij012345") 464)) (Send 10 (Client 0) (Replica 0) (Update (cid 0 5) 20)
      ∷ [])
      ∷ step (Show 0) (State (record {
        replica = 0;
        view = 0;
        clock = 0;
        received = 1 ∷ 0 ∷ [];
        log = [];
        acks = [];
        calls = cid 0 3 ∷ [];
        held = [];
        marks = [];
      }) ∷ [])
      ∷ step (Deliver 2) (Stale (cid 0 1) ∷ [])
      ∷ step (Deliver 8) (line ∷ [])
      ∷ step (Deliver 10) (Accept (spot 0 2) (cid 0 5) ∷ Send 12 (Replica 0) (Client 0) (Done (cid 0 5) (spot 0 2))
      ∷ [])
      ∷ step (Call 0 0 19 (Add (codes "abcdefghij012345") 251)) (Refuse (Unfinished (cid 0 5)) ∷ [])
      ∷ step (Deliver 11) (Stale (cid 0 4) ∷ [])
      ∷ step (Deliver 11) (Stale (cid 0 4) ∷ [])
      ∷ step (Call 0 0 14 (Read (codes "abcdefghij012345"))) (Refuse (Unfinished (cid 0 5)) ∷ [])
      ∷ step (Deliver 12) (Got (cid 0 5) ∷ [])
      ∷ step (Call 0 0 12 (Read (codes "x"))) (Send 13 (Client 0) (Replica 0) (Query (cid 0 6)) ∷ [])
      ∷ step (Call 0 0 0 (Add (codes "x") 7)) (Refuse (Unfinished (cid 0 6)) ∷ [])
      ∷ step (Show 0) (State (record {
        replica = 0;
        view = 0;
        clock = 0;
        received = 2 ∷ 0 ∷ [];
        log = [];
        acks = [];
        calls = cid 0 3 ∷ cid 0 5 ∷ [];
        held = [];
        marks = [];
      }) ∷ [])
      ∷ [];
  line = Send 11 (Replica 0) (Client 0) (Answer (cid 0 4) (codes "7"));
  altered = Send 11 (Replica 0) (Client 0) (Answer (cid 0 4) (codes "8"));
}
