-- This file is made by .ci/laws_of_histories, from
-- crates/lr_examples/data/two_clients_on_counters_that_wrap.stdout.
use Rattle.std.specs.Prelude.{[], ◌∷◌, codes}
use Rattle.lr_base.specs.declared.events.Event.TheVariants.{Call, Deliver, Show}
use Rattle.lr_base.specs.declared.events.Outcome.TheVariants.{Send, Accept, Got, Stale, NoMessage, Refuse, State}
use Rattle.lr_base.specs.declared.events.Refusal.TheVariants.{Again, Unfinished}
use Rattle.lr_base.specs.declared.events.Sent.TheVariants.{Update, Query, Done, Answer}
use Rattle.lr_base.specs.declared.names.Actor.TheVariants.{Client, Replica}
use Rattle.svc_tally.specs.declared.op.TallyOp.{TallyOp}
use Rattle.svc_tally.specs.declared.op.TallyOp.TheVariants.{Add, Read}
use Rattle.lr_histories.specs.Terms.{PrintedHistory, cid, spot, step}

-- the history, with any outcome in the place of the one at its line 157
abbrev pub history : PrintedHistory TallyOp
history = record {
  config = record { replicas = 1; clients = 2; delta = 0 };
  steps = λ line.
      step (Deliver 18446744073709551615) (NoMessage 18446744073709551615 ∷ [])
      ∷ step (Call 0 0 0 (Add (codes "abcdefghij012345") 18446744073709551615)) (Send 1 (Client 0) (Replica 0) (Update
      (cid 0 1) 0) ∷ [])
      ∷ step (Deliver 1) (Accept (spot 0 1) (cid 0 1) ∷ Send 2 (Replica 0) (Client 0) (Done (cid 0 1) (spot 0 1)) ∷ [])
      ∷ step (Deliver 2) (Got (cid 0 1) ∷ [])
      ∷ step (Call 0 0 0 (Add (codes "x") 18446744073709551615)) (Send 3 (Client 0) (Replica 0) (Update (cid 0 2) 0)
      ∷ [])
      ∷ step (Call 1 0 14 (Read (codes "x"))) (Send 4 (Client 1) (Replica 0) (Query (cid 1 1)) ∷ [])
      ∷ step (Deliver 4) (Send 5 (Replica 0) (Client 1) (Answer (cid 1 1) (codes "0")) ∷ [])
      ∷ step (Deliver 3) (Accept (spot 0 2) (cid 0 2) ∷ Send 6 (Replica 0) (Client 0) (Done (cid 0 2) (spot 0 2)) ∷ [])
      ∷ step (Deliver 3) (Refuse (Again (spot 0 2)) ∷ Send 7 (Replica 0) (Client 0) (Done (cid 0 2) (spot 0 2)) ∷ [])
      ∷ step (Deliver 5) (Got (cid 1 1) ∷ [])
      ∷ step (Deliver 6) (Got (cid 0 2) ∷ [])
      ∷ step (Deliver 2) (Stale (cid 0 1) ∷ [])
      ∷ step (Call 1 0 19 (Read (codes "x"))) (Send 8 (Client 1) (Replica 0) (Query (cid 1 2)) ∷ [])
      ∷ step (Deliver 7) (Stale (cid 0 2) ∷ [])
      ∷ step (Deliver 8) (Send 9 (Replica 0) (Client 1) (Answer (cid 1 2) (codes "18446744073709551615")) ∷ [])
      ∷ step (Call 1 0 19 (Add (codes "x") 1)) (Refuse (Unfinished (cid 1 2)) ∷ [])
      ∷ step (Call 0 0 19 (Add (codes "x") 18446744073709551615)) (Send 10 (Client 0) (Replica 0) (Update (cid 0 3) 19)
      ∷ [])
      ∷ step (Show 0) (State (record {
        replica = 0;
        view = 0;
        clock = 0;
        received = 2 ∷ 0 ∷ [];
        log = [];
        acks = [];
        calls = cid 0 1 ∷ cid 0 2 ∷ [];
        held = [];
        marks = [];
      }) ∷ [])
      ∷ step (Deliver 9) (Got (cid 1 2) ∷ [])
      ∷ step (Deliver 10) (Accept (spot 0 3) (cid 0 3) ∷ Send 11 (Replica 0) (Client 0) (Done (cid 0 3) (spot 0 3))
      ∷ [])
      ∷ step (Deliver 7) (Stale (cid 0 2) ∷ [])
      ∷ step (Call 1 0 15 (Add (codes "abcdefghij012345") 1)) (Send 12 (Client 1) (Replica 0) (Update (cid 1 3) 19)
      ∷ [])
      ∷ step (Deliver 11) (Got (cid 0 3) ∷ [])
      ∷ step (Show 0) (State (record {
        replica = 0;
        view = 0;
        clock = 0;
        received = 3 ∷ 0 ∷ [];
        log = [];
        acks = [];
        calls = cid 0 1 ∷ cid 0 2 ∷ cid 0 3 ∷ [];
        held = [];
        marks = [];
      }) ∷ [])
      ∷ step (Deliver 12) (Accept (spot 0 4) (cid 1 3) ∷ Send 13 (Replica 0) (Client 1) (Done (cid 1 3) (spot 0 4))
      ∷ [])
      ∷ step (Deliver 13) (Got (cid 1 3) ∷ [])
      ∷ step (Deliver 9) (Stale (cid 1 2) ∷ [])
      ∷ step (Call 0 0 9 (Read (codes "x"))) (Send 14 (Client 0) (Replica 0) (Query (cid 0 4)) ∷ [])
      ∷ step (Deliver 4) (Send 15 (Replica 0) (Client 1) (Answer (cid 1 1) (codes "18446744073709551614")) ∷ [])
      ∷ step (Deliver 14) (Send 16 (Replica 0) (Client 0) (Answer (cid 0 4) (codes "18446744073709551614")) ∷ [])
      ∷ step (Deliver 15) (Stale (cid 1 1) ∷ [])
      ∷ step (Call 0 0 9 (Add (codes "x") 0)) (Refuse (Unfinished (cid 0 4)) ∷ [])
      ∷ step (Deliver 16) (Got (cid 0 4) ∷ [])
      ∷ step (Call 1 0 9 (Add (codes "x") 7)) (Send 17 (Client 1) (Replica 0) (Update (cid 1 4) 19) ∷ [])
      ∷ step (Deliver 16) (Stale (cid 0 4) ∷ [])
      ∷ step (Deliver 17) (Accept (spot 0 5) (cid 1 4) ∷ Send 18 (Replica 0) (Client 1) (Done (cid 1 4) (spot 0 5))
      ∷ [])
      ∷ step (Deliver 18) (Got (cid 1 4) ∷ [])
      ∷ step (Deliver 11) (Stale (cid 0 3) ∷ [])
      ∷ step (Call 1 0 12 (Read (codes "x"))) (Send 19 (Client 1) (Replica 0) (Query (cid 1 5)) ∷ [])
      ∷ step (Show 0) (State (record {
        replica = 0;
        view = 0;
        clock = 0;
        received = 5 ∷ 0 ∷ [];
        log = [];
        acks = [];
        calls = cid 0 1 ∷ cid 0 2 ∷ cid 0 3 ∷ cid 1 3 ∷ cid 1 4 ∷ [];
        held = [];
        marks = [];
      }) ∷ [])
      ∷ step (Call 1 0 19 (Read (codes "x"))) (Refuse (Unfinished (cid 1 5)) ∷ [])
      ∷ step (Deliver 19) (Send 20 (Replica 0) (Client 1) (Answer (cid 1 5) (codes "5")) ∷ [])
      ∷ step (Deliver 20) (Got (cid 1 5) ∷ [])
      ∷ step (Call 0 0 20 (Add (codes "x") 18446744073709551615)) (Send 21 (Client 0) (Replica 0) (Update (cid 0 5) 20)
      ∷ [])
      ∷ step (Deliver 18446744073709551615) (NoMessage 18446744073709551615 ∷ [])
      ∷ step (Call 1 0 24 (Read (codes "x"))) (Send 22 (Client 1) (Replica 0) (Query (cid 1 6)) ∷ [])
      ∷ step (Deliver 22) (Send 23 (Replica 0) (Client 1) (Answer (cid 1 6) (codes "5")) ∷ [])
      ∷ step (Deliver 21) (Accept (spot 0 6) (cid 0 5) ∷ Send 24 (Replica 0) (Client 0) (Done (cid 0 5) (spot 0 6))
      ∷ [])
      ∷ step (Deliver 23) (Got (cid 1 6) ∷ [])
      ∷ step (Deliver 24) (Got (cid 0 5) ∷ [])
      ∷ step (Deliver 23) (Stale (cid 1 6) ∷ [])
      ∷ step (Deliver 9) (Stale (cid 1 2) ∷ [])
      ∷ step (Deliver 7) (Stale (cid 0 2) ∷ [])
      ∷ step (Deliver 4) (Send 25 (Replica 0) (Client 1) (Answer (cid 1 1) (codes "4")) ∷ [])
      ∷ step (Call 1 0 3 (Add (codes "x") 0)) (Send 26 (Client 1) (Replica 0) (Update (cid 1 7) 24) ∷ [])
      ∷ step (Deliver 26) (Accept (spot 0 7) (cid 1 7) ∷ Send 27 (Replica 0) (Client 1) (Done (cid 1 7) (spot 0 7))
      ∷ [])
      ∷ step (Call 1 0 6 (Add (codes "x") 18446744073709551615)) (Refuse (Unfinished (cid 1 7)) ∷ [])
      ∷ step (Deliver 25) (Stale (cid 1 1) ∷ [])
      ∷ step (Call 1 0 6 (Read (codes "x"))) (Refuse (Unfinished (cid 1 7)) ∷ [])
      ∷ step (Deliver 27) (Got (cid 1 7) ∷ [])
      ∷ step (Deliver 11) (Stale (cid 0 3) ∷ [])
      ∷ step (Call 0 0 6 (Add (codes "abcdefghij012345") 0)) (Send 28 (Client 0) (Replica 0) (Update (cid 0 6) 20) ∷ [])
      ∷ step (Call 0 0 6 (Add (codes "x") 566)) (Refuse (Unfinished (cid 0 6)) ∷ [])
      ∷ step (Deliver 28) (Accept (spot 0 8) (cid 0 6) ∷ Send 29 (Replica 0) (Client 0) (Done (cid 0 6) (spot 0 8))
      ∷ [])
      ∷ step (Deliver 29) (Got (cid 0 6) ∷ [])
      ∷ step (Show 0) (State (record {
        replica = 0;
        view = 0;
        clock = 0;
        received = 8 ∷ 0 ∷ [];
        log = [];
        acks = [];
        calls = cid 0 1 ∷ cid 0 2 ∷ cid 0 3 ∷ cid 0 5 ∷ cid 0 6 ∷ cid 1 3 ∷ cid 1 4 ∷ cid 1 7 ∷ [];
        held = [];
        marks = [];
      }) ∷ [])
      ∷ step (Call 0 0 6 (Add (codes "abcdefghij012345") 957)) (Send 30 (Client 0) (Replica 0) (Update (cid 0 7) 20)
      ∷ [])
      ∷ step (Deliver 30) (Accept (spot 0 9) (cid 0 7) ∷ Send 31 (Replica 0) (Client 0) (Done (cid 0 7) (spot 0 9))
      ∷ [])
      ∷ step (Deliver 31) (Got (cid 0 7) ∷ [])
      ∷ step (Deliver 22) (Send 32 (Replica 0) (Client 1) (Answer (cid 1 6) (codes "4")) ∷ [])
      ∷ step (Call 0 0 6 (Read (codes "abcdefghij012345"))) (Send 33 (Client 0) (Replica 0) (Query (cid 0 8)) ∷ [])
      ∷ step (Deliver 32) (Stale (cid 1 6) ∷ [])
      ∷ step (Deliver 33) (line ∷ [])
      ∷ step (Show 0) (State (record {
        replica = 0;
        view = 0;
        clock = 0;
        received = 9 ∷ 0 ∷ [];
        log = [];
        acks = [];
        calls = cid 0 1 ∷ cid 0 2 ∷ cid 0 3 ∷ cid 0 5 ∷ cid 0 6 ∷ cid 0 7 ∷ cid 1 3 ∷ cid 1 4 ∷ cid 1 7 ∷ [];
        held = [];
        marks = [];
      }) ∷ [])
      ∷ step (Show 0) (State (record {
        replica = 0;
        view = 0;
        clock = 0;
        received = 9 ∷ 0 ∷ [];
        log = [];
        acks = [];
        calls = cid 0 1 ∷ cid 0 2 ∷ cid 0 3 ∷ cid 0 5 ∷ cid 0 6 ∷ cid 0 7 ∷ cid 1 3 ∷ cid 1 4 ∷ cid 1 7 ∷ [];
        held = [];
        marks = [];
      }) ∷ [])
      ∷ [];
  line = Send 34 (Replica 0) (Client 0) (Answer (cid 0 8) (codes "957"));
  altered = Send 34 (Replica 0) (Client 0) (Answer (cid 0 8) (codes "958"));
}
