-- This file is made by .ci/laws_of_histories, from
-- crates/lr_examples/data/sixty_four_clients.stdout.
use Rattle.std.specs.Prelude.{[], ◌∷◌, codes}
use Rattle.lr_base.specs.declared.events.Event.TheVariants.{Call, Deliver, Show}
use Rattle.lr_base.specs.declared.events.Outcome.TheVariants.{Send, Accept, Got, Stale, NoMessage, Refuse, State}
use Rattle.lr_base.specs.declared.events.Refusal.TheVariants.{Again}
use Rattle.lr_base.specs.declared.events.Sent.TheVariants.{Update, Query, Done, Answer}
use Rattle.lr_base.specs.declared.names.Actor.TheVariants.{Client, Replica}
use Rattle.svc_tally.specs.declared.op.TallyOp.{TallyOp}
use Rattle.svc_tally.specs.declared.op.TallyOp.TheVariants.{Add, Read}
use Rattle.lr_histories.specs.Terms.{PrintedHistory, cid, spot, step}

-- the history, with any outcome in the place of the one at its line 125
abbrev pub history : PrintedHistory TallyOp
history = record {
  config = record { replicas = 1; clients = 64; delta = 10 };
  steps = λ line.
      step (Deliver 1) (NoMessage 1 ∷ [])
      ∷ step (Deliver 1) (NoMessage 1 ∷ [])
      ∷ step (Deliver 1) (NoMessage 1 ∷ [])
      ∷ step (Deliver 0) (NoMessage 0 ∷ [])
      ∷ step (Deliver 1) (NoMessage 1 ∷ [])
      ∷ step (Call 9 0 19 (Add (codes "z0") 0)) (Send 1 (Client 9) (Replica 0) (Update (cid 9 1) 19) ∷ [])
      ∷ step (Call 21 0 20 (Read (codes "abcdefghij012345"))) (Send 2 (Client 21) (Replica 0) (Query (cid 21 1)) ∷ [])
      ∷ step (Deliver 1) (Accept (spot 0 1) (cid 9 1) ∷ Send 3 (Replica 0) (Client 9) (Done (cid 9 1) (spot 0 1)) ∷ [])
      ∷ step (Call 49 0 22 (Add (codes "z0") 0)) (Send 4 (Client 49) (Replica 0) (Update (cid 49 1) 22) ∷ [])
      ∷ step (Deliver 2) (Send 5 (Replica 0) (Client 21) (Answer (cid 21 1) (codes "0")) ∷ [])
      ∷ step (Deliver 4) (Accept (spot 0 2) (cid 49 1) ∷ Send 6 (Replica 0) (Client 49) (Done (cid 49 1) (spot 0 2))
      ∷ [])
      ∷ step (Deliver 3) (Got (cid 9 1) ∷ [])
      ∷ step (Deliver 5) (Got (cid 21 1) ∷ [])
      ∷ step (Call 45 0 0 (Read (codes "x"))) (Send 7 (Client 45) (Replica 0) (Query (cid 45 1)) ∷ [])
      ∷ step (Deliver 6) (Got (cid 49 1) ∷ [])
      ∷ step (Deliver 4) (Refuse (Again (spot 0 2)) ∷ Send 8 (Replica 0) (Client 49) (Done (cid 49 1) (spot 0 2)) ∷ [])
      ∷ step (Deliver 6) (Stale (cid 49 1) ∷ [])
      ∷ step (Deliver 7) (Send 9 (Replica 0) (Client 45) (Answer (cid 45 1) (codes "0")) ∷ [])
      ∷ step (Deliver 9) (Got (cid 45 1) ∷ [])
      ∷ step (Call 11 0 10 (Read (codes "z0"))) (Send 10 (Client 11) (Replica 0) (Query (cid 11 1)) ∷ [])
      ∷ step (Deliver 10) (Send 11 (Replica 0) (Client 11) (Answer (cid 11 1) (codes "0")) ∷ [])
      ∷ step (Call 10 0 11 (Add (codes "z0") 18446744073709551615)) (Send 12 (Client 10) (Replica 0) (Update (cid 10 1)
      11) ∷ [])
      ∷ step (Deliver 8) (Stale (cid 49 1) ∷ [])
      ∷ step (Deliver 11) (Got (cid 11 1) ∷ [])
      ∷ step (Call 4 0 11 (Add (codes "abcdefghij012345") 1)) (Send 13 (Client 4) (Replica 0) (Update (cid 4 1) 11)
      ∷ [])
      ∷ step (Deliver 12) (Accept (spot 0 3) (cid 10 1) ∷ Send 14 (Replica 0) (Client 10) (Done (cid 10 1) (spot 0 3))
      ∷ [])
      ∷ step (Call 53 0 13 (Read (codes "abcdefghij012345"))) (Send 15 (Client 53) (Replica 0) (Query (cid 53 1)) ∷ [])
      ∷ step (Show 0) (State (record {
        replica = 0;
        view = 0;
        clock = 0;
        received = 3 ∷ 0 ∷ [];
        log = [];
        acks = [];
        calls = cid 9 1 ∷ cid 10 1 ∷ cid 49 1 ∷ [];
        held = [];
        marks = [];
      }) ∷ [])
      ∷ step (Deliver 13) (Accept (spot 0 4) (cid 4 1) ∷ Send 16 (Replica 0) (Client 4) (Done (cid 4 1) (spot 0 4))
      ∷ [])
      ∷ step (Deliver 14) (Got (cid 10 1) ∷ [])
      ∷ step (Call 48 0 5 (Read (codes "x"))) (Send 17 (Client 48) (Replica 0) (Query (cid 48 1)) ∷ [])
      ∷ step (Deliver 15) (Send 18 (Replica 0) (Client 53) (Answer (cid 53 1) (codes "1")) ∷ [])
      ∷ step (Deliver 16) (Got (cid 4 1) ∷ [])
      ∷ step (Call 4 0 11 (Read (codes "x"))) (Send 19 (Client 4) (Replica 0) (Query (cid 4 2)) ∷ [])
      ∷ step (Call 37 0 5 (Read (codes "x"))) (Send 20 (Client 37) (Replica 0) (Query (cid 37 1)) ∷ [])
      ∷ step (Call 35 0 9 (Read (codes "x"))) (Send 21 (Client 35) (Replica 0) (Query (cid 35 1)) ∷ [])
      ∷ step (Deliver 17) (Send 22 (Replica 0) (Client 48) (Answer (cid 48 1) (codes "0")) ∷ [])
      ∷ step (Call 22 0 12 (Add (codes "abcdefghij012345") 1)) (Send 23 (Client 22) (Replica 0) (Update (cid 22 1) 12)
      ∷ [])
      ∷ step (Deliver 18) (Got (cid 53 1) ∷ [])
      ∷ step (Deliver 23) (Accept (spot 0 5) (cid 22 1) ∷ Send 24 (Replica 0) (Client 22) (Done (cid 22 1) (spot 0 5))
      ∷ [])
      ∷ step (Deliver 18) (Stale (cid 53 1) ∷ [])
      ∷ step (Deliver 19) (Send 25 (Replica 0) (Client 4) (Answer (cid 4 2) (codes "0")) ∷ [])
      ∷ step (Call 20 0 14 (Read (codes "z0"))) (Send 26 (Client 20) (Replica 0) (Query (cid 20 1)) ∷ [])
      ∷ step (Call 5 0 14 (Add (codes "z0") 7)) (Send 27 (Client 5) (Replica 0) (Update (cid 5 1) 14) ∷ [])
      ∷ step (Deliver 20) (Send 28 (Replica 0) (Client 37) (Answer (cid 37 1) (codes "0")) ∷ [])
      ∷ step (Call 9 0 14 (Read (codes "x"))) (Send 29 (Client 9) (Replica 0) (Query (cid 9 2)) ∷ [])
      ∷ step (Deliver 21) (Send 30 (Replica 0) (Client 35) (Answer (cid 35 1) (codes "0")) ∷ [])
      ∷ step (Call 47 0 17 (Add (codes "x") 18446744073709551615)) (Send 31 (Client 47) (Replica 0) (Update (cid 47 1)
      17) ∷ [])
      ∷ step (Deliver 27) (Accept (spot 0 6) (cid 5 1) ∷ Send 32 (Replica 0) (Client 5) (Done (cid 5 1) (spot 0 6))
      ∷ [])
      ∷ step (Deliver 22) (Got (cid 48 1) ∷ [])
      ∷ step (Deliver 31) (Accept (spot 0 7) (cid 47 1) ∷ Send 33 (Replica 0) (Client 47) (Done (cid 47 1) (spot 0 7))
      ∷ [])
      ∷ step (Show 0) (State (record {
        replica = 0;
        view = 0;
        clock = 0;
        received = 7 ∷ 0 ∷ [];
        log = [];
        acks = [];
        calls = cid 4 1 ∷ cid 5 1 ∷ cid 9 1 ∷ cid 10 1 ∷ cid 22 1 ∷ cid 47 1 ∷ cid 49 1 ∷ [];
        held = [];
        marks = [];
      }) ∷ [])
      ∷ step (Show 0) (State (record {
        replica = 0;
        view = 0;
        clock = 0;
        received = 7 ∷ 0 ∷ [];
        log = [];
        acks = [];
        calls = cid 4 1 ∷ cid 5 1 ∷ cid 9 1 ∷ cid 10 1 ∷ cid 22 1 ∷ cid 47 1 ∷ cid 49 1 ∷ [];
        held = [];
        marks = [];
      }) ∷ [])
      ∷ step (Deliver 24) (Got (cid 22 1) ∷ [])
      ∷ step (Call 13 0 18 (Add (codes "x") 18446744073709551615)) (Send 34 (Client 13) (Replica 0) (Update (cid 13 1)
      18) ∷ [])
      ∷ step (Deliver 32) (Got (cid 5 1) ∷ [])
      ∷ step (Deliver 25) (Got (cid 4 2) ∷ [])
      ∷ step (Deliver 26) (line ∷ [])
      ∷ step (Call 56 0 22 (Read (codes "x"))) (Send 36 (Client 56) (Replica 0) (Query (cid 56 1)) ∷ [])
      ∷ step (Show 0) (State (record {
        replica = 0;
        view = 0;
        clock = 0;
        received = 7 ∷ 0 ∷ [];
        log = [];
        acks = [];
        calls = cid 4 1 ∷ cid 5 1 ∷ cid 9 1 ∷ cid 10 1 ∷ cid 22 1 ∷ cid 47 1 ∷ cid 49 1 ∷ [];
        held = [];
        marks = [];
      }) ∷ [])
      ∷ [];
  line = Send 35 (Replica 0) (Client 20) (Answer (cid 20 1) (codes "6"));
  altered = Send 35 (Replica 0) (Client 20) (Answer (cid 20 1) (codes "7"));
}
