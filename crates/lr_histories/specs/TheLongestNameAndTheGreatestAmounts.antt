-- This file is made by .ci/laws_of_histories, from
-- crates/lr_examples/data/the_longest_name_and_the_greatest_amounts.stdout.
use Rattle.std.specs.Prelude.{[], ◌∷◌, codes}
use Rattle.lr_base.specs.declared.events.Event.TheVariants.{Call, Deliver, Show}
use Rattle.lr_base.specs.declared.events.Outcome.TheVariants.{Send, Accept, Got, Stale, NoMessage, Refuse, State}
use Rattle.lr_base.specs.declared.events.Refusal.TheVariants.{Unfinished}
use Rattle.lr_base.specs.declared.events.Sent.TheVariants.{Update, Query, Done, Answer}
use Rattle.lr_base.specs.declared.names.Actor.TheVariants.{Client, Replica}
use Rattle.svc_tally.specs.declared.op.TallyOp.{TallyOp}
use Rattle.svc_tally.specs.declared.op.TallyOp.TheVariants.{Add, Read}
use Rattle.lr_histories.specs.Terms.{PrintedHistory, cid, spot, step}

-- the history, with any outcome in the place of the one at its line 26
abbrev pub history : PrintedHistory TallyOp
history = record {
  config = record { replicas = 1; clients = 1; delta = 18446744073709551615 };
  steps = λ line.
      step (Deliver 0) (NoMessage 0 ∷ [])
      ∷ step (Deliver 1) (NoMessage 1 ∷ [])
      ∷ step (Call 0 0 4 (Add (codes "y") 9223372036854775808)) (Send 1 (Client 0) (Replica 0) (Update (cid 0 1) 4)
      ∷ [])
      ∷ step (Deliver 1) (Accept (spot 0 1) (cid 0 1) ∷ Send 2 (Replica 0) (Client 0) (Done (cid 0 1) (spot 0 1)) ∷ [])
      ∷ step (Deliver 2) (Got (cid 0 1) ∷ [])
      ∷ step (Deliver 2) (Stale (cid 0 1) ∷ [])
      ∷ step (Call 0 0 9 (Read (codes "z0"))) (Send 3 (Client 0) (Replica 0) (Query (cid 0 2)) ∷ [])
      ∷ step (Deliver 3) (Send 4 (Replica 0) (Client 0) (Answer (cid 0 2) (codes "0")) ∷ [])
      ∷ step (Deliver 4) (Got (cid 0 2) ∷ [])
      ∷ step (Call 0 0 8 (Read (codes "y"))) (Send 5 (Client 0) (Replica 0) (Query (cid 0 3)) ∷ [])
      ∷ step (Call 0 0 9 (Add (codes "y") 9223372036854775808)) (Refuse (Unfinished (cid 0 3)) ∷ [])
      ∷ step (Deliver 5) (line ∷ [])
      ∷ step (Deliver 6) (Got (cid 0 3) ∷ [])
      ∷ step (Call 0 0 8 (Add (codes "y") 0)) (Send 7 (Client 0) (Replica 0) (Update (cid 0 4) 9) ∷ [])
      ∷ step (Deliver 7) (Accept (spot 0 2) (cid 0 4) ∷ Send 8 (Replica 0) (Client 0) (Done (cid 0 4) (spot 0 2)) ∷ [])
      ∷ step (Deliver 8) (Got (cid 0 4) ∷ [])
      ∷ step (Deliver 9) (NoMessage 9 ∷ [])
      ∷ step (Call 0 0 11 (Add (codes "abcdefghij012345") 0)) (Send 9 (Client 0) (Replica 0) (Update (cid 0 5) 11) ∷ [])
      ∷ step (Show 0) (State (record {
        replica = 0;
        view = 0;
        clock = 0;
        received = 2 ∷ 0 ∷ [];
        log = [];
        acks = [];
        calls = cid 0 1 ∷ cid 0 4 ∷ [];
        held = [];
        marks = [];
      }) ∷ [])
      ∷ step (Deliver 9) (Accept (spot 0 3) (cid 0 5) ∷ Send 10 (Replica 0) (Client 0) (Done (cid 0 5) (spot 0 3)) ∷ [])
      ∷ step (Deliver 10) (Got (cid 0 5) ∷ [])
      ∷ step (Show 0) (State (record {
        replica = 0;
        view = 0;
        clock = 0;
        received = 3 ∷ 0 ∷ [];
        log = [];
        acks = [];
        calls = cid 0 1 ∷ cid 0 4 ∷ cid 0 5 ∷ [];
        held = [];
        marks = [];
      }) ∷ [])
      ∷ step (Call 0 0 18 (Add (codes "z0") 7)) (Send 11 (Client 0) (Replica 0) (Update (cid 0 6) 18) ∷ [])
      ∷ step (Deliver 11) (Accept (spot 0 4) (cid 0 6) ∷ Send 12 (Replica 0) (Client 0) (Done (cid 0 6) (spot 0 4))
      ∷ [])
      ∷ step (Deliver 12) (Got (cid 0 6) ∷ [])
      ∷ step (Deliver 4) (Stale (cid 0 2) ∷ [])
      ∷ step (Deliver 0) (NoMessage 0 ∷ [])
      ∷ step (Call 0 0 10 (Add (codes "abcdefghij012345") 18446744073709551615)) (Send 13 (Client 0) (Replica 0) (Update
      (cid 0 7) 18) ∷ [])
      ∷ step (Deliver 13) (Accept (spot 0 5) (cid 0 7) ∷ Send 14 (Replica 0) (Client 0) (Done (cid 0 7) (spot 0 5))
      ∷ [])
      ∷ step (Deliver 14) (Got (cid 0 7) ∷ [])
      ∷ step (Show 0) (State (record {
        replica = 0;
        view = 0;
        clock = 0;
        received = 5 ∷ 0 ∷ [];
        log = [];
        acks = [];
        calls = cid 0 1 ∷ cid 0 4 ∷ cid 0 5 ∷ cid 0 6 ∷ cid 0 7 ∷ [];
        held = [];
        marks = [];
      }) ∷ [])
      ∷ [];
  line = Send 6 (Replica 0) (Client 0) (Answer (cid 0 3) (codes "9223372036854775808"));
  altered = Send 6 (Replica 0) (Client 0) (Answer (cid 0 3) (codes "9223372036854775809"));
}
