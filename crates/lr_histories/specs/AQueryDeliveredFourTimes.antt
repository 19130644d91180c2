-- This file is made by .ci/laws_of_histories, from
-- crates/lr_examples/data/a_query_delivered_four_times.stdout.
use Rattle.std.specs.Prelude.{[], ◌∷◌, codes}
use Rattle.lr_base.specs.declared.events.Event.TheVariants.{Call, Deliver, Show}
use Rattle.lr_base.specs.declared.events.Outcome.TheVariants.{Send, Got, Stale, NoMessage, State}
use Rattle.lr_base.specs.declared.events.Sent.TheVariants.{Query, Answer}
use Rattle.lr_base.specs.declared.names.Actor.TheVariants.{Client, Replica}
use Rattle.svc_tally.specs.declared.op.TallyOp.{TallyOp}
use Rattle.svc_tally.specs.declared.op.TallyOp.TheVariants.{Read}
use Rattle.lr_histories.specs.Terms.{PrintedHistory, cid, step}

-- the history, with any outcome in the place of the one at its line 21
abbrev pub history : PrintedHistory TallyOp
history = record {
  config = record { replicas = 1; clients = 1; delta = 18446744073709551615 };
  steps = λ line.
      step (Deliver 1) (NoMessage 1 ∷ [])
      ∷ step (Deliver 0) (NoMessage 0 ∷ [])
      ∷ step (Deliver 1) (NoMessage 1 ∷ [])
      ∷ step (Deliver 1) (NoMessage 1 ∷ [])
      ∷ step (Deliver 1) (NoMessage 1 ∷ [])
      ∷ step (Call 0 0 4 (Read (codes "z0"))) (Send 1 (Client 0) (Replica 0) (Query (cid 0 1)) ∷ [])
      ∷ step (Deliver 1) (Send 2 (Replica 0) (Client 0) (Answer (cid 0 1) (codes "0")) ∷ [])
      ∷ step (Deliver 2) (Got (cid 0 1) ∷ [])
      ∷ step (Deliver 1) (Send 3 (Replica 0) (Client 0) (Answer (cid 0 1) (codes "0")) ∷ [])
      ∷ step (Deliver 1) (line ∷ [])
      ∷ step (Call 0 0 10 (Read (codes "x"))) (Send 5 (Client 0) (Replica 0) (Query (cid 0 2)) ∷ [])
      ∷ step (Deliver 3) (Stale (cid 0 1) ∷ [])
      ∷ step (Show 0) (State (record {
        replica = 0;
        view = 0;
        clock = 0;
        received = 0 ∷ 0 ∷ [];
        log = [];
        acks = [];
        calls = [];
        held = [];
        marks = [];
      }) ∷ [])
      ∷ [];
  line = Send 4 (Replica 0) (Client 0) (Answer (cid 0 1) (codes "0"));
  altered = Send 4 (Replica 0) (Client 0) (Answer (cid 0 1) (codes "1"));
}
