-- This file is made by .ci/laws_of_histories, from
-- crates/lr_examples/data/a_lone_replica_forgets_an_acknowledged_call.stdout.
use Rattle.std.specs.Prelude.{[], ◌∷◌, codes}
use Rattle.lr_base.specs.declared.events.Event.TheVariants.{Call, Ack as AckEvent, Deliver, Tick, Show}
use Rattle.lr_base.specs.declared.events.Outcome.TheVariants.{Send, Accept, Note as NoteLine, Got, ClockAt, Refuse}
use Rattle.lr_base.specs.declared.events.Outcome.TheVariants.{State}
use Rattle.lr_base.specs.declared.events.Refusal.TheVariants.{Late, Settled}
use Rattle.lr_base.specs.declared.events.Sent.TheVariants.{Update, Query, Ack, Done, Answer}
use Rattle.lr_base.specs.declared.names.Actor.TheVariants.{Client, Replica}
use Rattle.svc_tally.specs.declared.op.TallyOp.{TallyOp}
use Rattle.svc_tally.specs.declared.op.TallyOp.TheVariants.{Add, Read}
use Rattle.lr_histories.specs.Terms.{PrintedHistory, cid, spot, step}

-- the history, with any outcome in the place of the one at its line 36
abbrev pub history : PrintedHistory TallyOp
history = record {
  config = record { replicas = 1; clients = 1; delta = 10 };
  steps = λ line.
      step (Call 0 0 1 (Add (codes "x") 3)) (Send 1 (Client 0) (Replica 0) (Update (cid 0 1) 1) ∷ [])
      ∷ step (Deliver 1) (Accept (spot 0 1) (cid 0 1) ∷ Send 2 (Replica 0) (Client 0) (Done (cid 0 1) (spot 0 1)) ∷ [])
      ∷ step (Deliver 2) (Got (cid 0 1) ∷ [])
      ∷ step (Show 0) (State (record {
        replica = 0;
        view = 0;
        clock = 0;
        received = 1 ∷ 0 ∷ [];
        log = [];
        acks = [];
        calls = cid 0 1 ∷ [];
        held = [];
        marks = [];
      }) ∷ [])
      ∷ step (AckEvent 0 0 4) (Send 3 (Client 0) (Replica 0) (Ack (cid 0 1) 4) ∷ [])
      ∷ step (Deliver 3) (NoteLine (spot 0 2) (cid 0 1) ∷ [])
      ∷ step (Show 0) (State (record {
        replica = 0;
        view = 0;
        clock = 0;
        received = 2 ∷ 0 ∷ [];
        log = [];
        acks = spot 0 2 ∷ [];
        calls = [];
        held = [];
        marks = [];
      }) ∷ [])
      ∷ step (Deliver 1) (Refuse Settled ∷ [])
      ∷ step (Tick 0 14) (ClockAt 14 ∷ [])
      ∷ step (Show 0) (State (record {
        replica = 0;
        view = 0;
        clock = 14;
        received = 2 ∷ 0 ∷ [];
        log = [];
        acks = spot 0 2 ∷ [];
        calls = [];
        held = [];
        marks = [];
      }) ∷ [])
      ∷ step (Tick 0 15) (ClockAt 15 ∷ [])
      ∷ step (Show 0) (State (record {
        replica = 0;
        view = 0;
        clock = 15;
        received = 2 ∷ 0 ∷ [];
        log = [];
        acks = [];
        calls = [];
        held = [];
        marks = [];
      }) ∷ [])
      ∷ step (Deliver 1) (Refuse (Late 1 15) ∷ [])
      ∷ step (Deliver 3) (NoteLine (spot 0 3) (cid 0 1) ∷ [])
      ∷ step (Show 0) (State (record {
        replica = 0;
        view = 0;
        clock = 15;
        received = 3 ∷ 0 ∷ [];
        log = [];
        acks = [];
        calls = [];
        held = [];
        marks = [];
      }) ∷ [])
      ∷ step (Call 0 0 16 (Read (codes "x"))) (Send 4 (Client 0) (Replica 0) (Query (cid 0 2)) ∷ [])
      ∷ step (Deliver 4) (line ∷ [])
      ∷ [];
  line = Send 5 (Replica 0) (Client 0) (Answer (cid 0 2) (codes "3"));
  altered = Send 5 (Replica 0) (Client 0) (Answer (cid 0 2) (codes "4"));
}
