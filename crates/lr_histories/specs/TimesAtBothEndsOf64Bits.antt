-- This file is made by .ci/laws_of_histories, from
-- crates/lr_examples/data/times_at_both_ends_of_64_bits.stdout.
use Rattle.std.specs.Prelude.{[], ◌∷◌, codes}
use Rattle.lr_base.specs.declared.events.Event.TheVariants.{Call, Ack as AckEvent, Deliver, Tick, Show}
use Rattle.lr_base.specs.declared.events.Outcome.TheVariants.{Send, Accept, Note as NoteLine, Got, ClockAt, State}
use Rattle.lr_base.specs.declared.events.Sent.TheVariants.{Update, Ack, Done}
use Rattle.lr_base.specs.declared.names.Actor.TheVariants.{Client, Replica}
use Rattle.svc_tally.specs.declared.op.TallyOp.{TallyOp}
use Rattle.svc_tally.specs.declared.op.TallyOp.TheVariants.{Add}
use Rattle.lr_histories.specs.Terms.{PrintedHistory, cid, spot, step}

-- the history, with any outcome in the place of the one at its line 33
abbrev pub history : PrintedHistory TallyOp
history = record {
  config = record { replicas = 2; clients = 3; delta = 18446744073709551615 };
  steps = λ line.
      step (Tick 0 18446744073709551615) (ClockAt 18446744073709551615 ∷ [])
      ∷ step (Call 0 0 0 (Add (codes "x") 1)) (Send 1 (Client 0) (Replica 0) (Update (cid 0 1) 0) ∷ [])
      ∷ step (Deliver 1) (Accept (spot 0 1) (cid 0 1) ∷ Send 2 (Replica 0) (Client 0) (Done (cid 0 1) (spot 0 1)) ∷ [])
      ∷ step (Call 1 0 18446744073709551615 (Add (codes "x") 2)) (Send 3 (Client 1) (Replica 0) (Update (cid 1 1)
      18446744073709551615) ∷ [])
      ∷ step (Deliver 3) (Accept (spot 0 2) (cid 1 1) ∷ Send 4 (Replica 0) (Client 1) (Done (cid 1 1) (spot 0 2)) ∷ [])
      ∷ step (Deliver 4) (Got (cid 1 1) ∷ [])
      ∷ step (AckEvent 1 1 0) (Send 5 (Client 1) (Replica 1) (Ack (cid 1 1) 18446744073709551615) ∷ [])
      ∷ step (Deliver 5) (NoteLine (spot 1 1) (cid 1 1) ∷ [])
      ∷ step (Tick 0 0) (ClockAt 18446744073709551615 ∷ [])
      ∷ step (Tick 1 0) (ClockAt 0 ∷ [])
      ∷ step (Deliver 2) (Got (cid 0 1) ∷ [])
      ∷ step (AckEvent 0 1 0) (Send 6 (Client 0) (Replica 1) (Ack (cid 0 1) 0) ∷ [])
      ∷ step (Deliver 6) (NoteLine (spot 1 2) (cid 0 1) ∷ [])
      ∷ step (Show 0) (State (record {
        replica = 0;
        view = 0;
        clock = 18446744073709551615;
        received = 2 ∷ 0 ∷ 0 ∷ [];
        log = spot 0 1 ∷ spot 0 2 ∷ [];
        acks = [];
        calls = cid 0 1 ∷ cid 1 1 ∷ [];
        held = [];
        marks = [];
      }) ∷ [])
      ∷ step (Show 1) (line ∷ [])
      ∷ [];
  line = State (record {
    replica = 1;
    view = 0;
    clock = 0;
    received = 0 ∷ 2 ∷ 0 ∷ [];
    log = [];
    acks = spot 1 1 ∷ spot 1 2 ∷ [];
    calls = [];
    held = [];
    marks = [];
  });
  altered = State (record {
    replica = 1;
    view = 0;
    clock = 0;
    received = 0 ∷ 2 ∷ 0 ∷ [];
    log = [];
    acks = spot 1 1 ∷ spot 1 3 ∷ [];
    calls = [];
    held = [];
    marks = [];
  });
}
