-- This file is made by .ci/laws_of_histories, from
-- crates/lr_examples/data/no_copy_may_come_after_its_time.stdout.
use Rattle.std.specs.Prelude.{[], ◌∷◌, codes}
use Rattle.lr_base.specs.declared.events.Event.TheVariants.{Call, Resend, Deliver, Tick}
use Rattle.lr_base.specs.declared.events.Outcome.TheVariants.{Send, Accept, ClockAt, Refuse}
use Rattle.lr_base.specs.declared.events.Refusal.TheVariants.{Late, Again}
use Rattle.lr_base.specs.declared.events.Sent.TheVariants.{Update, Done}
use Rattle.lr_base.specs.declared.names.Actor.TheVariants.{Client, Replica}
use Rattle.svc_tally.specs.declared.op.TallyOp.{TallyOp}
use Rattle.svc_tally.specs.declared.op.TallyOp.TheVariants.{Add}
use Rattle.lr_histories.specs.Terms.{PrintedHistory, cid, spot, step}

-- the history, with any outcome in the place of the one at its line 19
abbrev pub history : PrintedHistory TallyOp
history = record {
  config = record { replicas = 1; clients = 1; delta = 0 };
  steps = λ line.
      step (Call 0 0 18446744073709551614 (Add (codes "x") 1)) (Send 1 (Client 0) (Replica 0) (Update (cid 0 1)
      18446744073709551614) ∷ [])
      ∷ step (Tick 0 18446744073709551614) (ClockAt 18446744073709551614 ∷ [])
      ∷ step (Tick 0 18446744073709551615) (ClockAt 18446744073709551615 ∷ [])
      ∷ step (Deliver 1) (Refuse (Late 18446744073709551614 18446744073709551615) ∷ [])
      ∷ step (Resend 0 0 18446744073709551615) (Send 2 (Client 0) (Replica 0) (Update (cid 0 1) 18446744073709551615)
      ∷ [])
      ∷ step (Deliver 2) (Accept (spot 0 1) (cid 0 1) ∷ Send 3 (Replica 0) (Client 0) (Done (cid 0 1) (spot 0 1)) ∷ [])
      ∷ step (Deliver 2) (Refuse (Again (spot 0 1)) ∷ Send 4 (Replica 0) (Client 0) (Done (cid 0 1) (spot 0 1)) ∷ [])
      ∷ step (Deliver 1) (line ∷ [])
      ∷ [];
  line = Refuse (Late 18446744073709551614 18446744073709551615);
  altered = Refuse (Late 18446744073709551614 18446744073709551616);
}
