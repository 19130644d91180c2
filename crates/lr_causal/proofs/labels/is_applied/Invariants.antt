use Rattle.std.proofs.Common.{ℕ, ◌<◌, ◌≤◌}
use Rattle.lr_base.specs.Stamps.{part}
use Rattle.lr_causal.proofs.labels.is_applied.Given as goal

-- no part before `place` is greater than its counterpart
abbrev pub invariant-loop-place : goal.invariant-loop-place
invariant-loop-place l = (k : ℕ) → k < l.place → part l.label k ≤ part l.val_ts k
