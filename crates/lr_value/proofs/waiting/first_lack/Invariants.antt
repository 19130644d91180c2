use Rattle.std.proofs.Common.{ℕ, ◌<◌, ◌≤◌}
use Rattle.lr_base.specs.Stamps.{part}
use Rattle.lr_value.proofs.waiting.first_lack.Given as goal

-- none of the places so far lacks anything
abbrev pub invariant-loop-place : goal.invariant-loop-place
invariant-loop-place l = (q : ℕ) → q < l.place → part l.prev q ≤ part l.val_ts q
