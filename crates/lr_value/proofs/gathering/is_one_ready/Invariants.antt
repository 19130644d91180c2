use Rattle.std.proofs.Common.{◌≡◌, ◌<◌, ℕ, false, Some}
use Rattle.std.specs.Prelude.{slice_get}
use Rattle.lr_base.specs.Stamps.{stamp_le}
use Rattle.lr_value.specs.Waiting.{behind}
use Rattle.lr_value.proofs.gathering.is_one_ready.Given as goal

-- none before it may be applied
abbrev pub invariant-loop-at : goal.invariant-loop-at
invariant-loop-at g l = (k : ℕ) (u : _) → k < l.at → slice_get (behind l.waiting) k ≡ Some u
    → stamp_le u.prev l.val_ts ≡ false
