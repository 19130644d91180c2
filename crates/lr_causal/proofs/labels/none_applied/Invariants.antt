use Rattle.std.proofs.Common.{◌≡◌, ◌<◌, ℕ, false, Some}
use Rattle.std.specs.Prelude.{slice_get}
use Rattle.lr_base.specs.Stamps.{stamp_le}
use Rattle.lr_causal.proofs.labels.none_applied.Given as goal

-- no label so far is applied
abbrev pub invariant-loop-call : goal.invariant-loop-call
invariant-loop-call g l =
    (k : ℕ) (call : _) → k < l.call-index → slice_get l.calls k ≡ Some call → stamp_le call.prev l.val_ts ≡ false
