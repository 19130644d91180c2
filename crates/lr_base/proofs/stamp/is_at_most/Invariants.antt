use Rattle.std.proofs.Common.{ℕ, ◌<◌, ◌≤◌, get_or}
use Rattle.lr_base.proofs.stamp.is_at_most.Given as goal

-- no part below `i` is greater than its counterpart
abbrev pub invariant-loop-i : goal.invariant-loop-i
invariant-loop-i l = (k : ℕ) → k < l.i → get_or l.own k 0 ≤ get_or l.other k 0
