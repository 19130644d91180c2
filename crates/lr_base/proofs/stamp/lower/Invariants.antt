use Rattle.std.proofs.Common.{◌≡◌, ℕ, ◌<◌, ◌≤◌, min, get_or}
use Rattle.lr_base.proofs.stamp.lower.Given as goal

-- the parts below `i` are the lesser ones, and the others are as they were
abbrev pub invariant-loop-i : goal.invariant-loop-i
invariant-loop-i l = record {
  lowered : (k : ℕ) → k < l.i → get_or l.own k 0 ≡ min (get_or l.initial.own k 0) (get_or l.other k 0);
  waiting : (k : ℕ) → l.i ≤ k → get_or l.own k 0 ≡ get_or l.initial.own k 0;
}
