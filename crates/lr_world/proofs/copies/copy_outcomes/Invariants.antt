use Rattle.std.proofs.Common.{◌≡◌, take}
use Rattle.lr_world.proofs.copies.copy_outcomes.Given as goal

-- as many as turns were made
abbrev pub invariant-loop-outcome : goal.invariant-loop-outcome
invariant-loop-outcome l = l.copied ≡ take l.outcome-index l.outcomes
