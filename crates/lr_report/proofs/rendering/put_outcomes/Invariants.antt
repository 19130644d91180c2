use Rattle.std.proofs.Common.{◌≡◌, ◌++◌, take}
use Rattle.std.specs.List.{flat_map}
use Rattle.lr_report.specs.Printed.{outcome_line}
use Rattle.lr_report.proofs.rendering.put_outcomes.Given as goal

-- the lines of the outcomes so far were added
abbrev pub invariant-loop-outcome : goal.invariant-loop-outcome
invariant-loop-outcome l = l.out ≡ l.initial.out ++ flat_map (outcome_line l.replicas) (take l.outcome-index l.outcomes)
