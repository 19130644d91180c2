use Rattle.std.proofs.Common.{take}
use Rattle.std.specs.List.{AllByRecursion}
use Rattle.lr_log.specs.Items.{IsFree}
use Rattle.lr_tests.proofs.taking.are_free.Given as goal

-- the updates so far are free
abbrev pub invariant-loop-update : goal.invariant-loop-update
invariant-loop-update g l = AllByRecursion (λ u. IsFree l.log u.spot) (take l.update-index l.updates)
