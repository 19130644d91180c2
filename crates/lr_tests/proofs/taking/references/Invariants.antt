use Rattle.std.proofs.Common.{◌≡◌, map, take}
use Rattle.lr_tests.proofs.taking.references.Given as goal

-- the updates so far are referred to
abbrev pub invariant-loop-update : goal.invariant-loop-update
invariant-loop-update g l = map (λ u. u.now) l.found.items ≡ take l.update-index l.updates
