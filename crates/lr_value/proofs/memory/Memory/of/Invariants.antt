use Rattle.std.proofs.Common.{◌≡◌, map, take}
use Rattle.lr_value.specs.Waiting.{behind}
use Rattle.lr_value.proofs.memory.Memory.of.Given as goal

-- the spots of the first updates
abbrev pub invariant-loop-update : goal.invariant-loop-update
invariant-loop-update g l = l.waits.items ≡ map (λ u. u.spot) (behind (take l.update-index l.waiting))
