use Rattle.std.proofs.Common.{◌≡◌, take}
use Rattle.std.specs.Prelude.{fold}
use Rattle.lr_value.proofs.ops.caught_up.Given as goal

-- the first operations are executed
abbrev pub invariant-loop-op : goal.invariant-loop-op
invariant-loop-op g l = l.value ≡ fold g.S.Service.meaning.apply l.initial.value (take l.op-index l.ops)
