use Rattle.std.proofs.Common.{length}
use Rattle.lr_draw.specs.Histories.{IsReadUpTo}
use Rattle.lr_draw.proofs.reading.read_history.Given as goal

abbrev pub invariant-loop-rest : goal.invariant-loop-rest
invariant-loop-rest l = IsReadUpTo l.bytes l.rest l.count l.history

abbrev pub decreases-loop-rest : goal.decreases-loop-rest
decreases-loop-rest l = length l.rest
