use Rattle.std.proofs.Common.{arith}
use Rattle.lr_base.proofs.Order.{join-elements}
use Rattle.lr_base.proofs.stamp.raise.Goals as goal

pub returns : goal.returns
returns c = join-elements c.args.own.now c.args.other.now c.loop-i.own c.requires (omega arith) (λ k within. c.loop-i.invariant.raised k (omega arith))
