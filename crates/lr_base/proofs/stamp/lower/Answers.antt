use Rattle.std.proofs.Common.{arith}
use Rattle.lr_base.proofs.Order.{meet-elements}
use Rattle.lr_base.proofs.stamp.lower.Goals as goal

pub returns : goal.returns
returns c = meet-elements c.args.own.now c.args.other.now c.loop-i.own c.requires (omega arith) (λ k within. c.loop-i.invariant.lowered k (omega arith))
