use Rattle.std.proofs.Common.{sym, arith}
use Rattle.lr_base.proofs.Order.{stamp_le-elements, stamp_le-greater}
use Rattle.lr_base.proofs.stamp.is_at_most.Goals as goal

pub returns-then-other-i : goal.returns-then-other-i
returns-then-other-i c = sym (stamp_le-greater c.args.own.now c.args.other.now c.loop-i.i c.if-other-i.true)

pub returns : goal.returns
returns c = sym (stamp_le-elements c.args.own.now c.args.other.now c.requires (λ k within. c.loop-i.invariant k (omega arith)))
