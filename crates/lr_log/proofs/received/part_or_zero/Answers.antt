use Rattle.std.proofs.Common.{arith, sym}
use Rattle.lr_log.proofs.Parts.{part-past}
use Rattle.lr_log.proofs.received.part_or_zero.Goals as goal

pub returns : goal.returns
returns c = sym (part-past c.args.stamp.now c.args.place (omega arith))
