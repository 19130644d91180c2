use Rattle.std.proofs.Common.{length}
use Rattle.lr_draw.proofs.bars.put_bars_of.Given as goal

abbrev pub decreases-loop-cut : goal.decreases-loop-cut
decreases-loop-cut l = length l.rest
