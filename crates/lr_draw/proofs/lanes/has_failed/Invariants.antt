use Rattle.std.proofs.Common.{length}
use Rattle.lr_draw.proofs.lanes.has_failed.Given as goal

abbrev pub decreases-loop-cut : goal.decreases-loop-cut
decreases-loop-cut l = length l.rest
