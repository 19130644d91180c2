use Rattle.std.proofs.Common.{length}
use Rattle.lr_draw.proofs.steps.put_texts.Given as goal

abbrev pub decreases-loop-cut : goal.decreases-loop-cut
decreases-loop-cut l = length l.rest
