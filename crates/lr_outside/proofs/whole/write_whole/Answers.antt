use Rattle.std.proofs.Common.{arith, ◌∙◌}
use Rattle.lr_outside.proofs.MovedLemmas.{Appends-next}
use Rattle.lr_outside.proofs.whole.write_whole.Goals as goal

pub loop-at-preserved : goal.loop-at-preserved
loop-at-preserved g c = record {
  within = grind (arith, c.in_ok-count.ensures.bound);
  written = Appends-next _ _ _ c.args.piece.now c.loop-at.at c.in_ok-count.count c.loop-at.invariant.written c.in_ok-count.ensures.bytes;
  unfailed = c.in_ok-count.ensures.counted ∙ c.loop-at.invariant.unfailed;
}
