use Rattle.std.proofs.Common.{◌-◌, arith}
use Rattle.lr_log.proofs.Taking.{lent-less}
use Rattle.lr_log.proofs.placed.Placed.take_back.Goals as goal

pub loop-count-preserved : goal.loop-count-preserved
loop-count-preserved g c = record {
  within = omega arith;
  left = λ first free is. lent-less g.T.AtSpot.spot_of g.R.Lends.lent c.args.items.now first c.loop-count.self
      c.remove.new.self
      c.loop-count.count (c.loop-count.count - 1) c.index-items-count.result c.lend.result.now c.spot.result
      (omega arith) (omega arith)
      c.index-items-count.is c.lend.ensures c.spot.ensures c.requires.in_order free
      (c.loop-count.invariant.left first free is) c.remove.ensures;
}
