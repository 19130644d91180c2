use Rattle.std.proofs.Common.{◌∙◌}
use Rattle.lr_log.proofs.RowLemmas.{more-rows, more-same}
use Rattle.lr_log.proofs.placed.make_row.Goals as goal

pub loop-alloc-preserved : goal.loop-alloc-preserved
loop-alloc-preserved g c = record {
  rows = more-rows g.T.AtSpot.spot_of c.loop-alloc.rows.items c.push.new.self.items c.new.result
      c.in_ok-push.ensures.items c.new.ensures
      c.loop-alloc.invariant.rows;
  same = more-same c.loop-alloc.rows.items c.push.new.self.items c.new.result c.in_ok-push.ensures.items c.new.ensures
      ∙ c.loop-alloc.invariant.same;
}
