use Rattle.std.proofs.Common.{filter, arith}
use Rattle.lr_base.specs.Rules.{is_new}
use Rattle.lr_log.proofs.RowLemmas.{mapped-more}
use Rattle.lr_log.proofs.placed.drop_known_of.Goals as goal

pub loop-row-preserved : goal.loop-row-preserved
loop-row-preserved g c =
    mapped-more (λ row. filter (λ x. is_new c.args.floor.now (g.T.AtSpot.spot_of x)) row) _
    c.loop-row.row-items c.loop-row.row-index
    c.row-item.result c.drop_known.new.self (omega arith) c.loop-row.invariant c.row-item.is c.drop_known.ensures
