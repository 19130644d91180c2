use Rattle.std.proofs.Common.{filter, arith}
use Rattle.std.specs.Prelude.{not}
use Rattle.lr_log.specs.Rows.{same_spot}
use Rattle.lr_log.proofs.RowLemmas.{mapped-more}
use Rattle.lr_log.proofs.placed.remove_at.Goals as goal

pub loop-row-preserved : goal.loop-row-preserved
loop-row-preserved g c =
    mapped-more (λ row. filter (λ x. not (same_spot (g.T.AtSpot.spot_of x) c.args.spot)) row) _ c.loop-row.row-items
    c.loop-row.row-index
    c.row-item.result c.remove.new.self (omega arith) c.loop-row.invariant c.row-item.is c.remove.ensures
