use Rattle.std.proofs.Common.{◌∙◌, find, sym}
use Rattle.lr_log.proofs.Passing.{map-none, none-in-row, found-in-row}
use Rattle.lr_log.proofs.placed.first_that.Goals as goal

pub returns-in-Some : goal.returns-in-Some
returns-in-Some g c =
    sym (found-in-row (g.P.Test.passes c.args.test.now) g.T.AtSpot.spot_of c.args.rows.now c.loop-row.row-index
    c.row-item.result c.in-Some.spot c.loop-row-test.true c.row-item.is c.loop-row.invariant
    (sym c.first_that.ensures ∙ c.in-Some.is))

pub loop-row-preserved : goal.loop-row-preserved
loop-row-preserved g c =
    none-in-row (g.P.Test.passes c.args.test.now) c.args.rows.now c.loop-row.row-index c.row-item.result
    c.loop-row-test.true c.row-item.is c.loop-row.invariant
    (map-none g.T.AtSpot.spot_of (find (g.P.Test.passes c.args.test.now) c.row-item.result)
    (sym c.first_that.ensures ∙ c.in_default.is))
