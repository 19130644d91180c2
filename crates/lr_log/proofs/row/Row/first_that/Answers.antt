use Rattle.std.proofs.Common.{◌∙◌, Some, ap, find, sym}
use Rattle.std.specs.Option.{option_map}
use Rattle.lr_log.proofs.Passing.{found-here, none-more}
use Rattle.lr_log.proofs.row.Row.first_that.Goals as goal

pub returns-then-passes : goal.returns-then-passes
returns-then-passes g c =
    ap Some c.spot.ensures ∙ ap (option_map g.T.AtSpot.spot_of)
    (sym (found-here (g.P.Test.passes c.args.test.now) c.as_slice-item-items.result.now
    c.loop-item.item-index c.item-item.result c.loop-item-test.true c.item-item.is c.loop-item.invariant
    (sym c.passes.ensures ∙ c.if-passes.true)))
    ∙ ap (λ items. option_map g.T.AtSpot.spot_of (find (g.P.Test.passes c.args.test.now) items))
    c.as_slice-item-items.ensures

pub loop-item-preserved : goal.loop-item-preserved
loop-item-preserved g c =
    none-more (g.P.Test.passes c.args.test.now) c.as_slice-item-items.result.now c.loop-item.item-index
    c.item-item.result c.loop-item-test.true c.item-item.is c.loop-item.invariant
    (sym c.passes.ensures ∙ c.if-passes.false)
