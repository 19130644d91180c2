use Rattle.std.proofs.Common.{◌∙◌, sym, arith}
use Rattle.lr_log.specs.Rows.{same_spot}
use Rattle.lr_log.proofs.Entries.{not-false, not-true}
use Rattle.lr_log.proofs.Finding.{row-at, row-end, row-other}
use Rattle.lr_log.proofs.row.Row.at.Goals as goal

pub returns : goal.returns
returns g c =
    row-at g.T.AtSpot.spot_of c.args.spot c.as_slice-items.result.now c.args.self.now c.count_before-at.result
    c.index-items-at.result
    c.index-items-at-2.result c.spot.result (c.as_slice-items.ensures.value ∙ c.self.view_is)
    c.count_before-at.ensures.point
    (omega (arith, c.count_before-at.ensures.most)) c.index-items-at.is c.index-items-at-2.is c.spot.ensures
    (not-false (same_spot c.spot.result c.args.spot) (sym c.ne.ensures ∙ c.if-ne.false))

pub returns-then-at-items : goal.returns-then-at-items
returns-then-at-items g c =
    row-end g.T.AtSpot.spot_of c.args.spot c.as_slice-items.result.now c.args.self.now c.count_before-at.result
    (c.as_slice-items.ensures.value ∙ c.self.view_is) c.count_before-at.ensures.point c.if-at-items.true

pub returns-then-ne : goal.returns-then-ne
returns-then-ne g c =
    row-other g.T.AtSpot.spot_of c.args.spot c.as_slice-items.result.now c.args.self.now c.count_before-at.result
    c.index-items-at.result
    c.spot.result (c.as_slice-items.ensures.value ∙ c.self.view_is) c.requires c.count_before-at.ensures.point
    (omega (arith, c.count_before-at.ensures.most)) c.index-items-at.is c.spot.ensures
    (not-true (same_spot c.spot.result c.args.spot) (sym c.ne.ensures ∙ c.if-ne.true))
