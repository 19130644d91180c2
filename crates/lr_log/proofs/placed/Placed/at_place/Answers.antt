use Rattle.std.proofs.Common.{◌∙◌, ap, arith}
use Rattle.lr_base.specs.Places.{items_at}
use Rattle.lr_log.proofs.RowLemmas.{items_at-past, items_at-row}
use Rattle.lr_log.proofs.placed.Placed.at_place.Goals as goal

pub returns-then-place-len : goal.returns-then-place-len
returns-then-place-len g c =
    c.as_slice.ensures
    ∙ items_at-row g.T.AtSpot.spot_of c.args.place c.self.inside.rows.items c.index.result.now c.index.result.now
    c.self.invariant.placed
    (omega arith) c.index.ensures
    ∙ ap (items_at g.T.AtSpot.spot_of c.args.place) c.self.view_is

pub returns : goal.returns
returns g c =
    items_at-past g.T.AtSpot.spot_of c.args.place c.self.inside.rows.items c.self.invariant.placed (omega arith)
    ∙ ap (items_at g.T.AtSpot.spot_of c.args.place) c.self.view_is
