use Rattle.std.proofs.Common.{◌<◌, ◌∙◌, List, ap, filter, find, length, not, subst, sym}
use Rattle.std.specs.Option.{option_map}
use Rattle.lr_base.specs.Places.{AreInOrder}
use Rattle.lr_log.specs.Rows.{same_spot, together}
use Rattle.lr_log.proofs.Passing.{all-stay, fewer-left, map-none, others-stay, same-passes}
use Rattle.lr_log.proofs.RowLemmas.{in_order-together}
use Rattle.lr_log.proofs.placed.Placed.drop_that.Goals as goal

pub loop-spot-smaller : goal.loop-spot-smaller
loop-spot-smaller g c =
    subst (λ (items : List g.row.T.Denot). length items < length c.loop-spot.self) (sym c.remove.ensures)
    (fewer-left g.T.AtSpot.spot_of (g.P.Test.passes c.args.test.now) c.loop-spot.self c.in-Some.spot
    (ap (λ rows. option_map g.T.AtSpot.spot_of (find (g.P.Test.passes c.args.test.now) rows))
    (sym (ap together c.as_slice.ensures.value ∙ c.self.view_is)) ∙ sym c.first_that.ensures ∙ c.in-Some.is))

pub loop-spot-preserved : goal.loop-spot-preserved
loop-spot-preserved g c =
    ap (filter (λ x. not (g.P.Test.passes c.args.test.now x))) c.remove.ensures
    ∙ others-stay (g.P.Test.passes c.args.test.now) c.loop-spot.self
    (λ x. not (same_spot (g.T.AtSpot.spot_of x) c.in-Some.spot))
    (same-passes g.T.AtSpot.spot_of (g.P.Test.passes c.args.test.now) c.loop-spot.self c.in-Some.spot
    (subst (AreInOrder g.T.AtSpot.spot_of) c.self.view_is
    (in_order-together g.T.AtSpot.spot_of 0 c.self.inside.rows.items c.self.invariant.placed))
    (ap (λ rows. option_map g.T.AtSpot.spot_of (find (g.P.Test.passes c.args.test.now) rows))
    (sym (ap together c.as_slice.ensures.value ∙ c.self.view_is)) ∙ sym c.first_that.ensures ∙ c.in-Some.is))
    ∙ c.loop-spot.invariant

pub returns : goal.returns
returns g c =
    sym (all-stay (g.P.Test.passes c.args.test.now) c.loop-spot.self
    (map-none g.T.AtSpot.spot_of (find (g.P.Test.passes c.args.test.now) c.loop-spot.self)
    (ap (λ rows. option_map g.T.AtSpot.spot_of (find (g.P.Test.passes c.args.test.now) rows))
    (sym (ap together c.as_slice.ensures.value ∙ c.self.view_is)) ∙ sym c.first_that.ensures ∙ c.in_default.is)))
    ∙ c.loop-spot.invariant
