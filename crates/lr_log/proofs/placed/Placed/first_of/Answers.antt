use Rattle.std.proofs.Common.{◌∙◌, ap, sym, arith}
use Rattle.std.specs.Option.{option_map}
use Rattle.lr_log.specs.Rows.{same_spot}
use Rattle.lr_log.proofs.CallLemmas.{index-in_order}
use Rattle.lr_log.proofs.Finding.{found-through, in-row, none-through, past-rows}
use Rattle.lr_log.proofs.RowLemmas.{row-in_order}
use Rattle.lr_log.proofs.placed.Placed.first_of.Goals as goal

pub first_of-requires : goal.first_of-requires
first_of-requires g c =
    index-in_order g.T.AtSpot.spot_of g.T.AtSpot.cid_of c.self.inside.rows.items c.self.inside.index c.self.invariant

pub returns-in_err-spot : goal.returns-in_err-spot
returns-in_err-spot g c =
    ap (option_map (λ x. x.now)) c.from_residual.ensures
    ∙ sym (none-through g.T.AtSpot.spot_of g.T.AtSpot.cid_of c.args.cid c.self.inside.rows.items c.args.self.now
    c.self.inside.index
    c.self.invariant c.self.view_is c.in_err-spot.ensures)

pub at-requires : goal.at-requires
at-requires g c =
    row-in_order g.T.AtSpot.spot_of c.self.inside.rows.items c.in_ok-spot.spot.place c.index.result.now
    c.index.result.now
    c.self.invariant.placed (omega arith) c.index.ensures

pub returns-then-place-len : goal.returns-then-place-len
returns-then-place-len g c =
    c.at.ensures
    ∙ in-row g.T.AtSpot.spot_of g.T.AtSpot.cid_of (λ x. same_spot (g.T.AtSpot.spot_of x) c.in_ok-spot.spot)
    c.self.inside.rows.items
    c.in_ok-spot.spot.place c.index.result.now c.index.result.now (omega arith) c.index.ensures
    ∙ found-through g.T.AtSpot.spot_of g.T.AtSpot.cid_of c.args.cid c.self.inside.rows.items c.args.self.now
    c.self.inside.index
    c.in_ok-spot.spot c.self.invariant c.self.view_is c.in_ok-spot.ensures

pub returns : goal.returns
returns g c =
    past-rows g.T.AtSpot.spot_of g.T.AtSpot.cid_of (λ x. same_spot (g.T.AtSpot.spot_of x) c.in_ok-spot.spot)
    c.self.inside.rows.items
    c.in_ok-spot.spot.place (omega arith)
    ∙ found-through g.T.AtSpot.spot_of g.T.AtSpot.cid_of c.args.cid c.self.inside.rows.items c.args.self.now
    c.self.inside.index
    c.in_ok-spot.spot c.self.invariant c.self.view_is c.in_ok-spot.ensures
