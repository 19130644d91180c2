use Rattle.std.proofs.Common.{◌<◌, List, arith, subst}
use Rattle.std.specs.List.{AllByRecursion}
use Rattle.lr_log.proofs.RowLemmas.{places-below}
use Rattle.lr_log.proofs.placed.Placed.places.Goals as goal

pub returns : goal.returns
returns g c =
    subst (λ (items : List g.row.T.Denot). AllByRecursion (λ x. (g.T.AtSpot.spot_of x).place < c.len.result) items)
    c.self.view_is
    (places-below g.T.AtSpot.spot_of 0 c.len.result c.self.inside.rows.items c.self.invariant.placed (omega arith))
