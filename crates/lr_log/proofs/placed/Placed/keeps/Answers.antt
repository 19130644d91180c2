use Rattle.std.proofs.Common.{subst}
use Rattle.lr_base.specs.Places.{AreInOrder}
use Rattle.lr_log.proofs.RowLemmas.{in_order-together}
use Rattle.lr_log.proofs.placed.Placed.keeps.Goals as goal

pub returns : goal.returns
returns g c =
    subst (AreInOrder g.T.AtSpot.spot_of) c.self.view_is
    (in_order-together g.T.AtSpot.spot_of 0 c.self.inside.rows.items c.self.invariant.placed)
