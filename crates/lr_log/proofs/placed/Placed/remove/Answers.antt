use Rattle.std.proofs.Common.{◌∙◌, ap, filter}
use Rattle.std.specs.Prelude.{not}
use Rattle.lr_log.specs.Rows.{same_spot, together}
use Rattle.lr_log.proofs.CallLemmas.{IsPlaced-filter}
use Rattle.lr_log.proofs.RowLemmas.{together-filter}
use Rattle.lr_log.proofs.placed.Placed.remove.Goals as goal

pub invariant_of-self : goal.invariant_of-self
invariant_of-self g c =
    IsPlaced-filter g.T.AtSpot.spot_of g.T.AtSpot.cid_of (λ s. not (same_spot s c.args.spot)) c.self.inside.rows.items
    c.remove_at.new.rows.items c.self.inside.index c.remove.new.self c.self.invariant c.remove_at.ensures
    c.remove.ensures

pub returns : goal.returns
returns g c =
    ap together c.remove_at.ensures ∙ together-filter (λ x. not (same_spot (g.T.AtSpot.spot_of x) c.args.spot))
    c.self.inside.rows.items
    ∙ ap (filter (λ x. not (same_spot (g.T.AtSpot.spot_of x) c.args.spot))) c.self.view_is
