use Rattle.std.proofs.Common.{◌∙◌, ap, filter}
use Rattle.std.specs.Prelude.{not}
use Rattle.lr_base.specs.Rules.{is_new}
use Rattle.lr_log.specs.Rows.{together}
use Rattle.lr_log.proofs.CallLemmas.{IsPlaced-filter}
use Rattle.lr_log.proofs.RowLemmas.{together-filter}
use Rattle.lr_log.proofs.placed.Placed.drop_new.Goals as goal

pub invariant_of-self : goal.invariant_of-self
invariant_of-self g c =
    IsPlaced-filter g.T.AtSpot.spot_of g.T.AtSpot.cid_of (λ s. not (is_new c.args.rep_ts.now s))
    c.self.inside.rows.items
    c.drop_new_of.new.rows.items c.self.inside.index c.drop_new.new.self c.self.invariant c.drop_new_of.ensures
    c.drop_new.ensures

pub returns : goal.returns
returns g c =
    ap together c.drop_new_of.ensures ∙ together-filter (λ x. not (is_new c.args.rep_ts.now (g.T.AtSpot.spot_of x)))
    c.self.inside.rows.items
    ∙ ap (filter (λ x. not (is_new c.args.rep_ts.now (g.T.AtSpot.spot_of x)))) c.self.view_is
