use Rattle.std.proofs.Common.{◌≡◌, ◌∙◌, true, List, ap, filter, subst, sym}
use Rattle.std.specs.List.{AllByRecursion}
use Rattle.lr_base.specs.Rules.{is_new}
use Rattle.lr_log.specs.Rows.{together}
use Rattle.lr_log.proofs.CallLemmas.{IsPlaced-filter}
use Rattle.lr_log.proofs.RowLemmas.{filter-all, together-filter}
use Rattle.lr_log.proofs.placed.Placed.drop_known.Goals as goal

pub returns-then-not-has_known : goal.returns-then-not-has_known
returns-then-not-has_known g c =
    sym (filter-all (λ x. is_new c.args.floor.now (g.T.AtSpot.spot_of x)) c.args.self.now
    (subst (λ (items : List g.row.T.Denot). AllByRecursion
    (λ x. is_new c.args.floor.now (g.T.AtSpot.spot_of x) ≡ true) items)
    (ap together c.as_slice.ensures.value ∙ c.self.view_is) (c.has_known.ensures c.if-not-has_known.true)))

pub invariant_of-self : goal.invariant_of-self
invariant_of-self g c =
    IsPlaced-filter g.T.AtSpot.spot_of g.T.AtSpot.cid_of (λ s. is_new c.args.floor.now s) c.self.inside.rows.items
    c.drop_known_of.new.rows.items c.self.inside.index c.drop_known.new.self c.self.invariant c.drop_known_of.ensures
    c.drop_known.ensures

pub returns : goal.returns
returns g c =
    ap together c.drop_known_of.ensures ∙ together-filter (λ x. is_new c.args.floor.now (g.T.AtSpot.spot_of x))
    c.self.inside.rows.items
    ∙ ap (filter (λ x. is_new c.args.floor.now (g.T.AtSpot.spot_of x))) c.self.view_is
