use Rattle.std.proofs.Common.{◌∙◌, ap, rules}
use Rattle.std.specs.Prelude.{List, filter}
use Rattle.std.proofs.lemmas.Fn.{filter_same}
use Rattle.lr_base.specs.Rules.{is_new}
use Rattle.lr_log.proofs.row.Row.drop_known.Goals as goal

pub returns : goal.returns
returns g c =
    filter_same _ (λ x. is_new c.args.floor.now (g.T.AtSpot.spot_of x)) _ (λ x b f' t. search rules) _ _
    c.retain.ensures.filtered
    ∙ ap (λ (items : List g.row.T.Denot). filter (λ x. is_new c.args.floor.now (g.T.AtSpot.spot_of x)) items)
    c.self.view_is
