use Rattle.std.proofs.Common.{◌∙◌, ap, rules}
use Rattle.std.specs.Prelude.{List, filter, not}
use Rattle.std.proofs.lemmas.Fn.{filter_same}
use Rattle.lr_log.specs.Rows.{same_spot}
use Rattle.lr_log.proofs.row.Row.remove.Goals as goal

pub returns : goal.returns
returns g c =
    filter_same _ (λ x. not (same_spot (g.T.AtSpot.spot_of x) c.args.spot)) _ (λ x b f' t. search rules) _ _
    c.retain.ensures.filtered
    ∙ ap (λ (items : List g.row.T.Denot). filter (λ x. not (same_spot (g.T.AtSpot.spot_of x) c.args.spot)) items)
    c.self.view_is
