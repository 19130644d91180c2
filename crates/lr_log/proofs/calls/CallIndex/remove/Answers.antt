use Rattle.std.proofs.Common.{◌∙◌, ap, rules}
use Rattle.std.specs.Prelude.{List, filter, not}
use Rattle.std.proofs.lemmas.Fn.{filter_same}
use Rattle.lr_log.specs.Rows.{same_spot}
use Rattle.lr_log.specs.declared.calls.CallSpot.{CallSpot}
use Rattle.lr_log.proofs.calls.CallIndex.remove.Goals as goal

pub returns : goal.returns
returns c =
    filter_same _ (λ e. not (same_spot e.spot c.args.spot)) _ (λ x b f' t. search rules) _ _ c.retain.ensures.filtered
    ∙ ap (λ (entries : List CallSpot). filter (λ e. not (same_spot e.spot c.args.spot)) entries) c.self.view_is
