use Rattle.std.proofs.Common.{◌∙◌, ap, rules}
use Rattle.std.specs.Prelude.{List, filter}
use Rattle.std.proofs.lemmas.Fn.{filter_same}
use Rattle.lr_base.specs.Rules.{is_new}
use Rattle.lr_log.specs.declared.calls.CallSpot.{CallSpot}
use Rattle.lr_log.proofs.calls.CallIndex.drop_known.Goals as goal

pub returns : goal.returns
returns c =
    filter_same _ (λ e. is_new c.args.floor.now e.spot) _ (λ x b f' t. search rules) _ _
    c.retain.ensures.filtered
    ∙ ap (λ (entries : List CallSpot). filter (λ e. is_new c.args.floor.now e.spot) entries) c.self.view_is
