use Rattle.std.proofs.Common.{◌∙◌, ap, rules}
use Rattle.std.specs.Prelude.{List, filter, not}
use Rattle.std.proofs.lemmas.Fn.{filter_same}
use Rattle.lr_base.specs.Rules.{is_new}
use Rattle.lr_log.specs.declared.calls.CallSpot.{CallSpot}
use Rattle.lr_log.proofs.calls.CallIndex.drop_new.Goals as goal

pub returns : goal.returns
returns c =
    filter_same _ (λ e. not (is_new c.args.rep_ts.now e.spot)) _ (λ x b f' t. search rules) _ _
    c.retain.ensures.filtered
    ∙ ap (λ (entries : List CallSpot). filter (λ e. not (is_new c.args.rep_ts.now e.spot)) entries) c.self.view_is
