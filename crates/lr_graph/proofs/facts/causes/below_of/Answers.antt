use Rattle.std.proofs.Common.{sym, ap, ◌∙◌}
use Rattle.std.specs.Option.{option_copied}
use Rattle.lr_graph.specs.Told.{set_of}
use Rattle.lr_graph.proofs.Told.ToldLists.{below_of-found, below_of-none}
use Rattle.std.proofs.lemmas.Result.{IfOk-weaker}
use Rattle.lr_graph.proofs.facts.causes.below_of.Goals as goal

pub returns-in-Some : goal.returns-in-Some
returns-in-Some g c =
    let found = below_of-found c.args.accepted.now c.args.spot c.in-Some.update.now (sym c.accepted_at.ensures ∙ ap option_copied c.in-Some.is) in
    IfOk-weaker c.copy.result _ _ (λ below same. ap set_of same ∙ found) c.copy.ensures

pub returns-in-None : goal.returns-in-None
returns-in-None g c =
    ap set_of c.new.ensures ∙ below_of-none c.args.accepted.now c.args.spot (sym c.accepted_at.ensures ∙ ap option_copied c.in-None.is)
