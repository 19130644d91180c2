use Rattle.std.proofs.Common.{◌∙◌}
use Rattle.lr_graph.specs.Told.{set_of}
use Rattle.lr_graph.proofs.Told.ToldLists.{within-told}
use Rattle.lr_graph.proofs.facts.causes.is_within.Goals as goal

pub returns : goal.returns
returns g c = c.all_in.ensures ∙ within-told c.args.accepted.now (set_of c.args.set.now) (set_of c.args.other.now)
