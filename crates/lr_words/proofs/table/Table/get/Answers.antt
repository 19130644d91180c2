use Rattle.std.proofs.Common.{sym, ap, ◌∙◌}
use Rattle.std.specs.FinMap as map
use Rattle.lr_words.proofs.Trees.{get-tree}
use Rattle.lr_words.proofs.table.Table.get.Goals as goal

pub returns : goal.returns
returns g c = c.get.ensures.value ∙ sym (get-tree c.self.inside.entries c.args.name.now) ∙ ap (λ m. map.get m c.args.name.now) c.self.view_is
