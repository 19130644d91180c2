use Rattle.std.proofs.Common.{ap, ◌∙◌}
use Rattle.std.specs.FinMap as map
use Rattle.lr_words.proofs.Trees.{remove-tree}
use Rattle.lr_words.proofs.table.Table.remove.Goals as goal

pub returns : goal.returns
returns g c = remove-tree c.self.inside.entries c.remove.new.self c.args.name.now c.remove.ensures.updates.0 ∙ ap (λ m. map.remove m c.args.name.now) c.self.view_is
