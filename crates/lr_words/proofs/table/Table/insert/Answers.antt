use Rattle.std.proofs.Common.{ap, ◌∙◌}
use Rattle.std.specs.FinMap as map
use Rattle.std.proofs.lemmas.Result.{on_ok_weaker}
use Rattle.lr_words.proofs.Trees.{insert-tree}
use Rattle.lr_words.proofs.table.Table.insert.Goals as goal

pub returns-clause-ok : goal.returns-clause-ok
returns-clause-ok g c =
    on_ok_weaker c.insert.result
    (λ updates. insert-tree c.self.inside.entries c.insert.new.entries c.args.name c.args.value updates.0 ∙ ap (λ m. map.insert m c.args.name c.args.value) c.self.view_is)
    c.insert.ensures.updates
