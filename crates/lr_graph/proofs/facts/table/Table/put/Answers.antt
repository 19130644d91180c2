use Rattle.std.proofs.Common.{◌==◌, rules}
use Rattle.std.specs.Prelude.{not}
use Rattle.std.proofs.lemmas.Fn.{filter_same}
use Rattle.lr_graph.proofs.Told.TableLemmas.{entry_at-inserted}
use Rattle.lr_graph.proofs.facts.table.Table.put.Goals as goal

pub returns : goal.returns
returns g c =
    entry_at-inserted c.args.key c.args.value c.self.inside.entries.items c.retain.new.self.items c.insert.new.self.items c.args.self.now
    (filter_same _ (λ e. not (e.key == c.args.key)) _ (λ x b f' t. search rules) _ _ c.retain.ensures.filtered) c.in_ok-insert.ensures.items c.self.view_is
