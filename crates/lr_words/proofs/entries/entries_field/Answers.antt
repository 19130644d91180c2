use Rattle.std.proofs.Common.{◌≡◌, ◌-◌, ◌+◌, ◌++◌, ◌∷◌, [], arith, ◌∙◌}
use Rattle.lr_words.specs.Tables.{entry_field}
use Rattle.lr_base.specs.RowLaws.{joined-more}
use Rattle.lr_words.proofs.Trees.{insert-behind}
use Rattle.lr_words.proofs.entries.entries_field.Goals as goal

pub loop-preserved : goal.loop-preserved
loop-preserved g c =
    let es = c.loop.entries.entries in
    let one = entry_field g.V.Stored.format in
    let more : c.insert.new.entries.entries ≡ es ++ (c.in_ok-name.name, c.in_ok-name.value) ∷ [] = c.in_ok-insert.ensures.entries ∙ insert-behind es c.in_ok-name.name c.in_ok-name.value c.in_ok-insert.ensures.before c.in_ok-name.ensures.order in
    record {
      reads = rw more (joined-more one es (c.args.count - c.loop.counter) (c.args.count - (c.loop.counter + 1)) c.loop.rest.now (c.in_ok-name.name, c.in_ok-name.value) c.in_ok-name.end.now (omega arith) c.in_ok-name.ensures.reads ∙ c.loop.invariant.reads);
      order = c.in_ok-insert.ensures.after;
    }
