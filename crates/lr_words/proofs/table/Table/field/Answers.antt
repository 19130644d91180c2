use Rattle.lr_words.proofs.Trees.{field-tree}
use Rattle.lr_words.proofs.table.Table.field.Goals as goal

pub returns-in-Ok : goal.returns-in-Ok
returns-in-Ok g c = field-tree g.V.Stored.format c.args.bytes.now c.in_ok-count.rest.now c.in-Ok.end.now c.in_ok-count.count c.in-Ok.entries.entries c.in_ok-count.ensures.reads c.in-Ok.ensures.reads c.in-Ok.ensures.order
