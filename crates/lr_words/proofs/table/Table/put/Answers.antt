use Rattle.std.proofs.Common.{◌≡◌, ◌++◌, length, flat_map, sym, ap, ◌∙◌, append_assoc}
use Rattle.std.proofs.lemmas.Result.{on_ok_weaker}
use Rattle.lr_base.specs.Bytes.{count_bytes}
use Rattle.lr_words.specs.Tables.{entry_bytes}
use Rattle.lr_words.proofs.Trees.{is_table-tree, table_bytes-tree}
use Rattle.lr_words.proofs.table.Table.put.Goals as goal

pub returns-clause-ok : goal.returns-clause-ok
returns-clause-ok g c =
    let es = c.self.inside.entries.entries in
    let format = g.V.Stored.format in
    let texts = flat_map (entry_bytes format) es in
    let count : c.put_count_field.new.out ≡ c.args.out.now ++ count_bytes (length es) = c.in_ok-put_count_field.ensures ∙ ap (λ n. c.args.out.now ++ count_bytes n) c.len.ensures.len in
    on_ok_weaker c.put_entries.result
    (λ put. put ∙ ap (λ out. out ++ texts) count ∙ append_assoc c.args.out.now (count_bytes (length es)) texts
    ∙ ap (λ bytes. c.args.out.now ++ bytes) (sym (table_bytes-tree format c.self.inside.entries c.args.self.now c.len.ensures.ordered c.self.view_is)))
    c.put_entries.ensures.ok

pub returns-clause-real : goal.returns-clause-real
returns-clause-real g c =
    on_ok_weaker c.put_entries.result
    (λ real. is_table-tree g.V.Stored.format c.self.inside.entries c.args.self.now c.len.ensures.ordered c.self.view_is ∙ real)
    c.put_entries.ensures.real
