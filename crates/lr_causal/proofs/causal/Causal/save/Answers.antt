use Rattle.std.proofs.Common.{◌≡◌, ◌∙◌, ◌<◌, ◌+◌, ℕ, [], ap, get_or, length, sym, arith}
use Rattle.lr_causal.specs.State.{replica_of}
use Rattle.lr_causal.proofs.Points.{point-saved}
use Rattle.lr_log.specs.TableLaws.{own-row, row-parts}
use Rattle.lr_causal.proofs.causal.Causal.save.Goals as goal

pub returns-clause-point : goal.returns-clause-point
returns-clause-point g c =
    let it = c.args.self.now in
    let rows = it.table.rows in
    let within : c.args.heard < length rows = rw it.rows c.requires in
    let parts : length (get_or rows c.args.heard []) ≡ length it.table.own =
    row-parts it.table c.keeps.ensures c.args.heard within ∙ ap (λ (n : ℕ). n + 1) it.rows ∙ sym it.rep_parts in
    let own : it.table.own ≡ get_or rows it.me [] =
    own-row it.table c.keeps.ensures ∙ ap (λ (n : ℕ). get_or rows n []) it.own_table in
    point-saved c.copy.result c.copy-2.result c.args.heard c.len.result c.new.result.items (replica_of it)
    (c.copy.ensures ∙ c.own.ensures.own) (c.copy-2.ensures ∙ c.row.ensures) c.new.ensures.items (omega arith) own within
    parts it.updates_received it.acks_received
