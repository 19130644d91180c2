use Rattle.std.proofs.Common.{sym, ◌∙◌}
use Rattle.std.proofs.lemmas.Bool.{ne_eqb}
use Rattle.lr_base.specs.Formats.{number_format}
use Rattle.lr_codec.proofs.Acks.{ack-behind}
use Rattle.lr_codec.proofs.item_rows.ItemRowsReadRow.row_field.Goals as goal

pub returns-else-tag-eq1 : goal.returns-else-tag-eq1
returns-else-tag-eq1 g c =
    let next = sym c.is_next_spot.ensures ∙ c.if-not-is_next_spot.false in
    let tag = ne_eqb c.in_ok-tag.tag 1 c.if-tag-eq1.false in
    rw (c.in_ok-tag.ensures, c.in_ok-spot.ensures, next, c.in_ok-cid.ensures, tag) (ack-behind
    (c.in_ok-tag.tag, c.in_ok-spot.spot) c.in_ok-cid.cid (number_format.field c.in_ok-cid.rest.now) c.ack_field.result c.ack_field.ensures)
