use Rattle.byteorder.specs.Endian.{big_bytes}
use Rattle.lr_codec.proofs.Puts.{then_put}
use Rattle.lr_codec.proofs.writing_rows.MarkRowsPutRow.put_row.Goals as goal

pub returns-clause-ok : goal.returns-clause-ok
returns-clause-ok c = then_put c.put_number_field-2.result c.args.out.now (big_bytes 8 c.args.row.now.0)
    (big_bytes 8 c.args.row.now.1) c.put_number_field.new.out c.put_number_field-2.new.out
    c.in_ok-put_number_field.ensures c.put_number_field-2.ensures
