use Rattle.byteorder.specs.Endian.{big_bytes}
use Rattle.lr_codec.proofs.Puts.{then_put}
use Rattle.lr_codec.proofs.writing.put_cid.Goals as goal

pub returns : goal.returns
returns c = then_put c.put_number_field.result c.args.out.now (big_bytes 4 c.args.cid.client)
    (big_bytes 8 c.args.cid.seq) c.put_short_field.new.out c.put_number_field.new.out
    c.in_ok-put_short_field.ensures c.put_number_field.ensures
