use Rattle.std.proofs.Common.{[], ◌++◌}
use Rattle.byteorder.specs.Endian.{big_bytes}
use Rattle.lr_base.specs.Formats.{leading}
use Rattle.lr_codec.specs.Lists.{spot_format, tag_format}
use Rattle.lr_codec.specs.Parts.{cid_format}
use Rattle.lr_codec.proofs.Puts.{then_put}
use Rattle.lr_codec.proofs.writing_log.put_ack.Goals as goal

pub returns : goal.returns
returns g c =
    let r = c.put_number_field.result in
    let new = c.put_number_field.new.out in
    let ack = c.args.ack.now in
    let spot = (leading tag_format (spot_format 0 [])).written (2, ack.spot) in
    let cid = cid_format.written ack.cid in
    let time = big_bytes 8 ack.time in
    let second = then_put r c.put_spot.new.out cid time c.put_cid.new.out new c.in_ok-put_cid.ensures
    c.put_number_field.ensures in
    then_put r c.args.out.now spot (cid ++ time) c.put_spot.new.out new c.in_ok-put_spot.ensures second
