use Rattle.std.proofs.Common.{[], ◌++◌}
use Rattle.std.specs.Prelude.{flat_map}
use Rattle.byteorder.specs.Endian.{big_bytes}
use Rattle.lr_base.specs.Formats.{leading}
use Rattle.lr_codec.specs.Lists.{spot_format, tag_format}
use Rattle.lr_codec.specs.Parts.{cid_format, is_update, op_format}
use Rattle.lr_codec.proofs.Puts.{then_put}
use Rattle.lr_codec.proofs.writing_log.put_update.Goals as goal

pub returns-clause-ok : goal.returns-clause-ok
returns-clause-ok g c =
    let r = c.put_op.result in
    let new = c.put_op.new.out in
    let update = c.args.update.now in
    let spot = (leading tag_format (spot_format 0 [])).written (1, update.spot) in
    let cid = cid_format.written update.cid in
    let prev = flat_map (big_bytes 8) update.prev in
    let op = (op_format g.S.Service.meaning is_update).written update.op in
    let third = then_put r c.put_cid.new.out prev op c.put_stamp.new.out new c.in_ok-put_stamp.ensures
    c.put_op.ensures.ok in
    let second = then_put r c.put_spot.new.out cid (prev ++ op) c.put_cid.new.out new c.in_ok-put_cid.ensures third in
    then_put r c.args.out.now spot (cid ++ (prev ++ op)) c.put_spot.new.out new c.in_ok-put_spot.ensures second
