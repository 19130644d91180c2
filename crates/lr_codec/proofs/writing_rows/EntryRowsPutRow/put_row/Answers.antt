use Rattle.std.proofs.Common.{◌++◌, []}
use Rattle.std.specs.Prelude.{flat_map}
use Rattle.byteorder.specs.Endian.{big_bytes}
use Rattle.lr_codec.specs.Parts.{cid_format, is_update, op_format}
use Rattle.lr_codec.proofs.Puts.{put_last, then_put}
use Rattle.lr_codec.proofs.writing_rows.EntryRowsPutRow.put_row.Goals as goal

pub returns-clause-ok : goal.returns-clause-ok
returns-clause-ok g c =
    let r = c.put_op.result in
    let new = c.put_op.new.out in
    let entry = c.args.row.now in
    let cid = cid_format.written entry.call.cid in
    let prev = flat_map (big_bytes 8) entry.call.prev in
    let extra = flat_map (big_bytes 8) entry.extra in
    let op = (op_format g.S.Service.meaning is_update).written entry.call.op in
    let last = put_last r op c.put_stamp-2.new.out new c.put_op.ensures.ok in
    let fourth = then_put r c.put_stamp.new.out extra (op ++ []) c.put_stamp-2.new.out new c.in_ok-put_stamp-2.ensures
    last in
    let third = then_put r c.put_cid.new.out prev (extra ++ (op ++ [])) c.put_stamp.new.out new
    c.in_ok-put_stamp.ensures fourth in
    let second = then_put r c.put_number_field.new.out cid (prev ++ (extra ++ (op ++ []))) c.put_cid.new.out new
    c.in_ok-put_cid.ensures third in
    then_put r c.args.out.now (big_bytes 8 entry.birth) (cid ++ (prev ++ (extra ++ (op ++ []))))
    c.put_number_field.new.out new c.in_ok-put_number_field.ensures second
