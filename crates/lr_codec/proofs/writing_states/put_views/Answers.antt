use Rattle.std.proofs.Common.{◌++◌, true}
use Rattle.byteorder.specs.Endian.{big_bytes}
use Rattle.lr_codec.specs.States.{flag_format}
use Rattle.lr_codec.proofs.Puts.{then_put}
use Rattle.lr_codec.proofs.writing_states.put_views.Goals as goal

pub returns : goal.returns
returns c =
    let r = c.put_flag.result in
    let new = c.put_flag.new.out in
    let views = c.args.views in
    let flag = (flag_format true).written views.opened in
    let view = big_bytes 8 views.view in
    let log_view = big_bytes 8 views.log_view in
    let third = then_put r c.put_number_field-2.new.out log_view flag c.put_number_field-3.new.out new
    c.in_ok-put_number_field-3.ensures c.put_flag.ensures in
    let second = then_put r c.put_number_field.new.out view (log_view ++ flag) c.put_number_field-2.new.out new
    c.in_ok-put_number_field-2.ensures third in
    then_put r c.args.out.now (big_bytes 8 views.clock) (view ++ (log_view ++ flag)) c.put_number_field.new.out new
    c.in_ok-put_number_field.ensures second
