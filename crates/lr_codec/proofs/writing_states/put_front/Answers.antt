use Rattle.std.proofs.Common.{◌++◌}
use Rattle.std.specs.Prelude.{None, flat_map}
use Rattle.lr_codec.specs.Parts.{stamp_format}
use Rattle.lr_codec.specs.States.{head_format, head_of, stamps_format, stamps_of, views_format, views_of}
use Rattle.lr_codec.proofs.Puts.{then_put}
use Rattle.lr_codec.proofs.writing_states.put_front.Goals as goal

pub returns : goal.returns
returns g c =
    let r = c.put_rows.result in
    let new = c.put_rows.new.out in
    let state = c.args.state.now in
    let head = (head_format g.S.Service.NUMBER None).written (head_of state) in
    let views = (views_format (head_of state)).written (views_of state) in
    let stamps = (stamps_format 0).written (stamps_of state) in
    let table = flat_map (stamp_format 0).written state.table in
    let last = rw c.as_slice.ensures at c.put_rows.ensures.ok in
    let third = then_put r c.put_views.new.out stamps table c.put_stamps.new.out new c.in_ok-put_stamps.ensures last in
    let second = then_put r c.put_head.new.out views (stamps ++ table) c.put_views.new.out new
    c.in_ok-put_views.ensures third in
    then_put r c.args.out.now head (views ++ (stamps ++ table)) c.put_head.new.out new c.in_ok-put_head.ensures second
