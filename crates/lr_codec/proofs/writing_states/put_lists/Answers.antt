use Rattle.std.proofs.Common.{[], ◌++◌, true}
use Rattle.lr_codec.specs.Lists.{calls_format, log_format, marks_format, order_format}
use Rattle.lr_codec.specs.States.{frozen_format}
use Rattle.lr_codec.proofs.Puts.{then_put}
use Rattle.lr_codec.proofs.writing_states.put_lists.Goals as goal

pub returns-clause-ok : goal.returns-clause-ok
returns-clause-ok g c =
    let r = c.put_marks.result in
    let new = c.put_marks.new.out in
    let m = g.S.Service.meaning in
    let state = c.args.state.now in
    let log = (log_format m 0 []).written (state.updates, state.acks) in
    let calls = (calls_format 0).written state.calls in
    let order = (order_format m 0).written (state.base, state.entries) in
    let frozen = (frozen_format m 0 true 0 (0, [])).written state.frozen in
    let marks = marks_format.written state.marks in
    let put_log = rw (c.as_slice.ensures, c.as_slice-2.ensures) at c.in_ok-put_log.ensures.ok in
    let put_calls = rw c.as_slice-3.ensures at c.in_ok-put_calls.ensures in
    let put_order = rw c.as_slice-4.ensures at c.in_ok-put_order.ensures.ok in
    let put_marks = rw c.as_slice-5.ensures at c.put_marks.ensures in
    let fourth = then_put r c.put_order.new.out frozen marks c.put_frozen.new.out new c.in_ok-put_frozen.ensures.ok
    put_marks in
    let third = then_put r c.put_calls.new.out order (frozen ++ marks) c.put_order.new.out new
    put_order fourth in
    let second = then_put r c.put_log.new.out calls (order ++ (frozen ++ marks)) c.put_calls.new.out new
    put_calls third in
    then_put r c.args.out.now log (calls ++ (order ++ (frozen ++ marks))) c.put_log.new.out new
    put_log second
