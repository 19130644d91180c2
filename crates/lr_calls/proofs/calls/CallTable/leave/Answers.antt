use Rattle.std.proofs.Common.{◌∙◌, ap, drop, ◌+◌, arith}
use Rattle.lr_calls.specs.Tables.{without}
use Rattle.lr_calls.proofs.Tables.{leave-done, leave-next}
use Rattle.lr_calls.proofs.calls.CallTable.leave.Goals as goal

pub loop-cid-preserved : goal.loop-cid-preserved
loop-cid-preserved c =
    ap (without (drop (c.loop-cid.cid-index + 1) c.args.cids.now)) c.take_out.ensures
    ∙ leave-next c.args.cids.now c.loop-cid.cid-index _ c.loop-cid.self c.loop-cid-test.true ∙ c.loop-cid.invariant

pub returns : goal.returns
returns c =
    let past = c.loop-cid-test.false in
    leave-done c.args.cids.now c.loop-cid.cid-index c.loop-cid.self (omega arith) ∙ c.loop-cid.invariant
