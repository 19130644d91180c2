use Rattle.std.proofs.Common.{◌∙◌, sym, arith}
use Rattle.lr_calls.proofs.Forgetting.{behind-last, behind-logged, behind-unlogged}
use Rattle.lr_calls.proofs.calls.CallTable.forget.Goals as goal
use Rattle.lr_calls.proofs.calls.CallTable.forget.Goals.{then-not-has_update, else-not-has_update}

pub loop-ack-preserved : goal.loop-ack-preserved
loop-ack-preserved g c =
    let updates = g.L.Places.updates c.args.log.now in
    let within = c.loop-ack-test.true in
    let has = sym c.has_update.ensures in
    elim c.if-not-has_update.branch [
      | then-not-has_update w ↦
          behind-unlogged updates c.args.acks.now c.loop-ack.ack-index _ c.loop-ack.self c.if-not-has_update.self within
          (has ∙ w.if-not-has_update.true) (w.self-is ∙ w.take_out.ensures)
          ∙ c.loop-ack.invariant
      | else-not-has_update w ↦
          behind-logged updates c.args.acks.now c.loop-ack.ack-index _ c.loop-ack.self c.if-not-has_update.self within
          (has ∙ w.if-not-has_update.false) w.self-is
          ∙ c.loop-ack.invariant
    ]

pub returns : goal.returns
returns g c =
    let past = c.loop-ack-test.false in
    behind-last (g.L.Places.updates c.args.log.now) c.args.acks.now c.loop-ack.ack-index c.loop-ack.self (omega arith)
    ∙ c.loop-ack.invariant
