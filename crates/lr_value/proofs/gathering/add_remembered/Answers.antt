use Rattle.std.proofs.Common.{arith}
use Rattle.lr_value.specs.Waiting.{behind}
use Rattle.lr_value.proofs.Gathered.{remembered-step}
use Rattle.lr_value.proofs.gathering.add_remembered.Goals as goal

pub loop-at-preserved : goal.loop-at-preserved
loop-at-preserved g c =
    remembered-step c.args.place c.args.val_ts.now c.args.waits.now c.loop-at.at c.args.updates.now
    (behind c.args.found.now.items) (behind c.loop-at.found.items) (behind c.add_at.new.found.items) _ (omega arith)
    c.loop-at.invariant c.in_ok-add_at.ensures
