use Rattle.std.proofs.Common.{arith}
use Rattle.lr_value.proofs.Lacking.{none-lacking}
use Rattle.lr_value.proofs.waiting.first_lack.Goals as goal

pub returns-clause-none : goal.returns-clause-none
returns-clause-none c none =
    let end = c.parts-place-end.ensures in
    none-lacking c.args.prev.now c.args.val_ts.now c.loop-place.place (omega arith) c.loop-place.invariant
