use Rattle.std.proofs.KnownBytes.{Consumes-trans}
use Rattle.lr_outside.proofs.whole.read_up_to.Goals as goal

pub returns-in_err-count-clause-prefix : goal.returns-in_err-count-clause-prefix
returns-in_err-count-clause-prefix g c =
    let last = c.in_err-count.ensures.prefix in
    (_, Consumes-trans _ _ _ _ last.0 c.loop-bytes.invariant.read last.1)
