use Rattle.lr_draw.specs.Histories.{too_soon}
use Rattle.lr_draw.proofs.reading.read_line.Goals as goal

pub returns-in_default-clause-bad : goal.returns-in_default-clause-bad
returns-in_default-clause-bad c is = c.read_event.ensures.bad is c.in_default.ensures

pub returns-then-place-eq0-clause-bad : goal.returns-then-place-eq0-clause-bad
returns-then-place-eq0-clause-bad c _ = too_soon c.if-place-eq0.true c.in-Some._outcome.now c.in-Some.ensures

pub returns-in-Some-behind-clause-bad : goal.returns-in-Some-behind-clause-bad
returns-in-Some-behind-clause-bad c is = c.read_send.ensures.bad is c.in-Some-behind._sent.now c.in-Some-behind.ensures
