use Rattle.std.proofs.Common.{arith, refl}
use Rattle.lr_base.proofs.NumberLemmas.{front-too-great, digits-and-value-more}
use Rattle.lr_base.proofs.numbers.digits_number.Goals as goal

pub returns-in_err-number-clause-none : goal.returns-in_err-number-clause-none
returns-in_err-number-clause-none c none digits =
    front-too-great c.args.text.now c.loop-digit.digit-index c.loop-digit.number (omega arith) c.loop-digit.invariant.value (c.in_err-number.ensures.none refl) digits

pub loop-digit-preserved : goal.loop-digit-preserved
loop-digit-preserved c =
    let more = digits-and-value-more c.args.text.now c.loop-digit.digit-index c.loop-digit.number c.in_ok-number.number (omega arith) c.loop-digit.invariant.digits c.loop-digit.invariant.value c.in_ok-number.ensures.digit c.in_ok-number.ensures.value in
    record { digits = more.0; value = more.1; fits = c.in_ok-number.ensures.fits }
