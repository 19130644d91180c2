use Rattle.std.proofs.Common.{◌<◌, length, sym, ◌∙◌, eqb-true, arith, tests}
use Rattle.lr_base.proofs.NumberLemmas.{empty-decimal, found-decimal, lone-zero, none-decimal, zero-decimal}
use Rattle.lr_base.proofs.numbers.read_number.Goals as goal

pub returns-then-is_empty-clause-none : goal.returns-then-is_empty-clause-none
returns-then-is_empty-clause-none c none n fits same =
    empty-decimal c.args.text.now n fits (eqb-true (length c.args.text.now) 0 (sym c.is_empty.ensures ∙ c.if-is_empty.true)) same

pub returns-then-text-ne48-clause-read : goal.returns-then-text-ne48-clause-read
returns-then-text-ne48-clause-read c =
    let some : 0 < length c.args.text.now = grind (arith, tests, c.if-is_empty.false, c.is_empty.ensures) in
    found-decimal c.args.text.now c.digits_number.result some c.if-text-ne48.true c.digits_number.ensures.digits c.digits_number.ensures.value c.digits_number.ensures.fits

pub returns-then-text-ne48-clause-none : goal.returns-then-text-ne48-clause-none
returns-then-text-ne48-clause-none c none n fits same = none-decimal c.args.text.now n fits (c.digits_number.ensures.none none) same

pub returns-then-text-eq1-clause-read : goal.returns-then-text-eq1-clause-read
returns-then-text-eq1-clause-read c = lone-zero c.args.text.now c.if-text-eq1.true c.if-text-ne48.false

pub returns-else-text-eq1-clause-none : goal.returns-else-text-eq1-clause-none
returns-else-text-eq1-clause-none c none n fits same = zero-decimal c.args.text.now n fits c.if-text-ne48.false c.if-text-eq1.false same
