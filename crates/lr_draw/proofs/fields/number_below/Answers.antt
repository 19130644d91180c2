use Rattle.std.proofs.Common.{◌≡◌, ◌∙◌, sym, arith}
use Rattle.std.proofs.lemmas.Fmt.{decimal_injective}
use Rattle.lr_draw.proofs.fields.number_below.Goals as goal

pub returns-else-number-limit-clause-none : goal.returns-else-number-limit-clause-none
returns-else-number-limit-clause-none c _ n below same =
    let one : n ≡ c.in_ok-number.number = decimal_injective n c.in_ok-number.number (omega arith) (omega arith)
    (sym same ∙ c.in_ok-number.ensures.read) in
    omega arith
