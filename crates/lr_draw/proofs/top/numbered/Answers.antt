use Rattle.std.proofs.Common.{◌≡◌, ◌∙◌, sym, arith}
use Rattle.std.proofs.lemmas.Fmt.{decimal_injective}
use Rattle.lr_draw.proofs.top.numbered.Goals as goal

pub returns-then-first-eq0-clause-none : goal.returns-then-first-eq0-clause-none
returns-then-first-eq0-clause-none c _ range most are =
    let one : range.first ≡ c.in-Some.first = decimal_injective range.first c.in-Some.first (omega arith) (omega
    arith) (sym are.first_is ∙ c.in-Some.ensures.read) in
    omega arith

pub returns-then-last-first-clause-none : goal.returns-then-last-first-clause-none
returns-then-last-first-clause-none c _ range most are =
    let one : range.first ≡ c.in-Some.first = decimal_injective range.first c.in-Some.first (omega arith) (omega
    arith) (sym are.first_is ∙ c.in-Some.ensures.read) in
    let other : range.last ≡ c.in-Some-read_number.last = decimal_injective range.last c.in-Some-read_number.last
    (omega arith) (omega arith) (sym are.last_is ∙ c.in-Some-read_number.ensures.read) in
    omega arith
