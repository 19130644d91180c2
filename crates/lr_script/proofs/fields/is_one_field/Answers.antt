use Rattle.std.proofs.Common.{sym, refl, arith}
use Rattle.lr_script.proofs.Splits.{field_alone, spaces_at}
use Rattle.lr_script.proofs.fields.is_one_field.Goals as goal

pub returns-in-Some : goal.returns-in-Some
returns-in-Some c =
    let more = spaces_at c.args.line.now c.in-Some.field-0 (sym c.in-Some.ensures) in
    ((λ h. absurd (cc)), (λ h. absurd (omega arith)))

pub returns-in-None : goal.returns-in-None
returns-in-None c = ((λ h. field_alone c.args.line.now (sym c.in-None.ensures)), (λ h. refl))
