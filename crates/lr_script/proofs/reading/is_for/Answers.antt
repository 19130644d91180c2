use Rattle.std.proofs.Common.{◌≡◌, Err, Ok, refl}
use Rattle.lr_script.proofs.reading.is_for.Goals as goal

pub returns-in-Err : goal.returns-in-Err
returns-in-Err g c =
    ((λ is header has short. let no : Err c.in-Err.field-0 ≡ Ok header = (c.in-Err.ensures.header header).1 (has, short) in cc), (λ named. refl))
