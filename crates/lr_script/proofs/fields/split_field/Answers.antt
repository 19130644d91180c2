use Rattle.std.proofs.Common.{sym, refl}
use Rattle.lr_script.proofs.Splits.{field_at, field_alone, spaces_at}
use Rattle.lr_script.proofs.fields.split_field.Goals as goal

pub returns-in-Some-clause-field : goal.returns-in-Some-clause-field
returns-in-Some-clause-field c = field_at c.args.line.now c.in-Some.end (sym c.in-Some.ensures)

pub returns-in-Some-clause-spaces : goal.returns-in-Some-clause-spaces
returns-in-Some-clause-spaces c = spaces_at c.args.line.now c.in-Some.end (sym c.in-Some.ensures)

pub returns-in-None-clause-field : goal.returns-in-None-clause-field
returns-in-None-clause-field c = (refl, field_alone c.args.line.now (sym c.in-None.ensures))

pub returns-in-None-clause-spaces : goal.returns-in-None-clause-spaces
returns-in-None-clause-spaces c = field_alone c.args.line.now (sym c.in-None.ensures)
