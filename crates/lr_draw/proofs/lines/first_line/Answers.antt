use Rattle.std.proofs.Common.{sym}
use Rattle.lr_draw.proofs.LineLemmas.{printable_before}
use Rattle.lr_draw.proofs.lines.first_line.Goals as goal

pub returns-clause-printable : goal.returns-clause-printable
returns-clause-printable c = printable_before c.args.bytes.now c.in-Some.end (sym c.in-Some.ensures)
