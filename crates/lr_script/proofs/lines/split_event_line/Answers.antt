use Rattle.std.proofs.Common.{◌∙◌, ◌∷◌, [], append_assoc, sym}
use Rattle.lr_script.specs.Texts.{event_text}
use Rattle.lr_script.proofs.LineCuts.{line_at, line_ends}
use Rattle.lr_script.proofs.ShownTexts.{event_printable}
use Rattle.lr_script.proofs.lines.split_event_line.Goals as goal

pub returns-in-Some : goal.returns-in-Some
returns-in-Some g c = λ event later fits e.
    let m = g.S.Service.meaning in
    line_at c.args.lines.now (event_text m event) later c.in-Some.end (e ∙ append_assoc (event_text m event) (10 ∷ []) later)
    (event_printable m g.met.S.Service.lawful.printable_text event fits) (sym c.in-Some.ensures)

pub returns-in-None : goal.returns-in-None
returns-in-None g c = λ event later fits e.
    let text = event_text g.S.Service.meaning event in
    absurd (line_ends c.args.lines.now text later (e ∙ append_assoc text (10 ∷ []) later) (sym c.in-None.ensures))
