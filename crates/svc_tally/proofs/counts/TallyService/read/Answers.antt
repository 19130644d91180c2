use Rattle.std.proofs.Common.{◌++◌, ap, refl, ◌∙◌}
use Rattle.std.specs.Fmt.{decimal}
use Rattle.lr_base.specs.Meaning.{is_printable}
use Rattle.lr_words.specs.TextLaws.{decimal-printable}
use Rattle.svc_tally.proofs.counts.TallyService.read.Goals as goal
use Rattle.svc_tally.proofs.counts.TallyService.read.Goals.{in-Read+in_ok-put_number, in_default}

pub returns-clause-printable : goal.returns-clause-printable
returns-clause-printable c = elim c.match-op.branch [
  | in-Read+in_ok-put_number w ↦ ap is_printable (w.answer-is ∙ w.in_ok-put_number.ensures.ok ∙ ap (λ text. text ++ decimal w.count.result) c.new-answer.ensures) ∙ decimal-printable w.count.result
  | in_default w ↦ ap is_printable (w.answer-is ∙ c.new-answer.ensures) ∙ refl
]
