use Rattle.std.specs.FinMap as map
use Rattle.lr_words.specs.Formats.{words_of}
use Rattle.lr_words.specs.TextLaws.{words-written}
use Rattle.svc_mail.specs.Mail.{number_text}
use Rattle.svc_mail.specs.MailLaw.{number-printable}
use Rattle.svc_mail.proofs.value.Mail.put_answer.Goals as goal

pub returns-clause-printable : goal.returns-clause-printable
returns-clause-printable c =
    let found = map.get c.self.inside.users c.args.user.now in
    rw (← c.self.view_is) (words-written c.put_words.result (number_text found) (words_of c.self.inside.boxes c.args.user.now) (number-printable found) c.put_words.ensures.real)
