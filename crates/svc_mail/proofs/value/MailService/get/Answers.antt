use Rattle.svc_mail.specs.Mail.{mail_format}
use Rattle.svc_mail.proofs.value.MailService.get.Goals as goal

pub returns : goal.returns
returns c = c.decoded.ensures (mail_format.field c.args.bytes.now) c.field.ensures
