use Rattle.std.proofs.Common.{ap, ◌∙◌, ◌++◌}
use Rattle.std.proofs.lemmas.List.{append_assoc}
use Rattle.byteorder.specs.Endian.{big_bytes}
use Rattle.lr_base.specs.Formats.{number_format}
use Rattle.lr_words.specs.Formats.{words_format}
use Rattle.lr_words.specs.Tables.{table_bytes}
use Rattle.svc_mail.proofs.value.MailService.put.Goals as goal

pub returns-clause-ok : goal.returns-clause-ok
returns-clause-ok c =
    let out = c.args.out.now in
    let last = big_bytes 8 c.self.inside.last in
    let users = table_bytes number_format c.self.inside.users in
    let boxes = table_bytes words_format c.self.inside.boxes in
    let joined =
    ap (λ text. text ++ boxes) (c.in_ok-put.ensures.ok ∙ ap (λ text. text ++ users) c.in_ok-put_number_field.ensures)
    ∙ append_assoc (out ++ last) users boxes ∙ append_assoc out last (users ++ boxes) in
    rw (← c.self.view_is, ← joined) c.put-2.ensures.ok
