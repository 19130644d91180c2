use Rattle.std.proofs.Common.{ap, ◌∙◌, ◌++◌}
use Rattle.std.proofs.lemmas.List.{append_assoc}
use Rattle.lr_words.specs.Formats.{word_format, words_format}
use Rattle.lr_words.specs.Tables.{table_bytes}
use Rattle.svc_claims.proofs.value.ClaimsService.put.Goals as goal

pub returns-clause-ok : goal.returns-clause-ok
returns-clause-ok c =
    let owners = table_bytes word_format c.self.inside.owners in
    let notes = table_bytes words_format c.self.inside.notes in
    let joined = ap (λ out. out ++ notes) c.in_ok-put.ensures.ok ∙ append_assoc c.args.out.now owners notes in
    rw (← c.self.view_is, ← joined) c.put-2.ensures.ok
