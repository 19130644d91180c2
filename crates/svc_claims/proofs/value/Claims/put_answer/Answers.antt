use Rattle.std.proofs.Common.{◌∷◌, []}
use Rattle.std.specs.Prelude.{unwrap_or}
use Rattle.std.specs.FinMap as map
use Rattle.lr_words.specs.Formats.{words_of}
use Rattle.lr_words.specs.TextLaws.{words-written}
use Rattle.svc_claims.proofs.value.Claims.put_answer.Goals as goal

pub returns-clause-printable : goal.returns-clause-printable
returns-clause-printable c =
    words-written c.put_words.result (unwrap_or (map.get c.args.self.now.owners c.args.name.now) (45 ∷ [])) (words_of c.args.self.now.notes c.args.name.now) c.in_ok-put_owner.ensures.printable (rw (← c.self.view_is) c.put_words.ensures.real)
