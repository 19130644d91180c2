use Rattle.std.proofs.Common.{◌≡◌, ◌∷◌, [], true, subst, List, ℕ}
use Rattle.std.specs.Prelude.{Option, OnOk, unwrap_or}
use Rattle.lr_base.specs.Meaning.{is_printable}
use Rattle.lr_words.specs.TextLaws.{word-written}
use Rattle.svc_claims.proofs.value.Claims.put_owner.Goals as goal

pub returns-in-Some-clause-printable : goal.returns-in-Some-clause-printable
returns-in-Some-clause-printable c =
    rw (← c.self.view_is) (subst (λ (found : Option (List ℕ)). OnOk c.put_word.result (is_printable (unwrap_or found (45 ∷ [])) ≡ true)) c.in-Some.ensures
    (word-written c.put_word.result c.in-Some.owner.now c.put_word.ensures.real))
