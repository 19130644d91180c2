-- Texts that are put one behind the other.
use Rattle.std.proofs.Common.{◌≡◌, ◌++◌, [], ap, sym, ◌∙◌, append_assoc}
use Rattle.std.proofs.lemmas.List.{append-nil}
use Rattle.std.specs.Prelude.{Result, Ok, Err, OnOk}
use Rattle.lr_base.specs.Bytes.{Bytes}

-- what was put behind what was put stands behind what was there
pub then_put : {A E : Type 0} (r : Result A E) (out a b mid new : Bytes) → mid ≡ out ++ a → OnOk r (new ≡ mid ++ b)
    → OnOk r (new ≡ out ++ (a ++ b))
then_put (Ok x) out a b mid new first second = second ∙ ap (λ t. t ++ b) first ∙ append_assoc out a b
then_put (Err e) out a b mid new first second = tt

-- what was put last, with nothing behind it
pub put_last : {A E : Type 0} (r : Result A E) (b mid new : Bytes) → OnOk r (new ≡ mid ++ b)
    → OnOk r (new ≡ mid ++ (b ++ []))
put_last (Ok x) b mid new put = put ∙ ap (λ t. mid ++ t) (sym (append-nil b))
put_last (Err e) b mid new put = tt
