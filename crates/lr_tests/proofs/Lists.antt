-- Tables that look through all their calls.
use Rattle.std.proofs.Common.{◌≡◌, Bool, true, false, List, [], ◌∷◌, Option, Some, None, is_some, refl, sym, ap, ◌∙◌}
use Rattle.std.proofs.Common.{◌||◌}
use Rattle.std.specs.Prelude.{find}
use Rattle.std.specs.Borrow.{Bor}
use Rattle.std.specs.Option.{option_copied}
use Rattle.lr_base.specs.Ascending.{same_cid}
use Rattle.lr_base.specs.CallLaws.{some-entered}
use Rattle.lr_base.specs.Calls.{enter_call, enter_calls}
use Rattle.lr_base.specs.Rules.{known_of}
use Rattle.lr_base.specs.declared.messages.Known.{Known}
use Rattle.lr_base.specs.declared.names.Cid.{Cid}

-- whether one of the entries is found, first or behind
found-first : (e : Cid × Known) (entries : List (Cid × Known)) (cid : Cid)
    → is_some (find (λ x. same_cid cid x.0) (e ∷ entries))
    ≡ (same_cid cid e.0 || is_some (find (λ x. same_cid cid x.0) entries))
found-first e entries cid = go (same_cid cid e.0) refl
  where
    go : (same : Bool) → same_cid cid e.0 ≡ same → is_some (find (λ x. same_cid cid x.0) (e ∷ entries))
        ≡ (same_cid cid e.0 || is_some (find (λ x. same_cid cid x.0) entries))
    go true is = rw is refl
    go false is = rw is refl

-- a call is known where an entry of it is found, or it was before
found-known : (entries calls : List (Cid × Known)) (cid : Cid)
    → (is_some (find (λ e. same_cid cid e.0) entries) || is_some (known_of calls cid))
    ≡ is_some (known_of (enter_calls entries calls) cid)
found-known [] calls cid = refl
found-known (e ∷ entries) calls cid =
    let later = is_some (find (λ x. same_cid cid x.0) entries) in
    ap (λ b. b || is_some (known_of calls cid)) (found-first e entries cid)
    ∙ turned (same_cid cid e.0) later (is_some (known_of calls cid))
    ∙ ap (λ b. later || b) (sym (some-entered e calls cid)) ∙ found-known entries (enter_call e calls) cid
  where
    turned : (a b c : Bool) → ((a || b) || c) ≡ (b || (a || c))
    turned true true c = refl
    turned true false c = refl
    turned false true c = refl
    turned false false c = refl

pub found_known : (entries : List (Cid × Known)) (cid : Cid)
    → is_some (find (λ e. same_cid cid e.0) entries) ≡ is_some (known_of (enter_calls entries []) cid)
found_known entries cid = none (is_some (find (λ e. same_cid cid e.0) entries)) ∙ found-known entries [] cid
  where
    none : (b : Bool) → b ≡ (b || false)
    none true = refl
    none false = refl

-- what a reference points to is there where the reference is
pub some-copied : {A : Type 0} (found : Option (Bor A)) → is_some (option_copied found) ≡ is_some found
some-copied None = refl
some-copied (Some found) = refl
