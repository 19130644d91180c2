-- Tables of executed calls.
use Rattle.std.proofs.Common.{◌≡◌, ◌∙◌, Bool, true, false, cond, List, length, None, Some, ap, refl, subst, sym, ℕ}
use Rattle.std.specs.Option.{ForSome}
use Rattle.lr_base.specs.Ascending.{same_cid}
use Rattle.lr_base.specs.declared.names.Cid.{Cid}
use Rattle.lr_base.specs.declared.messages.Known.{Known}
use Rattle.lr_base.specs.CallLaws.{known_of-entered}
use Rattle.lr_base.specs.Calls.{enter_call}
use Rattle.lr_base.specs.NameLaws.{same_cid-is}
use Rattle.lr_base.specs.Rules.{Progress, known_of}
use Rattle.lr_base.specs.Logged.{AllKnown}
use Rattle.lr_value.specs.Applied.{GoesOn}

-- a table with one more call, whose stamp has as many parts
pub AllKnown-entered : (parts : ℕ) (calls new : List (Cid × Known)) (cid : Cid) (known : Known)
    → new ≡ enter_call (cid, known) calls → length known.stamp ≡ parts
    → AllKnown parts calls → AllKnown parts new
AllKnown-entered parts calls new cid known is long all =
    rw is (λ q. subst (λ o. ForSome o (λ k. length k.stamp ≡ parts)) (sym (known_of-entered (cid, known) calls q))
    (go q (same_cid q cid)))
  where
    go : (q : Cid) (own : Bool) → ForSome (cond own (Some known) (known_of calls q)) (λ k. length k.stamp ≡ parts)
    go q true = λ k e. let it : known ≡ k = cc in subst (λ (x : Known). length x.stamp ≡ parts) it long
    go q false = all q

-- and one of which all that was known is known still
pub known_of-stays : (calls new : List (Cid × Known)) (cid : Cid) (known : Known)
    → new ≡ enter_call (cid, known) calls → known_of calls cid ≡ None
    → (q : Cid) (k : Known) → known_of calls q ≡ Some k → known_of new q ≡ Some k
known_of-stays calls new cid known is none q k was =
    rw is (known_of-entered (cid, known) calls q ∙ go (same_cid q cid) refl)
  where
    go : (own : Bool) → same_cid q cid ≡ own → cond own (Some known) (known_of calls q) ≡ Some k
    go true own =
        let lost : Some k ≡ None = sym was ∙ ap (known_of calls) (same_cid-is q cid own) ∙ none in
        cc
    go false own = was

-- nothing was applied
pub stays : {Value : Type 0} (p : Progress Value) → GoesOn p p
stays p = record { parts = refl; stays = λ cid known is. is; known = λ all. all }

-- what goes on from there goes on from before
pub goes_further : {Value : Type 0} (p q r : Progress Value) → GoesOn p q → GoesOn q r → GoesOn p r
goes_further p q r first then = record {
  parts = then.parts ∙ first.parts;
  stays = λ cid known is. then.stays cid known (first.stays cid known is);
  known = λ all.
      let before : AllKnown (length q.val_ts) q.calls = rw first.parts (first.known all) in
      let after : AllKnown (length q.val_ts) r.calls = then.known before in
      rw (← first.parts) after;
}
