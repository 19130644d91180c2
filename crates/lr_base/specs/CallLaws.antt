-- What is known by a table of executed calls, and that this tells it apart.
use Rattle.std.proofs.Common.{◌≡◌, Bool, true, false, cond, ◌||◌, List, [], ◌∷◌, map, refl, sym, ap, ◌∙◌}
use Rattle.std.proofs.Common.{Some, None, is_some, true≢false, not, subst}
use Rattle.std.specs.List.{AllByRecursion}
use Rattle.lr_base.specs.Ascending.{cid_before, insert_cid, same_cid}
use Rattle.lr_base.specs.Calls.{AreByCall, enter_call, enter_calls, up_to_call}
use Rattle.lr_base.specs.InsertionLaws.{ascends-inserted, each-map}
use Rattle.lr_base.specs.NameLaws.{cid-apart, cid-neither, cid-other, same_cid-is, same_cid-self, cid-trans}
use Rattle.lr_base.specs.Rules.{known_of}
use Rattle.lr_base.specs.declared.messages.Known.{Known}
use Rattle.lr_base.specs.declared.names.Cid.{Cid}

-- a call of which nothing is known is that of no entry
pub none-known : (calls : List (Cid × Known)) (cid : Cid) → known_of calls cid ≡ None
    → AllByRecursion (λ e. same_cid cid e.0 ≡ false) calls
none-known [] cid none = tt
none-known (e ∷ calls) cid none = go (same_cid cid e.0) refl (none-known calls cid)
  where
    go : (same : Bool) → same_cid cid e.0 ≡ same
        → (known_of calls cid ≡ None → AllByRecursion (λ x. same_cid cid x.0 ≡ false) calls)
        → AllByRecursion (λ x. same_cid cid x.0 ≡ false) (e ∷ calls)
    go true is rest = let none' : Some e.1 ≡ None = rw is at none in cc
    go false is rest = let none' : known_of calls cid ≡ None = rw is at none in (is, rest none')

-- and back
pub known-none : (calls : List (Cid × Known)) (cid : Cid) → AllByRecursion (λ e. same_cid cid e.0 ≡ false) calls
    → known_of calls cid ≡ None
known-none [] cid all = refl
known-none (e ∷ calls) cid all = let is = all.0 in rw is (known-none calls cid all.1)

-- of a call that is entered its entry is known, and of each other what was
pub known_of-entered : (e : Cid × Known) (calls : List (Cid × Known)) (cid : Cid)
    → known_of (enter_call e calls) cid ≡ cond (same_cid cid e.0) (Some e.1) (known_of calls cid)
known_of-entered e [] cid = refl
known_of-entered e (y ∷ calls) cid =
    go (cid_before y.0 e.0) refl (same_cid cid y.0) refl (same_cid cid e.0) refl (known_of-entered e calls cid)
  where
    go : (behind : Bool) → cid_before y.0 e.0 ≡ behind → (s : Bool) → same_cid cid y.0 ≡ s → (t : Bool)
        → same_cid cid e.0 ≡ t
        → known_of (enter_call e calls) cid ≡ cond (same_cid cid e.0) (Some e.1) (known_of calls cid)
        → known_of (enter_call e (y ∷ calls)) cid ≡ cond (same_cid cid e.0) (Some e.1) (known_of (y ∷ calls) cid)
    go false first s here t own rest = rw first refl
    go true behind true here true own rest =
        absurd (cid-apart y.0 e.0 behind (sym (same_cid-is cid y.0 here) ∙ same_cid-is cid e.0 own))
    go true behind true here false own rest = rw (behind, here, own) refl
    go true behind false here t own rest = rw (behind, here) rest

-- what is known of the calls that are entered and of those that were there
pub some-entered : (e : Cid × Known) (calls : List (Cid × Known)) (cid : Cid)
    → is_some (known_of (enter_call e calls) cid) ≡ (same_cid cid e.0 || is_some (known_of calls cid))
some-entered e calls cid = ap is_some (known_of-entered e calls cid) ∙ go (same_cid cid e.0)
  where
    go : (t : Bool) → is_some (cond t (Some e.1) (known_of calls cid)) ≡ (t || is_some (known_of calls cid))
    go true = refl
    go false = refl

-- a call that is known is known still where others are entered
pub some-entered_all : (es calls : List (Cid × Known)) (cid : Cid) → is_some (known_of calls cid) ≡ true
    → is_some (known_of (enter_calls es calls) cid) ≡ true
some-entered_all [] calls cid is = is
some-entered_all (e ∷ es) calls cid is =
    some-entered_all es (enter_call e calls) cid (some-entered e calls cid ∙ go (same_cid cid e.0))
  where
    go : (t : Bool) → (t || is_some (known_of calls cid)) ≡ true
    go true = refl
    go false = is

-- calls that are entered where they weren't stand in their order
pub AreByCall-entered : (e : Cid × Known) (calls : List (Cid × Known)) → known_of calls e.0 ≡ None → AreByCall calls
    → AreByCall (enter_call e calls)
AreByCall-entered e calls none order =
    ascends-inserted (λ x y. false) up_to_call e (λ a b. cid_before a.0 b.0)
    (λ y z. cid-trans e.0 y.0 z.0) calls
    (each-map _ _ calls (λ y apart t no goes.
    by_test y apart t goes (cid_before y.0 e.0) refl (cid_before e.0 y.0) refl) (none-known calls e.0 none)) order
  where
    by_test : (y : Cid × Known) → same_cid e.0 y.0 ≡ false → (t : Bool) → up_to_call e y ≡ t → (s : Bool)
        → cid_before y.0 e.0 ≡ s → (r : Bool) → cid_before e.0 y.0 ≡ r
        → cond t (cid_before e.0 y.0) (cid_before y.0 e.0) ≡ true
    by_test y apart true goes true behind r before = let no : false ≡ true = sym (ap not behind) ∙ goes in cc
    by_test y apart true goes false behind true before = before
    by_test y apart true goes false behind false before =
        let one : e.0 ≡ y.0 = cid-neither e.0 y.0 before behind in
        let same : same_cid e.0 y.0 ≡ true = subst (λ c. same_cid e.0 c ≡ true) one (same_cid-self e.0) in
        absurd (true≢false (sym same ∙ apart))
    by_test y apart false goes true behind r before = behind
    by_test y apart false goes false behind r before = let no : true ≡ false = sym (ap not behind) ∙ goes in cc

-- its calls are those that were there and the new one
pub cids-entered : (e : Cid × Known) (calls : List (Cid × Known))
    → map (λ x. x.0) (enter_call e calls) ≡ insert_cid e.0 (map (λ x. x.0) calls)
cids-entered e [] = refl
cids-entered e (y ∷ calls) = go (up_to_call e y) refl (cids-entered e calls)
  where
    go : (first : Bool) → up_to_call e y ≡ first
        → map (λ x. x.0) (enter_call e calls) ≡ insert_cid e.0 (map (λ x. x.0) calls)
        → map (λ x. x.0) (enter_call e (y ∷ calls)) ≡ insert_cid e.0 (map (λ x. x.0) (y ∷ calls))
    go true first rest = rw first refl
    go false first rest = rw first (ap (λ (cids : List Cid). y.0 ∷ cids) rest)

-- of a call before all of a table nothing is known by it
before-none : (cid : Cid) (calls : List (Cid × Known)) → AllByRecursion (λ e. cid_before cid e.0 ≡ true) calls
    → known_of calls cid ≡ None
before-none cid calls all = known-none calls cid (each-map _ _ calls (λ e. cid-other cid e.0) all)

-- an entry of which something is known stands in the table
known-among : (P : Cid → Type 0) (calls : List (Cid × Known)) (cid : Cid) (known : Known)
    → known_of calls cid ≡ Some known → AllByRecursion (λ e. P e.0) calls → P cid
known-among P [] cid known is all = let none : None ≡ Some known = is in cc
known-among P (e ∷ calls) cid known is all = go (same_cid cid e.0) refl (λ is. known-among P calls cid known is all.1)
  where
    go : (same : Bool) → same_cid cid e.0 ≡ same → (known_of calls cid ≡ Some known → P cid) → P cid
    go true one rest = subst P (sym (same_cid-is cid e.0 one)) all.0
    go false one rest = let is' : known_of calls cid ≡ Some known = rw one at is in rest is'

-- two tables by which the same is known of each call are one
pub same-tables : (s t : List (Cid × Known)) → AreByCall s → AreByCall t
    → ((cid : Cid) → known_of s cid ≡ known_of t cid) → s ≡ t
same-tables [] [] first second same = refl
same-tables [] (y ∷ t) first second same =
    let own : known_of (y ∷ t) y.0 ≡ Some y.1 = let is = same_cid-self y.0 in rw is refl in
    let none : None ≡ Some y.1 = same y.0 ∙ own in
    cc
same-tables (x ∷ s) [] first second same =
    let own : known_of (x ∷ s) x.0 ≡ Some x.1 = let is = same_cid-self x.0 in rw is refl in
    let none : Some x.1 ≡ None = sym own ∙ same x.0 in
    cc
same-tables (x ∷ s) (y ∷ t) first second same =
    λ i. heads i ∷ same-tables s t first.1 second.1 (λ cid. tails cid (same_cid cid x.0) refl) i
  where
    own_first : known_of (x ∷ s) x.0 ≡ Some x.1
    own_first = let is = same_cid-self x.0 in rw is refl

    own_second : known_of (y ∷ t) y.0 ≡ Some y.1
    own_second = let is = same_cid-self y.0 in rw is refl

    keys : x.0 ≡ y.0
    keys = go (same_cid x.0 y.0) refl
      where
        go : (one : Bool) → same_cid x.0 y.0 ≡ one → x.0 ≡ y.0
        go true one = same_cid-is x.0 y.0 one
        go false one =
            let there : known_of (y ∷ t) x.0 ≡ Some x.1 = sym (same x.0) ∙ own_first in
            let there' : known_of t x.0 ≡ Some x.1 = rw one at there in
            let low : cid_before y.0 x.0 ≡ true =
            known-among (λ c. cid_before y.0 c ≡ true) t x.0 x.1 there' second.0 in
            let other : same_cid y.0 x.0 ≡ false = cid-other y.0 x.0 low in
            let here : known_of (x ∷ s) y.0 ≡ Some y.1 = same y.0 ∙ own_second in
            let here' : known_of s y.0 ≡ Some y.1 = rw other at here in
            let high : cid_before x.0 y.0 ≡ true =
            known-among (λ c. cid_before x.0 c ≡ true) s y.0 y.1 here' first.0 in
            absurd (cid-apart x.0 x.0 (cid-trans x.0 y.0 x.0 high low) refl)

    heads : x ≡ y
    heads =
        let known : Some x.1 ≡ Some y.1 =
        sym own_first ∙ same x.0 ∙ ap (known_of (y ∷ t)) keys ∙ own_second in
        let values : x.1 ≡ y.1 = cc in
        λ i. (keys i, values i)

    tails : (cid : Cid) (one : Bool) → same_cid cid x.0 ≡ one → known_of s cid ≡ known_of t cid
    tails cid true one =
        let is = same_cid-is cid x.0 one in
        subst (λ c. known_of s c ≡ known_of t c) (sym is)
        (before-none x.0 s first.0 ∙ sym (before-none x.0 t
        (subst (λ c. AllByRecursion (λ e. cid_before c e.0 ≡ true) t) (sym keys) second.0)))
    tails cid false one =
        let one' : same_cid cid y.0 ≡ false = subst (λ c. same_cid cid c ≡ false) keys one in
        let all = same cid in
        let rest : known_of s cid ≡ known_of t cid = rw (one, one') at all in
        rest
