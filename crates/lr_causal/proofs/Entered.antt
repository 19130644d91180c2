-- Calls that were entered in a table and leave it again.
use Rattle.std.proofs.Common.{◌≡◌, ◌∙◌, ◌++◌, ◌||◌, List, [], ◌∷◌, refl, sym, ap, ℕ, Bool, true, false, cond}
use Rattle.std.specs.Prelude.{filter}
use Rattle.std.proofs.Common.{Some, None, take, drop, length, ◌≤◌, ◌⊎◌, inl, inr}
use Rattle.std.proofs.Math.Seq.{drop-length, take-length}
use Rattle.std.proofs.lemmas.List.{drop-append-le, take-append-drop, take-append-le}
use Rattle.std.specs.List.{AllByRecursion}
use Rattle.lr_base.specs.CallLaws.{none-known}
use Rattle.lr_base.specs.Calls.{enter_call, up_to_call}
use Rattle.lr_base.specs.Ascending.{same_cid}
use Rattle.lr_base.specs.Logged.{AllKnown}
use Rattle.lr_base.specs.NameLaws.{same_cid-is, same_cid-self, same_cid-sym}
use Rattle.lr_base.specs.Rules.{known_of}
use Rattle.lr_base.specs.declared.names.Cid.{Cid}
use Rattle.lr_base.specs.declared.messages.Known.{Known}
use Rattle.lr_calls.specs.TableLaws.{known_of-without, without-append, without-none}
use Rattle.lr_calls.specs.Tables.{is_named, without}
use Rattle.lr_causal.proofs.Kept.{filter-insert}

-- a table without a call that it doesn't have
pub without-unknown : (cid : Cid) (calls : List (Cid × Known)) → known_of calls cid ≡ None
    → without (cid ∷ []) calls ≡ calls
without-unknown cid calls none = go calls (none-known calls cid none)
  where
    go : (es : List (Cid × Known)) → AllByRecursion (λ e. same_cid cid e.0 ≡ false) es → without (cid ∷ []) es ≡ es
    go [] all = refl
    go (e ∷ es) all =
        let is : same_cid e.0 cid ≡ false = same_cid-sym e.0 cid ∙ all.0 in
        rw is (ap (λ (l : List (Cid × Known)). e ∷ l) (go es all.1))

-- or without the one that was entered
pub without-entered : (cid : Cid) (known : Known) (calls : List (Cid × Known)) → known_of calls cid ≡ None
    → without (cid ∷ []) (enter_call (cid, known) calls) ≡ calls
without-entered cid known calls none =
    filter-insert (λ e. is_named (cid ∷ []) e.0) up_to_call (cid, known) calls
    (ap (λ b. b || false) (same_cid-self cid)) ∙ without-unknown cid calls none

-- what a table that is being entered keeps stays where a call comes to those that were entered
pub kept-entered : (before : ℕ) (cid : Cid) (known : Known) (entered now : List Cid) (calls after : List (Cid × Known))
    → before ≤ length entered → known_of calls cid ≡ None → now ≡ entered ++ cid ∷ []
    → (after ≡ enter_call (cid, known) calls) ⊎ (after ≡ calls)
    → ◌≡◌ {A = List Cid × List (Cid × Known)} (take before now, without (drop before now) after)
    (take before entered, without (drop before entered) calls)
kept-entered before cid known entered now calls after within none is either =
    rw is (λ i. (take-append-le before entered (cid ∷ []) within i, behind i))
  where
    alone : (after ≡ enter_call (cid, known) calls) ⊎ (after ≡ calls) → without (cid ∷ []) after ≡ calls
    alone (inl e) = ap (without (cid ∷ [])) e ∙ without-entered cid known calls none
    alone (inr e) = ap (without (cid ∷ [])) e ∙ without-unknown cid calls none

    behind : without (drop before (entered ++ cid ∷ [])) after ≡ without (drop before entered) calls
    behind =
        ap (λ cids. without cids after) (drop-append-le before entered (cid ∷ []) within)
        ∙ without-append (drop before entered) (cid ∷ []) after ∙ ap (without (drop before entered)) (alone either)

-- so that what it keeps at last is what it had at first
pub kept-is : (before first : ℕ) (now es entered : List Cid) (after calls table : List (Cid × Known))
    → entered ≡ es → first ≡ length es → table ≡ calls
    → ◌≡◌ {A = List Cid × List (Cid × Known)} (take before now, without (drop before now) after)
    (take first entered, without (drop first entered) table)
    → (take before now ≡ es) × (without (drop before now) after ≡ calls)
kept-is before first now es entered after calls table noted count is kept = (
  ap (λ p. p.0) kept ∙ (λ i. take (count i) (noted i)) ∙ take-length es,
  ap (λ p. p.1) kept ∙ (λ i. without (drop (count i) (noted i)) (is i))
      ∙ ap (λ (l : List Cid). without l calls) (drop-length es) ∙ without-none calls,
)

-- and without all that was entered it is what it was without what was entered before
pub kept-undone : (before : ℕ) (now es : List Cid) (after calls : List (Cid × Known)) → take before now ≡ es
    → without (drop before now) after ≡ calls → without now after ≡ without es calls
kept-undone before now es after calls first rest =
    ap (λ (l : List Cid). without l after) (sym (take-append-drop before now))
    ∙ without-append (take before now) (drop before now) after ∙ (λ i. without (first i) (rest i))

-- what is known of a call that didn't leave was known before
pub AllKnown-without : (parts : ℕ) (cids : List Cid) (calls left : List (Cid × Known)) → left ≡ without cids calls
    → AllKnown parts calls → AllKnown parts left
AllKnown-without parts cids calls left is all =
    rw is (λ cid known e. all cid known (go cid known (is_named cids cid) refl (sym (known_of-without cids calls cid) ∙ e)))
  where
    go : (cid : Cid) (known : Known) (t : Bool) → is_named cids cid ≡ t
        → cond (is_named cids cid) None (known_of calls cid) ≡ Some known → known_of calls cid ≡ Some known
    go cid known true named e = let none : None ≡ Some known = rw named at e in cc
    go cid known false named e = let is : known_of calls cid ≡ Some known = rw named at e in is

-- a table under another name
pub AllKnown-along : (parts : ℕ) (calls same : List (Cid × Known)) → same ≡ calls → AllKnown parts calls → AllKnown parts same
AllKnown-along parts calls same is all = rw is all

module _ (keep : Cid → Bool) where
  -- a call that is known among those that stay is one that stays
  known-stays : (calls : List (Cid × Known)) (q : Cid) (known : Known)
      → known_of (filter (λ e. keep e.0) calls) q ≡ Some known → keep q ≡ true
  known-stays [] q known is = let none : None ≡ Some known = is in cc
  known-stays (e ∷ calls) q known is = go (keep e.0) refl (same_cid q e.0) refl is (known-stays calls q known)
    where
      go : (s : Bool) → keep e.0 ≡ s → (t : Bool) → same_cid q e.0 ≡ t
          → known_of (cond s (e ∷ filter (λ x. keep x.0) calls) (filter (λ x. keep x.0) calls)) q ≡ Some known
          → (known_of (filter (λ x. keep x.0) calls) q ≡ Some known → keep q ≡ true) → keep q ≡ true
      go true stays true same is rest = ap keep (same_cid-is q e.0 same) ∙ stays
      go true stays false same is rest =
          let later : known_of (filter (λ x. keep x.0) calls) q ≡ Some known = rw same at is in rest later
      go false stays t same is rest = rest is

  -- and was known before
  known-before : (calls : List (Cid × Known)) (q : Cid) (known : Known)
      → known_of (filter (λ e. keep e.0) calls) q ≡ Some known → known_of calls q ≡ Some known
  known-before [] q known is = is
  known-before (e ∷ calls) q known is =
      go (keep e.0) refl (same_cid q e.0) refl is (known-before calls q known)
      (λ later. known-stays calls q known later)
    where
      go : (s : Bool) → keep e.0 ≡ s → (t : Bool) → same_cid q e.0 ≡ t
          → known_of (cond s (e ∷ filter (λ x. keep x.0) calls) (filter (λ x. keep x.0) calls)) q ≡ Some known
          → (known_of (filter (λ x. keep x.0) calls) q ≡ Some known → known_of calls q ≡ Some known)
          → (known_of (filter (λ x. keep x.0) calls) q ≡ Some known → keep q ≡ true)
          → known_of (e ∷ calls) q ≡ Some known
      go true stays true same is rest own = rw same (let here : Some e.1 ≡ Some known = rw same at is in here)
      go true stays false same is rest own =
          let later : known_of (filter (λ x. keep x.0) calls) q ≡ Some known = rw same at is in
          rw same (rest later)
      go false stays true same is rest own =
          let no : false ≡ true = sym stays ∙ ap keep (sym (same_cid-is q e.0 same)) ∙ own is in cc
      go false stays false same is rest own = rw same (rest is)

  -- what is known of a call that stays was known before
  pub AllKnown-filter : (parts : ℕ) (calls left : List (Cid × Known)) → left ≡ filter (λ e. keep e.0) calls
      → AllKnown parts calls → AllKnown parts left
  AllKnown-filter parts calls left is all = rw is (λ cid known e. all cid known (known-before calls cid known e))
