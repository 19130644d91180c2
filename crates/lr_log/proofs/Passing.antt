-- The items that pass a test, and what is left without them.
use Rattle.std.proofs.Common.{◌≡◌, ◌<◌, ◌≤◌, ℕ, zero, suc, Bool, true, false, cond, List, [], ◌∷◌}
use Rattle.std.proofs.Common.{length, get_or, Bor, refl, sym, ap, ◌∙◌, arith, ◌+◌, filter, not, take}
use Rattle.std.specs.Prelude.{find, Option, Some, None, is_some, ◌||◌}
use Rattle.std.specs.List.{AllByRecursion, list_any}
use Rattle.std.specs.Option.{option_copied, option_map, option_or}
use Rattle.std.proofs.lemmas.List.{take_more}
use Rattle.std.proofs.lemmas.List.Filters.{length-filter_both}
use Rattle.std.proofs.lemmas.List.Folds.{find-append}
use Rattle.lr_base.specs.Ascending.{is_before}
use Rattle.lr_base.specs.NameLaws.{before-apart}
use Rattle.lr_base.specs.Places.{AreInOrder}
use Rattle.lr_base.specs.declared.names.Spot.{Spot}
use Rattle.lr_log.specs.ItemLaws.{each-map}
use Rattle.lr_log.specs.Rows.{same_spot, together}
use Rattle.lr_log.proofs.Entries.{same_spot-refl, same_spot-same}
use Rattle.lr_log.proofs.Finding.{each-found}
use Rattle.lr_log.proofs.RowLemmas.{together-more}

module _ {A : Type 0} (test : A → Bool) where
  -- something is found where something passes
  pub any-found : (xs : List A) → is_some (find test xs) ≡ list_any test xs
  any-found [] = refl
  any-found (x ∷ xs) = go (test x) (any-found xs)
    where
      go : (t : Bool) → is_some (find test xs) ≡ list_any test xs
          → is_some (cond t (Some x) (find test xs)) ≡ (t || list_any test xs)
      go true rest = refl
      go false rest = rest

  -- among one more too nothing is found
  pub none-more : (xs : List A) (k : ℕ) (x : A) → k < length xs → x ≡ get_or xs k x → find test (take k xs) ≡ None
      → test x ≡ false → find test (take (k + 1) xs) ≡ None
  none-more xs k x less at none fails =
      ap (find test) (take_more xs k x less) ∙ find-append test (take k xs) (get_or xs k x ∷ [])
      ∙ (rw (← at, none, fails) refl)

  -- the first that passes is found
  pub found-here : (xs : List A) (k : ℕ) (x : A) → k < length xs → x ≡ get_or xs k x → find test (take k xs) ≡ None
      → test x ≡ true → find test xs ≡ Some x
  found-here [] k x less at none passes = absurd (omega arith)
  found-here (y ∷ xs) zero x less at none passes = rw (← at, passes) refl
  found-here (y ∷ xs) (suc k) x less at none passes = go (test y) refl none
      (λ rest. found-here xs k x (omega arith) at rest passes)
    where
      go : (t : Bool) → test y ≡ t → cond t (Some y) (find test (take k xs)) ≡ None
          → (find test (take k xs) ≡ None → find test xs ≡ Some x) → cond t (Some y) (find test xs) ≡ Some x
      go true e none rest = cc
      go false e none rest = rest none

  -- without some that pass, those that don't are the same
  pub others-stay : (xs : List A) (keep : A → Bool) → AllByRecursion (λ x. keep x ≡ false → test x ≡ true) xs
      → filter (λ x. not (test x)) (filter keep xs) ≡ filter (λ x. not (test x)) xs
  others-stay [] keep left = refl
  others-stay (x ∷ xs) keep left = go (keep x) refl (test x) refl (others-stay xs keep left.1)
    where
      go : (k : Bool) → keep x ≡ k → (t : Bool) → test x ≡ t
          → filter (λ y. not (test y)) (filter keep xs) ≡ filter (λ y. not (test y)) xs
          → filter (λ y. not (test y)) (cond k (x ∷ filter keep xs) (filter keep xs)) ≡ cond (not t)
          (x ∷ filter (λ y. not (test y)) xs) (filter (λ y. not (test y)) xs)
      go true e true f rest = rw f rest
      go true e false f rest = rw f (ap (λ (ys : List A). x ∷ ys) rest)
      go false e true f rest = rest
      go false e false f rest = let no : true ≡ false = sym (left.0 e) ∙ f in cc

  -- where nothing is found all stay
  pub all-stay : (xs : List A) → find test xs ≡ None → filter (λ x. not (test x)) xs ≡ xs
  all-stay [] none = refl
  all-stay (x ∷ xs) none = go (test x) refl none (λ rest. all-stay xs rest)
    where
      go : (t : Bool) → test x ≡ t → cond t (Some x) (find test xs) ≡ None
          → (find test xs ≡ None → filter (λ y. not (test y)) xs ≡ xs)
          → cond (not t) (x ∷ filter (λ y. not (test y)) xs) (filter (λ y. not (test y)) xs) ≡ x ∷ xs
      go true e none rest = cc
      go false e none rest = ap (λ (ys : List A). x ∷ ys) (rest none)

module _ {A : Type 0} (spot_of : A → Spot) (test : A → Bool) where
  none-some : (s : Spot) → ◌≡◌ {A = Option Spot} None (Some s) → ⊥
  none-some s e = cc

  same-some : (s t : Spot) → Some s ≡ Some t → s ≡ t
  same-some s t e = cc

  -- of items in order, what stands at the spot of the first that passes does
  pub same-passes : (xs : List A) (s : Spot) → AreInOrder spot_of xs → option_map spot_of (find test xs) ≡ Some s
      → AllByRecursion (λ x. not (same_spot (spot_of x) s) ≡ false → test x ≡ true) xs
  same-passes [] s order is = tt
  same-passes (x ∷ xs) s order is = go (test x) refl is (same-passes xs s order.1)
    where
      shown : (t : Bool) → not t ≡ false → t ≡ true
      shown true e = refl
      shown false e = sym e

      -- an item behind x has another spot
      behind : (y : A) → is_before (spot_of x) (spot_of y) ≡ true → spot_of x ≡ s
          → not (same_spot (spot_of y) s) ≡ false → test y ≡ true
      behind y before at e = absurd (before-apart (spot_of x) (spot_of y) before
          (at ∙ sym (same_spot-same (spot_of y) s (shown (same_spot (spot_of y) s) e))))

      go : (t : Bool) → test x ≡ t → option_map spot_of (cond t (Some x) (find test xs)) ≡ Some s
          → (option_map spot_of (find test xs) ≡ Some s
          → AllByRecursion (λ y. not (same_spot (spot_of y) s) ≡ false → test y ≡ true) xs)
          → AllByRecursion (λ y. not (same_spot (spot_of y) s) ≡ false → test y ≡ true) (x ∷ xs)
      go true e is rest = (
        (λ f. e),
        each-map (λ y. is_before (spot_of x) (spot_of y) ≡ true) _ xs
            (λ y before. behind y before (same-some (spot_of x) s is)) order.0,
      )
      go false e is rest = (
        (λ f. absurd (found (find test xs) refl is
            (same_spot-same (spot_of x) s (shown (same_spot (spot_of x) s) f)))),
        rest is,
      )
        where
          found : (o : Option A) → find test xs ≡ o → option_map spot_of o ≡ Some s → spot_of x ≡ s → ⊥
          found None f is at = none-some s is
          found (Some y) f is at =
              before-apart (spot_of x) (spot_of y) (each-found test (λ z. is_before (spot_of x) (spot_of z) ≡ true) xs
              y order.0 f) (at ∙ sym (same-some (spot_of y) s is))

  -- without it there are fewer
  pub fewer-left : (xs : List A) (s : Spot) → option_map spot_of (find test xs) ≡ Some s
      → length (filter (λ x. not (same_spot (spot_of x) s)) xs) < length xs
  fewer-left [] s is = absurd (none-some s is)
  fewer-left (x ∷ xs) s is = go (test x) refl is (fewer-left xs s) (same_spot (spot_of x) s) refl
    where
      most : length (filter (λ y. not (same_spot (spot_of y) s)) xs) ≤ length xs
      most =
          let both = length-filter_both (λ y. not (same_spot (spot_of y) s)) (λ y. not (not (same_spot (spot_of y) s)))
          (λ y. refl) xs in omega arith

      go : (t : Bool) → test x ≡ t → option_map spot_of (cond t (Some x) (find test xs)) ≡ Some s
          → (option_map spot_of (find test xs) ≡ Some s
          → length (filter (λ y. not (same_spot (spot_of y) s)) xs) < length xs)
          → (b : Bool) → same_spot (spot_of x) s ≡ b
          → length (cond (not b) (x ∷ filter (λ y. not (same_spot (spot_of y) s)) xs)
          (filter (λ y. not (same_spot (spot_of y) s)) xs)) < suc (length xs)
      go t e is rest true at = let m = most in omega arith
      go false e is rest false at = let r = rest is in omega arith
      go true e is rest false at = absurd (apart (sym
          (ap (λ k. same_spot k s) (same-some (spot_of x) s is) ∙ same_spot-refl s) ∙ at))
        where
          apart : true ≡ false → ⊥
          apart e = cc

-- a copy is there where something is
pub some-copied : {A : Type 0} (o : Option (Bor A)) → is_some (option_copied o) ≡ is_some o
some-copied None = refl
some-copied (Some x) = refl

-- what is mapped to nothing is nothing
pub map-none : {A B : Type 0} (f : A → B) (o : Option A) → option_map f o ≡ None → o ≡ None
map-none f None is = refl
map-none f (Some x) is = cc

module _ {A : Type 0} (test : A → Bool) where
  -- with one more row too nothing is found
  pub none-in-row : (rows : List (List A)) (k : ℕ) (row : List A) → k < length rows → row ≡ get_or rows k row
      → find test (together (take k rows)) ≡ None → find test row ≡ None
      → find test (together (take (k + 1) rows)) ≡ None
  none-in-row rows k row less at none own =
      ap (λ rs. find test (together rs)) (take_more rows k row less)
      ∙ ap (find test) (together-more (take k rows) (get_or rows k row))
      ∙ find-append test (together (take k rows)) (get_or rows k row)
      ∙ (rw (← at, none, own) refl)

  -- the first row with something has the first of all
  pub found-in-row : {B : Type 0} (f : A → B) (rows : List (List A)) (k : ℕ) (row : List A) (b : B) → k < length rows
      → row ≡ get_or rows k row → find test (together (take k rows)) ≡ None → option_map f (find test row) ≡ Some b
      → option_map f (find test (together rows)) ≡ Some b
  found-in-row f [] k row b less at none own = absurd (omega arith)
  found-in-row f (r ∷ rows) zero row b less at none own =
      ap (option_map f) (find-append test r (together rows))
      ∙ go (find test r) (ap (λ x. option_map f (find test x)) (sym at) ∙ own)
    where
      go : (o : Option A) → option_map f o ≡ Some b → option_map f (option_or o (find test (together rows))) ≡ Some b
      go None is = cc
      go (Some x) is = is
  found-in-row f (r ∷ rows) (suc k) row b less at none own =
      ap (option_map f) (find-append test r (together rows))
      ∙ go (find test r) (sym (find-append test r (together (take k rows))) ∙ none)
      (λ rest. found-in-row f rows k row b (omega arith) at rest own)
    where
      go : (o : Option A) → option_or o (find test (together (take k rows))) ≡ None
          → (find test (together (take k rows)) ≡ None → option_map f (find test (together rows)) ≡ Some b)
          → option_map f (option_or o (find test (together rows))) ≡ Some b
      go None is rest = rest is
      go (Some x) is rest = cc
