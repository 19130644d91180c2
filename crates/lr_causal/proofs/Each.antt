-- What holds of each element of a list.
use Rattle.std.proofs.Common.{◌≡◌, ◌+◌, ◌<◌, ◌⊎◌, inl, inr, ℕ, zero, suc, Bool, true, false, List, [], ◌∷◌}
use Rattle.std.proofs.Common.{refl, sym, ◌∙◌, Some, None, subst, arith}
use Rattle.std.proofs.Math.Nat.{eq-or-lt_of_le}
use Rattle.std.specs.Prelude.{filter, slice_get}
use Rattle.std.specs.Option.{ForSome}
use Rattle.lr_base.specs.Insertion.{insert_all_by, insert_by}

-- something holds of each element of a list
abbrev pub Each : {X : Type 0} → (X → Type 0) → List X → Type 0
Each P xs = (k : ℕ) → ForSome (slice_get xs k) P

module _ {X : Type 0} (P : X → Type 0) where
  -- a list of such elements with one more in front
  pub Each-front : (x : X) (xs : List X) → P x → Each P xs → Each P (x ∷ xs)
  Each-front x xs own all zero = λ y e. let same : x ≡ y = cc in subst P same own
  Each-front x xs own all (suc k) = all k

  -- those that pass a test
  pub Each-filter : (test : X → Bool) (xs : List X) → Each P xs → Each P (filter test xs)
  Each-filter test [] all = all
  Each-filter test (x ∷ xs) all = go (test x) refl (Each-filter test xs (λ k. all (suc k)))
    where
      go : (passes : Bool) → test x ≡ passes → Each P (filter test xs) → Each P (filter test (x ∷ xs))
      go true is later = rw is (Each-front x (filter test xs) (all 0 x refl) later)
      go false is later = rw is later

  -- where each that passes a test is such an element
  pub Each-passes : (test : X → Bool) (xs : List X) → ((x : X) → test x ≡ true → P x) → Each P (filter test xs)
  Each-passes test [] passes = λ k x e. let none : None ≡ Some x = e in cc
  Each-passes test (x ∷ xs) passes = go (test x) refl (Each-passes test xs passes)
    where
      go : (here : Bool) → test x ≡ here → Each P (filter test xs) → Each P (filter test (x ∷ xs))
      go true is later = rw is (Each-front x (filter test xs) (passes x is) later)
      go false is later = rw is later

module _ {X : Type 0} (P : X → Type 0) (goes_before : X → X → Bool) where
  -- a sorted list of such elements with one more
  pub Each-insert : (x : X) (xs : List X) → P x → Each P xs → Each P (insert_by goes_before x xs)
  Each-insert x [] own all = Each-front P x [] own all
  Each-insert x (y ∷ xs) own all = go (goes_before x y) refl (Each-insert x xs own (λ k. all (suc k)))
    where
      go : (here : Bool) → goes_before x y ≡ here → Each P (insert_by goes_before x xs) → Each P (insert_by goes_before x (y ∷ xs))
      go true is later = rw is (Each-front P x (y ∷ xs) own all)
      go false is later = rw is (Each-front P y (insert_by goes_before x xs) (all 0 y refl) later)

  -- with more of them
  pub Each-insert_all : (more xs : List X) → Each P more → Each P xs → Each P (insert_all_by goes_before more xs)
  Each-insert_all [] xs own all = all
  Each-insert_all (x ∷ more) xs own all = Each-insert_all more (insert_by goes_before x xs) (λ k. own (suc k)) (Each-insert x xs (own 0 x refl) all)

module _ {X : Type 0} (P : X → Type 0) where
  -- what holds of the first ones and of the next holds of one more
  pub each-more : (xs : List X) (at : ℕ) (here : X) → slice_get xs at ≡ Some here → P here
      → ((k : ℕ) (x : X) → k < at → slice_get xs k ≡ Some x → P x)
      → (k : ℕ) (x : X) → k < at + 1 → slice_get xs k ≡ Some x → P x
  each-more xs at here is own all k x below e = go (eq-or-lt_of_le (omega arith))
    where
      go : (k ≡ at) ⊎ (k < at) → P x
      go (inl same) =
          let e' : slice_get xs at ≡ Some x = rw (← same) e in
          let both : Some here ≡ Some x = sym is ∙ e' in
          let is' : here ≡ x = cc in subst P is' own
      go (inr before) = all k x before e
