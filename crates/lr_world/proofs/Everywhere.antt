-- Facts about every element of a list, by its index.
use Rattle.std.proofs.Common.{◌≡◌, ℕ, zero, suc, List, [], ◌∷◌, ◌++◌, length, set, take, Some, None, refl, subst, sym, ◌<◌, get_or, ◌∙◌, Option, arith}
use Rattle.std.proofs.lemmas.Option.{slice_get_past, slice_get_read}
use Rattle.std.specs.Prelude.{Bool, true, false, filter, slice_get}
use Rattle.std.specs.Option.{ForSome}

module _ {X : Type 0} where
  -- one element is written
  pub each-set : (xs : List X) (i : ℕ) (y : X) (P : ℕ → X → Type 0) → ((k : ℕ) → ForSome (slice_get xs k) (P k)) → P i y → (k : ℕ) → ForSome (slice_get (set xs i y) k) (P k)
  each-set [] i y P all own k = all k
  each-set (x ∷ xs) zero y P all own zero = λ z e. let same : y ≡ z = cc in subst (λ (v : X). P 0 v) same own
  each-set (x ∷ xs) zero y P all own (suc k) = all (suc k)
  each-set (x ∷ xs) (suc i) y P all own zero = all 0
  each-set (x ∷ xs) (suc i) y P all own (suc k) = each-set xs i y (λ n. P (suc n)) (λ n. all (suc n)) own k

  -- one element comes behind the others
  pub each-push : (xs : List X) (y : X) (P : ℕ → X → Type 0) → ((k : ℕ) → ForSome (slice_get xs k) (P k)) → P (length xs) y → (k : ℕ) → ForSome (slice_get (xs ++ y ∷ []) k) (P k)
  each-push [] y P all own zero = λ z e. let same : y ≡ z = cc in subst (λ (v : X). P 0 v) same own
  each-push [] y P all own (suc k) = λ z e. let none : None ≡ Some z = e in cc
  each-push (x ∷ xs) y P all own zero = all 0
  each-push (x ∷ xs) y P all own (suc k) = each-push xs y (λ n. P (suc n)) (λ n. all (suc n)) own k

  -- the same of a list that is known by an equation
  pub each-pushed : (xs new : List X) (y : X) (P : ℕ → X → Type 0) → new ≡ xs ++ y ∷ [] → ((k : ℕ) → ForSome (slice_get xs k) (P k)) → P (length xs) y → (k : ℕ) → ForSome (slice_get new k) (P k)
  each-pushed xs new y P is all own = subst (λ (ys : List X). (k : ℕ) → ForSome (slice_get ys k) (P k)) (sym is) (each-push xs y P all own)

  -- the first elements
  pub each-take : (xs : List X) (n : ℕ) (P : ℕ → X → Type 0) → ((k : ℕ) → ForSome (slice_get xs k) (P k)) → (k : ℕ) → ForSome (slice_get (take n xs) k) (P k)
  each-take xs zero P all k = none-there k
    where
      none-there : (k : ℕ) → ForSome (slice_get (take 0 xs) k) (P k)
      none-there zero = λ z e. let none : None ≡ Some z = e in cc
      none-there (suc k) = λ z e. let none : None ≡ Some z = e in cc
  each-take [] (suc n) P all k = all k
  each-take (x ∷ xs) (suc n) P all zero = all 0
  each-take (x ∷ xs) (suc n) P all (suc k) = each-take xs n (λ i. P (suc i)) (λ i. all (suc i)) k

  -- elements behind others, of each of which the same holds
  pub each-append : (xs ys : List X) (P : X → Type 0) → ((k : ℕ) → ForSome (slice_get xs k) P) → ((k : ℕ) → ForSome (slice_get ys k) P) → (k : ℕ) → ForSome (slice_get (xs ++ ys) k) P
  each-append [] ys P all more k = more k
  each-append (x ∷ xs) ys P all more zero = all 0
  each-append (x ∷ xs) ys P all more (suc k) = each-append xs ys P (λ n. all (suc n)) more k

  -- one element comes before the others
  each-front : (x : X) (xs : List X) (P : X → Type 0) → P x → ((k : ℕ) → ForSome (slice_get xs k) P) → (k : ℕ) → ForSome (slice_get (x ∷ xs) k) P
  each-front x xs P own all zero = λ z e. let same : x ≡ z = cc in subst (λ (v : X). P v) same own
  each-front x xs P own all (suc k) = all k

  -- the elements that pass a test
  pub each-filter : (xs : List X) (test : X → Bool) (P : X → Type 0) → ((k : ℕ) → ForSome (slice_get xs k) P) → (k : ℕ) → ForSome (slice_get (filter test xs) k) P
  each-filter [] test P all = all
  each-filter (x ∷ xs) test P all = go (test x) refl (each-filter xs test P (λ k. all (suc k)))
    where
      go : (passes : Bool) → test x ≡ passes → ((k : ℕ) → ForSome (slice_get (filter test xs) k) P) → (k : ℕ) → ForSome (slice_get (filter test (x ∷ xs)) k) P
      go true is later = rw is (each-front x (filter test xs) P (all 0 x refl) later)
      go false is later = rw is later

  -- an element that was read is one of them
  pub each-read : (xs : List X) (i : ℕ) (x : X) (P : ℕ → X → Type 0) → ((k : ℕ) → ForSome (slice_get xs k) (P k)) → (count : ℕ) → count ≡ length xs → i < count → x ≡ get_or xs i x → P i x
  each-read xs i x P all count long within is = all i x (slice_get_read xs count i x long within is)

  -- an index within the list has an element
  pub read-within : (xs : List X) (i : ℕ) → i < length xs → (x : X) × (slice_get xs i ≡ Some x)
  read-within [] i within = absurd (omega arith)
  read-within (x ∷ xs) zero within = (x, refl)
  read-within (x ∷ xs) (suc i) within = read-within xs i (omega (arith, within))

-- nothing is at no place
pub each-none : {X : Type 0} (P : ℕ → X → Type 0) (k : ℕ) → ForSome (slice_get [] k) (P k)
each-none {X} P k x e = absurd (none_some x (sym (slice_get_past [] k (omega arith)) ∙ e))
  where
    none_some : (x : X) → ◌≡◌ {A = Option X} None (Some x) → ⊥
    none_some x e = cc
