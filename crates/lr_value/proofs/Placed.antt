-- Where something goes in a list that is sorted by spots.
use Rattle.std.proofs.Common.{◌≡◌, ◌≢◌, ◌≤◌, ℕ, zero, suc, Bool, true, false, not, ◌⊎◌, inl, inr, List, [], ◌∷◌}
use Rattle.std.proofs.Common.{length, get_or, take, drop, refl, sym, ap, ◌∙◌, Some, None, arith, cond}
use Rattle.std.specs.Prelude.{◌==◌, ◌&&◌, filter, insert, remove, slice_get}
use Rattle.std.proofs.lemmas.Bool.Decides.{nat_tests}
use Rattle.std.specs.List.{AllByRecursion, AllWithin}
use Rattle.std.specs.List.Sorted.{IsPartitionedBy, IsPartitionPoint}
use Rattle.lr_base.specs.Ascending.{is_before}
use Rattle.lr_base.specs.Insertion.{Ascends}
use Rattle.lr_base.specs.InsertionLaws.{each-map}
pub use Rattle.lr_base.specs.NameLaws.{before-trans, behind-shown}
use Rattle.lr_base.specs.Orders.{IsAmong}
use Rattle.lr_base.specs.declared.names.Spot.{Spot}
use Rattle.lr_base.specs.Stamps.{Stamp, part}
use Rattle.lr_value.proofs.Left.{among-at}
use Rattle.lr_value.proofs.Numbered.{all-at}
use Rattle.std.proofs.lemmas.Option.{unwrap_or-slice_get}
use Rattle.std.specs.Prelude.{unwrap_or}
use Rattle.lr_value.specs.Table.{IsPlaceFor, Lacks, is_met}

pub before-self : (a : Spot) → is_before a a ≡ false
before-self a = grind (arith, nat_tests)

before-once : (a b : Spot) → is_before a b ≡ true → not (is_before b a) ≡ true
before-once a b first = grind (arith, nat_tests)

-- what isn't behind a spot comes before all that the spot comes before
before-low : (a b c : Spot) → not (is_before b a) ≡ true → is_before b c ≡ true → is_before a c ≡ true
before-low a b c first second = grind (arith, nat_tests)

pub spots-differ : (a b : Spot) → ((a.place == b.place) && (a.number == b.number)) ≡ false → a ≢ b
spots-differ a b fails same = let place : a.place ≡ b.place = ap (λ (s : Spot). s.place) same in
    let number : a.number ≡ b.number = ap (λ (s : Spot). s.number) same in grind (arith, nat_tests)

pub spots-same : (a b : Spot) → ((a.place == b.place) && (a.number == b.number)) ≡ true → a ≡ b
spots-same a b holds =
    let place : a.place ≡ b.place = grind (arith, nat_tests) in
    let number : a.number ≡ b.number = grind (arith, nat_tests) in
    λ i. record { place = place i; number = number i }

met-before : (place number : ℕ) (a : Spot) → is_before a (record { place = place; number = 0 }) ≡ true
    → is_met place number a ≡ false
met-before place number a low = grind (arith, nat_tests)

met-later : (place number : ℕ) (a b : Spot) → is_before a (record { place = place; number = 0 }) ≡ false
    → is_met place number a ≡ false → not (is_before b a) ≡ true → is_met place number b ≡ false
met-later place number a b high own later = grind (arith, nat_tests)

-- what a stamp lacks isn't met there
pub met-lacking : (val_ts : Stamp) (place : ℕ) (needs : Spot) → Lacks val_ts needs
    → is_met place (part val_ts place) needs ≡ false
met-lacking val_ts place needs lacks = grind (arith, nat_tests)

-- where what is needed elsewhere is lacking, and what is needed here isn't met, it is lacking
pub lacks-there : (val_ts : Stamp) (raised : ℕ) (needs : Spot) → (needs.place ≢ raised → Lacks val_ts needs)
    → is_met raised (part val_ts raised) needs ≡ false → Lacks val_ts needs
lacks-there val_ts raised needs elsewhere unmet = grind (arith, nat_tests)

module _ {A : Type 0} where
  pub each-among : (P : A → Type 0) (xs : List A) → AllByRecursion P xs → (x : A) → IsAmong x xs → P x
  each-among P [] all x among = absurd among
  each-among P (y ∷ xs) all x (inl same) = rw same all.0
  each-among P (y ∷ xs) all x (inr among) = each-among P xs all.1 x among

  -- ---- one element more or fewer

  pub inserted-among : (xs : List A) (at : ℕ) (y x : A) → IsAmong x (insert xs at y) → (x ≡ y) ⊎ IsAmong x xs
  inserted-among [] zero y x among = among
  inserted-among [] (suc at) y x among = among
  inserted-among (z ∷ xs) zero y x among = among
  inserted-among (z ∷ xs) (suc at) y x (inl same) = inr (inl same)
  inserted-among (z ∷ xs) (suc at) y x (inr among) = grind (arith, inserted-among xs at y x among)

  pub among-inserted : (xs : List A) (at : ℕ) (y x : A) → (x ≡ y) ⊎ IsAmong x xs → IsAmong x (insert xs at y)
  among-inserted [] zero y x either = either
  among-inserted [] (suc at) y x either = either
  among-inserted (z ∷ xs) zero y x either = either
  among-inserted (z ∷ xs) (suc at) y x (inl same) = inr (among-inserted xs at y x (inl same))
  among-inserted (z ∷ xs) (suc at) y x (inr (inl same)) = inl same
  among-inserted (z ∷ xs) (suc at) y x (inr (inr other)) = inr (among-inserted xs at y x (inr other))

  pub removed-among : (xs : List A) (at : ℕ) (x : A) → IsAmong x (remove xs at) → IsAmong x xs
  removed-among [] zero x among = among
  removed-among [] (suc at) x among = among
  removed-among (z ∷ xs) zero x among = inr among
  removed-among (z ∷ xs) (suc at) x (inl same) = inl same
  removed-among (z ∷ xs) (suc at) x (inr among) = inr (removed-among xs at x among)

  pub count-inserted : (p : A → Bool) (xs : List A) (at : ℕ) (y : A) → p y ≡ false
      → filter p (insert xs at y) ≡ filter p xs
  count-inserted p [] zero y fails = rw fails refl
  count-inserted p [] (suc at) y fails = rw fails refl
  count-inserted p (z ∷ xs) zero y fails = rw fails refl
  count-inserted p (z ∷ xs) (suc at) y fails =
      ap (λ (l : List A). cond (p z) (z ∷ l) l) (count-inserted p xs at y fails)

  pub count-removed : (p : A → Bool) (xs : List A) (at : ℕ) (y : A) → slice_get xs at ≡ Some y → p y ≡ true
      → suc (length (filter p (remove xs at))) ≡ length (filter p xs)
  count-removed p [] at y is holds = let none : None ≡ Some y = is in cc
  count-removed p (z ∷ xs) zero y is holds =
      let same : z ≡ y = cc in
      let own : p z ≡ true = rw same holds in
      rw own refl
  count-removed p (z ∷ xs) (suc at) y is holds = go (p z) refl (count-removed p xs at y is holds)
    where
      go : (t : Bool) → p z ≡ t → suc (length (filter p (remove xs at))) ≡ length (filter p xs)
          → suc (length (filter p (z ∷ remove xs at))) ≡ length (filter p (z ∷ xs))
      go true first rest = rw first (omega arith)
      go false first rest = rw first rest

  each-inserted : (P : A → Type 0) (xs : List A) (at : ℕ) (y : A) → P y → AllByRecursion P xs
      → AllByRecursion P (insert xs at y)
  each-inserted P [] zero y own all = (own, tt)
  each-inserted P [] (suc at) y own all = (own, tt)
  each-inserted P (z ∷ xs) zero y own all = (own, all)
  each-inserted P (z ∷ xs) (suc at) y own all = (all.0, each-inserted P xs at y own all.1)

  pub take-removed : (P : A → Type 0) (xs : List A) (at : ℕ) → AllByRecursion P (take at xs)
      → AllByRecursion P (take at (remove xs at))
  take-removed P [] zero all = tt
  take-removed P [] (suc at) all = tt
  take-removed P (x ∷ xs) zero all = tt
  take-removed P (x ∷ xs) (suc at) all = (all.0, take-removed P xs at all.1)

  pub take-whole : (P : A → Type 0) (xs : List A) (at : ℕ) → length xs ≤ at → AllByRecursion P (take at xs)
      → AllByRecursion P xs
  take-whole P [] at most all = tt
  take-whole P (x ∷ xs) zero most all = absurd (omega arith)
  take-whole P (x ∷ xs) (suc at) most all = (all.0, take-whole P xs at (omega arith) all.1)

  -- ---- the place of a spot

  -- a list goes on ascending where one goes behind what is before it, and before what is behind it
  ascends-inserted : (R : A → A → Bool) (xs : List A) (at : ℕ) (y : A)
      → AllByRecursion (λ x. R x y ≡ true) (take at xs) → AllByRecursion (λ x. R y x ≡ true) (drop at xs)
      → Ascends R xs → Ascends R (insert xs at y)
  ascends-inserted R [] zero y before behind up = (tt, tt)
  ascends-inserted R [] (suc at) y before behind up = (tt, tt)
  ascends-inserted R (x ∷ xs) zero y before behind up = (behind, up)
  ascends-inserted R (x ∷ xs) (suc at) y before behind up = (
    each-inserted (λ z. R x z ≡ true) xs at y before.0 up.0,
    ascends-inserted R xs at y before.1 behind up.1,
  )

  within-take : (P : A → Type 0) (xs : List A) (i : ℕ) → AllWithin P xs 0 i → AllByRecursion P (take i xs)
  within-take P [] zero all = tt
  within-take P [] (suc i) all = tt
  within-take P (x ∷ xs) zero all = tt
  within-take P (x ∷ xs) (suc i) all = (
    all 0 x (omega arith) (omega arith),
    within-take P xs i (λ k d low high. all (suc k) d (omega arith) (omega arith)),
  )

  within-drop : (P : A → Type 0) (xs : List A) (i : ℕ) → AllWithin P xs i (length xs) → AllByRecursion P (drop i xs)
  within-drop P [] zero all = tt
  within-drop P [] (suc i) all = tt
  within-drop P (x ∷ xs) zero all = (
    all 0 x (omega arith) (omega arith),
    within-drop P xs 0 (λ k d low high. all (suc k) d (omega arith) (omega arith)),
  )
  within-drop P (x ∷ xs) (suc i) all = within-drop P xs i (λ k d low high. all (suc k) d (omega arith) (omega arith))

  parted : (R : A → A → Bool) (p : A → Bool) → ((x y : A) → R x y ≡ true → p y ≡ true → p x ≡ true) → (xs : List A)
      → Ascends R xs → IsPartitionedBy p xs
  parted R p down [] up i j d le within is = absurd (omega arith)
  parted R p down (x ∷ xs) up zero zero d le within is = is
  parted R p down (x ∷ xs) up zero (suc j) d le within is =
      down x (get_or xs j d) (all-at (λ y. R x y ≡ true) xs j d up.0 (omega arith)) is
  parted R p down (x ∷ xs) up (suc i) zero d le within is = absurd (omega arith)
  parted R p down (x ∷ xs) up (suc i) (suc j) d le within is =
      parted R p down xs up.1 i j d (omega arith) (omega arith) is

  module _ (spot_of : A → Spot) where
    pub parted-spots : (spot : Spot) (xs : List A) → Ascends (λ a b. is_before (spot_of a) (spot_of b)) xs
        → IsPartitionedBy (λ x. is_before (spot_of x) spot) xs
    parted-spots spot xs up =
        parted _ _ (λ x y first second. before-trans (spot_of x) (spot_of y) spot first second) xs up

    pub parted-needs : (spot : Spot) (xs : List A) → Ascends (λ a b. not (is_before (spot_of b) (spot_of a))) xs
        → IsPartitionedBy (λ x. is_before (spot_of x) spot) xs
    parted-needs spot xs up =
        parted _ _ (λ x y first second. before-low (spot_of x) (spot_of y) spot first second) xs up

    pub place-point : (spot : Spot) (xs : List A) (at : ℕ) → at ≤ length xs
        → IsPartitionPoint (λ x. is_before (spot_of x) spot ≡ true) (λ x. is_before (spot_of x) spot ≡ false) xs at
        → IsPlaceFor spot_of spot xs at
    place-point spot xs at most point = record {
      within = most;
      before = within-take (λ x. is_before (spot_of x) spot ≡ true) xs at point.0;
      behind = within-drop (λ x. is_before (spot_of x) spot ≡ false) xs at point.1;
    }

    -- where none has the spot, it comes before all from its place on
    all-behind : (spot : Spot) (xs : List A) (at : ℕ)
        → AllByRecursion (λ x. is_before (spot_of x) spot ≡ false) (drop at xs)
        → Ascends (λ a b. is_before (spot_of a) (spot_of b)) xs
        → ((x : A) → slice_get xs at ≡ Some x → spot_of x ≢ spot)
        → AllByRecursion (λ x. is_before spot (spot_of x) ≡ true) (drop at xs)
    all-behind spot [] zero behind up new = tt
    all-behind spot [] (suc at) behind up new = tt
    all-behind spot (x ∷ xs) zero behind up new =
        let first = behind-shown (spot_of x) spot (new x refl) behind.0 in
        (first, each-map _ _ xs (λ y later. before-trans spot (spot_of x) (spot_of y) first later) up.0)
    all-behind spot (x ∷ xs) (suc at) behind up new = all-behind spot xs at behind up.1 new

    pub in-order-put : (xs : List A) (at : ℕ) (y : A) (spot : Spot) → spot_of y ≡ spot → IsPlaceFor spot_of spot xs at
        → ((x : A) → slice_get xs at ≡ Some x → spot_of x ≢ spot)
        → Ascends (λ a b. is_before (spot_of a) (spot_of b)) xs
        → Ascends (λ a b. is_before (spot_of a) (spot_of b)) (insert xs at y)
    in-order-put xs at y spot is place new up =
        ascends-inserted _ xs at y (rw is place.before) (rw is (all-behind spot xs at place.behind up new)) up

    pub by-need-put : (xs : List A) (at : ℕ) (y : A) → IsPlaceFor spot_of (spot_of y) xs at
        → Ascends (λ a b. not (is_before (spot_of b) (spot_of a))) xs
        → Ascends (λ a b. not (is_before (spot_of b) (spot_of a))) (insert xs at y)
    by-need-put xs at y place up =
        ascends-inserted _ xs at y
        (each-map _ _ (take at xs) (λ x e. before-once (spot_of x) (spot_of y) e) place.before)
        (each-map _ _ (drop at xs) (λ x e. ap not e) place.behind) up

    -- where the first that needs this place or a later one isn't met, none is
    pub none-met : (place number : ℕ) (xs : List A) (at : ℕ)
        → AllByRecursion (λ x. is_before (spot_of x) (record { place = place; number = 0 }) ≡ true) (take at xs)
        → AllByRecursion (λ x. is_before (spot_of x) (record { place = place; number = 0 }) ≡ false) (drop at xs)
        → Ascends (λ a b. not (is_before (spot_of b) (spot_of a))) xs
        → ((x : A) → slice_get xs at ≡ Some x → is_met place number (spot_of x) ≡ false)
        → AllByRecursion (λ x. is_met place number (spot_of x) ≡ false) xs
    none-met place number [] at low high up first = tt
    none-met place number (x ∷ xs) zero low high up first =
        let own = first x refl in
        (own, each-map _ _ xs (λ y later. met-later place number (spot_of x) (spot_of y) high.0 own later) up.0)
    none-met place number (x ∷ xs) (suc at) low high up first =
        (met-before place number (spot_of x) low.0, none-met place number xs at low.1 high up.1 first)

pub among-get : {A : Type 0} (xs : List A) (k : ℕ) (x : A) → slice_get xs k ≡ Some x → IsAmong x xs
among-get xs k x is = among-at xs k x is

pub get-at : {A : Type 0} (xs : List A) (k : ℕ) (x d : A) → slice_get xs k ≡ Some x → get_or xs k d ≡ x
get-at xs k x d is = sym (unwrap_or-slice_get xs k d) ∙ ap (λ o. unwrap_or o d) is
