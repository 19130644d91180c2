-- Updates in the order of their numbers, and the spots of those that wait.
use Rattle.std.proofs.Common.{◌≡◌, ◌<◌, ◌≤◌, ℕ, zero, suc, Bool, true, false, not, List, [], ◌∷◌, length, get_or, map}
use Rattle.std.proofs.Common.{refl, sym, ap, ◌∙◌, Some, None, arith, subst, ltb-true, ltb-false, leb-true, leb-false}
use Rattle.std.proofs.Common.{eq-eqb, ne_eqb, ◌&&◌}
use Rattle.std.proofs.Common.{◌+◌, ◌++◌, add-one, eqb-true, lt-ltb}
use Rattle.std.specs.Prelude.{◌==◌, filter, nat_le, nat_lt, slice_get}
use Rattle.std.specs.List.{AllByRecursion}
use Rattle.std.specs.List.Sorted.{IsNonDecreasingBy}
use Rattle.std.specs.Option.{ForSome}
use Rattle.lr_base.specs.Ascending.{is_before}
use Rattle.lr_base.specs.declared.messages.LogUpdate.{LogUpdate}
use Rattle.lr_base.specs.declared.names.Spot.{Spot}
use Rattle.lr_base.specs.Insertion.{Ascends}
use Rattle.lr_base.specs.Logged.{AllFit, AllReceived}
use Rattle.lr_base.specs.Places.{AreInOrder, items_at, up_to_place}
use Rattle.lr_base.specs.PlaceLaws.{up_to_place-whole}
use Rattle.lr_base.specs.Rules.{is_covered, is_new, waiting}
use Rattle.lr_base.specs.Stamps.{Stamp}
use Rattle.lr_value.specs.Remembered.{AreSeen}
use Rattle.lr_value.specs.Waiting.{AreOfPlace}
use Rattle.lr_value.proofs.Gathered.{each-filter, ascends-filter, before-number, both, by-recursion, filter-swap}

-- what holds of each element holds at each index
pub all-at : {A : Type 0} (P : A → Type 0) (xs : List A) (k : ℕ) (d : A) → AllByRecursion P xs → k < length xs
    → P (get_or xs k d)
all-at P [] k d all within = absurd (omega arith)
all-at P (x ∷ xs) zero d all within = all.0
all-at P (x ∷ xs) (suc k) d all within = all-at P xs k d all.1 (omega arith)

-- what holds by recursion holds at each index
pub by-index : {A : Type 0} (P : A → Type 0) (xs : List A) → AllByRecursion P xs → (k : ℕ) → ForSome (slice_get xs k) P
by-index P [] all k = λ x e. let none : None ≡ Some x = e in cc
by-index P (y ∷ xs) all zero = λ x e. let same : y ≡ x = cc in subst P same all.0
by-index P (y ∷ xs) all (suc k) = by-index P xs all.1 k

module _ {Op : Type 0} where
  -- where numbers ascend, none is less than an earlier one
  pub numbers-rise : (updates : List (LogUpdate Op)) → Ascends (λ a b. nat_lt a.spot.number b.spot.number) updates
      → IsNonDecreasingBy (λ u. u.spot.number) updates
  numbers-rise [] up i j d low within = absurd (omega arith)
  numbers-rise (x ∷ updates) up zero zero d low within = omega arith
  numbers-rise (x ∷ updates) up zero (suc j) d low within =
      let later = all-at (λ (v : LogUpdate Op). nat_lt x.spot.number v.spot.number ≡ true) updates j d up.0
      (omega arith) in
      let less : x.spot.number < (get_or updates j d).spot.number = ltb-true _ _ later in
      omega arith
  numbers-rise (x ∷ updates) up (suc i) zero d low within = absurd (omega arith)
  numbers-rise (x ∷ updates) up (suc i) (suc j) d low within =
      numbers-rise updates up.1 i j d (omega arith) (omega arith)

  -- the spots of updates in order stand in order
  spots-ascend : (updates : List (LogUpdate Op)) → AreInOrder (λ u. u.spot) updates
      → Ascends is_before (map (λ u. u.spot) updates)
  spots-ascend [] order = tt
  spots-ascend (x ∷ updates) order = (each updates order.0, spots-ascend updates order.1)
    where
      each : (us : List (LogUpdate Op)) → AllByRecursion (λ v. is_before x.spot v.spot ≡ true) us
          → AllByRecursion (λ s. is_before x.spot s ≡ true) (map (λ u. u.spot) us)
      each [] all = tt
      each (u ∷ us) all = (all.0, each us all.1)

  -- and none is new where no update is
  spots-seen : (seen : Stamp) (updates : List (LogUpdate Op)) → AllReceived seen updates
      → (k : ℕ) → ForSome (slice_get (map (λ u. u.spot) updates) k) (λ s. is_new seen s ≡ false)
  spots-seen seen [] all k = λ s e. let none : None ≡ Some s = e in cc
  spots-seen seen (u ∷ updates) all zero = λ s e.
      let same : u.spot ≡ s = cc in
      subst (λ (s : Spot). is_new seen s ≡ false) same (all 0 u refl)
  spots-seen seen (u ∷ updates) all (suc k) = spots-seen seen updates (λ j. all (suc j)) k

  pub spots-wait : (seen known : Stamp) (updates : List (LogUpdate Op)) (waits : List Spot)
      → AreInOrder (λ u. u.spot) updates → AllReceived seen updates → known ≡ seen
      → waits ≡ map (λ u. u.spot) updates → AreSeen (record { seen = known; waits = waits })
  spots-wait seen known updates waits order received same are =
      rw (same, are)
      (record { in_order = spots-ascend updates order; seen = spots-seen seen updates received })

  -- what is kept of the updates of one place is of one place
  pub of_place-filter : (place : ℕ) (p : LogUpdate Op → Bool) (updates same : List (LogUpdate Op))
      → same ≡ filter p updates → AreOfPlace place updates → AreOfPlace place same
  of_place-filter place p updates same is are =
      rw is
      (record {
        ascends = ascends-filter (λ a b. nat_lt a.spot.number b.spot.number) p updates are.ascends;
        together = by-index (λ u. u.spot.place ≡ place) (filter p updates)
            (each-filter (λ u. u.spot.place ≡ place) p updates
            (by-recursion (λ u. u.spot.place ≡ place) updates are.together));
      })

module _ {Op : Type 0} where
  -- updates of one place in the order of spots are in that of their numbers
  numbers-ascend : (place : ℕ) (updates : List (LogUpdate Op)) → AreInOrder (λ u. u.spot) updates
      → AllByRecursion (λ u. u.spot.place ≡ place) updates
      → Ascends (λ a b. nat_lt a.spot.number b.spot.number) updates
  numbers-ascend place [] order here = tt
  numbers-ascend place (x ∷ updates) order here = (
    both (λ v. is_before x.spot v.spot ≡ true) (λ v. v.spot.place ≡ place)
        (λ v. nat_lt x.spot.number v.spot.number ≡ true) updates
        (λ v before own. lt-ltb x.spot.number v.spot.number
        (before-number x.spot v.spot (here.0 ∙ sym own) before)) order.0 here.1,
    numbers-ascend place updates order.1 here.1,
  )

  -- the updates of a place in a log are of that place
  pub of_place-items : (place : ℕ) (updates same : List (LogUpdate Op)) → same ≡ items_at (λ u. u.spot) place updates
      → AreInOrder (λ u. u.spot) updates → AreOfPlace place same
  of_place-items place updates same is order =
      let here = own updates in
      let kept : AreInOrder (λ u. u.spot) (items_at (λ u. u.spot) place updates) =
      ascends-filter (λ (a b : LogUpdate Op). is_before a.spot b.spot) (λ u. u.spot.place == place) updates order in
      rw is
      (record {
        ascends = numbers-ascend place (items_at (λ u. u.spot) place updates) kept here;
        together = by-index (λ u. u.spot.place ≡ place) (items_at (λ u. u.spot) place updates) here;
      })
    where
      own : (us : List (LogUpdate Op)) → AllByRecursion (λ u. u.spot.place ≡ place) (items_at (λ u. u.spot) place us)
      own [] = tt
      own (u ∷ us) = go (u.spot.place == place) refl (own us)
        where
          go : (t : Bool) → (u.spot.place == place) ≡ t
              → AllByRecursion (λ u. u.spot.place ≡ place) (items_at (λ u. u.spot) place us)
              → AllByRecursion (λ u. u.spot.place ≡ place) (items_at (λ u. u.spot) place (u ∷ us))
          go true is rest = rw is (eqb-true u.spot.place place is, rest)
          go false is rest = rw is rest

  -- what holds of each update holds of each that passes a test
  pub index-filter : (P : LogUpdate Op → Type 0) (p : LogUpdate Op → Bool) (updates same : List (LogUpdate Op))
      → same ≡ filter p updates → ((k : ℕ) → ForSome (slice_get updates k) P) → (k : ℕ) → ForSome (slice_get same k) P
  index-filter P p updates same is all =
      rw is (by-index P (filter p updates) (each-filter P p updates (by-recursion P updates all)))

  -- what is gathered place by place of a log is what waits in it
  pub gathered-more : (val_ts : Stamp) (place : ℕ) (updates at : List (LogUpdate Op))
      → at ≡ items_at (λ u. u.spot) place updates
      → up_to_place (λ u. u.spot) (place + 1) (waiting val_ts updates)
      ≡ up_to_place (λ u. u.spot) place (waiting val_ts updates) ++ waiting val_ts at
  gathered-more val_ts place updates at is =
      rw (add-one, is)
      (ap (λ (l : List (LogUpdate Op)). up_to_place (λ u. u.spot) place (waiting val_ts updates) ++ l)
      (filter-swap (λ u. u.spot.place == place) (λ u. not (is_covered val_ts u)) updates))

  -- a log of some places is in order, and one of none is empty
  pub order-whole : (places : ℕ) (updates : List (LogUpdate Op)) → (0 < places → AreInOrder (λ u. u.spot) updates)
      → AllFit places updates → AreInOrder (λ u. u.spot) updates
  order-whole zero [] order fit = tt
  order-whole zero (u ∷ updates) order fit =
      let none : u.spot.place < 0 = (fit 0 u refl).place in
      absurd (omega arith)
  order-whole (suc places) updates order fit = order (omega arith)

  pub gathered-whole : (val_ts : Stamp) (places : ℕ) (updates : List (LogUpdate Op))
      → (0 < places → AreInOrder (λ u. u.spot) updates) → AllFit places updates
      → up_to_place (λ u. u.spot) places (waiting val_ts updates) ≡ waiting val_ts updates
  gathered-whole val_ts zero [] order fit = refl
  gathered-whole val_ts zero (u ∷ updates) order fit =
      let none : u.spot.place < 0 = (fit 0 u refl).place in
      absurd (omega arith)
  gathered-whole val_ts (suc places) updates order fit =
      up_to_place-whole (λ (u : LogUpdate Op). u.spot) (suc places) (waiting val_ts updates)
      (ascends-filter (λ (a b : LogUpdate Op). is_before a.spot b.spot) (λ u. not (is_covered val_ts u)) updates
      (order (omega arith)))
      (each-filter (λ u. u.spot.place < suc places) (λ u. not (is_covered val_ts u)) updates
      (by-recursion (λ u. u.spot.place < suc places) updates (λ k u e. (fit k u e).place)))

-- a number is another where it is neither greater nor less
pub neither : (n m : ℕ) → (n == m) ≡ (nat_le n m && not (nat_lt n m))
neither n m = go (nat_le n m) refl (nat_lt n m) refl
  where
    go : (s : Bool) → nat_le n m ≡ s → (t : Bool) → nat_lt n m ≡ t → (n == m) ≡ (nat_le n m && not (nat_lt n m))
    go true first true second =
        let low : n < m = ltb-true n m second in
        let e : (n == m) ≡ false = ne_eqb n m (λ same. omega arith) in
        rw (first, second) e
    go true first false second =
        let low : n ≤ m = leb-true n m first in
        let high : m ≤ n = ltb-false n m second in
        let e : (n == m) ≡ true = eq-eqb n m (omega arith) in
        rw (first, second) e
    go false first t second =
        let high : m < n = leb-false n m first in
        let e : (n == m) ≡ false = ne_eqb n m (λ same. omega arith) in
        rw first e
