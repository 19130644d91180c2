-- Items in the order of their spots are those of the first place, then those of the next, and so on.
use Rattle.std.proofs.Common.{◌≡◌, ℕ, zero, suc, ◌<◌, ◌≤◌, Bool, true, false, List, [], ◌∷◌, ◌++◌}
use Rattle.std.proofs.Common.{◌≢◌, filter, refl, sym, ap, ◌∙◌, arith, eq-eqb, eqb-true, le-ltb, lt-ltb, ltb-false}
use Rattle.std.proofs.Common.{ltb-true, ne_eqb}
use Rattle.std.specs.Prelude.{◌==◌, ◌||◌, ◌&&◌, nat_lt}
use Rattle.std.specs.List.{AllByRecursion}
use Rattle.lr_base.specs.Ascending.{is_before}
use Rattle.lr_base.specs.Places.{AreInOrder, AreWithin, items_at, up_to_place}
use Rattle.lr_base.specs.declared.names.Spot.{Spot}

-- a spot that comes behind another isn't of a lower place
pub behind-place : (a b : Spot) → is_before a b ≡ true → a.place ≤ b.place
behind-place a b before = go (nat_lt a.place b.place) refl (a.place == b.place) refl before
  where
    go : (s : Bool) → nat_lt a.place b.place ≡ s → (t : Bool) → (a.place == b.place) ≡ t
        → (s || (t && nat_lt a.number b.number)) ≡ true → a.place ≤ b.place
    go true less t same is = let low : a.place < b.place = ltb-true a.place b.place less in omega arith
    go false less true same is = let e : a.place ≡ b.place = eqb-true a.place b.place same in omega arith
    go false less false same is = cc

module _ {A : Type 0} (spot_of : A → Spot) where
  -- the items below a place
  abbrev below : ℕ → List A → List A
  below place items = filter (λ x. nat_lt (spot_of x).place place) items

  -- behind an item that isn't below a place none is
  none-below : (place : ℕ) (x : A) (items : List A) → place ≤ (spot_of x).place
      → AllByRecursion (λ y. is_before (spot_of x) (spot_of y) ≡ true) items → below place items ≡ []
  none-below place x [] low all = refl
  none-below place x (y ∷ items) low all =
      let far : (spot_of x).place ≤ (spot_of y).place = behind-place (spot_of x) (spot_of y) all.0 in
      let over : nat_lt (spot_of y).place place ≡ false = le-ltb (spot_of y).place place (omega arith) in
      rw over (none-below place x items low all.1)

  -- the items below the next place are those below this one, and then those at it
  below-next : (place : ℕ) (items : List A) → AreInOrder spot_of items
      → below (suc place) items ≡ below place items ++ items_at spot_of place items
  below-next place [] order = refl
  below-next place (x ∷ items) order =
      go (nat_lt (spot_of x).place place) refl ((spot_of x).place == place) refl (below-next place items order.1)
    where
      go : (s : Bool) → nat_lt (spot_of x).place place ≡ s → (t : Bool) → ((spot_of x).place == place) ≡ t
          → below (suc place) items ≡ below place items ++ items_at spot_of place items
          → below (suc place) (x ∷ items) ≡ below place (x ∷ items) ++ items_at spot_of place (x ∷ items)
      go true less t same rest =
          let low : (spot_of x).place < place = ltb-true (spot_of x).place place less in
          let under : nat_lt (spot_of x).place (suc place) ≡ true =
          lt-ltb (spot_of x).place (suc place) (omega arith) in
          let other : ((spot_of x).place == place) ≡ false = ne_eqb (spot_of x).place place (λ e. omega arith) in
          rw (under, less, other) (ap (λ (l : List A). x ∷ l) rest)
      go false less true same rest =
          let e : (spot_of x).place ≡ place = eqb-true (spot_of x).place place same in
          let under : nat_lt (spot_of x).place (suc place) ≡ true =
          lt-ltb (spot_of x).place (suc place) (omega arith) in
          let none : below place items ≡ [] = none-below place x items (omega arith) order.0 in
          let now : below (suc place) items ≡ items_at spot_of place items =
          rest ∙ ap (λ (l : List A). l ++ items_at spot_of place items) none in
          rw (under, less, same, none) (ap (λ (l : List A). x ∷ l) now)
      go false less false same rest =
          let apart : (spot_of x).place ≢ place = λ e.
          let is : ((spot_of x).place == place) ≡ true = eq-eqb (spot_of x).place place e in cc in
          let high : place ≤ (spot_of x).place = ltb-false (spot_of x).place place less in
          let over : nat_lt (spot_of x).place (suc place) ≡ false =
          le-ltb (spot_of x).place (suc place) (omega arith) in
          rw (over, less, same) rest

  -- put together of the first so many places are the items below them
  up_to_place-below : (places : ℕ) (items : List A) → AreInOrder spot_of items
      → up_to_place spot_of places items ≡ below places items
  up_to_place-below zero items order = none items
    where
      none : (items : List A) → [] ≡ below 0 items
      none [] = refl
      none (x ∷ items) =
          let over : nat_lt (spot_of x).place 0 ≡ false = le-ltb (spot_of x).place 0 (omega arith) in
          rw over (none items)
  up_to_place-below (suc places) items order =
      ap (λ (l : List A). l ++ items_at spot_of places items) (up_to_place-below places items order)
      ∙ sym (below-next places items order)

  -- items of the first so many places, in their order, are put together of those of each place
  pub up_to_place-whole : (places : ℕ) (items : List A) → AreInOrder spot_of items → AreWithin spot_of places items
      → up_to_place spot_of places items ≡ items
  up_to_place-whole places items order within = up_to_place-below places items order ∙ all_below items within
    where
      all_below : (items : List A) → AreWithin spot_of places items → below places items ≡ items
      all_below [] within = refl
      all_below (x ∷ items) within =
          let low : nat_lt (spot_of x).place places ≡ true = lt-ltb (spot_of x).place places within.0 in
          rw low (ap (λ (l : List A). x ∷ l) (all_below items within.1))
