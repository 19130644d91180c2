-- Where a search of a list that ascends ends.
use Rattle.std.proofs.Common.{◌≡◌, ◌≢◌, ◌<◌, ◌≤◌, ℕ, zero, suc, Bool, true, false, List, [], ◌∷◌, length, get_or, sym}
use Rattle.std.proofs.Common.{ap, ◌∙◌, subst, arith}
use Rattle.std.specs.List.{AllByRecursion}
use Rattle.std.specs.List.Sorted.{IsPartitionedBy, IsPartitionPoint}
use Rattle.std.specs.Prelude.{insert}
use Rattle.lr_base.specs.Ascending.{is_before}
use Rattle.lr_base.specs.Insertion.{Ascends}
use Rattle.lr_base.specs.InsertionLaws.{inserted-where}
use Rattle.lr_base.specs.Places.{AreInOrder}
use Rattle.lr_base.specs.declared.names.Spot.{Spot}
use Rattle.lr_log.specs.Items.{NoneAt}
use Rattle.lr_log.specs.Rows.{insert_item}
use Rattle.lr_base.specs.NameLaws.{before-once, before-trans, behind-shown}

module _ {A : Type 0} where
  -- what holds of each element holds of that at an index
  pub each-at : (P : A → Type 0) (xs : List A) (k : ℕ) (d : A) → k < length xs → AllByRecursion P xs → P (get_or xs k d)
  each-at P [] k d within all = absurd (omega arith)
  each-at P (x ∷ xs) zero d within all = all.0
  each-at P (x ∷ xs) (suc k) d within all = each-at P xs k d (omega arith) all.1

  -- where a test passes whatever is before an element that passes, the list is parted by it
  pub ascends-parted : (before : A → A → Bool) (test : A → Bool)
      → ((x y : A) → before x y ≡ true → test y ≡ true → test x ≡ true)
      → (xs : List A) → Ascends before xs → IsPartitionedBy test xs
  ascends-parted before test down [] all i j d le within is = absurd (omega arith)
  ascends-parted before test down (x ∷ xs) all zero zero d le within is = is
  ascends-parted before test down (x ∷ xs) all zero (suc j) d le within is =
      down x (get_or xs j d) (each-at (λ y. before x y ≡ true) xs j d (omega arith) all.0) is
  ascends-parted before test down (x ∷ xs) all (suc i) zero d le within is = absurd (omega arith)
  ascends-parted before test down (x ∷ xs) all (suc i) (suc j) d le within is =
      ascends-parted before test down xs all.1 i j d (omega arith) (omega arith) is

-- an item goes where a search for its spot ends
pub inserted-point : {A : Type 0} (spot_of : A → Spot) (x : A) (items : List A) (at : ℕ) → at ≤ length items
    → IsPartitionPoint (λ y. is_before (spot_of y) (spot_of x) ≡ true)
    (λ y. is_before (spot_of y) (spot_of x) ≡ false) items at
    → NoneAt spot_of (spot_of x) items → insert items at x ≡ insert_item spot_of x items
inserted-point spot_of x items at most point free =
    inserted-where (λ a b. is_before (spot_of a) (spot_of b)) x items at x x most
    (λ k low. before-once (spot_of (get_or items k x)) (spot_of x) (point.0 k x (omega arith) low))
    (λ low. behind-shown (spot_of (get_or items at x)) (spot_of x)
    (each-at (λ y. spot_of y ≢ spot_of x) items at x low free)
    (point.1 at x (omega arith) low))

-- and a list is parted by the spots before one
pub parted-before : {A : Type 0} (spot_of : A → Spot) (spot : Spot) (items : List A) → AreInOrder spot_of items
    → IsPartitionedBy (λ x. is_before (spot_of x) spot) items
parted-before spot_of spot items order =
    ascends-parted (λ a b. is_before (spot_of a) (spot_of b)) (λ x. is_before (spot_of x) spot)
    (λ x y first second. before-trans (spot_of x) (spot_of y) spot first second) items order

-- a row with one more item, which went where the search ended
pub inserted-row : {A : Type 0} (spot_of : A → Spot) (x : A) (listed own items new : List A) (spot : Spot) (at : ℕ)
    → listed ≡ own → own ≡ items → spot ≡ spot_of x → at ≤ length listed
    → IsPartitionPoint (λ y. is_before (spot_of y) spot ≡ true) (λ y. is_before (spot_of y) spot ≡ false) listed at
    → NoneAt spot_of (spot_of x) items → new ≡ insert own at x → new ≡ insert_item spot_of x items
inserted-row spot_of x listed own items new spot at lists is named most point free put =
    let there = subst (λ (s : Spot). IsPartitionPoint (λ y. is_before (spot_of y) s ≡ true)
    (λ y. is_before (spot_of y) s ≡ false) listed at)
    named point in
    put ∙ ap (λ l. insert l at x) (sym lists)
    ∙ inserted-point spot_of x listed at most there (subst (NoneAt spot_of (spot_of x)) (sym (lists ∙ is)) free)
    ∙ ap (insert_item spot_of x) (lists ∙ is)
