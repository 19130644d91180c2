-- Items that are put in one by one, and taken out again.
use Rattle.std.proofs.Common.{◌≡◌, ◌≢◌, ◌<◌, ◌≤◌, ◌+◌, ℕ, zero, suc, Bool, true, false, List, [], ◌∷◌, length, get_or}
use Rattle.std.proofs.Common.{take, map, filter, refl, sym, ap, ◌∙◌, arith, add-one, not, subst}
use Rattle.std.specs.List.{AllByRecursion}
use Rattle.std.proofs.Math.Seq.{take-suc}
use Rattle.lr_base.specs.Ascending.{is_before}
use Rattle.lr_base.specs.Insertion.{insert_by}
use Rattle.lr_base.specs.InsertionLaws.{inserted-more}
use Rattle.lr_base.specs.Places.{AreInOrder}
use Rattle.lr_base.specs.declared.names.Spot.{Spot}
use Rattle.lr_log.specs.ItemLaws.{each-inserted_all, each-map}
use Rattle.lr_log.specs.Items.{NoneAt}
use Rattle.lr_log.specs.Rows.{AreFree, insert_item, insert_items, same_spot}
use Rattle.lr_base.specs.NameLaws.{before-apart}
use Rattle.lr_log.proofs.Entries.{same_spot-apart, same_spot-refl}
use Rattle.lr_log.proofs.RowLemmas.{filter-all}
use Rattle.lr_log.proofs.Searches.{each-at}

module _ {A : Type 0} where
  -- the only one that fails a test is taken out again
  pub taken-out : (before : A → A → Bool) (test : A → Bool) (x : A) (xs : List A) → test x ≡ false
      → AllByRecursion (λ y. test y ≡ true) xs → filter test (insert_by before x xs) ≡ xs
  taken-out before test x [] own others = rw own refl
  taken-out before test x (y ∷ xs) own others = go (before x y) refl (taken-out before test x xs own others.1)
    where
      go : (s : Bool) → before x y ≡ s → filter test (insert_by before x xs) ≡ xs
          → filter test (insert_by before x (y ∷ xs)) ≡ y ∷ xs
      go true is rest = rw (is, own) (filter-all test (y ∷ xs) others)
      go false is rest = rw (is, others.0) (ap (λ (l : List A). y ∷ l) rest)

  -- an element of a mapped list
  pub get_or-mapped : {B : Type 0} (f : A → B) (xs : List A) (k : ℕ) (d : A) (e : B) → k < length xs
      → get_or (map f xs) k e ≡ f (get_or xs k d)
  get_or-mapped f [] k d e within = absurd (omega arith)
  get_or-mapped f (x ∷ xs) zero d e within = refl
  get_or-mapped f (x ∷ xs) (suc k) d e within = get_or-mapped f xs k d e (omega arith)

  pub length-mapped : {B : Type 0} (f : A → B) (xs : List A) → length (map f xs) ≡ length xs
  length-mapped f [] = refl
  length-mapped f (x ∷ xs) = ap suc (length-mapped f xs)

module _ {A : Type 0} (spot_of : A → Spot) where
  -- none of the items before one stands at its spot
  before-free : (items : List A) (k : ℕ) (d : A) → AreInOrder spot_of items → k < length items
      → NoneAt spot_of (spot_of (get_or items k d)) (take k items)
  before-free [] k d order within = absurd (omega arith)
  before-free (x ∷ items) zero d order within = tt
  before-free (x ∷ items) (suc k) d order within = (
    before-apart (spot_of x) (spot_of (get_or items k d))
        (each-at (λ y. is_before (spot_of x) (spot_of y) ≡ true) items k d (omega arith) order.0),
    before-free items k d order.1 (omega arith),
  )

  -- the next item's spot is free
  pub next-free : (items first : List A) (k : ℕ) (d : A) → AreInOrder spot_of items → AreFree spot_of items first
      → k < length items
      → NoneAt spot_of (spot_of (get_or items k d)) (insert_items spot_of (take k items) first)
  next-free items first k d order free within =
      each-inserted_all (λ a b. is_before (spot_of a) (spot_of b)) (λ y. spot_of y ≢ spot_of (get_or items k d))
      (take k items) first
      (before-free items k d order within) (each-at (λ x. NoneAt spot_of (spot_of x) first) items k d within free)

  -- one more item was put in
  pub one-more : (items first : List A) (k : ℕ) (d : A) → k < length items
      → insert_items spot_of (take (k + 1) items) first ≡ insert_item spot_of (get_or items k d)
      (insert_items spot_of (take k items) first)
  one-more items first k d within =
      rw (add-one k, take-suc items k d within)
      (inserted-more (λ a b. is_before (spot_of a) (spot_of b)) (take k items) first (get_or items k d))

  -- and taken out
  pub one-less : (items first : List A) (k : ℕ) (d : A) → AreInOrder spot_of items → AreFree spot_of items first
      → k < length items
      → filter (λ x. not (same_spot (spot_of x) (spot_of (get_or items k d))))
      (insert_items spot_of (take (k + 1) items) first)
      ≡ insert_items spot_of (take k items) first
  one-less items first k d order free within =
      ap (filter (λ x. not (same_spot (spot_of x) (spot_of (get_or items k d))))) (one-more items first k d within)
      ∙ taken-out (λ a b. is_before (spot_of a) (spot_of b))
      (λ x. not (same_spot (spot_of x) (spot_of (get_or items k d))))
      (get_or items k d) (insert_items spot_of (take k items) first)
      (ap not (same_spot-refl (spot_of (get_or items k d))))
      (each-map (λ y. spot_of y ≢ spot_of (get_or items k d)) _ (insert_items spot_of (take k items) first)
      (λ y apart. ap not (same_spot-apart (spot_of y) (spot_of (get_or items k d)) apart))
      (next-free items first k d order free within))

-- a whole list is taken
pub take-whole : {A : Type 0} (n : ℕ) (xs : List A) → length xs ≤ n → take n xs ≡ xs
take-whole zero [] most = refl
take-whole zero (x ∷ xs) most = absurd (omega arith)
take-whole (suc n) [] most = refl
take-whole (suc n) (x ∷ xs) most = ap (λ (l : List _). x ∷ l) (take-whole n xs (omega arith))

module _ {A B : Type 0} (spot_of : A → Spot) (lent : B → A) where
  -- the next of what is lent
  next-lent : (items : List B) (k : ℕ) (r : B) (x : A) → k < length items → r ≡ get_or items k r → x ≡ lent r
      → x ≡ get_or (map lent items) k x
  next-lent items k r x within is gives =
      gives ∙ ap lent is ∙ sym (get_or-mapped lent items k r x within)

  -- its spot is free
  pub lent-free : (items : List B) (first now : List A) (k : ℕ) (r : B) (x : A) → k < length items
      → r ≡ get_or items k r → x ≡ lent r
      → AreInOrder spot_of (map lent items) → AreFree spot_of (map lent items) first
      → now ≡ insert_items spot_of (take k (map lent items)) first → NoneAt spot_of (spot_of x) now
  lent-free items first now k r x within is gives order free so_far =
      let low : k < length (map lent items) = subst (λ n. k < n) (sym (length-mapped lent items)) within in
      subst (λ l. NoneAt spot_of (spot_of x) l) (sym so_far)
      (subst (λ y. NoneAt spot_of (spot_of y) (insert_items spot_of (take k (map lent items)) first))
      (sym (next-lent items k r x within is gives))
      (next-free spot_of (map lent items) first k x order free low))

  -- it was put in
  pub lent-more : (items : List B) (first now new : List A) (k : ℕ) (r : B) (x : A) → k < length items
      → r ≡ get_or items k r → x ≡ lent r
      → now ≡ insert_items spot_of (take k (map lent items)) first → new ≡ insert_item spot_of x now
      → new ≡ insert_items spot_of (take (k + 1) (map lent items)) first
  lent-more items first now new k r x within is gives so_far put =
      let low : k < length (map lent items) = subst (λ n. k < n) (sym (length-mapped lent items)) within in
      put ∙ ap (insert_item spot_of x) so_far
      ∙ ap (λ y. insert_item spot_of y (insert_items spot_of (take k (map lent items)) first))
      (next-lent items k r x within is gives)
      ∙ sym (one-more spot_of (map lent items) first k x low)

  -- it was taken out
  pub lent-less : (items : List B) (first now new : List A) (count k : ℕ) (r : B) (x : A) (spot : Spot) → count ≡ k + 1
      → k < length items → r ≡ get_or items k r → x ≡ lent r → spot ≡ spot_of x → AreInOrder spot_of (map lent items)
      → AreFree spot_of (map lent items) first → now ≡ insert_items spot_of (take count (map lent items)) first
      → new ≡ filter (λ y. not (same_spot (spot_of y) spot)) now → new ≡ insert_items spot_of
      (take k (map lent items)) first
  lent-less items first now new count k r x spot one within is gives at order free so_far out =
      let low : k < length (map lent items) = subst (λ n. k < n) (sym (length-mapped lent items)) within in
      out ∙ ap (filter (λ y. not (same_spot (spot_of y) spot)))
      (so_far ∙ ap (λ n. insert_items spot_of (take n (map lent items)) first) one)
      ∙ ap (λ s. filter (λ y. not (same_spot (spot_of y) s))
      (insert_items spot_of (take (k + 1) (map lent items)) first))
      (at ∙ ap spot_of (next-lent items k r x within is gives))
      ∙ one-less spot_of (map lent items) first k x order free low
