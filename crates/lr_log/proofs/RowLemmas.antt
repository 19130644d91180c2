-- Items that are kept place by place stand in the order of their spots.
use Rattle.std.proofs.Common.{◌≡◌, ◌≢◌, ◌<◌, ◌≤◌, ◌+◌, ℕ, zero, suc, Bool, true, false, cond, List, [], ◌∷◌, ◌++◌}
use Rattle.std.proofs.Common.{length, get_or, set, take, take-suc, add-one, drop, map, filter}
use Rattle.std.proofs.Common.{refl, sym, ap, ◌∙◌, subst, arith, append_assoc, inl, inr, ◌⊎◌, eq-eqb, ne_eqb, lt-ltb}
use Rattle.std.proofs.Common.{ltb-true}
use Rattle.std.specs.Prelude.{◌==◌}
use Rattle.std.specs.List.{AllByRecursion}
use Rattle.std.proofs.lemmas.List.{get_or_default, take_all}
use Rattle.std.proofs.lemmas.List.Edits.{map_over_more}
use Rattle.lr_base.specs.Ascending.{is_before}
use Rattle.lr_base.specs.Insertion.{Ascends, insert_by}
use Rattle.lr_base.specs.InsertionLaws.{each-inserted}
use Rattle.lr_base.specs.Places.{AreInOrder, items_at}
use Rattle.lr_base.specs.Rules.{is_new}
use Rattle.lr_base.specs.Stamps.{part}
use Rattle.lr_base.specs.declared.names.Spot.{Spot}
use Rattle.lr_log.specs.ItemLaws.{ascends-filter, each-filter, each-map, in_order-inserted}
use Rattle.lr_log.specs.Items.{NoneAt}
use Rattle.lr_log.specs.Rows.{AreRows, IsRow, insert_item, together}
use Rattle.lr_base.specs.NameLaws.{before-once, before-holds, before-shown}

module _ {A : Type 0} where
  -- what holds of each element of two lists holds of each of both
  pub each-append : (P : A → Type 0) (xs ys : List A) → AllByRecursion P xs → AllByRecursion P ys
      → AllByRecursion P (xs ++ ys)
  each-append P [] ys all rest = rest
  each-append P (x ∷ xs) ys all rest = (all.0, each-append P xs ys all.1 rest)

  -- a list that ascends before another that does
  pub ascends-append : (before : A → A → Bool) (xs ys : List A) → Ascends before xs → Ascends before ys
      → AllByRecursion (λ x. AllByRecursion (λ y. before x y ≡ true) ys) xs → Ascends before (xs ++ ys)
  ascends-append before [] ys all rest across = rest
  ascends-append before (x ∷ xs) ys all rest across =
      (each-append (λ y. before x y ≡ true) xs ys all.0 across.0, ascends-append before xs ys all.1 rest across.1)

  pub filter-append : (test : A → Bool) (xs ys : List A) → filter test (xs ++ ys) ≡ filter test xs ++ filter test ys
  filter-append test [] ys = refl
  filter-append test (x ∷ xs) ys = go (test x) (filter-append test xs ys)
    where
      go : (s : Bool) → filter test (xs ++ ys) ≡ filter test xs ++ filter test ys
          → cond s (x ∷ filter test (xs ++ ys)) (filter test (xs ++ ys)) ≡ cond s (x ∷ filter test xs)
          (filter test xs) ++ filter test ys
      go true rest = ap (λ (l : List A). x ∷ l) rest
      go false rest = rest

  -- a list all of which passes a test, or none
  pub filter-all : (test : A → Bool) (xs : List A) → AllByRecursion (λ x. test x ≡ true) xs → filter test xs ≡ xs
  filter-all test [] all = refl
  filter-all test (x ∷ xs) all = rw all.0 (ap (λ (l : List A). x ∷ l) (filter-all test xs all.1))

  pub filter-none : (test : A → Bool) (xs : List A) → AllByRecursion (λ x. test x ≡ false) xs → filter test xs ≡ []
  filter-none test [] all = refl
  filter-none test (x ∷ xs) all = rw all.0 (filter-none test xs all.1)

  pub append-none : (xs : List A) → xs ++ [] ≡ xs
  append-none [] = refl
  append-none (x ∷ xs) = ap (λ (l : List A). x ∷ l) (append-none xs)

  -- an element that goes before all of the second list is inserted into the first
  pub inserted-front : (before : A → A → Bool) (x : A) (xs ys : List A) → AllByRecursion (λ y. before x y ≡ true) ys
      → insert_by before x (xs ++ ys) ≡ insert_by before x xs ++ ys
  inserted-front before x [] [] all = refl
  inserted-front before x [] (y ∷ ys) all = rw all.0 refl
  inserted-front before x (y ∷ xs) ys all = go (before x y) refl (inserted-front before x xs ys all)
    where
      go : (s : Bool) → before x y ≡ s → insert_by before x (xs ++ ys) ≡ insert_by before x xs ++ ys
          → insert_by before x (y ∷ xs ++ ys) ≡ insert_by before x (y ∷ xs) ++ ys
      go true is rest = rw is refl
      go false is rest = rw is (ap (λ (l : List A). y ∷ l) rest)

  -- and one that goes before none of the first into the second
  pub inserted-back : (before : A → A → Bool) (x : A) (xs ys : List A) → AllByRecursion (λ y. before x y ≡ false) xs
      → insert_by before x (xs ++ ys) ≡ xs ++ insert_by before x ys
  inserted-back before x [] ys all = refl
  inserted-back before x (y ∷ xs) ys all = rw all.0 (ap (λ (l : List A). y ∷ l) (inserted-back before x xs ys all.1))

module _ {A : Type 0} (spot_of : A → Spot) where
  -- no item of later rows is of a lower place
  pub each-together : (P : A → Type 0) (place : ℕ) (rows : List (List A)) → AreRows spot_of place rows
      → ((x : A) → place ≤ (spot_of x).place → P x) → AllByRecursion P (together rows)
  each-together P place [] are high = tt
  each-together P place (row ∷ rows) are high =
      each-append P row (together rows)
      (each-map (λ x. (spot_of x).place ≡ place) P row (λ x at. high x (omega arith)) are.0.0)
      (each-together P (suc place) rows are.1 (λ x le. high x (omega arith)))

  -- put together, the items stand in their order
  pub in_order-together : (place : ℕ) (rows : List (List A)) → AreRows spot_of place rows
      → AreInOrder spot_of (together rows)
  in_order-together place [] are = tt
  in_order-together place (row ∷ rows) are =
      ascends-append (λ a b. is_before (spot_of a) (spot_of b)) row (together rows) are.0.1
      (in_order-together (suc place) rows are.1)
      (each-map (λ x. (spot_of x).place ≡ place) _ row
      (λ x at. each-together (λ y. is_before (spot_of x) (spot_of y) ≡ true) (suc place) rows are.1
      (λ y le. before-shown (spot_of x) (spot_of y) (inl (omega arith)))) are.0.0)

  -- the items of a place are those of its row
  pub items_at-together : (place k : ℕ) (rows : List (List A)) → AreRows spot_of place rows
      → items_at spot_of (place + k) (together rows) ≡ get_or rows k []
  items_at-together place k [] are = refl
  items_at-together place zero (row ∷ rows) are =
      filter-append (λ x. (spot_of x).place == (place + 0)) row (together rows)
      ∙ (ap (λ l. l ++ items_at spot_of (place + 0) (together rows)) own
      ∙ (ap (λ l. row ++ l) others ∙ append-none row))
    where
      own : items_at spot_of (place + 0) row ≡ row
      own = filter-all (λ x. (spot_of x).place == (place + 0)) row
          (each-map (λ x. (spot_of x).place ≡ place) _ row
          (λ x at. eq-eqb (spot_of x).place (place + 0) (omega arith)) are.0.0)

      others : items_at spot_of (place + 0) (together rows) ≡ []
      others = filter-none (λ x. (spot_of x).place == (place + 0)) (together rows)
          (each-together (λ x. ((spot_of x).place == (place + 0)) ≡ false) (suc place) rows are.1
          (λ x le. ne_eqb (spot_of x).place (place + 0) (λ e. omega arith)))
  items_at-together place (suc k) (row ∷ rows) are =
      filter-append (λ x. (spot_of x).place == (place + suc k)) row (together rows)
      ∙ (ap (λ l. l ++ items_at spot_of (place + suc k) (together rows)) none
      ∙ (ap (λ n. items_at spot_of n (together rows)) next ∙ items_at-together (suc place) k rows are.1))
    where
      none : items_at spot_of (place + suc k) row ≡ []
      none = filter-none (λ x. (spot_of x).place == (place + suc k)) row
          (each-map (λ x. (spot_of x).place ≡ place) _ row
          (λ x at. ne_eqb (spot_of x).place (place + suc k) (λ e. omega arith)) are.0.0)

      next : place + suc k ≡ suc place + k
      next = omega arith

  -- an item is inserted into the row of its place
  pub inserted-together : (x : A) (place k : ℕ) (rows : List (List A)) → AreRows spot_of place rows → k < length rows
      → (spot_of x).place ≡ place + k
      → insert_item spot_of x (together rows) ≡ together (set rows k (insert_item spot_of x (get_or rows k [])))
  inserted-together x place k [] are within at = absurd (omega arith)
  inserted-together x place zero (row ∷ rows) are within at =
      inserted-front (λ a b. is_before (spot_of a) (spot_of b)) x row (together rows)
      (each-together (λ y. is_before (spot_of x) (spot_of y) ≡ true) (suc place) rows are.1
      (λ y le. before-shown (spot_of x) (spot_of y) (inl (omega arith))))
  inserted-together x place (suc k) (row ∷ rows) are within at =
      inserted-back (λ a b. is_before (spot_of a) (spot_of b)) x row (together rows)
      (each-map (λ y. (spot_of y).place ≡ place) (λ y. is_before (spot_of x) (spot_of y) ≡ false) row
      (λ y own. before-once (spot_of y) (spot_of x) (before-shown (spot_of y) (spot_of x) (inl (omega arith)))) are.0.0)
      ∙ ap (λ l. row ++ l) (inserted-together x (suc place) k rows are.1 (omega arith) (omega arith))

  -- each row has the items of its place
  pub AreRows-at : (place k : ℕ) (rows : List (List A)) (d : List A) → AreRows spot_of place rows → k < length rows
      → IsRow spot_of (place + k) (get_or rows k d)
  AreRows-at place k [] d are within = absurd (omega arith)
  AreRows-at place zero (row ∷ rows) d are within = let e : place ≡ place + 0 = omega arith in subst
      (λ n. IsRow spot_of n row) e are.0
  AreRows-at place (suc k) (row ∷ rows) d are within =
      let e : suc place + k ≡ place + suc k = omega arith in
      subst (λ n. IsRow spot_of n (get_or rows k d)) e (AreRows-at (suc place) k rows d are.1 (omega arith))

  -- rows one of which was changed
  pub AreRows-set : (place k : ℕ) (rows : List (List A)) (row : List A) → AreRows spot_of place rows
      → IsRow spot_of (place + k) row
      → AreRows spot_of place (set rows k row)
  AreRows-set place k [] row are is = tt
  AreRows-set place zero (x ∷ rows) row are is =
      (let e : place + 0 ≡ place = omega arith in subst (λ n. IsRow spot_of n row) e is, are.1)
  AreRows-set place (suc k) (x ∷ rows) row are is =
      let e : place + suc k ≡ suc place + k = omega arith in
      (are.0, AreRows-set (suc place) k rows row are.1 (subst (λ n. IsRow spot_of n row) e is))

  -- rows with an empty one behind them
  pub AreRows-more : (place : ℕ) (rows : List (List A)) → AreRows spot_of place rows
      → AreRows spot_of place (rows ++ [] ∷ [])
  AreRows-more place [] are = ((tt, tt), tt)
  AreRows-more place (row ∷ rows) are = (are.0, AreRows-more (suc place) rows are.1)

  -- rows without some of their items
  pub AreRows-filter : (test : A → Bool) (place : ℕ) (rows : List (List A)) → AreRows spot_of place rows
      → AreRows spot_of place (map (filter test) rows)
  AreRows-filter test place [] are = tt
  AreRows-filter test place (row ∷ rows) are = (
    (
      each-filter (λ x. (spot_of x).place ≡ place) test row are.0.0,
      ascends-filter (λ a b. is_before (spot_of a) (spot_of b)) test row are.0.1,
    ),
    AreRows-filter test (suc place) rows are.1,
  )

module _ {A : Type 0} where
  -- together they are the others, put together
  pub together-filter : (test : A → Bool) (rows : List (List A))
      → together (map (filter test) rows) ≡ filter test (together rows)
  together-filter test [] = refl
  together-filter test (row ∷ rows) = ap (λ l. filter test row ++ l) (together-filter test rows) ∙ sym
      (filter-append test row (together rows))

  pub together-more : (rows : List (List A)) (row : List A) → together (rows ++ row ∷ []) ≡ together rows ++ row
  together-more [] row = append-none row
  together-more (x ∷ rows) row = ap (λ l. x ++ l) (together-more rows row) ∙ sym (append_assoc x (together rows) row)

module _ {A : Type 0} where
  -- one more row was changed in its place
  pub mapped-more : (f : List A → List A) (rows now : List (List A)) (k : ℕ) (row new : List A) → k < length rows
      → now ≡ map f (take k rows) ++ drop k rows → row ≡ get_or now k row → new ≡ f (get_or now k row)
      → set now k new ≡ map f (take (k + 1) rows) ++ drop (k + 1) rows
  mapped-more f rows now k row new within so_far is changed =
      ap (set now k) (changed ∙ ap f (sym is)) ∙ map_over_more f rows now k row within so_far is

  -- what holds of all items holds of those of a row
  pub each-row : (P : A → Type 0) (rows : List (List A)) (k : ℕ) (d : List A) → k < length rows
      → AllByRecursion P (together rows)
      → AllByRecursion P (get_or rows k d)
  each-row P [] k d within all = absurd (omega arith)
  each-row P (row ∷ rows) zero d within all = front row all
    where
      front : (xs : List A) → AllByRecursion P (xs ++ together rows) → AllByRecursion P xs
      front [] each = tt
      front (x ∷ xs) each = (each.0, front xs each.1)
  each-row P (row ∷ rows) (suc k) d within all = each-row P rows k d (omega arith) (back row all)
    where
      back : (xs : List A) → AllByRecursion P (xs ++ together rows) → AllByRecursion P (together rows)
      back [] each = each
      back (x ∷ xs) each = back xs each.1

module _ {A : Type 0} (spot_of : A → Spot) where
  -- the row of an item has its items in order
  pub row-in_order : (rows : List (List A)) (k : ℕ) (row d : List A) → AreRows spot_of 0 rows → k < length rows
      → row ≡ get_or rows k d
      → AreInOrder spot_of row
  row-in_order rows k row d are within is = subst (AreInOrder spot_of) (sym is)
      (AreRows-at spot_of 0 k rows d are within).1

  -- an item went into the row of its place
  pub put-together : (x : A) (rows made : List (List A)) (k : ℕ) (row new d : List A) → AreRows spot_of 0 made
      → k < length made
      → row ≡ get_or made k d → k ≡ (spot_of x).place → together made ≡ together rows → new ≡ insert_item spot_of x row
      → together (set made k new) ≡ insert_item spot_of x (together rows)
  put-together x rows made k row new d are within is at same put =
      ap (λ l. together (set made k l)) (put ∙ ap (insert_item spot_of x) (is ∙ get_or_default made k d [] within))
      ∙ sym (inserted-together spot_of x 0 k made are within (omega arith)) ∙ ap (insert_item spot_of x) same

  pub put-rows : (x : A) (made : List (List A)) (k : ℕ) (row new d : List A) → AreRows spot_of 0 made → k < length made
      → row ≡ get_or made k d → k ≡ (spot_of x).place → NoneAt spot_of (spot_of x) row → new ≡ insert_item spot_of x row
      → AreRows spot_of 0 (set made k new)
  put-rows x made k row new d are within is at free put =
      let own = subst (IsRow spot_of (0 + k)) (sym is) (AreRows-at spot_of 0 k made d are within) in
      AreRows-set spot_of 0 k made new are (subst (IsRow spot_of (0 + k)) (sym put) (
        each-inserted (λ a b. false) (λ a b. is_before (spot_of a) (spot_of b)) x (λ y. (spot_of y).place ≡ 0 + k)
            row (omega arith) own.0,
        in_order-inserted spot_of x row free own.1,
      ))

  -- no item of the row stands at the spot
  pub put-free : (x : A) (rows made : List (List A)) (k : ℕ) (row d : List A) → k < length made → row ≡ get_or made k d
      → together made ≡ together rows → NoneAt spot_of (spot_of x) (together rows) → NoneAt spot_of (spot_of x) row
  put-free x rows made k row d within is same free =
      subst (NoneAt spot_of (spot_of x)) (sym is)
      (each-row (λ y. spot_of y ≢ spot_of x) made k d within (subst (NoneAt spot_of (spot_of x)) (sym same) free))

  -- the items of a place, at its row
  pub items_at-row : (k : ℕ) (rows : List (List A)) (row d : List A) → AreRows spot_of 0 rows → k < length rows
      → row ≡ get_or rows k d
      → row ≡ items_at spot_of k (together rows)
  items_at-row k rows row d are within is =
      is ∙ get_or_default rows k d [] within ∙ sym (items_at-together spot_of 0 k rows are)
      ∙ ap (λ n. items_at spot_of n (together rows)) (let e : 0 + k ≡ k = omega arith in e)

  -- and past the rows
  pub items_at-past : (k : ℕ) (rows : List (List A)) → AreRows spot_of 0 rows → length rows ≤ k
      → [] ≡ items_at spot_of k (together rows)
  items_at-past k rows are past =
      sym (none rows k past) ∙ sym (items_at-together spot_of 0 k rows are)
      ∙ ap (λ n. items_at spot_of n (together rows)) (let e : 0 + k ≡ k = omega arith in e)
    where
      none : (xs : List (List A)) (n : ℕ) → length xs ≤ n → get_or xs n [] ≡ []
      none [] n le = refl
      none (x ∷ xs) zero le = absurd (omega arith)
      none (x ∷ xs) (suc n) le = none xs n (omega arith)

  -- an empty row was pushed
  pub more-rows : (rows new : List (List A)) (row : List A) → new ≡ rows ++ row ∷ [] → row ≡ [] → AreRows spot_of 0 rows
      → AreRows spot_of 0 new
  more-rows rows new row pushed empty are =
      subst (AreRows spot_of 0) (sym (pushed ∙ ap (λ r. rows ++ r ∷ []) empty)) (AreRows-more spot_of 0 rows are)

-- and the items are the same
pub more-same : {A : Type 0} (rows new : List (List A)) (row : List A) → new ≡ rows ++ row ∷ [] → row ≡ []
    → together new ≡ together rows
more-same rows new row pushed empty =
    ap together (pushed ∙ ap (λ r. rows ++ r ∷ []) empty) ∙ together-more rows [] ∙ append-none (together rows)

module _ {A : Type 0} (spot_of : A → Spot) (rep_ts : List ℕ) where
  -- behind an item that is new each of its row is
  row-new : (x : A) (xs : List A) → AllByRecursion (λ y. (spot_of y).place ≡ (spot_of x).place) xs
      → AllByRecursion (λ y. is_before (spot_of x) (spot_of y) ≡ true) xs → is_new rep_ts (spot_of x) ≡ true
      → AllByRecursion (λ y. is_new rep_ts (spot_of y) ≡ true) xs
  row-new x [] places order new = tt
  row-new x (y ∷ xs) places order new = (later y places.0 order.0, row-new x xs places.1 order.1 new)
    where
      later : (y : A) → (spot_of y).place ≡ (spot_of x).place → is_before (spot_of x) (spot_of y) ≡ true
          → is_new rep_ts (spot_of y) ≡ true
      later y same before =
          let less : part rep_ts (spot_of x).place < (spot_of x).number = ltb-true (part rep_ts (spot_of x).place)
          (spot_of x).number new in
          let parts : part rep_ts (spot_of y).place ≡ part rep_ts (spot_of x).place = ap (part rep_ts) same in
          up less parts (before-holds (spot_of x) (spot_of y) before)
        where
          up : part rep_ts (spot_of x).place < (spot_of x).number
              → part rep_ts (spot_of y).place ≡ part rep_ts (spot_of x).place
              → ((spot_of x).place < (spot_of y).place) ⊎
              (((spot_of x).place ≡ (spot_of y).place) × ((spot_of x).number < (spot_of y).number))
              → is_new rep_ts (spot_of y) ≡ true
          up less parts (inl other) = absurd (omega arith)
          up less parts (inr at) = let more = at.1 in lt-ltb (part rep_ts (spot_of y).place) (spot_of y).number
              (omega arith)

  -- a row that begins with a new item has new ones alone
  pub begins-new : (place : ℕ) (row : List A) → IsRow spot_of place row
      → ((x : A) (xs : List A) → row ≡ x ∷ xs → is_new rep_ts (spot_of x) ≡ true)
      → AllByRecursion (λ y. is_new rep_ts (spot_of y) ≡ true) row
  begins-new place [] is first = tt
  begins-new place (x ∷ xs) is first =
      let new = first x xs refl in
      (new, row-new x xs (same xs is.0.1) is.1.0 new)
    where
      same : (ys : List A) → AllByRecursion (λ y. (spot_of y).place ≡ place) ys
          → AllByRecursion (λ y. (spot_of y).place ≡ (spot_of x).place) ys
      same [] all = tt
      same (y ∷ ys) all = (all.0 ∙ sym is.0.0, same ys all.1)

-- what holds of each item of some rows and of one more row
pub each-row_more : {A : Type 0} (P : A → Type 0) (rows : List (List A)) (k : ℕ) (row : List A) → k < length rows
    → row ≡ get_or rows k row
    → AllByRecursion P (together (take k rows)) → AllByRecursion P row → AllByRecursion P (together (take (k + 1) rows))
each-row_more P rows k row less is before own =
    rw (add-one k, take-suc rows k row less, ← is, together-more (take k rows) row)
    (each-append P (together (take k rows)) row before own)

pub each-row_all : {A : Type 0} (P : A → Type 0) (rows : List (List A)) (k : ℕ) → length rows ≤ k
    → AllByRecursion P (together (take k rows)) → AllByRecursion P (together rows)
each-row_all P rows k past all = subst (λ (rs : List (List _)). AllByRecursion P (together rs)) (take_all k rows past)
    all

module _ {A : Type 0} (spot_of : A → Spot) where
  -- the place of each item of the rows is below their count
  pub places-below : (place most : ℕ) (rows : List (List A)) → AreRows spot_of place rows → place + length rows ≤ most
      → AllByRecursion (λ x. (spot_of x).place < most) (together rows)
  places-below place most [] are within = tt
  places-below place most (row ∷ rows) are within =
      each-append (λ x. (spot_of x).place < most) row (together rows)
      (each-map (λ x. (spot_of x).place ≡ place) (λ x. (spot_of x).place < most) row (λ x at. omega arith) are.0.0)
      (places-below (suc place) most rows are.1 (omega arith))
