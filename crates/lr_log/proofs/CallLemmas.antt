-- The index of calls follows the items.
use Rattle.std.proofs.Common.{◌≡◌, ◌≢◌, ◌≤◌, ℕ, suc, Bool, true, false, cond, List, [], ◌∷◌, length}
use Rattle.std.proofs.Common.{get_or, map, filter}
use Rattle.std.proofs.Common.{refl, sym, ap, ◌∙◌, subst, arith, not}
use Rattle.std.specs.Prelude.{insert}
use Rattle.std.specs.List.Sorted.{IsPartitionPoint}
use Rattle.std.specs.List.{AllByRecursion}
use Rattle.lr_base.specs.Ascending.{is_before}
use Rattle.lr_base.specs.Insertion.{Ascends, insert_by, sorted_by}
use Rattle.lr_base.specs.InsertionLaws.{ascends-inserted, each-inserted, inserted-commute, inserted-where}
use Rattle.lr_base.specs.InsertionLaws.{length-inserted}
use Rattle.lr_base.specs.Places.{AreInOrder}
use Rattle.lr_base.specs.declared.names.Cid.{Cid}
use Rattle.lr_base.specs.declared.names.Spot.{Spot}
use Rattle.lr_log.specs.Calls.{IsPlaced, entry_before, entry_of, index_of, insert_entry}
use Rattle.lr_log.specs.declared.calls.CallSpot.{CallSpot}
use Rattle.lr_log.specs.ItemLaws.{each-map}
use Rattle.lr_log.specs.Items.{NoneAt}
use Rattle.lr_log.proofs.Entries.{entry-behind, entry-once, entry-one, entry-trans, same_spot-apart, same_spot-refl}
use Rattle.lr_log.specs.Rows.{AreRows, insert_item, same_spot, together}
use Rattle.lr_log.proofs.RowLemmas.{AreRows-filter, filter-all, in_order-together}
use Rattle.lr_log.proofs.RowLemmas.{together-filter}
use Rattle.lr_log.proofs.Searches.{each-at}
use Rattle.lr_base.specs.NameLaws.{before-apart}

-- ---- insertion

module _ {A : Type 0} (before : A → A → Bool) where
  -- an element before all others is put in front
  inserted-least : (x : A) (xs : List A) → AllByRecursion (λ y. before x y ≡ true) xs → insert_by before x xs ≡ x ∷ xs
  inserted-least x [] all = refl
  inserted-least x (y ∷ xs) all = rw all.0 refl

  -- what holds of each element holds of each of the sorted ones
  pub each-sorted : (P : A → Type 0) (xs : List A) → AllByRecursion P xs → AllByRecursion P (sorted_by before xs)
  each-sorted P [] all = tt
  each-sorted P (x ∷ xs) all =
      each-inserted (λ y z. false) before x P (sorted_by before xs) all.0 (each-sorted P xs all.1)

  pub length-sorted : (xs : List A) → length (sorted_by before xs) ≡ length xs
  length-sorted [] = refl
  length-sorted (x ∷ xs) = length-inserted before x (sorted_by before xs) ∙ ap suc (length-sorted xs)

module _ {A : Type 0} (before : A → A → Bool)
    (trans : (a b c : A) → before a b ≡ true → before b c ≡ true → before a c ≡ true) where
  each-kept : (P : A → Type 0) (test : A → Bool) (xs : List A) → AllByRecursion P xs → AllByRecursion P (filter test xs)
  each-kept P test [] all = tt
  each-kept P test (x ∷ xs) all = go (test x) (each-kept P test xs all.1)
    where
      go : (s : Bool) → AllByRecursion P (filter test xs)
          → AllByRecursion P (cond s (x ∷ filter test xs) (filter test xs))
      go true rest = (all.0, rest)
      go false rest = rest

  -- what passes a test of a sorted list with one more
  pub filter-inserted : (test : A → Bool) (x : A) (xs : List A) → Ascends before xs
      → filter test (insert_by before x xs) ≡ cond (test x) (insert_by before x (filter test xs)) (filter test xs)
  filter-inserted test x [] all = refl
  filter-inserted test x (y ∷ xs) all = go (before x y) refl (test x) refl (test y) refl
      (filter-inserted test x xs all.1)
    where
      go : (s : Bool) → before x y ≡ s → (t : Bool) → test x ≡ t → (u : Bool) → test y ≡ u
          → filter test (insert_by before x xs) ≡ cond (test x) (insert_by before x (filter test xs)) (filter test xs)
          → filter test (insert_by before x (y ∷ xs)) ≡ cond (test x) (insert_by before x (filter test (y ∷ xs)))
          (filter test (y ∷ xs))
      go true first true own u other rest =
          let least : insert_by before x (filter test (y ∷ xs)) ≡ x ∷ filter test (y ∷ xs) =
          inserted-least before x (filter test (y ∷ xs)) (each-kept (λ z. before x z ≡ true) test (y ∷ xs) (
            first,
            each-map (λ z. before y z ≡ true) (λ z. before x z ≡ true) xs (λ z next. trans x y z first next)
                all.0,
          )) in
          rw (first, own) (sym least)
      go true first false own u other rest = rw (first, own) refl
      go false first true own true other rest =
          let below : filter test (insert_by before x xs) ≡ insert_by before x (filter test xs) = rest ∙ ap
          (λ b. cond b (insert_by before x (filter test xs)) (filter test xs)) own in
          rw (first, own, other) (rw first (ap (λ (l : List A). y ∷ l) below))
      go false first true own false other rest =
          let below : filter test (insert_by before x xs) ≡ insert_by before x (filter test xs) = rest ∙ ap
          (λ b. cond b (insert_by before x (filter test xs)) (filter test xs)) own in
          rw (first, own, other) below
      go false first false own true other rest =
          let below : filter test (insert_by before x xs) ≡ filter test xs = rest ∙ ap
          (λ b. cond b (insert_by before x (filter test xs)) (filter test xs)) own in
          rw (first, own, other) (ap (λ (l : List A). y ∷ l) below)
      go false first false own false other rest =
          let below : filter test (insert_by before x xs) ≡ filter test xs = rest ∙ ap
          (λ b. cond b (insert_by before x (filter test xs)) (filter test xs)) own in
          rw (first, own, other) below

-- ---- the index

module _ {A : Type 0} (spot_of : A → Spot) (cid_of : A → Cid) where
  pub length-index : (items : List A) → length (index_of spot_of cid_of items) ≡ length items
  length-index items = length-sorted entry_before (map (entry_of spot_of cid_of) items) ∙ mapped items
    where
      mapped : (xs : List A) → length (map (entry_of spot_of cid_of) xs) ≡ length xs
      mapped [] = refl
      mapped (x ∷ xs) = ap suc (mapped xs)

  -- what holds of each item's entry holds of each entry
  pub each-entry : (P : CallSpot → Type 0) (items : List A) → AllByRecursion (λ x. P (entry_of spot_of cid_of x)) items
      → AllByRecursion P (index_of spot_of cid_of items)
  each-entry P items all = each-sorted entry_before P (map (entry_of spot_of cid_of) items) (mapped items all)
    where
      mapped : (xs : List A) → AllByRecursion (λ x. P (entry_of spot_of cid_of x)) xs
          → AllByRecursion P (map (entry_of spot_of cid_of) xs)
      mapped [] each = tt
      mapped (x ∷ xs) each = (each.0, mapped xs each.1)

  -- an item more is an entry more
  pub index-inserted : (x : A) (items : List A)
      → index_of spot_of cid_of (insert_item spot_of x items) ≡ insert_entry (entry_of spot_of cid_of x)
      (index_of spot_of cid_of items)
  index-inserted x [] = refl
  index-inserted x (y ∷ items) = go (is_before (spot_of x) (spot_of y)) (index-inserted x items)
    where
      go : (s : Bool)
          → index_of spot_of cid_of (insert_item spot_of x items) ≡ insert_entry (entry_of spot_of cid_of x)
          (index_of spot_of cid_of items)
          → index_of spot_of cid_of (cond s (x ∷ y ∷ items) (y ∷ insert_item spot_of x items))
          ≡ insert_entry (entry_of spot_of cid_of x) (index_of spot_of cid_of (y ∷ items))
      go true rest = refl
      go false rest =
          ap (insert_entry (entry_of spot_of cid_of y)) rest
          ∙ inserted-commute entry_before entry-one entry-trans (entry_of spot_of cid_of y)
          (entry_of spot_of cid_of x) (index_of spot_of cid_of items)

  -- the entries ascend
  pub index-ascends : (items : List A) → AreInOrder spot_of items → Ascends entry_before (index_of spot_of cid_of items)
  index-ascends [] order = tt
  index-ascends (x ∷ items) order =
      ascends-inserted (λ a b. false) entry_before (entry_of spot_of cid_of x) entry_before
      (λ y z first second. entry-trans (entry_of spot_of cid_of x) y z first second) (index_of spot_of cid_of items)
      (each-map (λ e. e.spot ≢ spot_of x) _ (index_of spot_of cid_of items) (λ e apart t other is. side e apart t is)
      (each-entry (λ e. e.spot ≢ spot_of x) items
      (each-map (λ y. is_before (spot_of x) (spot_of y) ≡ true) (λ y. spot_of y ≢ spot_of x) items
      (λ y before same. before-apart (spot_of x) (spot_of y) before (sym same)) order.0)))
      (index-ascends items order.1)
    where
      side : (e : CallSpot) → e.spot ≢ spot_of x → (t : Bool) → entry_before (entry_of spot_of cid_of x) e ≡ t
          → cond t (entry_before (entry_of spot_of cid_of x) e) (entry_before e (entry_of spot_of cid_of x)) ≡ true
      side e apart true is = is
      side e apart false is = entry-behind (entry_of spot_of cid_of x) e (λ same. apart (sym same)) is

  -- the entries of the items whose spots pass a test
  pub index-filter : (test : Spot → Bool) (items : List A) → AreInOrder spot_of items
      → filter (λ e. test e.spot) (index_of spot_of cid_of items) ≡ index_of spot_of cid_of
      (filter (λ x. test (spot_of x)) items)
  index-filter test [] order = refl
  index-filter test (x ∷ items) order =
      filter-inserted entry_before entry-trans (λ e. test e.spot) (entry_of spot_of cid_of x)
      (index_of spot_of cid_of items) (index-ascends items order.1)
      ∙ go (test (spot_of x)) (index-filter test items order.1)
    where
      go : (s : Bool)
          → filter (λ e. test e.spot) (index_of spot_of cid_of items) ≡ index_of spot_of cid_of
          (filter (λ y. test (spot_of y)) items)
          → cond s (insert_entry (entry_of spot_of cid_of x)
          (filter (λ e. test e.spot) (index_of spot_of cid_of items))) (filter (λ e. test e.spot)
          (index_of spot_of cid_of items))
          ≡ index_of spot_of cid_of (cond s (x ∷ filter (λ y. test (spot_of y)) items)
          (filter (λ y. test (spot_of y)) items))
      go true rest = ap (insert_entry (entry_of spot_of cid_of x)) rest
      go false rest = rest

-- ---- what a search of the index finds

-- an entry goes where a search for it ends
pub inserted-entry : (entry : CallSpot) (listed own entries new : List CallSpot) (at : ℕ) → listed ≡ own → own ≡ entries
    → at ≤ length listed → IsPartitionPoint (λ e. entry_before e entry ≡ true) (λ e. entry_before e entry ≡ false)
    listed at
    → NoneAt (λ e. e.spot) entry.spot entries → new ≡ insert own at entry → new ≡ insert_entry entry entries
inserted-entry entry listed own entries new at lists is most point free put =
    put ∙ ap (λ l. insert l at entry) (sym lists)
    ∙ inserted-where entry_before entry listed at entry entry most
    (λ k low. entry-once (get_or listed k entry) entry (point.0 k entry (omega arith) low))
    (λ low. entry-behind (get_or listed at entry) entry
    (each-at (λ e. e.spot ≢ entry.spot) listed at entry low
    (subst (NoneAt (λ e. e.spot) entry.spot) (sym (lists ∙ is)) free))
    (point.1 at entry (omega arith) low))
    ∙ ap (insert_entry entry) (lists ∙ is)

module _ {A : Type 0} (before : A → A → Bool)
    (trans : (a b c : A) → before a b ≡ true → before b c ≡ true → before a c ≡ true) where
  -- what was inserted is taken out again
  pub removed-inserted : (test : A → Bool) (x : A) (xs : List A) → Ascends before xs → test x ≡ false
      → AllByRecursion (λ y. test y ≡ true) xs → filter test (insert_by before x xs) ≡ xs
  removed-inserted test x xs all own others =
      filter-inserted before trans test x xs all ∙ ap
      (λ b. cond b (insert_by before x (filter test xs)) (filter test xs)) own
      ∙ filter-all test xs others

module _ {A : Type 0} (spot_of : A → Spot) (cid_of : A → Cid) where
  -- rows and index with one more item
  pub IsPlaced-more : (x : A) (rows new : List (List A)) (index new_index : List CallSpot) (entry : CallSpot)
      → IsPlaced spot_of cid_of rows index → AreRows spot_of 0 new → together new ≡ insert_item spot_of x
      (together rows)
      → entry ≡ entry_of spot_of cid_of x → new_index ≡ insert_entry entry index → IsPlaced spot_of cid_of new new_index
  IsPlaced-more x rows new index new_index entry is are put own put_entry = record {
    placed = are;
    indexed = put_entry ∙ ap (λ e. insert_entry e index) own ∙ ap (insert_entry (entry_of spot_of cid_of x)) is.indexed
        ∙ sym (index-inserted spot_of cid_of x (together rows)) ∙ ap (index_of spot_of cid_of) (sym put);
  }

  -- rows with the same items, and the same index
  pub IsPlaced-same : (rows new : List (List A)) (index new_index : List CallSpot) → IsPlaced spot_of cid_of rows index
      → AreRows spot_of 0 new → together new ≡ together rows → new_index ≡ index → IsPlaced spot_of cid_of new new_index
  IsPlaced-same rows new index new_index is are same same_index = record {
    placed = are;
    indexed = same_index ∙ is.indexed ∙ ap (index_of spot_of cid_of) (sym same);
  }

  -- rows and index without the items whose spots fail a test
  pub IsPlaced-filter : (test : Spot → Bool) (rows new : List (List A)) (index new_index : List CallSpot)
      → IsPlaced spot_of cid_of rows index → new ≡ map (filter (λ x. test (spot_of x))) rows
      → new_index ≡ filter (λ e. test e.spot) index → IsPlaced spot_of cid_of new new_index
  IsPlaced-filter test rows new index new_index is kept kept_index = record {
    placed = subst (AreRows spot_of 0) (sym kept) (AreRows-filter spot_of (λ x. test (spot_of x)) 0 rows is.placed);
    indexed = kept_index ∙ ap (filter (λ e. test e.spot)) is.indexed
        ∙ index-filter spot_of cid_of test (together rows) (in_order-together spot_of 0 rows is.placed)
        ∙ ap (index_of spot_of cid_of) (sym (together-filter (λ x. test (spot_of x)) rows) ∙ ap together (sym kept));
  }

  -- no entry is at the spot of no item
  pub index-free : (spot : Spot) (rows : List (List A)) (items : List A) (index : List CallSpot)
      → IsPlaced spot_of cid_of rows index
      → together rows ≡ items → NoneAt spot_of spot items → NoneAt (λ e. e.spot) spot index
  index-free spot rows items index is view free =
      subst (NoneAt (λ e. e.spot) spot) (ap (index_of spot_of cid_of) (sym view) ∙ sym is.indexed)
      (each-entry spot_of cid_of (λ e. e.spot ≢ spot) items free)

  pub index-in_order : (rows : List (List A)) (index : List CallSpot) → IsPlaced spot_of cid_of rows index
      → Ascends entry_before index
  index-in_order rows index is =
      subst (Ascends entry_before) (sym is.indexed)
      (index-ascends spot_of cid_of (together rows) (in_order-together spot_of 0 rows is.placed))

-- an entry that was inserted is taken out again
pub removed-entry : (entry : CallSpot) (entries : List CallSpot) → Ascends entry_before entries
    → NoneAt (λ e. e.spot) entry.spot entries
    → filter (λ e. not (same_spot e.spot entry.spot)) (insert_entry entry entries) ≡ entries
removed-entry entry entries all free =
    removed-inserted entry_before entry-trans (λ e. not (same_spot e.spot entry.spot)) entry entries all
    (ap not (same_spot-refl entry.spot))
    (each-map (λ e. e.spot ≢ entry.spot) _ entries (λ e apart. ap not (same_spot-apart e.spot entry.spot apart)) free)

module _ {A : Type 0} (spot_of : A → Spot) (cid_of : A → Cid) where
  -- the index after an entry was inserted and taken out
  pub inserted-again : (entry : CallSpot) (rows : List (List A)) (items : List A) (index more again : List CallSpot)
      → IsPlaced spot_of cid_of rows index → together rows ≡ items → NoneAt spot_of entry.spot items
      → more ≡ insert_entry entry index
      → again ≡ filter (λ e. not (same_spot e.spot entry.spot)) more → again ≡ index
  inserted-again entry rows items index more again is view free put out =
      out ∙ ap (filter (λ e. not (same_spot e.spot entry.spot))) put
      ∙ removed-entry entry index (index-in_order spot_of cid_of rows index is)
      (index-free spot_of cid_of entry.spot rows items index is view free)
