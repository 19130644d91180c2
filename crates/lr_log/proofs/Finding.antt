-- What is found first in a list.
use Rattle.std.proofs.Common.{◌≡◌, ◌<◌, ◌≤◌, ◌⊎◌, inl, inr, ℕ, zero, suc, Bool, true, false, cond, List, [], ◌∷◌}
use Rattle.std.proofs.Common.{length, get_or, refl, sym, ap, ◌∙◌, subst, arith, eq-eqb, ltb-true, ltb-false, ◌+◌}
use Rattle.std.specs.Prelude.{◌==◌, find, nat_lt, Option, Some, None}
use Rattle.lr_log.specs.ItemLaws.{each-map}
use Rattle.std.specs.List.{AllByRecursion}
use Rattle.std.specs.List.Sorted.{IsPartitionPoint}
use Rattle.std.specs.Option.{option_map}
use Rattle.lr_base.specs.Ascending.{cid_before, is_before, same_cid}
use Rattle.lr_base.specs.Insertion.{Ascends, insert_by}
use Rattle.lr_base.specs.Places.{AreInOrder, items_at}
use Rattle.lr_base.specs.declared.names.Cid.{Cid}
use Rattle.lr_base.specs.declared.names.Spot.{Spot}
use Rattle.lr_log.specs.Calls.{IsPlaced, entry_before, entry_of, index_of}
use Rattle.lr_log.specs.declared.calls.CallSpot.{CallSpot}
use Rattle.lr_log.specs.Rows.{same_spot, together}
use Rattle.lr_base.specs.NameLaws.{before-apart, cid-apart, same_cid-is}
use Rattle.lr_log.proofs.CallLemmas.{each-entry}
use Rattle.lr_log.proofs.Entries.{entry-holds, entry-shown, same-cid}
use Rattle.lr_log.proofs.Entries.{same_spot-apart, same_spot-refl}
use Rattle.lr_log.proofs.RowLemmas.{in_order-together, items_at-together}
use Rattle.lr_log.proofs.Searches.{each-at}
use Rattle.std.proofs.lemmas.List.{get_or_default}

module _ {A : Type 0} (test : A → Bool) where
  -- the first that passes, where those before it fail
  pub find-at : (xs : List A) (k : ℕ) (d : A) → k < length xs → ((i : ℕ) → i < k → test (get_or xs i d) ≡ false)
      → test (get_or xs k d) ≡ true → find test xs ≡ Some (get_or xs k d)
  find-at [] k d within before here = absurd (omega arith)
  find-at (x ∷ xs) zero d within before here = rw here refl
  find-at (x ∷ xs) (suc k) d within before here =
      let not_first : test x ≡ false = before 0 (omega arith) in
      rw not_first (find-at xs k d (omega arith) (λ i low. before (suc i) (omega arith)) here)

  -- none, where each fails
  pub find-none : (xs : List A) (d : A) → ((i : ℕ) → i < length xs → test (get_or xs i d) ≡ false) → find test xs ≡ None
  find-none [] d fails = refl
  find-none (x ∷ xs) d fails =
      let not_first : test x ≡ false = fails 0 (omega arith) in
      rw not_first (find-none xs d (λ i low. fails (suc i) (omega arith)))

  -- what holds of each element holds of the one that is found
  pub each-found : (P : A → Type 0) (xs : List A) (x : A) → AllByRecursion P xs → find test xs ≡ Some x → P x
  each-found P [] x all found = cc
  each-found P (y ∷ xs) x all found = go (test y) refl (each-found P xs x all.1)
    where
      go : (s : Bool) → test y ≡ s → (find test xs ≡ Some x → P x) → P x
      go true is rest = let here : Some y ≡ Some x = rw is at found in let same : y ≡ x = cc in subst P same all.0
      go false is rest = let later : find test xs ≡ Some x = rw is at found in rest later

  -- one more that fails
  pub find-inserted_fails : (before : A → A → Bool) (x : A) (xs : List A) → test x ≡ false
      → find test (insert_by before x xs) ≡ find test xs
  find-inserted_fails before x [] fails = rw fails refl
  find-inserted_fails before x (y ∷ xs) fails = go (before x y) refl (test y) refl
      (find-inserted_fails before x xs fails)
    where
      go : (s : Bool) → before x y ≡ s → (t : Bool) → test y ≡ t → find test (insert_by before x xs) ≡ find test xs
          → find test (insert_by before x (y ∷ xs)) ≡ find test (y ∷ xs)
      go true is t own rest = rw (is, fails) refl
      go false is true own rest = rw (is, own) refl
      go false is false own rest = rw (is, own) rest

  -- one more that passes, before each that does
  pub find-inserted_first : (before : A → A → Bool) (x : A) (xs : List A) → test x ≡ true
      → AllByRecursion (λ y. test y ≡ true → before x y ≡ true) xs → find test (insert_by before x xs) ≡ Some x
  find-inserted_first before x [] passes all = rw passes refl
  find-inserted_first before x (y ∷ xs) passes all = go (before x y) refl (test y) refl
      (find-inserted_first before x xs passes all.1)
    where
      go : (s : Bool) → before x y ≡ s → (t : Bool) → test y ≡ t → find test (insert_by before x xs) ≡ Some x
          → find test (insert_by before x (y ∷ xs)) ≡ Some x
      go true is t own rest = rw (is, passes) refl
      go false is true own rest = let no : false ≡ true = sym is ∙ all.0 own in cc
      go false is false own rest = rw (is, own) rest

-- of two elements of a list that ascends the earlier is before the later
ascends-pair : {A : Type 0} (before : A → A → Bool) (xs : List A) (i j : ℕ) (d : A) → Ascends before xs → i < j
    → j < length xs
    → before (get_or xs i d) (get_or xs j d) ≡ true
ascends-pair before [] i j d all low within = absurd (omega arith)
ascends-pair before (x ∷ xs) zero zero d all low within = absurd (omega arith)
ascends-pair before (x ∷ xs) zero (suc j) d all low within = each-at (λ y. before x y ≡ true) xs j d (omega arith) all.0
ascends-pair before (x ∷ xs) (suc i) zero d all low within = absurd (omega arith)
ascends-pair before (x ∷ xs) (suc i) (suc j) d all low within = ascends-pair before xs i j d all.1 (omega arith)
    (omega arith)

-- ---- in a row

module _ {A : Type 0} (spot_of : A → Spot) (spot : Spot) where
  below : (items : List A) (at : ℕ)
      → IsPartitionPoint (λ x. is_before (spot_of x) spot ≡ true) (λ x. is_before (spot_of x) spot ≡ false) items at
      → (d : A) (i : ℕ) → i < at → same_spot (spot_of (get_or items i d)) spot ≡ false
  below items at point d i low =
      same_spot-apart (spot_of (get_or items i d)) spot
      (before-apart (spot_of (get_or items i d)) spot (point.0 i d (omega arith) low))

  -- a search ends at what stands at the spot
  pub found-at : (items : List A) (at : ℕ) (d : A)
      → IsPartitionPoint (λ x. is_before (spot_of x) spot ≡ true) (λ x. is_before (spot_of x) spot ≡ false) items at
      → at < length items → same_spot (spot_of (get_or items at d)) spot ≡ true → find
      (λ x. same_spot (spot_of x) spot) items ≡ Some (get_or items at d)
  found-at items at d point within here =
      find-at (λ x. same_spot (spot_of x) spot) items at d within (λ i low. below items at point d i low) here

  -- or past all
  pub found-end : (items : List A) (at : ℕ)
      → IsPartitionPoint (λ x. is_before (spot_of x) spot ≡ true) (λ x. is_before (spot_of x) spot ≡ false) items at
      → at ≡ length items → find (λ x. same_spot (spot_of x) spot) items ≡ None
  found-end [] at point past = refl
  found-end (x ∷ items) at point past =
      find-none (λ y. same_spot (spot_of y) spot) (x ∷ items) x (λ i low. below (x ∷ items) at point x i (omega arith))

  -- or at another
  pub found-other : (items : List A) (at : ℕ) (d : A) → AreInOrder spot_of items
      → IsPartitionPoint (λ x. is_before (spot_of x) spot ≡ true) (λ x. is_before (spot_of x) spot ≡ false) items at
      → at < length items → same_spot (spot_of (get_or items at d)) spot ≡ false → find
      (λ x. same_spot (spot_of x) spot) items ≡ None
  found-other items at d order point within other =
      find-none (λ x. same_spot (spot_of x) spot) items d
      (λ i low. elim (three i) [ inl le ↦ below items at point d i le | inr ge ↦ above i low ge ])
    where
      three : (i : ℕ) → (i < at) ⊎ (at ≤ i)
      three i = go (nat_lt i at) refl
        where
          go : (s : Bool) → nat_lt i at ≡ s → (i < at) ⊎ (at ≤ i)
          go true is = inl (ltb-true i at is)
          go false is = inr (ltb-false i at is)

      above : (i : ℕ) → i < length items → at ≤ i → same_spot (spot_of (get_or items i d)) spot ≡ false
      above i low ge = same_spot-apart (spot_of (get_or items i d)) spot (λ same. go (nat_lt at i) refl same)
        where
          go : (s : Bool) → nat_lt at i ≡ s → spot_of (get_or items i d) ≡ spot → ⊥
          go true is same =
              let before : is_before (spot_of (get_or items at d)) spot ≡ true =
              subst (λ s. is_before (spot_of (get_or items at d)) s ≡ true) same
              (ascends-pair (λ a b. is_before (spot_of a) (spot_of b)) items at i d order (ltb-true at i is) low) in
              let after = point.1 at d (omega arith) within in
              let no : true ≡ false = sym before ∙ after in absurd (cc)
          go false is same =
              let e : i ≡ at = let high = ltb-false at i is in omega arith in
              let here : spot_of (get_or items at d) ≡ spot = ap (λ n. spot_of (get_or items n d)) (sym e) ∙ same in
              let no : false ≡ true = sym other ∙ (ap (λ s. same_spot s spot) here ∙ same_spot-refl spot) in absurd (cc)

  -- the same of a row that was listed
  pub row-at : (listed items : List A) (at : ℕ) (d x : A) (found : Spot) → listed ≡ items
      → IsPartitionPoint (λ x. is_before (spot_of x) spot ≡ true) (λ x. is_before (spot_of x) spot ≡ false) listed at
      → at < length listed → d ≡ get_or listed at d → x ≡ get_or listed at x → found ≡ spot_of d → same_spot found
      spot ≡ true
      → Some x ≡ find (λ y. same_spot (spot_of y) spot) items
  row-at listed items at d x found lists point within is is_x named here =
      ap Some is_x ∙ sym (found-at listed at x point within
      (ap (λ y. same_spot (spot_of y) spot) (get_or_default listed at x d within ∙ sym is) ∙ ap
      (λ s. same_spot s spot) (sym named) ∙ here))
      ∙ ap (find (λ y. same_spot (spot_of y) spot)) lists

  pub row-end : (listed items : List A) (at : ℕ) → listed ≡ items
      → IsPartitionPoint (λ x. is_before (spot_of x) spot ≡ true) (λ x. is_before (spot_of x) spot ≡ false) listed at
      → at ≡ length listed → None ≡ find (λ y. same_spot (spot_of y) spot) items
  row-end listed items at lists point past =
      sym (found-end listed at point past) ∙ ap (find (λ y. same_spot (spot_of y) spot)) lists

  pub row-other : (listed items : List A) (at : ℕ) (d : A) (found : Spot) → listed ≡ items → AreInOrder spot_of items
      → IsPartitionPoint (λ x. is_before (spot_of x) spot ≡ true) (λ x. is_before (spot_of x) spot ≡ false) listed at
      → at < length listed → d ≡ get_or listed at d → found ≡ spot_of d → same_spot found spot ≡ false
      → None ≡ find (λ y. same_spot (spot_of y) spot) items
  row-other listed items at d found lists order point within is named other =
      sym (found-other listed at d (subst (AreInOrder spot_of) (sym lists) order) point within
      (ap (λ y. same_spot (spot_of y) spot) (sym is) ∙ ap (λ s. same_spot s spot) (sym named) ∙ other))
      ∙ ap (find (λ y. same_spot (spot_of y) spot)) lists

-- ---- in the index

module _ (cid : Cid) where
  earlier : (entries : List CallSpot) (at : ℕ)
      → IsPartitionPoint (λ e. cid_before e.cid cid ≡ true) (λ e. cid_before e.cid cid ≡ false) entries at
      → (d : CallSpot) (i : ℕ) → i < at → same_cid (get_or entries i d).cid cid ≡ false
  earlier entries at point d i low = go (same_cid (get_or entries i d).cid cid) refl
    where
      go : (s : Bool) → same_cid (get_or entries i d).cid cid ≡ s → same_cid (get_or entries i d).cid cid ≡ false
      go false is = is
      go true is =
          absurd (cid-apart (get_or entries i d).cid cid (point.0 i d (omega arith) low)
          (same_cid-is (get_or entries i d).cid cid is))

  pub call-at : (entries : List CallSpot) (at : ℕ) (d : CallSpot)
      → IsPartitionPoint (λ e. cid_before e.cid cid ≡ true) (λ e. cid_before e.cid cid ≡ false) entries at
      → at < length entries → same_cid (get_or entries at d).cid cid ≡ true → find (λ e. same_cid e.cid cid) entries
      ≡ Some (get_or entries at d)
  call-at entries at d point within here =
      find-at (λ e. same_cid e.cid cid) entries at d within (λ i low. earlier entries at point d i low) here

  pub call-end : (entries : List CallSpot) (at : ℕ)
      → IsPartitionPoint (λ e. cid_before e.cid cid ≡ true) (λ e. cid_before e.cid cid ≡ false) entries at
      → at ≡ length entries → find (λ e. same_cid e.cid cid) entries ≡ None
  call-end [] at point past = refl
  call-end (e ∷ entries) at point past =
      find-none (λ x. same_cid x.cid cid) (e ∷ entries) e (λ i low. earlier (e ∷ entries) at point e i (omega arith))

  pub call-other : (entries : List CallSpot) (at : ℕ) (d : CallSpot) → Ascends entry_before entries
      → IsPartitionPoint (λ e. cid_before e.cid cid ≡ true) (λ e. cid_before e.cid cid ≡ false) entries at
      → at < length entries → same_cid (get_or entries at d).cid cid ≡ false → find (λ e. same_cid e.cid cid) entries
      ≡ None
  call-other entries at d order point within other =
      find-none (λ e. same_cid e.cid cid) entries d
      (λ i low. elim (three i) [ inl le ↦ earlier entries at point d i le | inr ge ↦ above i low ge ])
    where
      three : (i : ℕ) → (i < at) ⊎ (at ≤ i)
      three i = go (nat_lt i at) refl
        where
          go : (s : Bool) → nat_lt i at ≡ s → (i < at) ⊎ (at ≤ i)
          go true is = inl (ltb-true i at is)
          go false is = inr (ltb-false i at is)

      above : (i : ℕ) → i < length entries → at ≤ i → same_cid (get_or entries i d).cid cid ≡ false
      above i low ge = go (same_cid (get_or entries i d).cid cid) refl
        where
          go : (s : Bool) → same_cid (get_or entries i d).cid cid ≡ s → same_cid (get_or entries i d).cid cid ≡ false
          go false is = is
          go true is = absurd (at_later (nat_lt at i) refl)
            where
              named : (get_or entries i d).cid ≡ cid
              named = same_cid-is (get_or entries i d).cid cid is

              at_later : (s : Bool) → nat_lt at i ≡ s → ⊥
              at_later true less = by_order (entry-holds (get_or entries at d) (get_or entries i d)
                  (ascends-pair entry_before entries at i d order (ltb-true at i less) low))
                where
                  by_order : (cid_before (get_or entries at d).cid (get_or entries i d).cid ≡ true)
                      ⊎ (((get_or entries at d).cid ≡ (get_or entries i d).cid) ×
                      (is_before (get_or entries at d).spot (get_or entries i d).spot ≡ true)) → ⊥
                  by_order (inl first) =
                      let before : cid_before (get_or entries at d).cid cid ≡ true = subst
                      (λ c. cid_before (get_or entries at d).cid c ≡ true) named first in
                      let after = point.1 at d (omega arith) within in
                      let no : true ≡ false = sym before ∙ after in absurd (cc)
                  by_order (inr both) =
                      let no : false ≡ true = sym other ∙ same-cid (get_or entries at d).cid cid (both.0 ∙ named) in
                      absurd (cc)
              at_later false less =
                  let e : i ≡ at = let high = ltb-false at i less in omega arith in
                  let no : false ≡ true =
                  sym other ∙ same-cid (get_or entries at d).cid cid
                  (ap (λ n. (get_or entries n d).cid) (sym e) ∙ named) in absurd (cc)

  -- the same of an index that was listed
  pub index-at : (listed entries : List CallSpot) (at : ℕ) (d : CallSpot) → listed ≡ entries
      → IsPartitionPoint (λ e. cid_before e.cid cid ≡ true) (λ e. cid_before e.cid cid ≡ false) listed at
      → at < length listed → same_cid (get_or listed at d).cid cid ≡ true
      → Some (get_or listed at d).spot ≡ option_map (λ e. e.spot) (find (λ e. same_cid e.cid cid) entries)
  index-at listed entries at d lists point within here =
      sym (ap (option_map (λ e. e.spot)) (call-at listed at d point within here))
      ∙ ap (λ l. option_map (λ e. e.spot) (find (λ e. same_cid e.cid cid) l)) lists

  pub index-end : (listed entries : List CallSpot) (at : ℕ) → listed ≡ entries
      → IsPartitionPoint (λ e. cid_before e.cid cid ≡ true) (λ e. cid_before e.cid cid ≡ false) listed at
      → at ≡ length listed → None ≡ option_map (λ e. e.spot) (find (λ e. same_cid e.cid cid) entries)
  index-end listed entries at lists point past =
      sym (ap (option_map (λ e. e.spot)) (call-end listed at point past))
      ∙ ap (λ l. option_map (λ e. e.spot) (find (λ e. same_cid e.cid cid) l)) lists

  pub index-other : (listed entries : List CallSpot) (at : ℕ) (d : CallSpot) → listed ≡ entries
      → Ascends entry_before entries
      → IsPartitionPoint (λ e. cid_before e.cid cid ≡ true) (λ e. cid_before e.cid cid ≡ false) listed at
      → at < length listed → same_cid (get_or listed at d).cid cid ≡ false
      → None ≡ option_map (λ e. e.spot) (find (λ e. same_cid e.cid cid) entries)
  index-other listed entries at d lists order point within other =
      sym (ap (option_map (λ e. e.spot)) (call-other listed at d (subst (Ascends entry_before) (sym lists) order)
      point within other))
      ∙ ap (λ l. option_map (λ e. e.spot) (find (λ e. same_cid e.cid cid) l)) lists

-- ---- through the index

module _ {A : Type 0} (spot_of : A → Spot) (cid_of : A → Cid) where
  -- the first entry of a call is that of its first item
  pub find-index : (cid : Cid) (items : List A) → AreInOrder spot_of items
      → find (λ e. same_cid e.cid cid) (index_of spot_of cid_of items)
      ≡ option_map (entry_of spot_of cid_of) (find (λ x. same_cid (cid_of x) cid) items)
  find-index cid [] order = refl
  find-index cid (x ∷ items) order = go (same_cid (cid_of x) cid) refl (find-index cid items order.1)
    where
      go : (s : Bool) → same_cid (cid_of x) cid ≡ s
          → find (λ e. same_cid e.cid cid) (index_of spot_of cid_of items) ≡ option_map (entry_of spot_of cid_of)
          (find (λ y. same_cid (cid_of y) cid) items)
          → find (λ e. same_cid e.cid cid) (index_of spot_of cid_of (x ∷ items)) ≡ option_map
          (entry_of spot_of cid_of) (find (λ y. same_cid (cid_of y) cid) (x ∷ items))
      go true is rest =
          find-inserted_first (λ e. same_cid e.cid cid) entry_before (entry_of spot_of cid_of x)
          (index_of spot_of cid_of items) is
          (each-entry spot_of cid_of (λ e. same_cid e.cid cid ≡ true
          → entry_before (entry_of spot_of cid_of x) e ≡ true) items
          (each-map (λ y. is_before (spot_of x) (spot_of y) ≡ true) _ items
          (λ y first of_call. entry-shown (entry_of spot_of cid_of x) (entry_of spot_of cid_of y)
          (inr (same_cid-is (cid_of x) cid is ∙ sym (same_cid-is (cid_of y) cid of_call), first))) order.0))
          ∙ sym (ap (option_map (entry_of spot_of cid_of))
          (let here : find (λ y. same_cid (cid_of y) cid) (x ∷ items) ≡ Some x = rw is refl in here))
      go false is rest =
          find-inserted_fails (λ e. same_cid e.cid cid) entry_before (entry_of spot_of cid_of x)
          (index_of spot_of cid_of items) is
          ∙ rest ∙ ap (option_map (entry_of spot_of cid_of))
          (sym (let past : find (λ y. same_cid (cid_of y) cid) (x ∷ items) ≡ find (λ y. same_cid (cid_of y) cid)
          items = rw is refl in past))

  -- what is found stands alone at its spot, among the items of its place
  find-own : (test : A → Bool) (items : List A) (x : A) → AreInOrder spot_of items → find test items ≡ Some x
      → find (λ y. same_spot (spot_of y) (spot_of x)) (items_at spot_of (spot_of x).place items) ≡ Some x
  find-own test [] x order found = cc
  find-own test (y ∷ items) x order found = go (test y) refl (find-own test items x order.1)
    where
      go : (s : Bool) → test y ≡ s
          → (find test items ≡ Some x → find (λ z. same_spot (spot_of z) (spot_of x))
          (items_at spot_of (spot_of x).place items) ≡ Some x)
          → find (λ z. same_spot (spot_of z) (spot_of x)) (items_at spot_of (spot_of x).place (y ∷ items)) ≡ Some x
      go true is rest =
          let here : Some y ≡ Some x = rw is at found in
          let same : y ≡ x = cc in
          let at : ((spot_of y).place == (spot_of x).place) ≡ true = eq-eqb (spot_of y).place (spot_of x).place
          (ap (λ z. (spot_of z).place) same) in
          let there : same_spot (spot_of y) (spot_of x) ≡ true = ap (λ z. same_spot (spot_of z) (spot_of x)) same ∙
          same_spot-refl (spot_of x) in
          rw (at, there) here
      go false is rest =
          let later : find test items ≡ Some x = rw is at found in
          let first = each-found test (λ z. is_before (spot_of y) (spot_of z) ≡ true) items x order.0 later in
          let apart : same_spot (spot_of y) (spot_of x) ≡ false = same_spot-apart (spot_of y) (spot_of x)
          (before-apart (spot_of y) (spot_of x) first) in
          past ((spot_of y).place == (spot_of x).place) apart (rest later)
        where
          past : (s : Bool) → same_spot (spot_of y) (spot_of x) ≡ false
              → find (λ z. same_spot (spot_of z) (spot_of x)) (items_at spot_of (spot_of x).place items) ≡ Some x
              → find (λ z. same_spot (spot_of z) (spot_of x))
              (cond s (y ∷ items_at spot_of (spot_of x).place items) (items_at spot_of (spot_of x).place items))
              ≡ Some x
          past true apart rest = rw apart rest
          past false apart rest = rest

  -- the first item of a call is what stands at the spot of the call's first entry
  pub found-through : (cid : Cid) (rows : List (List A)) (items : List A) (index : List CallSpot) (spot : Spot)
      → IsPlaced spot_of cid_of rows index
      → together rows ≡ items → Some spot ≡ option_map (λ e. e.spot) (find (λ e. same_cid e.cid cid) index)
      → find (λ x. same_spot (spot_of x) spot) (get_or rows spot.place []) ≡ find (λ x. same_cid (cid_of x) cid) items
  found-through cid rows items index spot is view first =
      go (find (λ x. same_cid (cid_of x) cid) (together rows)) refl
      ∙ ap (find (λ x. same_cid (cid_of x) cid)) view
    where
      found : (o : Option A) → find (λ x. same_cid (cid_of x) cid) (together rows) ≡ o
          → Some spot ≡ option_map (λ e. e.spot) (option_map (entry_of spot_of cid_of) o)
      found o e =
          first ∙ ap (λ l. option_map (λ e. e.spot) (find (λ e. same_cid e.cid cid) l)) is.indexed
          ∙ ap (option_map (λ e. e.spot)) (find-index cid (together rows)
          (in_order-together spot_of 0 rows is.placed) ∙ ap (option_map (entry_of spot_of cid_of)) e)

      go : (o : Option A) → find (λ x. same_cid (cid_of x) cid) (together rows) ≡ o
          → find (λ x. same_spot (spot_of x) spot) (get_or rows spot.place []) ≡ find (λ x. same_cid (cid_of x) cid)
          (together rows)
      go None e = let no = found None e in cc
      go (Some x) e =
          let is_spot : Some spot ≡ Some (spot_of x) = found (Some x) e in
          let same : spot ≡ spot_of x = cc in
          ap (λ s. find (λ y. same_spot (spot_of y) s) (get_or rows s.place [])) same
          ∙ ap (find (λ y. same_spot (spot_of y) (spot_of x)))
          (sym (items_at-together spot_of 0 (spot_of x).place rows is.placed)
          ∙ ap (λ n. items_at spot_of n (together rows))
          (let at : 0 + (spot_of x).place ≡ (spot_of x).place = omega arith in at))
          ∙ find-own (λ y. same_cid (cid_of y) cid) (together rows) x (in_order-together spot_of 0 rows is.placed) e
          ∙ sym e

  -- and there is none where the index has none
  pub none-through : (cid : Cid) (rows : List (List A)) (items : List A) (index : List CallSpot)
      → IsPlaced spot_of cid_of rows index
      → together rows ≡ items → None ≡ option_map (λ e. e.spot) (find (λ e. same_cid e.cid cid) index)
      → find (λ x. same_cid (cid_of x) cid) items ≡ None
  none-through cid rows items index is view none =
      sym (ap (find (λ x. same_cid (cid_of x) cid)) view) ∙ go (find (λ x. same_cid (cid_of x) cid) (together rows))
      refl
    where
      go : (o : Option A) → find (λ x. same_cid (cid_of x) cid) (together rows) ≡ o
          → find (λ x. same_cid (cid_of x) cid) (together rows) ≡ None
      go None e = e
      go (Some x) e =
          let no : None ≡ Some (spot_of x) =
          none ∙ ap (λ l. option_map (λ e. e.spot) (find (λ e. same_cid e.cid cid) l)) is.indexed
          ∙ ap (option_map (λ e. e.spot)) (find-index cid (together rows)
          (in_order-together spot_of 0 rows is.placed) ∙ ap (option_map (entry_of spot_of cid_of)) e) in cc

  -- what stands in the row of a place, or past the rows
  pub in-row : (test : A → Bool) (rows : List (List A)) (k : ℕ) (row d : List A) → k < length rows
      → row ≡ get_or rows k d
      → find test row ≡ find test (get_or rows k [])
  in-row test rows k row d within is = ap (find test) (is ∙ get_or_default rows k d [] within)

  pub past-rows : (test : A → Bool) (rows : List (List A)) (k : ℕ) → length rows ≤ k
      → None ≡ find test (get_or rows k [])
  past-rows test [] k le = refl
  past-rows test (row ∷ rows) zero le = absurd (omega arith)
  past-rows test (row ∷ rows) (suc k) le = past-rows test rows k (omega arith)
