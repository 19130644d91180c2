-- A tree of entries, seen as a finite map from names.
use Rattle.std.proofs.Common.{◌≡◌, ℕ, true, List, [], ◌∷◌, ◌++◌, length, cond, refl, sym, ◌∙◌, ap, subst}
use Rattle.std.specs.Prelude.{Option, Some, None, flat_map}
use Rattle.std.specs.declared.cmp.Ordering.{Ordering}
use Rattle.std.specs.declared.cmp.Ordering.TheVariants.{Less, Equal, Greater}
use Rattle.std.specs.Ordering.{nat_cmp, is_eq, is_lt, ordering_reverse, match_ordering}
use Rattle.std.specs.Cmp.Lexicographic.{slice_cmp}
use Rattle.std.specs.List.{AllByRecursion, list_all}
use Rattle.std.specs.List.Sorted.{IsStrictlySortedBy}
use Rattle.std.specs.BTreeMap as tree
use Rattle.std.specs.BTreeMap.{BTreeMap, is_at, insert_entry}
use Rattle.std.specs.Map.{lookup, keys_of}
use Rattle.std.specs.FinMap.{get, find, insert, remove, entries, from_entries, from_sorted, get-from_entries, get-from_sorted, get-insert, get-remove, entries-from_sorted, len-entries, same_map, slice_cmp-IsAntisymmetric, nat_cmp-IsAntisymmetric}
use Rattle.std.specs.FinMap.Entries.{is_sorted, below_all}
use Rattle.std.proofs.lemmas.Cmp.{nat_list_cmp_total, eq_by_cmp_equiv}
use Rattle.std.proofs.lemmas.Map.Keys.{sorted_head, sorted_tail}
use Rattle.std.proofs.lemmas.Bool.{and_from}
use Rattle.lr_base.specs.Bytes.{Found, Reading, and_then, count_bytes, count_field, times}
use Rattle.lr_base.specs.Formats.{Format}
use Rattle.lr_words.specs.Tables.{Table, entry_bytes, entry_field, is_behind, is_table, table_bytes, table_field}
use Rattle.lr_words.specs.TableLaws.{fact, is_entry, less}
use Rattle.lr_words.specs.Changes.{changed}
use Rattle.lr_base.specs.Lasts.{last_of}
use Rattle.lr_base.specs.RowLaws.{last_of-tail}

-- names in the order of their bytes
abbrev names : List ℕ → List ℕ → Ordering
names = slice_cmp nat_cmp

-- the order of two names, either way
back : (name q : List ℕ) → is_at (names name) q ≡ is_at (names q) name
back = (eq_by_cmp_equiv nat_list_cmp_total).symm

-- a later name
later : (o p : Ordering) → o ≡ ordering_reverse p → p ≡ Less → o ≡ Greater
later o p same low = same ∙ ap ordering_reverse low

module _ {V : Type 0} where
  -- the value at a name, in the words of both maps
  found : (es : List (List ℕ × V)) (name : List ℕ) → find names name es ≡ lookup (is_at (names name)) es
  found [] name = refl
  found (e ∷ es) name = ap (cond (is_eq (names name e.0)) (Some e.1)) (found es name)

  -- a look-up of the finite map is the tree's
  pub get-tree : (m : BTreeMap (List ℕ) V) (name : List ℕ) → get (from_entries {R = names} m.entries) name ≡ tree.get names m name
  get-tree m name = get-from_entries nat_list_cmp_total m.entries name ∙ found m.entries name

  -- what the tree's `insert` leaves is an insertion
  pub insert-tree : (m n : BTreeMap (List ℕ) V) (name : List ℕ) (value : V) → ((q : List ℕ) → tree.get names n q ≡ cond (is_at (names name) q) (Some value) (tree.get names m q)) →
      from_entries {R = names} n.entries ≡ insert (from_entries m.entries) name value
  insert-tree m n name value at = same_map nat_list_cmp_total (slice_cmp-IsAntisymmetric nat_cmp-IsAntisymmetric) _ _ (λ q.
      get-tree n q ∙ at q ∙ ap (λ b. cond b (Some value) (tree.get names m q)) (back name q) ∙ ap (cond (is_at (names q) name) (Some value)) (sym (get-tree m q))
      ∙ sym (get-insert nat_list_cmp_total (from_entries {R = names} m.entries) name value q))

  -- what the tree's `remove` leaves is a removal
  pub remove-tree : (m n : BTreeMap (List ℕ) V) (name : List ℕ) → ((q : List ℕ) → tree.get names n q ≡ cond (is_at (names name) q) None (tree.get names m q)) →
      from_entries {R = names} n.entries ≡ remove (from_entries m.entries) name
  remove-tree m n name at = same_map nat_list_cmp_total (slice_cmp-IsAntisymmetric nat_cmp-IsAntisymmetric) _ _ (λ q.
      get-tree n q ∙ at q ∙ ap (λ b. cond b None (tree.get names m q)) (back name q) ∙ ap (cond (is_at (names q) name) None) (sym (get-tree m q))
      ∙ sym (get-remove nat_list_cmp_total (from_entries {R = names} m.entries) name q))

  -- keys that all come behind one
  below-keys : (name : List ℕ) (es : List (List ℕ × V)) → AllByRecursion (λ k. names name k ≡ Less) (keys_of es) → below_all names name es ≡ true
  below-keys name [] all = refl
  below-keys name (e ∷ es) all = and_from _ _ (ap is_lt all.0) (below-keys name es all.1)

  -- a tree's entries are in order
  sorted-keys : (es : List (List ℕ × V)) → IsStrictlySortedBy names (keys_of es) → is_sorted names es ≡ true
  sorted-keys [] all = refl
  sorted-keys (e ∷ es) all = and_from _ _ (below-keys e.0 es (sorted_head names e.0 (keys_of es) all)) (sorted-keys es (sorted_tail names e.0 (keys_of es) all))

  -- the map of entries in order, in either way
  pub from_entries-sorted : (es : List (List ℕ × V)) → IsStrictlySortedBy names (keys_of es) → from_entries {R = names} es ≡ from_sorted es
  from_entries-sorted es all = same_map nat_list_cmp_total (slice_cmp-IsAntisymmetric nat_cmp-IsAntisymmetric) _ _ (λ q.
      get-from_entries nat_list_cmp_total es q ∙ sym (get-from_sorted names es q (fact _ (sorted-keys es all))))

  -- and its entries
  pub entries-sorted : (es : List (List ℕ × V)) → IsStrictlySortedBy names (keys_of es) → entries (from_entries {R = names} es) ≡ es
  entries-sorted es all = ap entries (from_entries-sorted es all) ∙ entries-from_sorted names es (fact _ (sorted-keys es all))

  -- an entry whose name comes behind all goes behind all
  behind-all : (es : List (List ℕ × V)) (name : List ℕ) (value : V) → AllByRecursion (λ k. names k name ≡ Less) (keys_of es) → insert_entry names es name value ≡ es ++ (name, value) ∷ []
  behind-all [] name value all = refl
  behind-all (e ∷ es) name value all =
      let high : names name e.0 ≡ Greater = later _ _ (nat_list_cmp_total.antisymm name e.0) all.0 in
      ap (λ o. match_ordering o ((name, value) ∷ e ∷ es) ((e.0, value) ∷ es) (e ∷ insert_entry names es name value)) high
      ∙ ap (λ (l : List (List ℕ × V)). e ∷ l) (behind-all es name value all.1)

  -- what comes behind the last comes behind all
  above-all : (es : List (List ℕ × V)) (name : List ℕ) → IsStrictlySortedBy names (keys_of es) → is_behind (last_of es) name ≡ true → AllByRecursion (λ k. names k name ≡ Less) (keys_of es)
  above-all [] name order next = tt
  above-all (e ∷ []) name order next = (less _ next, tt)
  above-all (e ∷ f ∷ es) name order next =
      let rest = above-all (f ∷ es) name (sorted_tail names e.0 (keys_of (f ∷ es)) order) (ap (λ last. is_behind last name) (sym (last_of-tail e f es)) ∙ next) in
      (nat_list_cmp_total.trans e.0 f.0 name (sorted_head names e.0 (keys_of (f ∷ es)) order).0 rest.0, rest)

  -- an entry behind the last is inserted behind it
  pub insert-behind : (es : List (List ℕ × V)) (name : List ℕ) (value : V) → IsStrictlySortedBy names (keys_of es) → is_behind (last_of es) name ≡ true → insert_entry names es name value ≡ es ++ (name, value) ∷ []
  insert-behind es name value order next = behind-all es name value (above-all es name order next)

  -- the keys of a front come before the next
  front-below : (es rest : List (List ℕ × V)) (name : List ℕ) (value : V) → IsStrictlySortedBy names (keys_of (es ++ (name, value) ∷ rest)) → AllByRecursion (λ k. names k name ≡ Less) (keys_of es)
  front-below [] rest name value order = tt
  front-below (e ∷ es) rest name value order =
      (within es (sorted_head names e.0 (keys_of (es ++ (name, value) ∷ rest)) order), front-below es rest name value (sorted_tail names e.0 (keys_of (es ++ (name, value) ∷ rest)) order))
    where
      within : (fs : List (List ℕ × V)) → AllByRecursion (λ k. names e.0 k ≡ Less) (keys_of (fs ++ (name, value) ∷ rest)) → names e.0 name ≡ Less
      within [] all = all.0
      within (f ∷ fs) all = within fs all.1

  -- an entry is inserted behind those before it
  pub insert-front : (all es rest : List (List ℕ × V)) (name : List ℕ) (value : V) → IsStrictlySortedBy names (keys_of all) → es ++ (name, value) ∷ rest ≡ all → insert_entry names es name value ≡ es ++ (name, value) ∷ []
  insert-front all es rest name value order is =
      behind-all es name value (front-below es rest name value (subst (λ (l : List (List ℕ × V)). IsStrictlySortedBy names (keys_of l)) (sym is) order))

  -- the entries of the table that a tree is seen as
  entries-tree : (m : BTreeMap (List ℕ) V) (table : Table V) → tree.IsOrdered names m → from_entries {R = names} m.entries ≡ table → entries table ≡ m.entries
  entries-tree m table order is = ap entries (sym is) ∙ entries-sorted m.entries order

  -- the bytes of the table that a tree is seen as
  pub table_bytes-tree : (format : Format V) (m : BTreeMap (List ℕ) V) (table : Table V) → tree.IsOrdered names m → from_entries {R = names} m.entries ≡ table → table_bytes format table ≡ count_bytes (length m.entries) ++ flat_map (entry_bytes format) m.entries
  table_bytes-tree format m table order is =
      ap (λ n. count_bytes n ++ flat_map (entry_bytes format) (entries table)) (len-entries table)
      ∙ ap (λ (es : List (List ℕ × V)). count_bytes (length es) ++ flat_map (entry_bytes format) es) (entries-tree m table order is)

  -- and whether it is one that is written
  pub is_table-tree : (format : Format V) (m : BTreeMap (List ℕ) V) (table : Table V) → tree.IsOrdered names m → from_entries {R = names} m.entries ≡ table → is_table format table ≡ list_all (is_entry format) m.entries
  is_table-tree format m table order is = ap (list_all (is_entry format)) (entries-tree m table order is)

  -- the table that is read, where its entries are
  pub field-tree : (format : Format V) (bytes rest end : List ℕ) (count : ℕ) (es : List (List ℕ × V)) → count_field bytes ≡ Found count rest → times (entry_field format) count None rest ≡ Found es end → IsStrictlySortedBy names (keys_of es) → table_field format bytes ≡ Found (from_entries es) end
  field-tree format bytes rest end count es read all order =
      ap (λ r. and_then r (λ n b. and_then (times (entry_field format) n None b) made)) read ∙ ap (λ r. and_then r made) all
      ∙ ap (λ (table : Table V). Found table end) (sym (from_entries-sorted es order))
    where
      made : List (List ℕ × V) → List ℕ → Reading (Table V)
      made entries end = Found (from_sorted entries) end

  -- a value that is written back changes nothing
  pub kept-tree : (m n : BTreeMap (List ℕ) V) (name : List ℕ) (value : V) → ((q : List ℕ) → tree.get names n q ≡ cond (is_at (names name) q) (Some value) (tree.get names m q)) → tree.get names m name ≡ Some value → from_entries {R = names} n.entries ≡ from_entries m.entries
  kept-tree m n name value at own = same_map nat_list_cmp_total (slice_cmp-IsAntisymmetric nat_cmp-IsAntisymmetric) _ _ (λ q. get-tree n q ∙ at q ∙ either q (names name q) refl ∙ sym (get-tree m q))
    where
      either : (q : List ℕ) (o : Ordering) → names name q ≡ o → cond (is_at (names name) q) (Some value) (tree.get names m q) ≡ tree.get names m q
      either q Equal tied =
          ap (λ o. cond (is_eq o) (Some value) (tree.get names m q)) tied ∙ sym own
          ∙ ap (tree.get names m) (slice_cmp-IsAntisymmetric nat_cmp-IsAntisymmetric name q tied)
      either q Less apart = ap (λ o. cond (is_eq o) (Some value) (tree.get names m q)) apart
      either q Greater apart = ap (λ o. cond (is_eq o) (Some value) (tree.get names m q)) apart

  -- a name's value made anew from the one that it has, if it has one
  pub changed-tree : (m n : BTreeMap (List ℕ) V) (name : List ℕ) (new : V) (change : Option V → V) (at : Option V) (table : Table V) →
      ((q : List ℕ) → tree.get names n q ≡ cond (is_at (names name) q) (Some new) (tree.get names m q)) →
      tree.get names m name ≡ at → new ≡ change at → from_entries {R = names} m.entries ≡ table → from_entries {R = names} n.entries ≡ changed table name change
  changed-tree m n name new change at table updates own is seen =
      insert-tree m n name new updates ∙ ap (λ t. insert t name new) seen
      ∙ ap (insert table name) (is ∙ ap change (sym own ∙ sym (get-tree m name) ∙ ap (λ t. get t name) seen))
