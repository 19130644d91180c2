-- Tables whose names are words stay so: what is put in and taken out, and what is found.
use Rattle.std.proofs.Common.{◌≡◌, ◌<◌, Bool, true, false, ◌&&◌, not, nat_lt, cond, T, List, [], ◌∷◌, length, refl}
use Rattle.std.proofs.Common.{sym, ◌∙◌, ap, arith}
use Rattle.std.specs.Prelude.{Option, Some, None, unwrap_or}
use Rattle.std.specs.List.{list_all}
use Rattle.std.specs.Ordering.{nat_cmp, eq_by_cmp}
use Rattle.std.specs.declared.cmp.Ordering.{Ordering}
use Rattle.std.specs.declared.cmp.Ordering.TheVariants.{Less, Equal, Greater}
use Rattle.std.specs.Cmp.Lexicographic.{slice_cmp}
use Rattle.std.specs.FinMap as map
use Rattle.std.specs.FinMap.{slice_cmp-IsAntisymmetric, nat_cmp-IsAntisymmetric}
use Rattle.std.specs.FinMap.Entries.{put, find, find-where_key, where_key, by_order, is_sorted, is_sorted-where_key}
use Rattle.std.proofs.lemmas.Bool.{and_parts, lt-ltb}
use Rattle.std.proofs.lemmas.Cmp.{nat_list_cmp_total}
use Rattle.lr_base.specs.Bytes.{Bytes}
use Rattle.lr_words.specs.Changes.{changes-commute, same_name-symm}
use Rattle.lr_base.specs.InsertionLaws.{length-inserted}
use Rattle.lr_words.specs.Formats.{is_up_to, words_format, words_of, with_word, insert_word, are_in_order}
use Rattle.lr_base.specs.Formats.{Format}
use Rattle.lr_words.specs.Tables.{Table, is_table}
use Rattle.lr_words.specs.Word.{is_word}
use Rattle.lr_words.specs.WordOrder.{insert_word-commute, insert_word-in_order, insert_word-words}

-- an entry of a word and a value of the format
abbrev is_entry : {V : Type 0} → Format V → Bytes × V → Bool
is_entry format entry = is_word entry.0 && format.is_value entry.1

module _ {V : Type 0} where
  -- the entries behind a name's removal
  pub entries-remove : (table : Table V) (name : Bytes)
      → map.entries (map.remove table name)
      ≡ where_key (slice_cmp nat_cmp) (λ x. not (eq_by_cmp (slice_cmp nat_cmp) name x)) (map.entries table)
  entries-remove table name = ap map.entries same ∙ map.entries-from_sorted (slice_cmp nat_cmp) kept sorted
    where
      keep : Bytes → Bool
      keep x = not (eq_by_cmp (slice_cmp nat_cmp) name x)

      kept : List (Bytes × V)
      kept = where_key (slice_cmp nat_cmp) keep (map.entries table)

      sorted : T (is_sorted (slice_cmp nat_cmp) kept)
      sorted = is_sorted-where_key (slice_cmp nat_cmp) keep (map.entries table) (map.entries_sorted table)

      turned : (b : Bool) (x y : Option V) → cond (not b) x y ≡ cond b y x
      turned true x y = refl
      turned false x y = refl

      found : (q : Bytes) → find (slice_cmp nat_cmp) q kept
          ≡ cond (keep q) (find (slice_cmp nat_cmp) q (map.entries table)) None
      found q = find-where_key (slice_cmp nat_cmp) keep q
          (λ x tie. ap (λ y. keep y) (sym (slice_cmp-IsAntisymmetric nat_cmp-IsAntisymmetric q x tie)))
          (map.entries table)

      same : map.remove table name ≡ map.from_sorted kept
      same = map.same_map nat_list_cmp_total (slice_cmp-IsAntisymmetric nat_cmp-IsAntisymmetric) _ _ (λ q.
          map.get-remove nat_list_cmp_total table name q
          ∙ ap (λ b. cond b None (map.get table q)) (same_name-symm q name)
          ∙ sym (map.get-from_sorted (slice_cmp nat_cmp) kept q sorted ∙ found q
          ∙ turned (eq_by_cmp (slice_cmp nat_cmp) name q) _ _
          ∙ ap (cond (eq_by_cmp (slice_cmp nat_cmp) name q) None) (sym (map.get-entries table q))))

module _ {V : Type 0} (format : Format V) where
  -- an entry more
  put-all : (name : Bytes) (value : V) (es : List (Bytes × V)) → is_word name ≡ true → format.is_value value ≡ true
      → list_all (is_entry format) es ≡ true → list_all (is_entry format) (put (slice_cmp nat_cmp) name value es) ≡ true
  put-all name value [] word is all = rw (word, is) refl
  put-all name value (e ∷ es) word is all = go (put-all name value es word is parts.1) (slice_cmp nat_cmp name e.0)
    where
      parts : (is_entry format e ≡ true) × (list_all (is_entry format) es ≡ true)
      parts = and_parts (is_entry format e) (list_all (is_entry format) es) all

      own : (is_word e.0 ≡ true) × (format.is_value e.1 ≡ true)
      own = and_parts (is_word e.0) (format.is_value e.1) parts.0

      go : list_all (is_entry format) (put (slice_cmp nat_cmp) name value es) ≡ true → (o : Ordering)
          → list_all (is_entry format) (by_order o ((name, value) ∷ e ∷ es) ((e.0, value) ∷ es)
          (e ∷ put (slice_cmp nat_cmp) name value es)) ≡ true
      go below Less = rw (word, is, own.0, own.1, parts.1) refl
      go below Equal = rw (own.0, is, parts.1) refl
      go below Greater = rw (own.0, own.1, below) refl

  -- fewer entries
  kept-all : (keep : Bytes → Bool) (es : List (Bytes × V)) → list_all (is_entry format) es ≡ true
      → list_all (is_entry format) (where_key (slice_cmp nat_cmp) keep es) ≡ true
  kept-all keep [] all = refl
  kept-all keep (e ∷ es) all = go (kept-all keep es parts.1) (keep e.0)
    where
      parts : (is_entry format e ≡ true) × (list_all (is_entry format) es ≡ true)
      parts = and_parts (is_entry format e) (list_all (is_entry format) es) all

      go : list_all (is_entry format) (where_key (slice_cmp nat_cmp) keep es) ≡ true → (b : Bool)
          → list_all (is_entry format) (cond b (e ∷ where_key (slice_cmp nat_cmp) keep es)
          (where_key (slice_cmp nat_cmp) keep es)) ≡ true
      go below true = rw (parts.0, below) refl
      go below false = below

  -- what is found is a value
  found-all : (name : Bytes) (es : List (Bytes × V)) (value : V) → list_all (is_entry format) es ≡ true
      → find (slice_cmp nat_cmp) name es ≡ Some value → format.is_value value ≡ true
  found-all name [] value all found = let no : None ≡ Some value = found in cc
  found-all name (e ∷ es) value all found =
      go (found-all name es value parts.1) (eq_by_cmp (slice_cmp nat_cmp) name e.0) found
    where
      parts : (is_entry format e ≡ true) × (list_all (is_entry format) es ≡ true)
      parts = and_parts (is_entry format e) (list_all (is_entry format) es) all

      go : (find (slice_cmp nat_cmp) name es ≡ Some value → format.is_value value ≡ true) → (b : Bool)
          → cond b (Some e.1) (find (slice_cmp nat_cmp) name es) ≡ Some value → format.is_value value ≡ true
      go below true is = let same : e.1 ≡ value = cc in
          ap format.is_value (sym same) ∙ (and_parts (is_word e.0) (format.is_value e.1) parts.0).1
      go below false is = below is

  -- the empty table is one
  pub table-empty : is_table format map.empty ≡ true
  table-empty = go (map.entries map.empty) (sym (map.len-entries map.empty) ∙ map.len-empty (slice_cmp nat_cmp) V)
    where
      go : (es : List (Bytes × V)) → length es ≡ 0 → list_all (is_entry format) es ≡ true
      go [] none = refl
      go (e ∷ es) none = absurd (omega arith)

  -- a table with a word's value put in is one
  pub table-insert : (table : Table V) (name : Bytes) (value : V) → is_table format table ≡ true
      → is_word name ≡ true → format.is_value value ≡ true → is_table format (map.insert table name value) ≡ true
  table-insert table name value all word is =
      ap (list_all (is_entry format)) (map.entries-insert nat_list_cmp_total table name value)
      ∙ put-all name value (map.entries table) word is all

  -- a table with a name taken out is one
  pub table-remove : (table : Table V) (name : Bytes) → is_table format table ≡ true
      → is_table format (map.remove table name) ≡ true
  table-remove table name all = ap (list_all (is_entry format)) (entries-remove table name)
      ∙ kept-all (λ x. not (eq_by_cmp (slice_cmp nat_cmp) name x)) (map.entries table) all

  -- what a table has is a value
  pub table-get : (table : Table V) (name : Bytes) (value : V) → is_table format table ≡ true
      → map.get table name ≡ Some value → format.is_value value ≡ true
  table-get table name value all found =
      found-all name (map.entries table) value all (sym (map.get-entries table name) ∙ found)

-- ---- tables of words in order

-- words with one more are words in order
words-inserted : (word : Bytes) (words : List Bytes) → is_word word ≡ true → list_all is_word words ≡ true
    → are_in_order words ≡ true → words_format.is_value (insert_word word words) ≡ true
words-inserted word words is all ordered =
    rw (lt-ltb 0 _ some, insert_word-words word words is all, insert_word-in_order word words ordered) refl
  where
    some : 0 < length (insert_word word words)
    some = omega (arith, length-inserted is_up_to word words)

-- the words of a name are words in order, if there are any
pub words_of-parts : (table : Table (List Bytes)) (name : Bytes) → is_table words_format table ≡ true
    → (list_all is_word (words_of table name) ≡ true) × (are_in_order (words_of table name) ≡ true)
words_of-parts table name all = go (map.get table name) refl
  where
    go : (found : Option (List Bytes)) → map.get table name ≡ found → (list_all is_word (unwrap_or found []) ≡ true)
        × (are_in_order (unwrap_or found []) ≡ true)
    go None is = (refl, refl)
    go (Some words) is =
        let value = table-get words_format table name words all is in
        let parts = and_parts (nat_lt 0 (length words) && list_all is_word words) (are_in_order words) value in
        ((and_parts (nat_lt 0 (length words)) (list_all is_word words) parts.0).1, parts.1)

-- a table with a word more is one
pub table-with_word : (table : Table (List Bytes)) (name word : Bytes) → is_table words_format table ≡ true
    → is_word name ≡ true → is_word word ≡ true → is_table words_format (with_word table name word) ≡ true
table-with_word table name word all named is =
    let parts = words_of-parts table name all in
    table-insert words_format table name (insert_word word (words_of table name)) all named
    (words-inserted word (words_of table name) is parts.0 parts.1)

-- words more in a table, in either order
pub with_word-commute : (table : Table (List Bytes)) (m n a b : Bytes)
    → with_word (with_word table m a) n b ≡ with_word (with_word table n b) m a
with_word-commute table m n a b = changes-commute table m n (λ found. insert_word a (unwrap_or found []))
    (λ found. insert_word b (unwrap_or found [])) (λ found. insert_word-commute b a (unwrap_or found []))
