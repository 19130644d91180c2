-- Exact tables: words, words in order, and tables of exact values are read as they were written, and written as they
-- were read.
-- Facts with their proofs, for the laws of services: tables of exact values are exact (`table-exact`; `word-exact`,
-- `words-exact`), what is put in and taken out leaves tables, words in order stay in order, and texts are printable and
-- short. Of definitions they have:
use Rattle.std.proofs.Common.{◌≡◌, ◌<◌, ◌^◌, ◌==◌, ℕ, Bool, true, false, cond, ◌&&◌, nat_lt, nat_le, List, [], ◌∷◌}
use Rattle.std.proofs.Common.{◌++◌, length, take, drop, refl, sym, ◌∙◌, ap, arith, length-append, append_assoc}
use Rattle.std.specs.Prelude.{Option, Some, None, flat_map, T}
use Rattle.std.specs.List.{list_all}
use Rattle.std.specs.declared.cmp.Ordering.{Ordering}
use Rattle.std.specs.declared.cmp.Ordering.TheVariants.{Less, Equal, Greater}
use Rattle.std.specs.Ordering.{nat_cmp, is_lt}
use Rattle.std.specs.Cmp.Lexicographic.{slice_cmp}
use Rattle.std.specs.FinMap as map
use Rattle.std.specs.FinMap.Entries.{is_sorted, below_all}
use Rattle.std.proofs.Math.Nat.{mod-eq_of_lt}
use Rattle.std.proofs.Math.Seq.{take-append_seam, drop-append_seam}
use Rattle.std.proofs.lemmas.Bool.{and_parts, and_from, eqb-false, ne_eqb, ltb-true, ltb-false, lt-ltb, le-ltb, le-leb}
use Rattle.std.proofs.lemmas.Cmp.{nat_list_cmp_total}
use Rattle.std.proofs.lemmas.List.{take-append-drop, length-take-le}
use Rattle.byteorder.specs.Endian.{big_bytes}
use Rattle.byteorder.specs.Numbers.{length-bytes_high_first}
use Rattle.lr_base.specs.Bytes.{Bytes, Reading, Found, Wrong, and_then, number_field, count_field, count_bytes, times}
use Rattle.lr_base.specs.Bytes.{IsExact, each_may}
use Rattle.lr_base.specs.ByteLaws.{are_bytes-behind, and_then-found, passed-found, failed-found, number-exact}
use Rattle.lr_base.specs.ByteLaws.{count-exact, times-forth, times-back, length-flat_map-le}
use Rattle.lr_base.specs.declared.bytes.BadWhat.TheVariants.{Range, Order, Value, Short}
use Rattle.lr_base.specs.Formats.{Format}
use Rattle.lr_words.specs.Word.{is_word}
use Rattle.lr_words.specs.WordTexts.{is_word-parts}
use Rattle.lr_words.specs.Tables.{Table, word_bytes, word_text_field, word_field, is_behind, entry_field}
use Rattle.lr_words.specs.Tables.{entry_bytes, table_field, table_bytes, is_table}
use Rattle.lr_words.specs.Formats.{words_format, is_up_to, is_up_to_first, are_in_order, follows}
use Rattle.lr_words.specs.Formats.{next_word_field, words_field}

-- the byte of a length stands for itself
length-byte : (size : ℕ) → size < 256 → big_bytes 1 size ≡ size ∷ []
length-byte size below = ap (λ n. n ∷ []) (mod-eq_of_lt below)

-- what the length of a word leads to
abbrev sized : Bytes → ℕ → Bytes → Reading Bytes
sized bytes size rest = cond (nat_le 1 size && nat_le size 16) (word_text_field size rest) (Wrong (length bytes) Range)

-- the text of a word is read
text-forth : (word rest : Bytes) → is_word word ≡ true → word_text_field (length word) (word ++ rest) ≡ Found word rest
text-forth word rest is =
    let long : nat_lt (length (word ++ rest)) (length word) ≡ false =
    le-ltb _ _ (omega (arith, length-append word rest)) in
    let text : is_word (take (length word) (word ++ rest)) ≡ true = ap is_word (take-append_seam word rest) ∙ is in
    ap (λ b. cond b (Wrong (length (word ++ rest)) Short)
    (cond (is_word (take (length word) (word ++ rest)))
    (Found (take (length word) (word ++ rest)) (drop (length word) (word ++ rest)))
    (Wrong (length (word ++ rest)) Value))) long
    ∙ ap (λ b. cond b (Found (take (length word) (word ++ rest)) (drop (length word) (word ++ rest)))
    (Wrong (length (word ++ rest)) Value)) text
    ∙ ap (λ b. Found b (drop (length word) (word ++ rest))) (take-append_seam word rest)
    ∙ ap (λ b. Found word b) (drop-append_seam word rest)

-- a text that was read is a word of that length
text-back : (size : ℕ) (bytes word rest : Bytes) → word_text_field size bytes ≡ Found word rest
    → (length word ≡ size) × (bytes ≡ word ++ rest) × (is_word word ≡ true)
text-back size bytes word rest found =
    let long = failed-found (nat_lt (length bytes) size) _ (length bytes) Short word rest found in
    let text = passed-found (is_word (take size bytes)) _ (length bytes) Value word rest long.1 in
    let front : take size bytes ≡ word = cc in
    let end : drop size bytes ≡ rest = cc in (
      ap length (sym front) ∙ length-take-le size bytes (ltb-false _ _ long.0),
      sym (take-append-drop size bytes) ∙ ap (λ b. b ++ drop size bytes) front ∙ ap (λ b. word ++ b) end,
      ap is_word (sym front) ∙ text.0,
    )

-- words are exact
pub word-exact : IsExact is_word word_bytes word_field
word-exact = record {
  forth = λ word rest is fits.
      let parts = is_word-parts word is in
      let least : nat_le 1 (length word) ≡ true = le-leb _ _ parts.0 in
      let most : nat_le (length word) 16 ≡ true = le-leb _ _ parts.1 in
      let byte = length-byte (length word) (omega (arith, parts.1)) in
      let read : number_field 1 (length word ∷ (word ++ rest)) ≡ Found (length word) (word ++ rest) =
      ap (λ b. number_field 1 (b ++ (word ++ rest))) (sym byte)
      ∙ (number-exact 1).forth (length word) (word ++ rest) (lt-ltb (length word) (256 ^ 1) (omega (arith, parts.1)))
      (omega (arith, length-bytes_high_first 1 (length word))) in
      ap (λ r. and_then r (sized (length word ∷ (word ++ rest)))) read
      ∙ ap (λ b. cond b (word_text_field (length word) (word ++ rest))
      (Wrong (length (length word ∷ (word ++ rest))) Range)) (and_from _ _ least most)
      ∙ text-forth word rest is;
  back = λ bytes word rest are found.
      let size = and_then-found (number_field 1 bytes) (sized bytes) word rest found in
      let exact = (number-exact 1).back bytes size.0 size.1 are size.2 in
      let passed = passed-found (nat_le 1 size.0 && nat_le size.0 16) (word_text_field size.0 size.1)
      (length bytes) Range word rest size.3 in
      let text = text-back size.0 size.1 word rest passed.1 in (
        exact.0 ∙ ap (λ b. b ++ size.1) (length-byte size.0 (ltb-true size.0 (256 ^ 1) exact.1))
            ∙ ap (λ n. n ∷ size.1) (sym text.0) ∙ ap (λ b. length word ∷ b) text.1,
        text.2,
      );
}

-- tests in another order
four : (a b c d : Bool) → ((a && b) && (c && d)) ≡ ((a && c) && (b && d))
four true true c d = refl
four true false c d = grind arith
four false b c d = refl

-- a word that may come next
abbrev may_word : Option Bytes → Bytes → Bool
may_word last word = is_word word && follows last word

-- a word that may come next is exact
next_word-exact : (last : Option Bytes) → IsExact (may_word last) word_bytes (next_word_field last)
next_word-exact last = record {
  forth = λ word rest is fits.
      let parts = and_parts (is_word word) (follows last word) is in
      ap (λ r. and_then r (λ w end. cond (follows last w) (Found w end)
      (Wrong (length (word_bytes word ++ rest)) Order))) (word-exact.forth word rest parts.0 fits)
      ∙ ap (λ b. cond b (Found word rest) (Wrong (length (word_bytes word ++ rest)) Order)) parts.1;
  back = λ bytes word rest are found.
      let read = and_then-found (word_field bytes)
      (λ word end. cond (follows last word) (Found word end) (Wrong (length bytes) Order)) word rest found in
      let passed = passed-found (follows last read.0) (Found read.0 read.1) (length bytes) Order word rest read.3 in
      let exact = word-exact.back bytes read.0 read.1 are read.2 in
      let same : read.0 ≡ word = cc in
      let end : read.1 ≡ rest = cc in (
        exact.0 ∙ ap (λ w. word_bytes w ++ read.1) same ∙ ap (λ b. word_bytes word ++ b) end,
        ap (may_word last) (sym same) ∙ and_from _ _ exact.1 passed.0,
      );
}

-- words behind a word, each up to the next
may_words-behind : (last : Bytes) (words : List Bytes)
    → each_may may_word (Some last) words
    ≡ (list_all is_word words && (is_up_to_first last words && are_in_order words))
may_words-behind last [] = refl
may_words-behind last (word ∷ words) =
    ap (λ b. (is_word word && is_up_to last word) && b) (may_words-behind word words)
    ∙ four (is_word word) (is_up_to last word) (list_all is_word words) (is_up_to_first word words
    && are_in_order words)

-- words, each up to the next
may_words : (words : List Bytes) → each_may may_word None words ≡ (list_all is_word words && are_in_order words)
may_words [] = refl
may_words (word ∷ words) = ap (λ b. (is_word word && true) && b) (may_words-behind word words)
    ∙ four (is_word word) true (list_all is_word words) (is_up_to_first word words && are_in_order words)

-- what the count of words leads to
abbrev counted : Bytes → ℕ → Bytes → Reading (List Bytes)
counted bytes count rest = cond (count == 0) (Wrong (length bytes) Range) (times next_word_field count None rest)

-- words in order are exact
pub words-exact : IsExact words_format.is_value words_format.written words_format.field
words-exact = record {
  forth = λ words rest is fits.
      let parts = and_parts (nat_lt 0 (length words) && list_all is_word words) (are_in_order words) is in
      let fronts = and_parts (nat_lt 0 (length words)) (list_all is_word words) parts.0 in
      let may : each_may may_word None words ≡ true = may_words words ∙ and_from _ _ fronts.1 parts.1 in
      let texts = flat_map word_bytes words in
      let long = length-append (count_bytes (length words)) texts in
      let few = length-flat_map-le word_bytes (λ w. omega arith) words in
      let some : (length words == 0) ≡ false =
      ne_eqb _ _ (λ none. absurd (omega (arith, ltb-true 0 (length words) fronts.0))) in
      ap words_field (append_assoc (count_bytes (length words)) texts rest)
      ∙ ap (λ r. and_then r (counted (count_bytes (length words) ++ (texts ++ rest))))
      (count-exact.forth (length words) (texts ++ rest) (lt-ltb _ _ (omega arith)) (omega arith))
      ∙ ap (λ b. cond b (Wrong (length (count_bytes (length words) ++ (texts ++ rest))) Range)
      (times next_word_field (length words) None (texts ++ rest))) some
      ∙ times-forth may_word word_bytes next_word_field next_word-exact None words rest may (omega arith);
  back = λ bytes words rest are found.
      let read = and_then-found (count_field bytes) (counted bytes) words rest found in
      let some = failed-found (read.0 == 0) (times next_word_field read.0 None read.1)
      (length bytes) Range words rest read.3 in
      let exact = count-exact.back bytes read.0 read.1 are read.2 in
      let texts = times-back may_word word_bytes next_word_field next_word-exact read.0 None read.1 words rest
      (are_bytes-behind bytes (count_bytes read.0) read.1 are exact.0) some.1 in
      let may = and_parts (list_all is_word words) (are_in_order words) (sym (may_words words) ∙ texts.2) in
      let apart = eqb-false read.0 0 some.0 in
      let least : nat_lt 0 (length words) ≡ true = lt-ltb _ _ (omega (arith, texts.0, apart)) in (
        exact.0 ∙ ap (λ n. count_bytes n ++ read.1) (sym texts.0) ∙ ap (λ b. count_bytes (length words) ++ b) texts.1
            ∙ sym (append_assoc (count_bytes (length words)) (flat_map word_bytes words) rest),
        and_from _ _ (and_from _ _ least may.0) may.1,
      );
}

-- names in the order of their bytes
abbrev names : Bytes → Bytes → Ordering
names = slice_cmp nat_cmp

-- one name is less than another
pub less : (o : Ordering) → is_lt o ≡ true → o ≡ Less
less Less is = refl
less Equal is = cc
less Greater is = cc

-- a test that holds, as a fact
pub fact : (b : Bool) → b ≡ true → T b
fact true is = tt
fact false is = cc

-- and back
test : (b : Bool) → T b → b ≡ true
test true holds = refl
test false holds = absurd holds

module _ {V : Type 0} where
  -- what is below a name is below those above it
  pub below-later : (a b : Bytes) (entries : List (Bytes × V)) → is_lt (names a b) ≡ true
      → below_all names b entries ≡ true → below_all names a entries ≡ true
  below-later a b [] low all = refl
  below-later a b (e ∷ entries) low all =
      let parts = and_parts (is_lt (names b e.0)) (below_all names b entries) all in
      let head : names a e.0 ≡ Less = nat_list_cmp_total.trans a b e.0 (less _ low) (less _ parts.0) in
      and_from _ _ (ap is_lt head) (below-later a b entries low parts.1)

module _ {V : Type 0} (format : Format V) where
  -- an entry that may come next
  abbrev pub may_entry : Option (Bytes × V) → Bytes × V → Bool
  may_entry last entry = is_word entry.0 && is_behind last entry.0 && format.is_value entry.1

  -- an entry that is written
  abbrev pub is_entry : Bytes × V → Bool
  is_entry entry = is_word entry.0 && format.is_value entry.1

  -- the parts of the test of an entry
  may-parts : (last : Option (Bytes × V)) (entry : Bytes × V) → may_entry last entry ≡ true
      → (is_entry entry ≡ true) × (is_behind last entry.0 ≡ true)
  may-parts last entry may =
      let parts = and_parts (is_word entry.0 && is_behind last entry.0) (format.is_value entry.1) may in
      let fronts = and_parts (is_word entry.0) (is_behind last entry.0) parts.0 in
      (and_from _ _ fronts.0 parts.1, fronts.1)

  may-from : (last : Option (Bytes × V)) (entry : Bytes × V) → is_entry entry ≡ true → is_behind last entry.0 ≡ true
      → may_entry last entry ≡ true
  may-from last entry is behind =
      let parts = and_parts (is_word entry.0) (format.is_value entry.1) is in
      and_from _ _ (and_from _ _ parts.0 behind) parts.1

  -- entries that come one behind the other are in order
  sorted-behind : (last : Bytes × V) (entries : List (Bytes × V)) → each_may may_entry (Some last) entries ≡ true
      → (list_all is_entry entries ≡ true) × (below_all names last.0 entries ≡ true) × (is_sorted names entries ≡ true)
  sorted-behind last [] may = (refl, refl, refl)
  sorted-behind last (entry ∷ entries) may =
      let parts = and_parts (may_entry (Some last) entry) (each_may may_entry (Some entry) entries) may in
      let head = may-parts (Some last) entry parts.0 in
      let rest = sorted-behind entry entries parts.1 in (
        and_from _ _ head.0 rest.0,
        and_from _ _ head.1 (below-later last.0 entry.0 entries head.1 rest.1),
        and_from _ _ rest.1 rest.2,
      )

  pub sorted-from-may : (entries : List (Bytes × V)) → each_may may_entry None entries ≡ true
      → (list_all is_entry entries ≡ true) × (is_sorted names entries ≡ true)
  sorted-from-may [] may = (refl, refl)
  sorted-from-may (entry ∷ entries) may =
      let parts = and_parts (may_entry None entry) (each_may may_entry (Some entry) entries) may in
      let rest = sorted-behind entry entries parts.1 in
      (and_from _ _ (may-parts None entry parts.0).0 rest.0, and_from _ _ rest.1 rest.2)

  -- and entries in order come one behind the other
  may-behind : (last : Bytes × V) (entries : List (Bytes × V)) → list_all is_entry entries ≡ true
      → below_all names last.0 entries ≡ true → is_sorted names entries ≡ true
      → each_may may_entry (Some last) entries ≡ true
  may-behind last [] are below sorted = refl
  may-behind last (entry ∷ entries) are below sorted =
      let tests = and_parts (is_entry entry) (list_all is_entry entries) are in
      let lasts = and_parts (is_lt (names last.0 entry.0)) (below_all names last.0 entries) below in
      let order = and_parts (below_all names entry.0 entries) (is_sorted names entries) sorted in
      and_from _ _ (may-from (Some last) entry tests.0 lasts.0) (may-behind entry entries tests.1 order.0 order.1)

  may-from-sorted : (entries : List (Bytes × V)) → list_all is_entry entries ≡ true → is_sorted names entries ≡ true
      → each_may may_entry None entries ≡ true
  may-from-sorted [] are sorted = refl
  may-from-sorted (entry ∷ entries) are sorted =
      let tests = and_parts (is_entry entry) (list_all is_entry entries) are in
      let order = and_parts (below_all names entry.0 entries) (is_sorted names entries) sorted in
      and_from _ _ (may-from None entry tests.0 refl) (may-behind entry entries tests.1 order.0 order.1)

  -- what a name leads to
  abbrev named : Bytes → Option (Bytes × V) → Bytes → Bytes → Reading (Bytes × V)
  named bytes last name rest = cond (is_behind last name)
      (and_then (format.field rest) (λ value end. Found (name, value) end)) (Wrong (length bytes) Order)

  module _ (exact : IsExact format.is_value format.written format.field) where
    -- an entry that may come next is exact
    entry-exact : (last : Option (Bytes × V)) → IsExact (may_entry last) (entry_bytes format) (entry_field format last)
    entry-exact last = record {
      forth = λ entry rest may fits.
          let parts = may-parts last entry may in
          let tests = and_parts (is_word entry.0) (format.is_value entry.1) parts.0 in
          let behind = format.written entry.1 ++ rest in
          let long = length-append (word_bytes entry.0) (format.written entry.1) in
          ap (entry_field format last) (append_assoc (word_bytes entry.0) (format.written entry.1) rest)
          ∙ ap (λ r. and_then r (named (word_bytes entry.0 ++ behind) last))
          (word-exact.forth entry.0 behind tests.0 (omega arith))
          ∙ ap (λ b. cond b (and_then (format.field behind) (λ value end. Found (entry.0, value) end))
          (Wrong (length (word_bytes entry.0 ++ behind)) Order)) parts.1
          ∙ ap (λ r. and_then r (λ value end. Found (entry.0, value) end))
          (exact.forth entry.1 rest tests.1 (omega arith));
      back = λ bytes entry rest are found.
          let name = and_then-found (word_field bytes) (named bytes last) entry rest found in
          let passed = passed-found (is_behind last name.0)
          (and_then (format.field name.1) (λ value end. Found (name.0, value) end))
          (length bytes) Order entry rest name.3 in
          let value = and_then-found (format.field name.1) (λ value end. Found (name.0, value) end) entry rest
          passed.1 in
          let first = word-exact.back bytes name.0 name.1 are name.2 in
          let second = exact.back name.1 value.0 value.1
          (are_bytes-behind bytes (word_bytes name.0) name.1 are first.0) value.2 in
          let same : (name.0, value.0) ≡ entry = cc in
          let end : value.1 ≡ rest = cc in (
            first.0 ∙ ap (λ b. word_bytes name.0 ++ b) second.0
                ∙ sym (append_assoc (word_bytes name.0) (format.written value.0) value.1)
                ∙ ap (λ (e : Bytes × V). entry_bytes format e ++ value.1) same
                ∙ ap (λ b. entry_bytes format entry ++ b) end,
            ap (may_entry last) (sym same) ∙ may-from last (name.0, value.0) (and_from _ _ first.1 second.1) passed.0,
          );
    }

    -- what the entries lead to
    abbrev made : List (Bytes × V) → Bytes → Reading (Table V)
    made entries end = Found (map.from_sorted entries) end

    -- what the count of entries leads to
    abbrev tabled : ℕ → Bytes → Reading (Table V)
    tabled count rest = and_then (times (entry_field format) count None rest) made

    -- tables of exact values are exact
    pub table-exact : IsExact (is_table format) (table_bytes format) (table_field format)
    table-exact = record {
      forth = λ table rest is fits.
          let entries = map.entries table in
          let sorted = test (is_sorted names entries) (map.entries_sorted table) in
          let may : each_may may_entry None entries ≡ true = may-from-sorted entries is sorted in
          let texts = flat_map (entry_bytes format) entries in
          let count = map.len-entries table in
          let long = length-append (count_bytes (map.len table)) texts in
          let few = length-flat_map-le (entry_bytes format)
          (λ e. omega (arith, length-append (word_bytes e.0) (format.written e.1))) entries in
          let kept : map.from_sorted {R = names} entries ≡ table =
          map.same_entries_map _ _ (map.entries-from_sorted names entries (map.entries_sorted table)) in
          ap (table_field format) (append_assoc (count_bytes (map.len table)) texts rest)
          ∙ ap (λ r. and_then r tabled) (count-exact.forth (map.len table) (texts ++ rest) (lt-ltb _ _ (omega arith))
          (omega arith))
          ∙ ap (λ n. and_then (times (entry_field format) n None (texts ++ rest)) made) count
          ∙ ap (λ r. and_then r made) (times-forth may_entry (entry_bytes format)
          (entry_field format) entry-exact None entries rest may (omega arith))
          ∙ ap (λ (t : Table V). Found t rest) kept;
      back = λ bytes table rest are found.
          let read = and_then-found (count_field bytes) tabled table rest found in
          let all = and_then-found (times (entry_field format) read.0 None read.1) made table rest read.3 in
          let exact_count = count-exact.back bytes read.0 read.1 are read.2 in
          let texts = times-back may_entry (entry_bytes format) (entry_field format) entry-exact read.0 None read.1
          all.0 all.1 (are_bytes-behind bytes (count_bytes read.0) read.1 are exact_count.0) all.2 in
          let sorted = sorted-from-may all.0 texts.2 in
          let same : map.from_sorted {R = names} all.0 ≡ table = cc in
          let end : all.1 ≡ rest = cc in
          let entries : map.entries table ≡ all.0 = ap map.entries (sym same)
          ∙ map.entries-from_sorted names all.0 (fact _ sorted.1) in
          let count : read.0 ≡ map.len table = sym texts.0 ∙ ap length (sym entries) ∙ sym (map.len-entries table) in (
            exact_count.0 ∙ ap (λ n. count_bytes n ++ read.1) count ∙ ap (λ b. count_bytes (map.len table) ++ b) texts.1
                ∙ sym (append_assoc (count_bytes (map.len table)) (flat_map (entry_bytes format) all.0) all.1)
                ∙ ap (λ (es : List (Bytes × V)). (count_bytes (map.len table) ++ flat_map (entry_bytes format) es)
                ++ all.1) (sym entries) ∙ ap (λ b. table_bytes format table ++ b) end,
            ap (list_all is_entry) entries ∙ sorted.0,
          );
    }
