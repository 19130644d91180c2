-- To be believed: the values that stand in tables beside numbers: words, and words in order.
use Rattle.std.specs.Prelude.{◌==◌, Bool, true, ◌&&◌, nat_lt, if◌then◌else◌, List, [], ◌∷◌, ◌++◌, length}
use Rattle.std.specs.Prelude.{Option, Some, None, flat_map, unwrap_or}
use Rattle.std.specs.List.{list_all}
use Rattle.std.specs.Ordering.{nat_cmp, is_le}
use Rattle.std.specs.Cmp.Lexicographic.{slice_cmp}
use Rattle.std.specs.Fmt.{decimal}
use Rattle.std.specs.FinMap as map
use Rattle.lr_base.specs.Bytes.{Bytes, Reading, Found, Wrong, and_then, count_bytes, count_field, times}
use Rattle.lr_base.specs.Formats.{Format}
use Rattle.lr_base.specs.Insertion.{insert_by}
use Rattle.lr_base.specs.declared.bytes.BadWhat.TheVariants.{Range, Order}
use Rattle.lr_words.specs.Tables.{Table, word_bytes, word_field}
use Rattle.lr_words.specs.Word.{is_word}

-- words
-- for example: `01 62` of `b`
abbrev pub word_format : Format Bytes
word_format = record { is_value = is_word; written = word_bytes; field = word_field }

-- a word doesn't stand behind another
-- for example: `a10` up to `a2`, `a` up to `a`
abbrev pub is_up_to : Bytes → Bytes → Bool
is_up_to a b = is_le (slice_cmp nat_cmp a b)

-- the words in order with one more, before those that don't stand before it
-- for example: `b` into `a`, `c`
abbrev pub insert_word : Bytes → List Bytes → List Bytes
insert_word word words = insert_by is_up_to word words

-- a word is up to the first of these, if there is one
-- for example: `a`, before `b`, `b`
abbrev pub is_up_to_first : Bytes → List Bytes → Bool
is_up_to_first word [] = true
is_up_to_first word (first ∷ rest) = is_up_to word first

-- each word is up to the next
-- for example: `a`, `b`, `b`
abbrev pub are_in_order : List Bytes → Bool
are_in_order [] = true
are_in_order (word ∷ words) = is_up_to_first word words && are_in_order words

-- a word may come next: the one before it, if there is one, is up to it
-- for example: `b` behind `b`
abbrev pub follows : Option Bytes → Bytes → Bool
follows None word = true
follows (Some last) word = is_up_to last word

-- a word that may come next
-- for example: no words is `Range`
abbrev pub next_word_field : Option Bytes → Bytes → Reading Bytes
next_word_field last bytes = and_then (word_field bytes) (λ word rest.
    if follows last word then Found word rest else Wrong (length bytes) Order)

-- words in order, at least one: their count, and then these
abbrev pub words_field : Bytes → Reading (List Bytes)
words_field bytes = and_then (count_field bytes) (λ count rest.
    if count == 0 then Wrong (length bytes) Range else times next_word_field count None rest)

-- words in order, with repeats
-- for example: `00000001 01 62` of `b` alone
abbrev pub words_format : Format (List Bytes)
words_format = record {
  is_value = λ words. nat_lt 0 (length words) && list_all is_word words && are_in_order words;
  written = λ words. count_bytes (length words) ++ flat_map word_bytes words;
  field = words_field;
}

-- the words of a name, none where it has none
abbrev pub words_of : Table (List Bytes) → Bytes → List Bytes
words_of table name = unwrap_or (map.get table name) []

-- the words with one more at a name
-- for example: x has `b`, and then `a`, `b`
abbrev pub with_word : Table (List Bytes) → Bytes → Bytes → Table (List Bytes)
with_word table name word = map.insert table name (insert_word word (words_of table name))

-- how words are answered: their count, and then each with a space before it
-- for example: `3 a b b`; `0`
abbrev pub words_text : List Bytes → Bytes
words_text words = decimal (length words) ++ flat_map (λ word. 32 ∷ word) words
