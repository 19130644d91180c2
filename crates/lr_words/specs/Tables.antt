-- To be believed: tables: values by name, and how they stand in bytes.
use Rattle.std.specs.Prelude.{ℕ, Bool, true, ◌&&◌, nat_lt, nat_le, if◌then◌else◌, ◌∷◌, ◌++◌, length, take, drop}
use Rattle.std.specs.Prelude.{Option, Some, None, flat_map}
use Rattle.std.specs.List.{list_all}
use Rattle.std.specs.Ordering.{nat_cmp, is_lt}
use Rattle.std.specs.Cmp.Lexicographic.{slice_cmp}
use Rattle.std.specs.FinMap as map
use Rattle.lr_base.specs.Bytes.{Bytes, Reading, Found, Wrong, and_then, count_bytes, count_field, number_field, times}
use Rattle.lr_base.specs.declared.bytes.BadWhat.TheVariants.{Short, Range, Order, Value}
use Rattle.lr_base.specs.Formats.{Format}
use Rattle.lr_words.specs.Word.{is_word}

-- values by name
-- for example: x is 3
abbrev pub Table : Type 0 → Type 0
Table V = map.FinMap (slice_cmp nat_cmp) V

-- the length of a word, and then its bytes
-- for example: `01 78` of `x`
abbrev pub word_bytes : Bytes → Bytes
word_bytes word = length word ∷ word

-- the text of a word of this length
-- for example: `78` of length 1
abbrev pub word_text_field : ℕ → Bytes → Reading Bytes
word_text_field size bytes =
    if nat_lt (length bytes) size then Wrong (length bytes) Short
    else if is_word (take size bytes) then Found (take size bytes) (drop size bytes)
    else Wrong (length bytes) Value

-- a word: its length from 1 to 16, and then so many bytes
-- for example: `00` is `Range`
abbrev pub word_field : Bytes → Reading Bytes
word_field bytes = and_then (number_field 1 bytes) (λ size rest.
    if nat_le 1 size && nat_le size 16 then word_text_field size rest else Wrong (length bytes) Range)

-- a name stands behind that of the entry before it, if there is one
-- for example: `b` behind `a`, not `a` behind `a`
abbrev pub is_behind : {V : Type 0} → Option (Bytes × V) → Bytes → Bool
is_behind None name = true
is_behind (Some last) name = is_lt (slice_cmp nat_cmp last.0 name)

-- an entry: a name behind the one before it, and its value
abbrev pub entry_field : {V : Type 0} → Format V → Option (Bytes × V) → Bytes → Reading (Bytes × V)
entry_field format last bytes = and_then (word_field bytes) (λ name rest.
    if is_behind last name then and_then (format.field rest) (λ value end. Found (name, value) end)
    else Wrong (length bytes) Order)

-- a table: the count of its entries, and then these
abbrev pub table_field : {V : Type 0} → Format V → Bytes → Reading (Table V)
table_field format bytes = and_then (count_field bytes) (λ count rest.
    and_then (times (entry_field format) count None rest) (λ entries end. Found (map.from_sorted entries) end))

-- the bytes of an entry
-- for example: `01 78 0000000000000003` where x is 3
abbrev pub entry_bytes : {V : Type 0} → Format V → Bytes × V → Bytes
entry_bytes format entry = word_bytes entry.0 ++ format.written entry.1

-- the bytes of a table
-- for example: `00000001 01 78 0000000000000003` where x is 3
abbrev pub table_bytes : {V : Type 0} → Format V → Table V → Bytes
table_bytes format table = count_bytes (map.len table) ++ flat_map (entry_bytes format) (map.entries table)

-- a table whose names are words, with values that are written
-- for example: not where a number is 2^64
abbrev pub is_table : {V : Type 0} → Format V → Table V → Bool
is_table format table = list_all (λ entry. is_word entry.0 && format.is_value entry.1) (map.entries table)

-- tables of values in this format
-- for example: of `number_format`
abbrev pub table_of : {V : Type 0} → Format V → Format (Table V)
table_of format = record { is_value = is_table format; written = table_bytes format; field = table_field format }
