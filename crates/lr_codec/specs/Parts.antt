-- The small parts of stable bytes: numbers, stamps, calls' names, operations and the value.
use Rattle.std.specs.Prelude.{ℕ, ◌-◌, ◌&&◌, Bool, not, nat_lt, nat_le, if◌then◌else◌, length}
use Rattle.std.specs.Prelude.{take, drop, Option, Some, None, ◌++◌}
use Rattle.byteorder.specs.Endian.{big_bytes}
use Rattle.lr_base.specs.Bytes.{Bytes, Reading, Found, Wrong, and_then, Decoded, Good, Bad, count_bytes, count_field}
use Rattle.lr_base.specs.Formats.{Format, number_of, number_format, both, renamed, only_where}
use Rattle.lr_base.specs.Formats.{repeated}
use Rattle.lr_base.specs.Kinds.{is_query}
use Rattle.lr_base.specs.Limits.{last_number}
use Rattle.lr_base.specs.Meaning.{Encoding, Meaning}
use Rattle.lr_base.specs.Stamps.{Stamp}
use Rattle.lr_base.specs.declared.bytes.BadWhat.TheVariants.{Short, Range, Value}
use Rattle.lr_base.specs.declared.lr_service.Kind.{Kind}
use Rattle.lr_base.specs.declared.names.Cid.{Cid}

-- a byte that passes a test
abbrev pub byte_where : (ℕ → Bool) → Format ℕ
byte_where test = only_where test Range (number_of 1)

-- a number of 8 bytes that passes a test
abbrev pub number_where : (ℕ → Bool) → Format ℕ
number_where test = only_where test Range number_format

-- a number of an item, a part of a stamp, a view or a count of calls: none is greater than the last one
abbrev pub part_format : Format ℕ
part_format = number_where (λ number. nat_le number last_number)

-- a number that counts from 1
abbrev pub item_number_format : Format ℕ
item_number_format = number_where (λ number. nat_le 1 number && nat_le number last_number)

-- a stamp: its parts
abbrev pub stamp_format : ℕ → Format Stamp
stamp_format parts = repeated (λ last. part_format) parts

-- a call's name: its client, and that client's count
abbrev pub cid_format : Format Cid
cid_format = renamed (λ parts. record { client = parts.0; seq = parts.1 }) (λ cid. (cid.client, cid.seq))
    (both (number_of 4) part_format)

-- what the next bytes are, so many as a length before them says
abbrev pub sized : {A : Type 0} → (Bytes → Bytes → Bytes → Reading A) → ℕ → Bytes → Reading A
sized next size bytes = if nat_lt (length bytes) size then Wrong (length bytes) Short
    else next bytes (take size bytes) (drop size bytes)

-- an operation that is an update
-- for example: not a query
abbrev pub is_update : Kind → Bool
is_update kind = not (is_query kind)

-- an operation of a kind that passes, where there is one; else its text is wrong
abbrev pub op_found : {Value Op : Type 0} → Meaning Value Op → (Kind → Bool) → Bytes → Bytes → Option Op → Reading Op
op_found m may bytes rest None = Wrong (length bytes) Value
op_found m may bytes rest (Some op) = if may (m.kind op) then Found op rest else Wrong (length bytes) Value

-- an operation of a kind that passes: 2 bytes of length, and its text
abbrev pub op_format : {Value Op : Type 0} → Meaning Value Op → (Kind → Bool) → Format Op
op_format m may = record {
  is_value = λ op. m.is_op op && may (m.kind op);
  written = λ op. big_bytes 2 (length (m.text op)) ++ m.text op;
  field = λ bytes. and_then ((number_of 2).field bytes)
      (sized (λ bytes text rest. op_found m may bytes rest (m.op_of text)));
}

-- what a value's own bytes are; what is wrong in them is wrong where it stands in the whole
abbrev pub value_found : {A : Type 0} → Bytes → Bytes → Decoded A → Reading A
value_found bytes rest (Good value) = Found value rest
value_found bytes rest (Bad at what) = Wrong (length bytes - at) what

-- the service's value: the length of its bytes, and then these
abbrev pub value_format : {Value : Type 0} → Encoding Value → Format Value
value_format e = record {
  is_value = e.is_value;
  written = λ value. count_bytes (length (e.spelling value)) ++ e.spelling value;
  field = λ bytes. and_then (count_field bytes) (sized (λ bytes text rest. value_found bytes rest (e.decoded text)));
}
