-- How values stand in bytes, and ways to put such formats together.
use Rattle.std.specs.Prelude.{ℕ, ◌^◌, ◌==◌, Bool, true, ◌&&◌, not, nat_lt, if◌then◌else◌, List, [], ◌++◌}
use Rattle.std.specs.Prelude.{length, Option, Some, None, ◌⊎◌, flat_map}
use mathlib.Core.Logic.{inl, inr}
use Rattle.byteorder.specs.Endian.{big_bytes}
use Rattle.lr_base.specs.Bytes.{Bytes, Reading, Found, Wrong, and_then, count_bytes, count_field, number_field, times}
use Rattle.lr_base.specs.Bytes.{Decoded, whole, IsExact, each_may}
use Rattle.lr_base.specs.declared.bytes.BadWhat.{BadWhat}
use Rattle.lr_base.specs.declared.bytes.BadWhat.TheVariants.{Range, Order}

-- how values stand in bytes: which are written, with which bytes, and what is read
pub record Format (V : Type 0) : Type 0 where
  pub is_value : V → Bool
  pub written : V → Bytes
  pub field : Bytes → Reading V

-- what is written in a format is read back, and the other way round
-- for example: `number_format`
abbrev pub IsExactFormat : {A : Type 0} → Format A → Type 0
IsExactFormat f = IsExact f.is_value f.written f.field

-- numbers that so many bytes have room for
-- for example: `0000000000000003` of 3
abbrev pub number_of : ℕ → Format ℕ
number_of width = record {
  is_value = λ number. nat_lt number (256 ^ width);
  written = big_bytes width;
  field = number_field width;
}

-- numbers below 2^64, in 8 bytes
abbrev pub number_format : Format ℕ
number_format = record { is_value = λ number. nat_lt number (2 ^ 64); written = big_bytes 8; field = number_field 8 }

-- counts, in 4 bytes where these have room
abbrev pub count_format : Format ℕ
count_format = record { is_value = λ count. nat_lt count (2 ^ 64); written = count_bytes; field = count_field }

-- a value, and behind it one whose format it decides
-- for example: a tag, and then what it stands for
abbrev pub leading : {A B : Type 0} → Format A → (A → Format B) → Format (A × B)
leading f g = record {
  is_value = λ parts. f.is_value parts.0 && (g parts.0).is_value parts.1;
  written = λ parts. f.written parts.0 ++ (g parts.0).written parts.1;
  field = λ bytes. and_then (f.field bytes)
      (λ first rest. and_then ((g first).field rest) (λ second end. Found (first, second) end));
}

-- one value behind another
-- for example: owners, and then notes
abbrev pub both : {A B : Type 0} → Format A → Format B → Format (A × B)
both f g = leading f (λ first. g)

-- the same values under another name
-- for example: a pair of tables as a record
abbrev pub renamed : {A B : Type 0} → (A → B) → (B → A) → Format A → Format B
renamed to from f = record {
  is_value = λ value. f.is_value (from value);
  written = λ value. f.written (from value);
  field = λ bytes. and_then (f.field bytes) (λ value rest. Found (to value) rest);
}

-- only the values that pass a test: another is wrong at its first byte
-- for example: numbers from 1; 0 is `Range`
abbrev pub only_where : {A : Type 0} → (A → Bool) → BadWhat → Format A → Format A
only_where test what f = record {
  is_value = λ value. f.is_value value && test value;
  written = f.written;
  field = λ bytes. and_then (f.field bytes)
      (λ value rest. if test value then Found value rest else Wrong (length bytes) what);
}

-- a test that no bytes stand for: what it comes to is known
abbrev pub known_test : Bool → Format Bool
known_test known = record {
  is_value = λ value. if known then value else not value;
  written = λ value. [];
  field = λ bytes. Found known bytes;
}

-- whether a value of one of two kinds is of the known kind
abbrev pub is_either : {A B : Type 0} → Bool → Format A → Format B → A ⊎ B → Bool
is_either first f g (inl value) = first && f.is_value value
is_either first f g (inr value) = not first && g.is_value value

-- its bytes, which don't say the kind
abbrev pub either_bytes : {A B : Type 0} → Format A → Format B → A ⊎ B → Bytes
either_bytes f g (inl value) = f.written value
either_bytes f g (inr value) = g.written value

-- a value of one of two kinds, where the kind is known
abbrev pub either : {A B : Type 0} → Bool → Format A → Format B → Format (A ⊎ B)
either first f g = record {
  is_value = is_either first f g;
  written = either_bytes f g;
  field = λ bytes. if first then and_then (f.field bytes) (λ value rest. Found (inl value) rest)
      else and_then (g.field bytes) (λ value rest. Found (inr value) rest);
}

-- whether a part may stand there
-- for example: true of no part
abbrev pub is_optional : {A : Type 0} → Bool → Format A → Option A → Bool
is_optional may f None = true
is_optional may f (Some value) = may && f.is_value value

-- a byte 0, or 1 and then the part
-- for example: `00`; `01 03`
abbrev pub optional_bytes : {A : Type 0} → Format A → Option A → Bytes
optional_bytes f None = big_bytes 1 0
optional_bytes f (Some value) = big_bytes 1 1 ++ f.written value

-- a part that may be left out, and that stands only where it may
-- for example: `02` is `Range`
abbrev pub optional : {A : Type 0} → Bool → Format A → Format (Option A)
optional may f = record {
  is_value = is_optional may f;
  written = optional_bytes f;
  field = λ bytes. and_then (number_field 1 bytes) (λ tag rest.
      if tag == 0 then Found None rest
      else if (tag == 1) && may then and_then (f.field rest) (λ value end. Found (Some value) end)
      else Wrong (length bytes) Range);
}

-- an element of a list: a key, which may come behind the element before it or is out of order, and then the rest
-- for example: a name, and its value
abbrev pub keyed : {K V : Type 0} → (K → Bool) → Format K → (K → Format V) → Format (K × V)
keyed may key rest = leading (only_where may Order key) rest

-- so many elements, each in a format that the one before it decides
abbrev pub repeated : {A : Type 0} → (Option A → Format A) → ℕ → Format (List A)
repeated one count = record {
  is_value = λ xs. (length xs == count) && each_may (λ last. (one last).is_value) None xs;
  written = flat_map (one None).written;
  field = times (λ last. (one last).field) count None;
}

-- a count, and then so many elements
abbrev pub listed : {A : Type 0} → Format ℕ → (Option A → Format A) → Format (List A)
listed count one = renamed (λ parts. parts.1) (λ xs. (length xs, xs)) (leading count (repeated one))

-- what whole bytes in a format are
abbrev pub decoded_in : {A : Type 0} → Format A → Bytes → Decoded A
decoded_in f bytes = whole bytes (f.field bytes)
