-- To be believed: how values stand in bytes: field after field, each read from the bytes that are left.
-- Bytes are written here in hexadecimal. The contracts of fields, of `put` and of `get` cite these.
use Rattle.std.specs.Prelude.{◌≡◌, ◌<◌, ◌^◌, ℕ, zero, suc, ◌-◌, Bool, true, ◌&&◌, ◌==◌, nat_lt, if◌then◌else◌, List, []}
use Rattle.std.specs.Prelude.{◌∷◌, ◌++◌, length, drop, Option, Some, Result, Ok, Err, ⊤}
use Rattle.std.specs.List.{list_all}
use Rattle.std.specs.Borrow.{Bor}
use Rattle.byteorder.specs.Endian.{big_number, big_bytes}
use Rattle.lr_base.specs.declared.bytes.BadWhat.{BadWhat}
use Rattle.lr_base.specs.declared.bytes.BadWhat.TheVariants.{Short, Range, Trailing}
use Rattle.lr_base.specs.declared.bytes.FieldFault.{FieldFault}
use Rattle.lr_base.specs.declared.bytes.FieldFault.TheVariants as fault
use Rattle.lr_base.specs.declared.bytes.GetFault.{GetFault}
use Rattle.lr_base.specs.declared.bytes.GetFault.TheVariants as refusal

-- bytes, each a number below 256
-- for example: `01 78`
abbrev pub Bytes : Type 0
Bytes = List ℕ

-- what reading comes to: a value and the bytes behind it, or how many bytes are left from the first wrong field on,
-- and what is wrong
-- for example: `Found 3 []`; `Wrong 2 Short`
pub data Reading (A : Type 0) : Type 0 where
  Found : (value : A) (rest : Bytes) → Reading A
  Wrong : (left : ℕ) (what : BadWhat) → Reading A

-- what is read behind a value that was found
-- for example: a name, and then a number
abbrev pub and_then : {A B : Type 0} → Reading A → (A → Bytes → Reading B) → Reading B
and_then (Found value rest) next = next value rest
and_then (Wrong left what) next = Wrong left what

-- a number of so many bytes, the highest first
-- for example: `0102` in 2 bytes is 258
abbrev pub number_field : ℕ → Bytes → Reading ℕ
number_field width bytes = if nat_lt (length bytes) width then Wrong (length bytes) Short
    else Found (big_number width bytes) (drop width bytes)

-- a count that 4 bytes have no room for
abbrev pub great_count_field : Bytes → Reading ℕ
great_count_field bytes = and_then (number_field 8 bytes) (λ count rest. if nat_lt count 4294967295
    then Wrong (length bytes) Range else Found count rest)

-- a count in 4 bytes; where these are the greatest that there are, it stands in the 8 bytes behind them
-- for example: `00000002` is 2
abbrev pub count_field : Bytes → Reading ℕ
count_field bytes = and_then (number_field 4 bytes) (λ count rest. if count == 4294967295 then great_count_field rest
    else Found count rest)

-- so many elements, each read knowing the one before it
-- for example: two names in order
abbrev pub times : {A : Type 0} → (Option A → Bytes → Reading A) → ℕ → Option A → Bytes → Reading (List A)
times one zero last bytes = Found [] bytes
times one (suc n) last bytes = and_then (one last bytes)
    (λ first rest. and_then (times one n (Some first) rest) (λ more end. Found (first ∷ more) end))

-- each of these may come behind the one before it
-- for example: names, each behind the one before
abbrev pub each_may : {A : Type 0} → (Option A → A → Bool) → Option A → List A → Bool
each_may may last [] = true
each_may may last (x ∷ xs) = may last x && each_may may (Some x) xs

-- the bytes of a count
-- for example: `00000002` of 2
abbrev pub count_bytes : ℕ → Bytes
count_bytes count = if nat_lt count 4294967295 then big_bytes 4 count else big_bytes 4 4294967295 ++ big_bytes 8 count

-- what whole bytes are: the bytes of a value, or the offset of the first wrong field and what is wrong there
-- for example: `Good 2`; `Bad 4 Trailing`
pub data Decoded (A : Type 0) : Type 0 where
  Good : (value : A) → Decoded A
  Bad : (at : ℕ) (what : BadWhat) → Decoded A

-- bytes that are a value's have none behind it
-- for example: the count `00000002` with `00` behind it is `Bad 4 Trailing`
abbrev pub whole : {A : Type 0} → Bytes → Reading A → Decoded A
whole bytes (Found value []) = Good value
whole bytes (Found value (next ∷ rest)) = Bad (length bytes - length (next ∷ rest)) Trailing
whole bytes (Wrong left what) = Bad (length bytes - left) what

-- each is below 256
-- for example: true of 255, false of 256
abbrev pub are_bytes : Bytes → Bool
are_bytes bytes = list_all (λ byte. nat_lt byte 256) bytes

-- a call's answer is what reading comes to, unless there was no memory
abbrev pub Reads : {A : Type 0} → Reading A → Result (A × Bor Bytes) FieldFault → Type 0
Reads reading (Ok parts) = reading ≡ Found parts.0 parts.1.now
Reads reading (Err (fault.Bad left what)) = reading ≡ Wrong left what
Reads reading (Err fault.NoMemory) = ⊤

-- a call's answer is what the bytes are, unless there was no memory
abbrev pub Decodes : {A : Type 0} → Decoded A → Result A GetFault → Type 0
Decodes decoded (Ok value) = decoded ≡ Good value
Decodes decoded (Err (refusal.Bad at what)) = decoded ≡ Bad at what
Decodes decoded (Err refusal.NoMemory) = ⊤

-- what is written of a value, in fewer than 2^64 bytes, is read as it, and what is read of bytes is written as they are
-- for example: numbers, in 8 bytes
pub record IsExact {A : Type 0} (is_value : A → Bool) (written : A → Bytes) (field : Bytes → Reading A) : Type 0 where
  pub forth : (value : A) (rest : Bytes) → is_value value ≡ true → length (written value) < 2 ^ 64
      → field (written value ++ rest) ≡ Found value rest
  pub back : (bytes : Bytes) (value : A) (rest : Bytes) → are_bytes bytes ≡ true → field bytes ≡ Found value rest
      → (bytes ≡ written value ++ rest) × (is_value value ≡ true)
