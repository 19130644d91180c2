-- The last of a list, and rows that are read one behind the other.
use Rattle.std.specs.Prelude.{◌≡◌, ◌-◌, List, length, Option, Result, Ok, Err, slice_get, ⊤}
use Rattle.std.specs.Borrow.{Bor}
use Rattle.lr_base.specs.Bytes.{Bytes, Reading, Found, Wrong}
use Rattle.lr_base.specs.declared.bytes.FieldFault.{FieldFault}
use Rattle.lr_base.specs.declared.bytes.FieldFault.TheVariants as fault

-- the last element, if there is one
abbrev pub last_of : {A : Type 0} → List A → Option A
last_of xs = slice_get xs (length xs - 1)

-- a call's fault is what reading comes to, unless there was no memory
abbrev pub IsFault : {A : Type 0} → Reading A → FieldFault → Type 0
IsFault reading (fault.Bad left what) = reading ≡ Wrong left what
IsFault reading fault.NoMemory = ⊤

-- a call's answer, whose value holds these rows, is what reading comes to, unless there was no memory
abbrev pub ReadsRows : {A B : Type 0} → (B → List A) → Reading (List A) → Result (B × Bor Bytes) FieldFault → Type 0
ReadsRows rows reading (Ok parts) = reading ≡ Found (rows parts.0) parts.1.now
ReadsRows rows reading (Err given) = IsFault reading given

-- a call's answer, a pair and the bytes behind it, is what reading comes to, unless there was no memory
abbrev pub ReadsEntry : {A B : Type 0} → Reading (A × B) → Result (A × B × Bor Bytes) FieldFault → Type 0
ReadsEntry reading (Ok parts) = reading ≡ Found (parts.0, parts.1) parts.2.now
ReadsEntry reading (Err given) = IsFault reading given
