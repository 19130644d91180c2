-- The ranges of a state: all that its bytes ask of it, but that its operations and its value are the service's own.
use Rattle.std.specs.Prelude.{ℕ, Bool, true, ◌&&◌, Option, None, Some}
use Rattle.std.specs.List.{list_all}
use Rattle.lr_base.specs.Meaning.{Encoding, Meaning}
use Rattle.lr_base.specs.declared.messages.Call.{Call}
use Rattle.lr_base.specs.declared.messages.Entry.{Entry}
use Rattle.lr_base.specs.declared.messages.LogUpdate.{LogUpdate}
use Rattle.lr_codec.specs.States.{state_format}
use Rattle.lr_codec.specs.declared.state.StableState.{StableState}

-- the same meaning, where each operation counts as the service's own
abbrev pub unchecked : {Value Op : Type 0} → Meaning Value Op → Meaning Value Op
unchecked m = record m { is_op = λ op. true }

-- the same encoding, where each value counts as the service's own
abbrev pub unchecked_values : {Value : Type 0} → Encoding Value → Encoding Value
unchecked_values e = record e { is_value = λ value. true }

-- whether each part of a state is in its range, each list in its order, and each operation of a kind that may
-- stand there
abbrev pub is_in_ranges : {Value Op : Type 0} → Meaning Value Op → Encoding Value → StableState Value Op → Bool
is_in_ranges m e state = (state_format (unchecked m) (unchecked_values e) 0 None).is_value state

-- whether an update's operation is the service's own
abbrev pub is_own_update : {Value Op : Type 0} → Meaning Value Op → LogUpdate Op → Bool
is_own_update m update = m.is_op update.op

-- and an entry's
abbrev pub is_own_entry : {Value Op : Type 0} → Meaning Value Op → Entry Op → Bool
is_own_entry m entry = m.is_op entry.call.op

-- and that of the call being frozen, if there is one
abbrev pub is_own_frozen : {Value Op : Type 0} → Meaning Value Op → Option (ℕ × Call Op) → Bool
is_own_frozen m None = true
is_own_frozen m (Some numbered) = m.is_op numbered.1.op

-- whether the operations of a state and its value are the service's own
abbrev pub is_own : {Value Op : Type 0} → Meaning Value Op → Encoding Value → StableState Value Op → Bool
is_own m e state = list_all (is_own_update m) state.updates && (list_all (is_own_entry m) state.entries
    && (is_own_frozen m state.frozen && e.is_value state.value))
