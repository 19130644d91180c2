-- What was executed, said without how applying goes on.
use Rattle.std.specs.Prelude.{◌≡◌, ℕ, true, false, List, fold, map, take, None, is_some, slice_get}
use Rattle.std.specs.Option.{ForSome}
use Rattle.lr_base.specs.Calls.{enter_calls}
use Rattle.lr_base.specs.Kinds.{IsUpdate}
use Rattle.lr_base.specs.Meaning.{Meaning}
use Rattle.lr_base.specs.Orders.{IsAmong}
use Rattle.lr_base.specs.Rules.{Progress, is_covered, known_of, stamp_of}
use Rattle.lr_base.specs.Stamps.{stamp_le}
use Rattle.lr_base.specs.declared.lr_service.Kind.{Kind}
use Rattle.lr_base.specs.declared.messages.Known.{Known}
use Rattle.lr_base.specs.declared.messages.LogUpdate.{LogUpdate}
use Rattle.lr_base.specs.declared.names.Cid.{Cid}

-- each of these operations may change a value
-- for example: `add x 3`, `add y 1`
abbrev pub AllUpdates : {Op : Type 0} → (Op → Kind) → List Op → Type 0
AllUpdates kind_of ops = (k : ℕ) → ForSome (slice_get ops k) (λ op. IsUpdate (kind_of op))

-- from whatever value the first operations lead to the old value, the second ones lead to the new one
-- for example: `add x 3` to 3, and with `add x 4` to 7
abbrev pub LeadsOn : {Value Op : Type 0} → Meaning Value Op → List Op → Value → List Op → Value → Type 0
LeadsOn {Value} m first old second new = (from : Value) → fold m.apply from first ≡ old → fold m.apply from second ≡ new

-- the entry of an executed update in the table of calls
-- for example: `0.1`: `0:1`, `[1, 0]`
abbrev pub entry_of : {Op : Type 0} → LogUpdate Op → Cid × Known
entry_of u = (u.cid, record { spot = u.spot; stamp = stamp_of u })

-- Some updates of the list, none of them covered before, were executed one after another on the value, each for a call
-- that had no entry yet, and were entered in that order. Each update that wasn't covered and has its causes applied
-- now has its call among the executed ones.
-- for example: `0:1` and then `1:1`, which waited for it
pub record HasApplied {Value Op : Type 0} (m : Meaning Value Op) (updates : List (LogUpdate Op))
    (before after : Progress Value) : Type 0 where
  pub ran : List (LogUpdate Op)
  pub logged : (k : ℕ) → ForSome (slice_get ran k) (λ u. IsAmong u updates × (is_covered before.val_ts u ≡ false))
  pub value : after.value ≡ fold m.apply before.value (map (λ u. u.op) ran)
  pub entered : after.calls ≡ enter_calls (map entry_of ran) before.calls
  pub once : (k : ℕ)
      → ForSome (slice_get ran k) (λ u. known_of (enter_calls (map entry_of (take k ran)) before.calls) u.cid ≡ None)
  pub executed : (k : ℕ) → ForSome (slice_get updates k) (λ u. is_covered before.val_ts u ≡ false
      → stamp_le u.prev after.val_ts ≡ true → is_some (known_of after.calls u.cid) ≡ true)
