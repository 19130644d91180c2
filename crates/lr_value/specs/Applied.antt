-- What a contract sees of a value with the stamp of what was applied to it, and of applying.
use Rattle.std.specs.Prelude.{◌≡◌, List, length, Option, Some, None}
use Rattle.lr_base.specs.Stamps.{Stamp}
use Rattle.lr_base.specs.declared.names.Cid.{Cid}
use Rattle.lr_base.specs.declared.names.Spot.{Spot}
use Rattle.lr_base.specs.declared.messages.Known.{Known}
use Rattle.lr_base.specs.declared.messages.LogUpdate.{LogUpdate}
use Rattle.lr_base.specs.Logged.{AllKnown}
use Rattle.lr_base.specs.Meaning.{Meaning}
use Rattle.lr_base.specs.Rules.{Progress, apply_ready, known_of, waiting}

-- how many items of each place a log had that was looked through, and the spots of the updates that waited in it
-- for example: `[3, 2]`, `1:2` waits
pub record Memory : Type 0 where
  pub seen : Stamp
  pub waits : List Spot

-- the value, the stamp that stands for the updates applied to it, and what of a log was looked at
-- for example: x is 3, `[1, 0]`, nothing looked at
pub record Applied (Value : Type 0) : Type 0 where
  pub value : Value
  pub val_ts : Stamp
  pub memory : Option Memory

-- a value of before with its stamp, and what it comes to with the operations executed since, where these were kept
-- for example: x was 3, `[1, 0]`, and comes to 7
pub record Lagging (Value : Type 0) : Type 0 where
  pub value : Value
  pub val_ts : Stamp
  pub newer : Option Value

-- how far applying has come, by a value, its stamp and a table of executed calls
abbrev pub progress_at : {Value : Type 0} → Value → Stamp → List (Cid × Known) → Progress Value
progress_at value val_ts calls = record { value = value; val_ts = val_ts; calls = calls }

-- the same by what a contract sees of a value
abbrev pub progress : {Value : Type 0} → Applied Value → List (Cid × Known) → Progress Value
progress applied calls = progress_at applied.value applied.val_ts calls

-- how far it comes once all that is ready of these updates is applied
-- for example: with `add x 3` ready: x is 3, `[1, 0]`, `0.1`
abbrev pub all_ready : {Value Op : Type 0} → Meaning Value Op → List (LogUpdate Op) → Progress Value → Progress Value
all_ready m updates p = let todo = waiting p.val_ts updates in apply_ready m (length todo) todo p

-- applying went on, however far: the stamp has its parts, no call left the table and of each is known what was, and
-- stamps of calls have those parts too
-- for example: from no call to `0.1`
pub record GoesOn {Value : Type 0} (before after : Progress Value) : Type 0 where
  pub parts : length after.val_ts ≡ length before.val_ts
  pub stays : (cid : Cid) (known : Known)
      → known_of before.calls cid ≡ Some known → known_of after.calls cid ≡ Some known
  pub known : AllKnown (length before.val_ts) before.calls → AllKnown (length before.val_ts) after.calls

-- nothing was applied, or else the older value is that of before, and comes to that of after
-- for example: x was 3, and comes to 7, which it is
abbrev pub IsOlderOf : {Value : Type 0} → Progress Value → Progress Value → Option (Lagging Value) → Type 0
IsOlderOf before after None = after ≡ before
IsOlderOf before after (Some older) =
    older ≡ record { value = before.value; val_ts = before.val_ts; newer = Some after.value }
