-- What a value remembers of a log, so that it needn't look through it again.
use Rattle.std.specs.Prelude.{◌≡◌, ◌==◌, ◌&&◌, ◌||◌, ℕ, Bool, true, false, List, [], ◌∷◌, length, Some, slice_get}
use Rattle.std.specs.Option.{ForSome, option_map}
use Rattle.lr_base.specs.Ascending.{is_before}
use Rattle.lr_base.specs.Insertion.{Ascends}
use Rattle.lr_base.specs.Logged.{AllLogged, AllReceived}
use Rattle.lr_base.specs.Rules.{is_covered, is_new}
use Rattle.lr_base.specs.Stamps.{Stamp, stamp_le}
use Rattle.lr_base.specs.declared.lr_service.Kind.{Kind}
use Rattle.lr_base.specs.declared.messages.LogUpdate.{LogUpdate}
use Rattle.lr_base.specs.declared.names.Spot.{Spot}
use Rattle.lr_value.specs.Applied.{Applied, Memory}
use Rattle.lr_value.specs.Waiting.{NoneReady}

-- whether two spots are one
-- for example: true of `1:4`, `1:4`
abbrev pub is_at : Spot → Spot → Bool
is_at s spot = (s.place == spot.place) && (s.number == spot.number)

-- whether a spot is among these
-- for example: `1:4` among `0:1`, `1:4`
abbrev pub is_among : List Spot → Spot → Bool
is_among [] spot = false
is_among (s ∷ spots) spot = is_at s spot || is_among spots spot

-- an update waits: its causes aren't applied, and its spot is among those that wait
-- for example: `1:4` with the cause `0:1`
pub record Waits {Op : Type 0} (val_ts : Stamp) (waits : List Spot) (u : LogUpdate Op) : Type 0 where
  pub blocked : stamp_le u.prev val_ts ≡ false
  pub listed : is_among waits u.spot ≡ true

-- each update of the list that isn't new where so much was seen is covered, or it waits
abbrev pub Recalls : {Op : Type 0} → Stamp → List (LogUpdate Op) → Memory → Type 0
Recalls val_ts updates memory = (k : ℕ) → ForSome (slice_get updates k) (λ u.
    is_new memory.seen u.spot ≡ false → is_covered val_ts u ≡ false → Waits val_ts memory.waits u)

-- what a value remembers, if anything, is so of these updates
abbrev pub Remembers : {Value Op : Type 0} → Applied Value → List (LogUpdate Op) → Type 0
Remembers v updates = ForSome v.memory (Recalls v.val_ts updates)

-- spots that wait stand in their order, and none is new where so much was seen
-- for example: `1:4` where `[0, 4]` was seen
pub record AreSeen (memory : Memory) : Type 0 where
  pub in_order : Ascends is_before memory.waits
  pub seen : (k : ℕ) → ForSome (slice_get memory.waits k) (λ s. is_new memory.seen s ≡ false)

-- what is remembered has the stamp's parts, and is so of these updates
pub record IsMemoryOf {Op : Type 0} (val_ts : Stamp) (updates : List (LogUpdate Op)) (memory : Memory) : Type 0 where
  pub parts : length memory.seen ≡ length val_ts
  pub recalls : Recalls val_ts updates memory

-- these are the updates of a log from which so many items were received of each place, and the value's memory fits them
pub record IsLogOf {Value Op : Type 0} (kind_of : Op → Kind) (received : Stamp) (updates : List (LogUpdate Op))
    (v : Applied Value) : Type 0 where
  pub logged : AllLogged kind_of (length v.val_ts) updates
  pub all_received : AllReceived received updates
  pub remembered : Remembers v updates
  pub parts : length received ≡ length v.val_ts

-- all that was received, so many items of each place, was looked at
abbrev pub HasLooked : {Value : Type 0} → Stamp → Applied Value → Type 0
HasLooked received v = option_map (λ m. m.seen) v.memory ≡ Some received

-- nothing is left to apply of these updates, and it is remembered so where so many items of each place were seen
pub record IsSettledAt {Value Op : Type 0} (seen : Stamp) (updates : List (LogUpdate Op)) (v : Applied Value)
    : Type 0 where
  pub none_ready : NoneReady v.val_ts updates
  pub remembers : Remembers v updates
  pub looked : HasLooked seen v
