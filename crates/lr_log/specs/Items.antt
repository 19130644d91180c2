-- What a contract sees of a log, and how its items stand.
use Rattle.std.specs.Prelude.{◌+◌, ◌≢◌, ℕ, List, length}
use Rattle.std.specs.List.{AllByRecursion}
use Rattle.lr_base.specs.declared.names.Spot.{Spot}
use Rattle.lr_base.specs.declared.messages.LogAck.{LogAck}
use Rattle.lr_base.specs.declared.messages.LogUpdate.{LogUpdate}
use Rattle.lr_base.specs.Places.{AreInOrder}

-- the logged updates and acknowledgements
-- for example: one update, no acknowledgement
pub record Items (Op : Type 0) : Type 0 where
  pub updates : List (LogUpdate Op)
  pub acks : List LogAck

-- how many items are logged
-- for example: 1
abbrev pub item_count : {Op : Type 0} → Items Op → ℕ
item_count log = length log.updates + length log.acks

-- a log of these updates and acknowledgements
abbrev pub items_of : {Op : Type 0} → List (LogUpdate Op) → List LogAck → Items Op
items_of updates acks = record { updates = updates; acks = acks }

-- none of the items stands at this spot
-- for example: `0:1` and `0:3`, and the spot `0:2`
abbrev pub NoneAt : {A : Type 0} → (A → Spot) → Spot → List A → Type 0
NoneAt spot_of spot items = AllByRecursion (λ x. spot_of x ≢ spot) items

-- updates and acknowledgements stand in the order of their spots, and no update at the spot of an acknowledgement
-- for example: updates at `0:1` and `1:1`, an acknowledgement at `0:2`
pub record IsOrdered {Op : Type 0} (log : Items Op) : Type 0 where
  pub in_order : AreInOrder (λ u. u.spot) log.updates
  pub acks_in_order : AreInOrder (λ a. a.spot) log.acks
  pub apart : AllByRecursion (λ u. NoneAt (λ a. a.spot) u.spot log.acks) log.updates

-- no item of the log stands at this spot
-- for example: the spot `0:3` in that log
pub record IsFree {Op : Type 0} (log : Items Op) (spot : Spot) : Type 0 where
  pub updates : NoneAt (λ u. u.spot) spot log.updates
  pub acks : NoneAt (λ a. a.spot) spot log.acks

-- the spot of each of the other items is free in the log
-- for example: an update at `0:3` and an acknowledgement at `1:2`
pub record CanTake {Op : Type 0} (log more : Items Op) : Type 0 where
  pub updates : AllByRecursion (λ u. IsFree log u.spot) more.updates
  pub acks : AllByRecursion (λ a. IsFree log a.spot) more.acks
