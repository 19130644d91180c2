-- What contracts see of the sources, sinks and keepers in memory.
use Rattle.std.specs.Prelude.{ℕ, Bool, List, Option, Some, ◌==◌}
use Rattle.std.specs.List.{list_any}
use Rattle.lr_outside.specs.Keepers.{KeeperSeen}
use Rattle.lr_outside.specs.Seen.{SinkSeen, SourceSeen}

-- the bytes left, the numbers of the calls that are to fail, how many calls were made, and how many failed
-- for example: `abc` left, call 2 is to fail
pub record Supply : Type 0 where
  pub left : List ℕ
  pub failing : List ℕ
  pub calls : ℕ
  pub faults : ℕ

-- the bytes held, how many more find room before memory is asked for, the numbers of the calls that are to fail, how
-- many calls were made, and how many failed
-- for example: `abc` held, with room for 5 more
pub record Store : Type 0 where
  pub held : List ℕ
  pub room : ℕ
  pub failing : List ℕ
  pub calls : ℕ
  pub faults : ℕ

-- the bytes held, how many more find room, and how many calls failed
-- for example: room for 17 more
pub record BoundedStore : Type 0 where
  pub held : List ℕ
  pub room : ℕ
  pub faults : ℕ

-- the bytes kept, if some are, whether the next save is to fail, the numbers of the calls that are to fail, how many
-- calls were made, and how many failed
-- for example: `abc` kept, and the next save is to fail
pub record Archive : Type 0 where
  pub kept : Option (List ℕ)
  pub is_armed : Bool
  pub failing : List ℕ
  pub calls : ℕ
  pub faults : ℕ

-- what is seen of a source in memory
abbrev pub supply_seen : Supply → SourceSeen
supply_seen supply = record { left = Some supply.left; faults = supply.faults }

-- what is seen of a sink in memory
abbrev pub store_seen : Store → SinkSeen
store_seen store = record { held = Some store.held; faults = store.faults }

-- what is seen of one with room for so many bytes
abbrev pub bounded_seen : BoundedStore → SinkSeen
bounded_seen store = record { held = Some store.held; faults = store.faults }

-- what is seen of a keeper in memory: neither its numbers nor whether it is armed
-- for example: `abc` kept and no call failed, of one whose next save is to fail
abbrev pub archive_seen : Archive → KeeperSeen
archive_seen archive = record { kept = archive.kept; faults = archive.faults }

-- what is seen of a keeper that never fails and keeps this
-- for example: `abc` kept, and no call failed
abbrev pub sure_seen : Option (List ℕ) → KeeperSeen
sure_seen kept = record { kept = kept; faults = 0 }

-- whether the call of this number is one of those that are to fail
-- for example: 2 among 2 and 5
abbrev pub is_listed : List ℕ → ℕ → Bool
is_listed failing number = list_any (λ listed. listed == number) failing
