-- What stands at spots, place by place.
-- `PlaceLaws` has the law that items in the order of their spots are put together of those of each place.
use Rattle.std.proofs.Common.{ℕ, zero, suc, ◌<◌, List, [], ◌++◌}
use Rattle.std.proofs.Common.{filter}
use Rattle.std.specs.Prelude.{◌==◌}
use Rattle.std.specs.List.{AllByRecursion}
use Rattle.lr_base.specs.Ascending.{is_before}
use Rattle.lr_base.specs.Insertion.{Ascends}
use Rattle.lr_base.specs.declared.names.Spot.{Spot}

-- the items stand in the order of their spots, and none stands twice
-- for example: `0:2`, `1:1`, `1:3`
abbrev pub AreInOrder : {A : Type 0} → (A → Spot) → List A → Type 0
AreInOrder spot_of items = Ascends (λ a b. is_before (spot_of a) (spot_of b)) items

-- the items of one place
-- for example: of these at place 1: `1:1`, `1:3`
abbrev pub items_at : {A : Type 0} → (A → Spot) → ℕ → List A → List A
items_at spot_of place items = filter (λ x. (spot_of x).place == place) items

-- the items of the first so many places, place after place
-- for example: of the first 2 places: all three
abbrev pub up_to_place : {A : Type 0} → (A → Spot) → ℕ → List A → List A
up_to_place spot_of zero items = []
up_to_place spot_of (suc places) items = up_to_place spot_of places items ++ items_at spot_of places items

-- each item is of one of the first so many places
-- for example: so with 2 places, not with 1
abbrev pub AreWithin : {A : Type 0} → (A → Spot) → ℕ → List A → Type 0
AreWithin spot_of places items = AllByRecursion (λ x. (spot_of x).place < places) items
