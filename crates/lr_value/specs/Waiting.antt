-- Updates that wait to be applied, as references into a log.
use Rattle.std.specs.Prelude.{◌≡◌, ◌==◌, ℕ, false, nat_lt, List, [], ◌∷◌, ◌++◌, filter, if◌then◌else◌, map}
use Rattle.std.specs.Prelude.{slice_get}
use Rattle.std.specs.Option.{ForSome}
use Rattle.std.specs.Borrow.{Bor}
use Rattle.lr_base.specs.Insertion.{Ascends}
use Rattle.lr_base.specs.Logged.{AllReceived}
use Rattle.lr_base.specs.Orders.{IsAmong}
use Rattle.lr_base.specs.Places.{AreInOrder}
use Rattle.lr_base.specs.declared.messages.LogUpdate.{LogUpdate}
use Rattle.lr_base.specs.declared.names.Spot.{Spot}
use Rattle.lr_base.specs.Rules.{is_covered}
use Rattle.lr_base.specs.Stamps.{Stamp, stamp_le}

-- the updates behind the references
abbrev pub behind : {Op : Type 0} → List (Bor (LogUpdate Op)) → List (LogUpdate Op)
behind references = map (λ u. u.now) references

-- none of the updates that aren't applied to a value with this stamp has its causes applied
-- for example: `1:1` alone, with the cause `0:1`
abbrev pub NoneReady : {Op : Type 0} → Stamp → List (LogUpdate Op) → Type 0
NoneReady val_ts updates = (k : ℕ)
    → ForSome (slice_get updates k) (λ u. is_covered val_ts u ≡ false → stamp_le u.prev val_ts ≡ false)

-- the updates are those of one place, in the order of their numbers
-- for example: `1:1`, `1:4`
pub record AreOfPlace {Op : Type 0} (place : ℕ) (updates : List (LogUpdate Op)) : Type 0 where
  pub ascends : Ascends (λ a b. nat_lt a.spot.number b.spot.number) updates
  pub together : (k : ℕ) → ForSome (slice_get updates k) (λ u. u.spot.place ≡ place)

-- the updates of one place with a spot's number, where the spot is of that place
-- for example: of place 1 at `0:1` none, at `1:4` that one
abbrev pub at_spot : {Op : Type 0} → ℕ → Spot → List (LogUpdate Op) → List (LogUpdate Op)
at_spot place s updates = if s.place == place then filter (λ u. u.spot.number == s.number) updates else []

-- those of one place at the spots, spot after spot
abbrev pub picked : {Op : Type 0} → ℕ → List Spot → List (LogUpdate Op) → List (LogUpdate Op)
picked place [] updates = []
picked place (s ∷ spots) updates = at_spot place s updates ++ picked place spots updates

-- of the updates that waited these are left, in their order: each of the others is covered
-- for example: of `0:1` and `1:1` the second
pub record AreLeft {Op : Type 0} (val_ts : Stamp) (todo left : List (LogUpdate Op)) : Type 0 where
  pub in_order : AreInOrder (λ u. u.spot) todo → AreInOrder (λ u. u.spot) left
  pub received : (seen : Stamp) → AllReceived seen todo → AllReceived seen left
  pub others : (k : ℕ) → ForSome (slice_get todo k) (λ u. is_covered val_ts u ≡ false → IsAmong u left)
