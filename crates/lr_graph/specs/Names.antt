-- How a stamp stands for a set of spots.
-- The proof of `what_is_made_is_legal` rests on this; the contract of `stamps_stand_for_sets` cites `IsCounted`.
use Rattle.std.specs.Prelude.{◌≡◌, ◌<◌, ◌≤◌, ℕ, true, ◌&&◌, nat_le, nat_lt, List}
use Rattle.lr_base.specs.Stamps.{part}
use Rattle.lr_base.specs.declared.names.Spot.{Spot}
use Rattle.lr_graph.specs.Sets.{SpotSet}

-- the spot of a place and a number
-- for example: `0:1`
abbrev pub spot_at : ℕ → ℕ → Spot
spot_at place number = record { place = place; number = number }

-- each part of the stamp is the greatest number that the set has at that place, or 0 where it has none
-- for example: `[1, 0]` and `only 0:1`
pub record Names (stamp : List ℕ) (x : SpotSet) : Type 0 where
  pub above : (spot : Spot) → x spot ≡ true → spot.number ≤ part stamp spot.place
  pub reached : (place : ℕ) → 0 < part stamp place → x (spot_at place (part stamp place)) ≡ true

-- the set has, of each place, the numbers from 1 to the stamp's part
-- for example: so has what a replica received, with `rep_ts`
abbrev pub IsCounted : SpotSet → List ℕ → Type 0
IsCounted x stamp = (spot : Spot) → x spot ≡ (nat_lt 0 spot.number && nat_le spot.number (part stamp spot.place))
