-- What holds of acceptances and of sets of them: causes exist, come before, and come along.
-- What holds of the acceptances of every history, and of the sets that labels, messages and replicas have. The
-- contracts of `runs_are_legal`, `stamps_stand_for_sets` and `ready_is_the_greatest_closed_set` cite these.
use Rattle.std.specs.Prelude.{◌≡◌, ◌<◌, true, false, not, ◌&&◌, List, [], ◌∷◌}
use Rattle.std.specs.List.{AllByRecursion}
use Rattle.lr_base.specs.Orders.{IsAmong}
use Rattle.lr_base.specs.declared.names.Cid.{Cid}
use Rattle.lr_base.specs.declared.names.Spot.{Spot}
use Rattle.lr_graph.specs.Graph.{Acceptance}
use Rattle.lr_graph.specs.Sets.{SpotSet, same_spot}

-- P holds of each element of the list
-- for example: `IsEventOf` holds of each event of a script
abbrev pub Each : {A : Type 0} → (A → Type 0) → List A → Type 0
Each P xs = AllByRecursion P xs

-- each acceptance that is in x is in y
-- for example: `nothing` is within each set
abbrev pub IsWithin : {Op : Type 0} → List (Acceptance Op) → SpotSet → SpotSet → Type 0
IsWithin accepted x y = Each (λ a. x a.spot ≡ true → y a.spot ≡ true) accepted

-- with each acceptance the set has all that is below it
-- for example: not `only 1:1`, where `1:1` has the cause `0:1`
abbrev pub IsClosed : {Op : Type 0} → List (Acceptance Op) → SpotSet → Type 0
IsClosed accepted x = Each (λ a. x a.spot ≡ true → IsWithin accepted a.below x) accepted

-- an acceptance of this spot is in the list
-- for example: `0:1` after the addition
abbrev pub IsAccepted : {Op : Type 0} → List (Acceptance Op) → Spot → Type 0
IsAccepted {Op} accepted spot = (a : Acceptance Op) × IsAmong a accepted × (a.spot ≡ spot)

-- what is below an acceptance, without itself
-- for example: nothing of `0:1`
abbrev pub causes : {Op : Type 0} → Acceptance Op → SpotSet
causes a spot = a.below spot && not (same_spot spot a.spot)

-- no two acceptances have one spot
abbrev pub HasApartSpots : {Op : Type 0} → List (Acceptance Op) → Type 0
HasApartSpots [] = Unit {0}
HasApartSpots (a ∷ older) = Each (λ b. same_spot b.spot a.spot ≡ false) older × HasApartSpots older

-- each acceptance is below itself, and its causes were accepted before it
abbrev pub HasOlderCauses : {Op : Type 0} → List (Acceptance Op) → Type 0
HasOlderCauses [] = Unit {0}
HasOlderCauses (a ∷ older) =
    (a.below a.spot ≡ true)
    × ((spot : Spot) → causes a spot ≡ true → IsAccepted older spot)
    × HasOlderCauses older

-- what holds of the acceptances of every history
-- for example: after the addition
pub record IsSound {Op : Type 0} (accepted : List (Acceptance Op)) : Type 0 where
  pub apart : HasApartSpots accepted
  pub closed : Each (λ a. IsClosed accepted a.below) accepted
  pub older : HasOlderCauses accepted
  pub numbered : Each (λ a. 0 < a.spot.number) accepted

-- a set of spots that were accepted, with all that is below their acceptances
-- for example: `only 0:1` after the addition
pub record IsSetOf {Op : Type 0} (accepted : List (Acceptance Op)) (x : SpotSet) : Type 0 where
  pub exist : (spot : Spot) → x spot ≡ true → IsAccepted accepted spot
  pub closed : IsClosed accepted x

-- the call was accepted at this spot, and these names are what is below the acceptance
pub record IsDoneAt {Op : Type 0} (accepted : List (Acceptance Op)) (cid : Cid) (spot : Spot)
    (names : SpotSet) : Type 0 where
  pub acceptance : Acceptance Op
  pub among : IsAmong acceptance accepted
  pub call : acceptance.cid ≡ cid
  pub at : acceptance.spot ≡ spot
  pub below : acceptance.below ≡ names
