-- What is listed and kept of a set of acceptances.
use Rattle.std.specs.Prelude.{◌≡◌, true, false, Bool, List}
use Rattle.lr_base.specs.Ascending.{is_before}
use Rattle.lr_base.specs.Insertion.{Ascends}
use Rattle.lr_base.specs.Orders.{IsAmong}
use Rattle.lr_base.specs.declared.names.Cid.{Cid}
use Rattle.lr_base.specs.declared.names.Spot.{Spot}
use Rattle.lr_graph.specs.Graph.{Acceptance}
use Rattle.lr_graph.specs.Sets.{SpotSet}

-- an acceptance of the set is so
abbrev pub HasMember : {Op : Type 0} → List (Acceptance Op) → SpotSet → (Acceptance Op → Type 0) → Type 0
HasMember {Op} accepted set IsSo = (a : Acceptance Op) × IsAmong a accepted × (set a.spot ≡ true) × IsSo a

-- a list ascends, so that it has each once, and has just what is so
pub record IsListOf {A : Type 0} (before : A → A → Bool) (IsSo : A → Type 0) (xs : List A) : Type 0 where
  pub ascends : Ascends before xs
  pub into : (x : A) → IsAmong x xs → IsSo x
  pub back : (x : A) → IsSo x → IsAmong x xs

-- the set has an acceptance of the call at this spot, and none before it
pub record IsLeastOf {Op : Type 0} (accepted : List (Acceptance Op)) (set : SpotSet) (cid : Cid) (spot : Spot)
    : Type 0 where
  pub member : HasMember accepted set (λ a. (a.cid ≡ cid) × (a.spot ≡ spot))
  pub least : (a : Acceptance Op) → IsAmong a accepted → set a.spot ≡ true → a.cid ≡ cid → is_before a.spot spot ≡ false
