-- Orders of acceptances in which each follows its causes. An order has the newest first, as the graph's own list
-- has. The contract of `every_order_gives_one_value` cites these and `value_after`; its clause `own` says that there
-- is always such an order, what is ready in the order of making. In the examples `0:1` was accepted, and then `1:1`
-- with the cause `0:1`.
use Rattle.std.specs.Prelude.{◌≡◌, ℕ, true, false, List, [], ◌∷◌, filter}
use Rattle.lr_base.specs.Meaning.{Meaning}
use Rattle.lr_base.specs.Orders.{IsAmong}
use Rattle.lr_base.specs.declared.events.Step.{Step}
use Rattle.lr_base.specs.declared.names.Config.{Config}
use Rattle.lr_graph.specs.Central.{facts_after}
use Rattle.lr_graph.specs.Closed.{Each, HasApartSpots}
use Rattle.lr_graph.specs.Graph.{Acceptance, first_facts, ready}
use Rattle.lr_graph.specs.Sets.{SpotSet}

-- the set of every spot
-- for example: has `0:1`
abbrev pub everything : SpotSet
everything spot = true

-- each acceptance of an order follows its causes: it is below none that was applied before it
-- for example: `1:1`, `0:1`, but not `0:1`, `1:1`
abbrev pub FollowsCauses : {Op : Type 0} → List (Acceptance Op) → Type 0
FollowsCauses [] = Unit {0}
FollowsCauses (a ∷ older) = Each (λ b. b.below a.spot ≡ false) older × FollowsCauses older

-- an order of the acceptances of a set: it has each of them, once, no others, and each follows its causes
-- for example: `1:1`, `0:1` of both
pub record IsOrderOf {Op : Type 0} (accepted : List (Acceptance Op)) (set : SpotSet)
    (order : List (Acceptance Op)) : Type 0 where
  pub apart : HasApartSpots order
  pub inside : Each (λ a. IsAmong a accepted × (set a.spot ≡ true)) order
  pub all : Each (λ a. set a.spot ≡ true → IsAmong a order) accepted
  pub follows : FollowsCauses order

-- an order of what is ready at a replica after a history
-- for example: `1:1`, `0:1` where both were received
abbrev pub IsReadyOrder : {Value Op : Type 0} → Meaning Value Op → Config → List (Step Op) → ℕ → List (Acceptance Op)
    → Type 0
IsReadyOrder m config steps i order =
    let w = facts_after m config first_facts steps in
    IsOrderOf w.accepted (ready w.accepted (w.received i)) order

-- what is ready at a replica after a history, in the order of making
-- for example: `1:1`, `0:1` where both were received
abbrev pub ready_as_made : {Value Op : Type 0} → Meaning Value Op → Config → List (Step Op) → ℕ
    → List (Acceptance Op)
ready_as_made m config steps i =
    let w = facts_after m config first_facts steps in
    filter (λ a. ready w.accepted (w.received i) a.spot) w.accepted
