-- What is ready after a history, and the service's value after it.
-- What `ready_of` and `value_of` answer.
use Rattle.std.specs.Prelude.{ℕ, List}
use Rattle.lr_base.specs.Meaning.{Meaning}
use Rattle.lr_base.specs.declared.events.Step.{Step}
use Rattle.lr_base.specs.declared.names.Config.{Config}
use Rattle.lr_base.specs.declared.names.Spot.{Spot}
use Rattle.lr_graph.specs.Central.{facts_after}
use Rattle.lr_graph.specs.Graph.{Facts, first_facts, ready, spots_of, value}

-- the spots of what is ready at a replica, ascending
-- for example: `0:1` at `r0`
abbrev pub ready_spots_in : {Op : Type 0} → Facts Op → ℕ → List Spot
ready_spots_in w i = spots_of w.accepted (ready w.accepted (w.received i))

-- the value after what is ready at a replica
-- for example: `x` is 3 at `r0` after `add x 3`
abbrev pub value_in : {Value Op : Type 0} → Meaning Value Op → Facts Op → ℕ → Value
value_in m w i = value m w.accepted (ready w.accepted (w.received i))

-- the spots of what is ready at a replica after a history, ascending
-- for example: none after no step
abbrev pub ready_after : {Value Op : Type 0} → Meaning Value Op → Config → List (Step Op) → ℕ → List Spot
ready_after m config steps i = ready_spots_in (facts_after m config first_facts steps) i

-- the service's value after what is ready at a replica after a history
-- for example: the first value after no step
abbrev pub value_after : {Value Op : Type 0} → Meaning Value Op → Config → List (Step Op) → ℕ → Value
value_after m config steps i = value_in m (facts_after m config first_facts steps) i
