-- What the modules of printed histories are written in.
use Rattle.std.specs.Prelude.{ℕ, List}
use Rattle.lr_base.specs.declared.events.Event.{Event}
use Rattle.lr_base.specs.declared.events.Outcome.{Outcome}
use Rattle.lr_base.specs.declared.events.Step.{Step}
use Rattle.lr_base.specs.declared.names.Cid.{Cid}
use Rattle.lr_base.specs.declared.names.Config.{Config}
use Rattle.lr_base.specs.declared.names.Spot.{Spot}

-- a printed history: what its header says, its steps with any outcome in the place of one, the outcome that is
-- printed there, and another
-- for example: of `first`, with the answer 3 and with 4
pub record PrintedHistory (Op : Type 0) : Type 0 where
  pub config : Config
  pub steps : Outcome → List (Step Op)
  pub line : Outcome
  pub altered : Outcome

-- a client's call, by its number
-- for example: `cid 0 1` is `0.1`
abbrev pub cid : ℕ → ℕ → Cid
cid client seq = record { client = client; seq = seq }

-- a place's spot, by its number
abbrev pub spot : ℕ → ℕ → Spot
spot place number = record { place = place; number = number }

-- an event with its outcomes
abbrev pub step : {Op : Type 0} → Event Op → List Outcome → Step Op
step event outcomes = record { event = event; outcomes = outcomes }
