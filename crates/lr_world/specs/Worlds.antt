-- What contracts see of a run and of a world.
use Rattle.std.specs.Prelude.{◌≡◌, List}
use Rattle.lr_base.specs.declared.events.Outcome.{Outcome}
use Rattle.lr_base.specs.declared.events.Step.{Step}
use Rattle.lr_base.specs.declared.names.Config.{Config}
use Rattle.lr_graph.specs.Runs.{RunState, Stepped}
use Rattle.lr_world.specs.declared.run.Run.{Run}

-- what a run is set up with, and its steps so far
pub record History (Op : Type 0) : Type 0 where
  pub config : Config
  pub steps : List (Step Op)

-- what the run is set up with
-- for example: 1 replica, 1 client, a delta of 10
abbrev pub setup_of : {S Op : Type 0} {g : _} {h : _} → Run S Op g h → Config
setup_of r = r.config

-- the run, as the rules see it
-- for example: `first_run` of a new run
abbrev pub run_of : {S Op : Type 0} {g : _} {h : _} → Run S Op g h → RunState S Op
run_of r = record { replicas = r.replicas.items; fronts = r.fronts.items; posted = r.posted.items }

-- what is printed of its last step
-- for example: `got 0.1`
abbrev pub lines_of : {S Op : Type 0} {g : _} {h : _} → Run S Op g h → List Outcome
lines_of r = r.outbox.lines

-- a run came to this by an event, and these lines are printed of it
-- for example: event 2 of `first.script`
pub record HasStepped {Value Op : Type 0} (made : Stepped Value Op) (now : RunState Value Op)
    (lines : List Outcome) : Type 0 where
  pub run : now ≡ made.run
  pub printed : lines ≡ made.outcomes
