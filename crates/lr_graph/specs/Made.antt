-- Histories that the actors of a run make, each by its own rules: a statement about a given history, however it came
-- about. The contracts of `what_is_made_is_legal`, `a_made_history_goes_on`, `runs_are_legal` and
-- `stamps_stand_for_sets` cite these.
use Rattle.std.specs.Prelude.{◌≡◌, List, [], ◌∷◌}
use Rattle.lr_base.specs.Events.{IsEventOf}
use Rattle.lr_base.specs.Meaning.{Meaning}
use Rattle.lr_base.specs.declared.events.Event.{Event}
use Rattle.lr_base.specs.declared.events.Step.{Step}
use Rattle.lr_base.specs.declared.names.Config.{Config}
use Rattle.lr_graph.specs.Runs.{RunState, first_run, stepped}

-- the step that an event makes in a run: the event with the outcomes that the rules of the actor that makes it give
-- for example: `show 0` with the state of replica 0
abbrev pub made_step : {Value Op : Type 0} → Meaning Value Op → RunState Value Op → Event Op → Step Op
made_step m run event = record { event = event; outcomes = (stepped m run event).outcomes }

-- these steps are made one after another from a run: each event is one of the run's, has just the outcomes that
-- the rules of the actor that makes it give, and leaves the run as they say; and this is the run after the last one
-- for example: no step, and the same run
abbrev pub IsMadeFrom : {Value Op : Type 0} → Meaning Value Op → Config → RunState Value Op → List (Step Op)
    → RunState Value Op → Type 0
IsMadeFrom m config run [] after = run ≡ after
IsMadeFrom m config run (step ∷ steps) after =
    IsEventOf m config step.event
    × (step.outcomes ≡ (stepped m run step.event).outcomes)
    × IsMadeFrom m config (stepped m run step.event).run steps after

-- a history that the actors make by their rules, from the first run on, with the run after it
-- for example: `add_and_read` with `got 0.1` and the answer 3
abbrev pub IsMade : {Value Op : Type 0} → Meaning Value Op → Config → List (Step Op) → RunState Value Op → Type 0
IsMade m config steps after = IsMadeFrom m config (first_run m config) steps after
