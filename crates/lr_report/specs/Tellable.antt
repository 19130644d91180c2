-- What a printed history has to keep to, so that its text tells it from others: its numbers fit, its operations are
-- real, and no answer holds a line feed.
use Rattle.std.specs.List.{All}
use Rattle.lr_base.specs.Meaning.{Meaning}
use Rattle.lr_base.specs.declared.events.Step.{Step}
use Rattle.lr_graph.specs.Fitting.{OutcomeFits}
use Rattle.lr_script.specs.Script.{EventFits}

-- an event and what it did keep to all this
abbrev pub IsTellable : {Value Op : Type 0} → Meaning Value Op → Step Op → Type 0
IsTellable m step = EventFits m step.event × All OutcomeFits step.outcomes
