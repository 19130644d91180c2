-- That a history is legal has one proof at the most.
-- So it follows where it is known only that the history was made by the rules in some way.
use Rattle.std.specs.Prelude.{List, [], ◌∷◌}
use Rattle.std.specs.Coded.{Coded-set, coded_bool, coded_list, Unit-prop, ×_prop}
use Rattle.lr_base.specs.Meaning.{Meaning}
use Rattle.lr_base.specs.contracts.events.Outcome as outcome
use Rattle.lr_base.specs.declared.events.Step.{Step}
use Rattle.lr_base.specs.declared.names.Config.{Config}
use Rattle.lr_graph.specs.After.{after}
use Rattle.lr_graph.specs.Graph.{Facts, first_facts}
use Rattle.lr_graph.specs.Legal.{IsLegal, IsLegalStep, LegalFrom}

IsLegalStep-prop : {Value Op : Type 0} (m : Meaning Value Op) (config : Config) (w : Facts Op) (step : Step Op)
    → IsProp (IsLegalStep m config w step)
IsLegalStep-prop m config w step = λ a b i. record {
  event = Coded-set coded_bool _ _ a.event b.event i;
  outcomes = Coded-set (coded_list outcome.the_row.coded) _ _ a.outcomes b.outcomes i;
}

pub LegalFrom-prop : {Value Op : Type 0} (m : Meaning Value Op) (config : Config) (w : Facts Op)
    (steps : List (Step Op)) → IsProp (LegalFrom m config w steps)
LegalFrom-prop m config w [] = Unit-prop
LegalFrom-prop m config w (step ∷ steps) =
    ×_prop (IsLegalStep-prop m config w step) (LegalFrom-prop m config (after m config w step) steps)

-- so what shows only that a history is legal in some way shows that it is legal
pub IsLegal-prop : {Value Op : Type 0} (m : Meaning Value Op) (config : Config) (steps : List (Step Op))
    → IsProp (IsLegal m config steps)
IsLegal-prop m config steps = LegalFrom-prop m config first_facts steps
