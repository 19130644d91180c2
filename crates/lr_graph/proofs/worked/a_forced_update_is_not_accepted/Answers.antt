use Rattle.std.proofs.Common.{Bool, true, false, List, [], ◌∷◌, refl, ap, true≢false}
use Rattle.lr_base.specs.declared.events.Outcome.{Outcome}
use Rattle.lr_graph.proofs.worked.a_forced_update_is_not_accepted.Goals as goal

pub returns-clause-sent : goal.returns-clause-sent
returns-clause-sent c = (record { event = refl; outcomes = refl }, (record { event = refl; outcomes = refl }, tt))

-- whether anything is printed
abbrev prints : List Outcome → Bool
prints [] = false
prints (line ∷ lines) = true

pub returns-clause-accepted : goal.returns-clause-accepted
returns-clause-accepted c legal = true≢false (ap prints legal.1.0.outcomes)
