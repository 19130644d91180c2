use Rattle.std.proofs.Common.{◌≡◌, take}
use Rattle.lr_graph.specs.Central.{facts_after}
use Rattle.lr_graph.specs.Graph.{first_facts}
use Rattle.lr_graph.specs.Told.{bare, gathered_facts}
use Rattle.lr_graph.proofs.facts.reading.facts_of.Given as goal

-- the steps so far are read
abbrev pub invariant-loop-step : goal.invariant-loop-step
invariant-loop-step g l = gathered_facts l.facts ≡ bare (facts_after g.S.Service.meaning l.config first_facts (take l.step-index l.history))
