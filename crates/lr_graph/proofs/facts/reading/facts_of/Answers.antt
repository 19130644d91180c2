use Rattle.lr_graph.specs.Graph.{first_facts}
use Rattle.lr_graph.specs.Told.{gathered_facts}
use Rattle.lr_graph.proofs.Told.Reading.{step-more}
use Rattle.lr_graph.proofs.facts.reading.facts_of.Goals as goal

pub loop-step-preserved : goal.loop-step-preserved
loop-step-preserved g c =
    step-more g.S.Service.meaning c.args.config first_facts (gathered_facts c.loop-step.facts) (gathered_facts c.read_step.new.facts) c.args.history.now c.loop-step.step-index c.step-item.result
    c.loop-step-test.true c.step-item.is c.loop-step.invariant c.in_ok-read_step.ensures
