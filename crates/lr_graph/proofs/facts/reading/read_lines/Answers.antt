use Rattle.lr_graph.specs.Told.{handling_of, gathered_facts}
use Rattle.lr_graph.proofs.Told.Reading.{line-more}
use Rattle.lr_graph.proofs.facts.reading.read_lines.Goals as goal

pub loop-line-preserved : goal.loop-line-preserved
loop-line-preserved g c =
    line-more g.S.Service.meaning c.args.config (handling_of c.args.handled.now) (gathered_facts c.args.facts.now) (gathered_facts c.loop-line.facts) (gathered_facts c.read_line.new.facts) c.args.lines.now c.loop-line.line-index c.line-item.result
    c.loop-line-test.true c.line-item.is c.loop-line.invariant c.in_ok-read_line.ensures
