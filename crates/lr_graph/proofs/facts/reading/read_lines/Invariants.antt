use Rattle.std.proofs.Common.{◌≡◌, take}
use Rattle.lr_graph.specs.After.{lines_read}
use Rattle.lr_graph.specs.Told.{bare, handling_of, gathered_facts}
use Rattle.lr_graph.proofs.facts.reading.read_lines.Given as goal

-- the lines so far are read
abbrev pub invariant-loop-line : goal.invariant-loop-line
invariant-loop-line g l = gathered_facts l.facts ≡ bare (lines_read g.S.Service.meaning l.config (handling_of l.handled) (gathered_facts l.initial.facts) (take l.line-index l.lines))
