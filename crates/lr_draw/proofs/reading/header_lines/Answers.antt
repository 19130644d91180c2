use Rattle.lr_draw.specs.Histories.{other_line}
use Rattle.lr_draw.proofs.reading.header_lines.Goals as goal

pub returns-in-None-clause-none : goal.returns-in-None-clause-none
returns-in-None-clause-none c _ = other_line c.in-Some.cut.line.now c.in-Some.cut.later.now c.in-Some.ensures.line
    c.in-None.ensures
