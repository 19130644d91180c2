use Rattle.std.proofs.Common.{refl, ap, Err}
use Rattle.lr_draw.specs.Histories.{bad_line, no_line}
use Rattle.lr_draw.proofs.ReadingLemmas.{bad_there, placed, read_more, stopped}
use Rattle.lr_draw.proofs.reading.read_next.Goals as goal

pub returns-in_default-clause-err : goal.returns-in_default-clause-err
returns-in_default-clause-err c = stopped c.args.bytes.now c.args.lines.now c.args.count c.args.history.now
    c.requires.read (no_line (c.in_default.ensures.none refl))

pub returns-in-Err-Bad-clause-err : goal.returns-in-Err-Bad-clause-err
returns-in-Err-Bad-clause-err c =
    let line = c.in-Some.cut.line.now in
    let there = placed c.args.bytes.now c.args.lines.now line c.args.count c.len.result c.len-2.result
    c.args.history.now c.requires.read c.len.ensures c.len-2.ensures in
    stopped c.args.bytes.now c.args.lines.now c.args.count c.args.history.now c.requires.read
    (bad_line line c.in-Some.cut.later.now c.in-Some.ensures.line (bad_there line _ _ there
    (c.in-Err-Bad.ensures.bad (ap Err c.in-Err-Bad.field-0-is))))

pub returns-in-Ok-add_line-clause-ok : goal.returns-in-Ok-add_line-clause-ok
returns-in-Ok-add_line-clause-ok c =
    let line = c.in-Some.cut.line.now in
    let there = placed c.args.bytes.now c.args.lines.now line c.args.count c.len.result c.len-2.result
    c.args.history.now c.requires.read c.len.ensures c.len-2.ensures in
    read_more c.args.bytes.now c.args.lines.now c.in-Some.cut.later.now c.args.count c.args.history.now
    c.add_line.new.history line c.in-Ok.read _ c.requires.read c.in-Some.ensures.line
    c.in-Some.ensures.printable there c.in-Ok.ensures.ok c.in-Ok-add_line.ensures.events
    c.in-Ok-add_line.ensures.messages
