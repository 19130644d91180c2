use Rattle.std.proofs.Common.{sym, refl}
use Rattle.lr_script.specs.Faults.{too_long, empty, bad_head, no_header}
use Rattle.lr_script.proofs.FaultLemmas.{is_empty, is_filled}
use Rattle.lr_script.proofs.reading.split_header.Goals as goal

pub returns-then-bytes-gt-MOST_SCRIPT_BYTES-clause-err : goal.returns-then-bytes-gt-MOST_SCRIPT_BYTES-clause-err
returns-then-bytes-gt-MOST_SCRIPT_BYTES-clause-err c = too_long c.if-bytes-gt-MOST_SCRIPT_BYTES.true

pub returns-then-is_empty-clause-err : goal.returns-then-is_empty-clause-err
returns-then-is_empty-clause-err c = empty (is_empty c.args.bytes.now (sym c.if-is_empty.ensures))

pub returns-in-None-clause-err : goal.returns-in-None-clause-err
returns-in-None-clause-err c = no_header c.in-Ok.text.now c.in-Ok.lines.now c.if-bytes-gt-MOST_SCRIPT_BYTES.false c.in-Ok.ensures.line c.in-Ok.ensures.printable (c.in-None.ensures.none refl)

pub returns-in-Err-clause-err : goal.returns-in-Err-clause-err
returns-in-Err-clause-err c = bad_head c.in-Err.cause c.if-bytes-gt-MOST_SCRIPT_BYTES.false (is_filled c.args.bytes.now (sym c.if-is_empty.ensures)) c.in-Err.ensures.err
