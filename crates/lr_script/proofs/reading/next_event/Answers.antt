use Rattle.std.proofs.Common.{refl}
use Rattle.lr_script.specs.Faults.{IsBadEvent, no_line, no_event}
use Rattle.lr_script.proofs.FaultLemmas.{cause_of_fault}
use Rattle.lr_script.proofs.reading.next_event.Goals as goal

pub returns-in-Bad-clause-err : goal.returns-in-Bad-clause-err
returns-in-Bad-clause-err g c =
    let why = cause_of_fault (IsBadEvent g.S.Service.meaning c.args.config c.in-Ok.text.now) c.in-Err-read_event.fault c.in-Bad.cause c.in-Bad.is c.in-Err-read_event.ensures.err in
    (refl, no_event c.in-Ok.text.now c.in-Ok.later.now c.in-Bad.cause c.in-Ok.ensures.line c.in-Ok.ensures.printable why)

pub returns-in-Err-clause-err : goal.returns-in-Err-clause-err
returns-in-Err-clause-err g c = (refl, no_line c.in-Err.cause c.in-Err.ensures.err)
