use Rattle.lr_sim.proofs.Ending.{run-part, run-whole, write-fault}
use Rattle.lr_sim.proofs.command.simulate_script.Goals as goal

pub returns-in-Ok-write_history : goal.returns-in-Ok-write_history
returns-in-Ok-write_history g c =
    let script = c.in-Ok.ensures.ok.same c.args.header.now c.requires.header in
    (run-whole g.S.Service.meaning script c.as_slice.ensures c.in-Ok-write_history.ensures.whole, c.in-Ok-write_history.ensures.counted)

pub returns-in-Err-Write : goal.returns-in-Err-Write
returns-in-Err-Write g c =
    let script = c.in-Ok.ensures.ok.same c.args.header.now c.requires.header in
    (run-part g.S.Service.meaning script c.as_slice.ensures c.in-Err-Write.ensures.part, write-fault (Unit {0}) _ c.in-Err-Write.field-0-is c.in-Err-Write.ensures.counted)
