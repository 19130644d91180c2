use Rattle.std.proofs.Common.{drop}
use Rattle.lr_sim.proofs.Writing.{moved-front, moved-none}
use Rattle.lr_sim.proofs.command.write_full.Goals as goal

pub returns-in_err-write_whole-clause-part : goal.returns-in_err-write_whole-clause-part
returns-in_err-write_whole-clause-part g c =
    let front = c.in_err-write_whole.ensures.prefix in
    (drop front.0 c.as_slice.result.now, moved-front front.0 c.as_slice.ensures front.1)

pub returns-else-len-ge-PIECE-clause-part : goal.returns-else-len-ge-PIECE-clause-part
returns-else-len-ge-PIECE-clause-part g c = (c.args.text.now, moved-none _ c.args.text.now)
