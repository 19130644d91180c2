use Rattle.std.proofs.Common.{arith}
use Rattle.lr_codec.proofs.Stamps.{part-past}
use Rattle.lr_codec.proofs.item_rows.received_of.Goals as goal

pub returns-else-place-parts : goal.returns-else-place-parts
returns-else-place-parts c = part-past c.args.rep_ts.now c.args.place (omega (arith, c.parts.ensures))
