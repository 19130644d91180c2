use Rattle.std.proofs.Common.{refl, arith}
use Rattle.std.proofs.lemmas.Option.{slice_get_read}
use Rattle.lr_value.proofs.gathering.add_waiting.Goals as goal

pub is_waiting-requires : goal.is_waiting-requires
is_waiting-requires g c =
    c.requires c.loop-update.update-index c.update-item.result
    (slice_get_read c.args.updates.now _ c.loop-update.update-index c.update-item.result refl (omega arith)
    c.update-item.is)
