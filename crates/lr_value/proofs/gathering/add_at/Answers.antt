use Rattle.std.specs.Prelude.{◌==◌, length}
use Rattle.lr_base.specs.Logged.{Fits}
use Rattle.lr_value.proofs.Numbered.{index-filter}
use Rattle.lr_value.proofs.gathering.add_at.Goals as goal

pub add_waiting-requires : goal.add_waiting-requires
add_waiting-requires g c =
    index-filter (Fits (length c.args.val_ts.now)) (λ u. u.spot.number == c.args.spot.now.number) c.args.updates.now _
    c.numbered.ensures c.requires.fit
