use Rattle.std.proofs.Common.{refl}
use Rattle.lr_causal_cases.proofs.undone.accept_undone.Goals as goal

pub restore-requires : goal.restore-requires
restore-requires c =
    let accepted = (c.accept.ensures c.save-point.result.heard).points c.save-point.result _ refl c.save-point.ensures.point in
    let held = (c.hold.ensures c.save-point.result.heard).points c.save-point.result _ refl accepted in
    (c.apply.ensures.point _ held).shape
