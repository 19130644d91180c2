use Rattle.std.proofs.Common.{refl}
use Rattle.lr_causal_cases.proofs.undone.note_undone.Goals as goal

pub restore-requires : goal.restore-requires
restore-requires c =
    let noted = (c.note.ensures c.save-point.result.heard).points c.save-point.result _ refl c.save-point.ensures.point in
    ((c.tick.ensures c.save-point.result.heard).points c.save-point.result _ refl noted).shape
