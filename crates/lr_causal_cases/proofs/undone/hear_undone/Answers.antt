use Rattle.std.proofs.Common.{rules}
use Rattle.lr_causal_cases.proofs.undone.hear_undone.Goals as goal

pub restore-requires : goal.restore-requires
restore-requires c =
    let taken = c.hear.ensures.points c.save-point.result _ (search rules) c.save-point.ensures.point in
    (c.apply.ensures.point _ taken).shape
