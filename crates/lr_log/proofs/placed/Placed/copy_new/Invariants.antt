use Rattle.std.proofs.Common.{◌≡◌, filter, take}
use Rattle.lr_base.specs.Rules.{is_new}
use Rattle.lr_log.specs.Rows.{together}
use Rattle.lr_log.proofs.placed.Placed.copy_new.Given as goal

-- of the items of the rows so far those that are new are listed
abbrev pub invariant-loop-row : goal.invariant-loop-row
invariant-loop-row g l = l.items ≡ filter (λ x. is_new l.theirs (g.T.AtSpot.spot_of x))
    (together (take l.row-index l.row-items))
