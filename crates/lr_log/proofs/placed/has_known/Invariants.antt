use Rattle.std.proofs.Common.{◌≡◌, true, take}
use Rattle.std.specs.List.{AllByRecursion}
use Rattle.lr_base.specs.Rules.{is_new}
use Rattle.lr_log.specs.Rows.{together}
use Rattle.lr_log.proofs.placed.has_known.Given as goal

-- each item of the rows so far is new
abbrev pub invariant-loop-row : goal.invariant-loop-row
invariant-loop-row g l = AllByRecursion (λ x. is_new l.floor (g.T.AtSpot.spot_of x) ≡ true)
    (together (take l.row-index l.rows))
