use Rattle.std.proofs.Common.{◌≡◌, ◌++◌, take, drop, map, filter}
use Rattle.std.specs.Prelude.{not}
use Rattle.lr_log.specs.Rows.{same_spot}
use Rattle.lr_log.proofs.placed.remove_at.Given as goal

-- as many rows have lost what stands at the spot as turns were made
abbrev pub invariant-loop-row : goal.invariant-loop-row
invariant-loop-row g l =
    l.row-items ≡ map (λ row. filter (λ x. not (same_spot (g.T.AtSpot.spot_of x) l.spot)) row)
    (take l.row-index l.initial.row-items)
    ++ drop l.row-index l.initial.row-items
