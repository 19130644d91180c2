use Rattle.std.proofs.Common.{◌≡◌, ◌++◌, take, drop, map, filter}
use Rattle.lr_base.specs.Rules.{is_new}
use Rattle.lr_log.proofs.placed.drop_known_of.Given as goal

-- as many rows have lost what is known as turns were made
abbrev pub invariant-loop-row : goal.invariant-loop-row
invariant-loop-row g l =
    l.row-items ≡ map (λ row. filter (λ x. is_new l.floor (g.T.AtSpot.spot_of x)) row)
    (take l.row-index l.initial.row-items)
    ++ drop l.row-index l.initial.row-items
