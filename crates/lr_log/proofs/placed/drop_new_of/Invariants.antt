use Rattle.std.proofs.Common.{◌≡◌, ◌++◌, take, drop, map, filter}
use Rattle.std.specs.Prelude.{not}
use Rattle.lr_base.specs.Rules.{is_new}
use Rattle.lr_log.proofs.placed.drop_new_of.Given as goal

-- as many rows have lost what is new as turns were made
abbrev pub invariant-loop-row : goal.invariant-loop-row
invariant-loop-row g l =
    l.row-items ≡ map (λ row. filter (λ x. not (is_new l.rep_ts (g.T.AtSpot.spot_of x))) row)
    (take l.row-index l.initial.row-items)
    ++ drop l.row-index l.initial.row-items
