use Rattle.std.proofs.Common.{◌≡◌, ◌++◌, filter, take}
use Rattle.lr_base.specs.Rules.{is_new}
use Rattle.lr_log.proofs.row.Row.list_new.Given as goal

-- of the items so far those that are new are listed
abbrev pub invariant-loop-item : goal.invariant-loop-item
invariant-loop-item g l = l.items ≡ l.initial.items ++ filter (λ x. is_new l.theirs (g.T.AtSpot.spot_of x))
    (take l.item-index l.item-items)
