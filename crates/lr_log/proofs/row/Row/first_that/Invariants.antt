use Rattle.std.proofs.Common.{◌≡◌, None, find, take}
use Rattle.lr_log.proofs.row.Row.first_that.Given as goal

-- none of the items so far passes
abbrev pub invariant-loop-item : goal.invariant-loop-item
invariant-loop-item g l = find (g.P.Test.passes l.test) (take l.item-index l.item-items) ≡ None
