use Rattle.std.proofs.Common.{◌≡◌, None, find, take}
use Rattle.lr_log.specs.Rows.{together}
use Rattle.lr_log.proofs.placed.first_that.Given as goal

-- no item of the rows so far passes
abbrev pub invariant-loop-row : goal.invariant-loop-row
invariant-loop-row g l = find (g.P.Test.passes l.test) (together (take l.row-index l.rows)) ≡ None
