use Rattle.std.proofs.Common.{◌≡◌, take}
use Rattle.lr_log.specs.Rows.{together}
use Rattle.lr_log.proofs.placed.Placed.copy_items.Given as goal

-- the items of the rows so far are listed
abbrev pub invariant-loop-row : goal.invariant-loop-row
invariant-loop-row g l = l.items ≡ together (take l.row-index l.row-items)
