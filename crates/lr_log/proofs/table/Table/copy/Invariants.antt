use Rattle.std.proofs.Common.{◌≡◌, take}
use Rattle.lr_log.proofs.table.Table.copy.Given as goal

-- as many rows as turns were made
abbrev pub invariant-loop-row : goal.invariant-loop-row
invariant-loop-row l = l.rows.items ≡ take l.row-index l.row-items
