use Rattle.std.proofs.Common.{◌≡◌, take}
use Rattle.lr_log.proofs.placed.copy_rows.Given as goal

-- as many rows are copied as turns were made
abbrev pub invariant-loop-row : goal.invariant-loop-row
invariant-loop-row g l = l.copied.items ≡ take l.row-index l.rows
