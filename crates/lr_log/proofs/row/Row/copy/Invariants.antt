use Rattle.std.proofs.Common.{◌≡◌, take}
use Rattle.lr_log.proofs.row.Row.copy.Given as goal

-- as many items are copied as turns were made
abbrev pub invariant-loop-item : goal.invariant-loop-item
invariant-loop-item g l = l.items.items ≡ take l.item-index l.item-items
