use Rattle.std.proofs.Common.{◌≡◌, ◌++◌, take}
use Rattle.lr_log.proofs.row.Row.list_items.Given as goal

-- as many items are listed as turns were made
abbrev pub invariant-loop-item : goal.invariant-loop-item
invariant-loop-item g l = l.items ≡ l.initial.items ++ take l.item-index l.item-items
