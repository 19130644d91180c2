use Rattle.std.proofs.Common.{◌≡◌, true, not, take}
use Rattle.std.specs.List.{list_all}
use Rattle.lr_base.specs.Rules.{is_new as is_new_at}
use Rattle.lr_log.proofs.table.Table.known_everywhere.Given as goal

-- the item is new for none of the rows so far
abbrev pub invariant-loop-row : goal.invariant-loop-row
invariant-loop-row l = list_all (λ row. not (is_new_at row l.spot)) (take l.row-index l.row-items) ≡ true
