use Rattle.std.proofs.Common.{◌≡◌, ◌+◌, length}
use Rattle.lr_base.specs.Rules.{is_new as is_new_at}
use Rattle.lr_base.specs.declared.names.Spot.{Spot}
use Rattle.lr_log.proofs.Floors.{new_for}
use Rattle.lr_log.proofs.table.Table.floor.Given as goal

-- an item is new by the floor where it is new by the first row or by one of those so far
abbrev pub invariant-loop-row : goal.invariant-loop-row
invariant-loop-row l = record {
  parts : length l.floor ≡ length l.self.rows + 1;
  floor : (spot : Spot) → is_new_at l.floor spot ≡ new_for l.self.rows l.row-index spot;
}
