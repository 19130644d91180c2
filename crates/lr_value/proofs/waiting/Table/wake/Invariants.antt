use Rattle.std.proofs.Common.{◌↔◌, ◌+◌, ◌≤◌, length}
use Rattle.lr_base.specs.Stamps.{part}
use Rattle.lr_value.specs.Table.{IsHeld, IsTableBut, count_met}
use Rattle.lr_value.proofs.waiting.Table.wake.Given as goal

-- the table holds the same updates, and only those that wait for this place may have what they need
abbrev pub invariant-loop-at : goal.invariant-loop-at
invariant-loop-at g l = record {
  table : (left : _) → IsTableBut l.place l.val_ts left l.initial.self.ready.items l.initial.self.blocked.items
      → IsTableBut l.place l.val_ts left l.self.ready.items l.self.blocked.items;
  held : (u : _) → IsHeld u l.self.ready.items l.self.blocked.items
      ↔ IsHeld u l.initial.self.ready.items l.initial.self.blocked.items;
  count : length l.self.ready.items + length l.self.blocked.items
      ≤ length l.initial.self.ready.items + length l.initial.self.blocked.items;
}

abbrev pub decreases-loop-at : goal.decreases-loop-at
decreases-loop-at g l = count_met l.place (part l.val_ts l.place) l.self.blocked.items
