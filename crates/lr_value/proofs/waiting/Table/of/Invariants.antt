use Rattle.std.proofs.Common.{◌≡◌, ◌↔◌, ◌≤◌, ◌-◌, true, length, take}
use Rattle.std.specs.List.{AllByRecursion}
use Rattle.lr_base.specs.Orders.{IsAmong}
use Rattle.lr_base.specs.Places.{AreInOrder}
use Rattle.lr_base.specs.Stamps.{stamp_le}
use Rattle.lr_value.specs.Table.{AreByNeed, IsHeld, Lacks, StandsAt}
use Rattle.lr_value.specs.Waiting.{behind}
use Rattle.lr_value.proofs.waiting.Table.of.Given as goal

-- the first so many have their causes applied, those taken out lack something, and all are there
abbrev pub invariant-loop-at : goal.invariant-loop-at
invariant-loop-at g l =
    let ready = l.table.ready.items in
    let blocked = l.table.blocked.items in
    record {
      within : l.at ≤ length ready;
      in_order : AreInOrder (λ r. r.now.spot) ready;
      seen : AllByRecursion (λ r. stamp_le r.now.prev l.val_ts ≡ true) (take l.at ready);
      by_need : AreByNeed blocked;
      filed : (b : _) → IsAmong b blocked → Lacks l.val_ts b.needs × StandsAt l.val_ts b.update.now.prev b.needs;
      held : (u : _) → IsHeld u ready blocked ↔ IsAmong u (behind l.fn.waiting.items);
    }

abbrev pub decreases-loop-at : goal.decreases-loop-at
decreases-loop-at g l = length l.table.ready.items - l.at
