use Rattle.std.proofs.Common.{◌↔◌, vec_len}
use Rattle.lr_base.specs.Places.{AreInOrder}
use Rattle.lr_value.specs.Table.{IsHeld}
use Rattle.lr_value.proofs.waiting.Table.rest.Given as goal

-- the same are held, and those that were taken over stand in order
abbrev pub invariant-loop-met : goal.invariant-loop-met
invariant-loop-met g l = record {
  in_order : AreInOrder (λ r. r.now.spot) l.self.ready.items;
  held : (u : _) → IsHeld u l.self.ready.items l.self.blocked.items
      ↔ IsHeld u l.initial.self.ready.items l.initial.self.blocked.items;
}

abbrev pub decreases-loop-met : goal.decreases-loop-met
decreases-loop-met g l = vec_len l.self.blocked
