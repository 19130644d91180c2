use Rattle.std.proofs.Common.{◌≡◌, take}
use Rattle.lr_base.specs.Steps.{held_acts}
use Rattle.lr_world.specs.Outboxes.{after_acts}
use Rattle.lr_world.proofs.replica.Replica.answer_held.Given as goal

-- so far the queries of the turns that were made are answered
abbrev pub invariant-loop-call : goal.invariant-loop-call
invariant-loop-call g l = l.out ≡ after_acts l.initial.out (held_acts g.S.Service.meaning l.initial.self.causal (take l.call-index l.initial.self.causal.held))
