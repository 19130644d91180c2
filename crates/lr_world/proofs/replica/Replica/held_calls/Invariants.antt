use Rattle.std.proofs.Common.{◌≡◌, map, take}
use Rattle.lr_world.proofs.replica.Replica.held_calls.Given as goal

-- as many as turns were made
abbrev pub invariant-loop-call : goal.invariant-loop-call
invariant-loop-call g l = l.cids ≡ map (λ c. c.cid) (take l.call-index l.initial.self.causal.held)
