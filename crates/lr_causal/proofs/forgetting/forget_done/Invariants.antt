use Rattle.std.proofs.Common.{◌≡◌}
use Rattle.lr_base.specs.Places.{up_to_place}
use Rattle.lr_base.specs.Rules.{undone_calls}
use Rattle.lr_causal.proofs.forgetting.forget_done.Given as goal

-- calls have left by the acknowledgements of the places so far
abbrev pub invariant-loop-place : goal.invariant-loop-place
invariant-loop-place g l =
    l.calls ≡ undone_calls l.log.updates (up_to_place (λ a. a.spot) l.place l.log.acks) l.initial.calls
