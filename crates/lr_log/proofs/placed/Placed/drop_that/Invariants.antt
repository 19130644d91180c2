use Rattle.std.proofs.Common.{◌≡◌, filter, length, not}
use Rattle.lr_log.proofs.placed.Placed.drop_that.Given as goal

-- the items that don't pass are those of the start
abbrev pub invariant-loop-spot : goal.invariant-loop-spot
invariant-loop-spot g l = filter (λ x. not (g.P.Test.passes l.test x)) l.self ≡ filter
    (λ x. not (g.P.Test.passes l.test x)) l.initial.self

abbrev pub decreases-loop-spot : goal.decreases-loop-spot
decreases-loop-spot g l = length l.self
