use Rattle.std.proofs.Common.{◌≡◌}
use Rattle.lr_world.proofs.replica.tests.held_queries_are_answered_behind_an_update.Given as goal

-- the replica stays one of three
abbrev pub invariant-loop-seq : goal.invariant-loop-seq
invariant-loop-seq g l = l.replica.config ≡ l.initial.replica.config
