use Rattle.std.proofs.Common.{take}
use Rattle.std.specs.List.{AllByRecursion}
use Rattle.lr_log.specs.Items.{IsFree}
use Rattle.lr_tests.proofs.taking.are_acks_free.Given as goal

-- the acknowledgements so far are free
abbrev pub invariant-loop-ack : goal.invariant-loop-ack
invariant-loop-ack g l = AllByRecursion (λ a. IsFree l.log a.spot) (take l.ack-index l.acks)
