use Rattle.std.proofs.Common.{◌≡◌, ◌++◌, take}
use Rattle.lr_base.specs.Rules.{waiting}
use Rattle.lr_value.specs.Waiting.{behind, picked}
use Rattle.lr_value.proofs.gathering.add_remembered.Given as goal

-- what still waits at the spots so far was added
abbrev pub invariant-loop-at : goal.invariant-loop-at
invariant-loop-at g l =
    behind l.found.items
    ≡ behind l.initial.found.items ++ waiting l.val_ts (picked l.place (take l.at l.waits) l.updates)
