use Rattle.std.proofs.Common.{◌≡◌, ◌++◌, take}
use Rattle.lr_base.specs.Rules.{waiting}
use Rattle.lr_value.specs.Waiting.{behind}
use Rattle.lr_value.proofs.gathering.add_waiting.Given as goal

-- those that wait of the updates so far were added
abbrev pub invariant-loop-update : goal.invariant-loop-update
invariant-loop-update g l =
    behind l.found.items ≡ behind l.initial.found.items ++ waiting l.val_ts (take l.update-index l.updates)
