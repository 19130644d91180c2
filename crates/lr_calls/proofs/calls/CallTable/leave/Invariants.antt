use Rattle.std.proofs.Common.{◌≡◌, drop}
use Rattle.lr_calls.specs.Tables.{without}
use Rattle.lr_calls.proofs.calls.CallTable.leave.Given as goal

-- once the others have left too, all have
abbrev pub invariant-loop-cid : goal.invariant-loop-cid
invariant-loop-cid l = without (drop l.cid-index l.cids) l.self ≡ without l.cids l.initial.self
