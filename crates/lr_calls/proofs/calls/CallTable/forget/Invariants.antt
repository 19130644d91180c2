use Rattle.std.proofs.Common.{◌≡◌, drop}
use Rattle.lr_base.specs.Rules.{undone_calls}
use Rattle.lr_calls.proofs.calls.CallTable.forget.Given as goal

-- once the other acknowledgements were looked at too, all calls that are done have left
abbrev pub invariant-loop-ack : goal.invariant-loop-ack
invariant-loop-ack g l =
    let updates = g.L.Places.updates l.log in
    undone_calls updates (drop l.ack-index l.acks) l.self ≡ undone_calls updates l.acks l.initial.self
