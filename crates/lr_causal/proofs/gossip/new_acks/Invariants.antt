use Rattle.std.proofs.Common.{◌≡◌, take}
use Rattle.lr_base.specs.Rules.{new_acks}
use Rattle.lr_causal.proofs.gossip.new_acks.Given as goal

-- those found so far are those of the acknowledgements so far
abbrev pub invariant-loop-ack : goal.invariant-loop-ack
invariant-loop-ack l = l.found.items ≡ new_acks l.rep_ts (take l.ack-index l.acks)
