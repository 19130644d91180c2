use Rattle.std.proofs.Common.{◌≡◌, map, take}
use Rattle.lr_base.specs.Rules.{new_updates}
use Rattle.lr_causal.proofs.gossip.new_updates.Given as goal

-- those found so far are those of the updates so far
abbrev pub invariant-loop-update : goal.invariant-loop-update
invariant-loop-update g l = map (λ u. u.now) l.found.items ≡ new_updates l.rep_ts (take l.update-index l.updates)
