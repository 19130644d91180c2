use Rattle.std.proofs.Common.{◌≡◌}
use Rattle.lr_codec.specs.Lists.{acks_of, updates_of}
use Rattle.lr_codec.proofs.lists.split.Given as goal

-- the items so far, each with those of its kind
abbrev pub invariant-loop-item : goal.invariant-loop-item
invariant-loop-item g l = record {
  updates : l.updates ≡ updates_of l.yielded;
  acks : l.acks ≡ acks_of l.yielded;
}
