use Rattle.lr_base.specs.Logged.{AllAcksReceived}
use Rattle.lr_base.specs.Places.{AreInOrder}
use Rattle.lr_causal_cases.proofs.Acks.{AreUpTo}
use Rattle.lr_causal_cases.proofs.steps.gossip_of_acks.Given as goal

-- the stamp says of those so far that they were received, and they stand in order up to the last one
abbrev pub invariant-loop-number : goal.invariant-loop-number
invariant-loop-number l = record {
  received : AllAcksReceived l.rep_ts l.acks;
  up_to : AreUpTo l.place l.last l.acks;
  in_order : AreInOrder (λ a. a.spot) l.acks;
}
