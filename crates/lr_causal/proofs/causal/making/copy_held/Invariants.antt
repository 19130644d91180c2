use Rattle.std.proofs.Common.{◌≡◌, take}
use Rattle.lr_causal.proofs.causal.making.copy_held.Given as goal

-- as many as turns were made
abbrev pub invariant-loop-call : goal.invariant-loop-call
invariant-loop-call g l = l.copied.items ≡ take l.call-index l.held
