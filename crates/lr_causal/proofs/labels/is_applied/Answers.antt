use Rattle.std.proofs.Common.{arith, sym}
use Rattle.lr_causal.proofs.LabelLemmas.{stamp_le-beyond, stamp_le-within}
use Rattle.lr_causal.proofs.labels.is_applied.Goals as goal

pub returns-then-part-part_or_zero : goal.returns-then-part-part_or_zero
returns-then-part-part_or_zero c = sym (stamp_le-beyond c.args.label.now c.args.val_ts.now c.loop-place.place (omega arith))

pub returns : goal.returns
returns c = sym (stamp_le-within c.args.label.now c.args.val_ts.now (λ k within. c.loop-place.invariant k (omega arith)))
