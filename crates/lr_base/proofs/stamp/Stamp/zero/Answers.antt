use Rattle.std.proofs.Common.{◌∙◌}
use Rattle.std.proofs.lemmas.List.{take-replicate}
use Rattle.lr_base.specs.Limits.{most_parts}
use Rattle.lr_base.proofs.Bounded.{bounded-zeros}
use Rattle.lr_base.proofs.stamp.Stamp.zero.Goals as goal

pub invariant_of-result : goal.invariant_of-result
invariant_of-result c = bounded-zeros c.args.parts _ (c.stored.ensures ∙ take-replicate c.args.parts most_parts 0 c.requires.most) c.requires.most

pub returns : goal.returns
returns c = c.stored.ensures ∙ take-replicate c.args.parts most_parts 0 c.requires.most
