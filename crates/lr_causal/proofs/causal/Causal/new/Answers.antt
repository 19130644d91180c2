use Rattle.std.proofs.Common.{◌∙◌, ap, length}
use Rattle.std.proofs.lemmas.List.{length-replicate}
use Rattle.lr_causal.proofs.causal.Causal.new.Goals as goal

pub invariant_of-result-clause-rep_parts : goal.invariant_of-result-clause-rep_parts
invariant_of-result-clause-rep_parts g c = ap length c.new-4.ensures.own ∙ length-replicate _ 0

pub invariant_of-result-clause-rows : goal.invariant_of-result-clause-rows
invariant_of-result-clause-rows g c = ap length c.new-4.ensures.rows ∙ length-replicate c.args.config.replicas _
