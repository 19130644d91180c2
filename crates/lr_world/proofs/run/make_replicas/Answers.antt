use Rattle.std.proofs.Common.{◌∙◌, ◌++◌, ◌∷◌, [], ap, arith, sym}
use Rattle.std.proofs.lemmas.Grind.{common_steps}
use Rattle.lr_world.proofs.Everywhere.{each-pushed}
use Rattle.lr_world.proofs.RunLemmas.{first_replicas-more}
use Rattle.lr_base.specs.Replicas.{IsReplica}
use Rattle.lr_world.proofs.run.make_replicas.Goals as goal

pub loop-me-preserved : goal.loop-me-preserved
loop-me-preserved g c = record {
  each = grind (arith, common_steps);
  all = each-pushed c.loop-me.replicas.items c.push.new.self.items _ (IsReplica c.args.config) c.in_ok-push.ensures.items c.loop-me.invariant.all
      (record {
        setting = ap (λ r. r.config) c.in_ok-new.ensures;
        number = ap (λ r. r.me) c.in_ok-new.ensures ∙ sym c.loop-me.invariant.each ∙ c.loop-me.replicas.ok.0;
      });
  first = c.in_ok-push.ensures.items ∙ (λ k. c.loop-me.invariant.first k ++ c.in_ok-new.ensures k ∷ []) ∙ first_replicas-more g.S.Service.meaning c.args.config c.loop-me.me;
}
