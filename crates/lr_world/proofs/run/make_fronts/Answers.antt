use Rattle.std.proofs.Common.{◌≡◌, ◌∙◌, ◌++◌, ◌∷◌, [], length, None, Some, ap, arith, sym}
use Rattle.std.proofs.lemmas.Grind.{common_steps}
use Rattle.std.proofs.lemmas.List.{length-replicate}
use Rattle.lr_world.proofs.Everywhere.{each-pushed}
use Rattle.lr_world.proofs.RunLemmas.{first_fronts-more}
use Rattle.lr_base.specs.Fronts.{FrontState}
use Rattle.lr_world.specs.Posts.{IsFront}
use Rattle.lr_world.proofs.run.make_fronts.Goals as goal

pub loop-client-preserved : goal.loop-client-preserved
loop-client-preserved g c = record {
  each = grind (arith, common_steps);
  all = each-pushed c.loop-client.fronts.items c.push.new.self.items _ (IsFront c.args.config) c.in_ok-push.ensures.items c.loop-client.invariant.all
      (record {
        setting = ap (λ (front : FrontState _). front.replicas) c.new.ensures;
        number = ap (λ (front : FrontState _). front.client) c.new.ensures ∙ sym c.loop-client.invariant.each ∙ c.loop-client.fronts.ok.0;
        parts = ap (λ (front : FrontState _). length front.label) c.new.ensures ∙ length-replicate _ 0;
        open_call = λ call e. let none : None ≡ Some call = sym (ap (λ (front : FrontState _). front.open_call) c.new.ensures) ∙ e in absurd (cc);
        answered = λ cid e. let none : None ≡ Some cid = sym (ap (λ (front : FrontState _). front.answered) c.new.ensures) ∙ e in absurd (cc);
      });
  first = c.in_ok-push.ensures.items ∙ (λ k. c.loop-client.invariant.first k ++ c.new.ensures k ∷ []) ∙ first_fronts-more c.args.config c.loop-client.client;
}
