use Rattle.std.proofs.Common.{◌≡◌, ◌∙◌, ap, length, sym}
use Rattle.std.proofs.lemmas.Option.{none-some}
use Rattle.lr_value.specs.Applied.{Memory}
use Rattle.lr_value.proofs.value.Value.put.Goals as goal

pub invariant_of-self : goal.invariant_of-self
invariant_of-self g c = (
  λ x none. absurd (none-some x none),
  λ x is.
      let same : x ≡ c.args.memory = cc in
      ap (λ (m : Memory). length m.seen) same ∙ c.requires.parts ∙ sym (ap length c.replace-2.ensures.after),
)
