use Rattle.std.proofs.Common.{◌∙◌, ap, List, ℕ}
use Rattle.lr_base.specs.Stamps.{set_part}
use Rattle.lr_tests.proofs.Places.{three-logged, three-received}
use Rattle.lr_tests.proofs.value.received.Goals as goal

pub returns-clause-logged : goal.returns-clause-logged
returns-clause-logged c =
    let it = c.args.updates.now in
    three-logged it.zero.1 it.one.1 it.two.1 it.zero.0 it.one.0 it.two.0 c.as_slice-zero.ensures.sample
    c.as_slice-one.ensures.sample c.as_slice-two.ensures.sample

pub returns-clause-received : goal.returns-clause-received
returns-clause-received c =
    let it = c.args.updates.now in
    three-received it.zero.1 it.one.1 it.two.1 it.zero.0 it.one.0 it.two.0 c.set_part-4.new.self
    (c.set_part-4.ensures.set
    ∙ ap (λ (s : List ℕ). set_part s 3 1000)
    (c.set_part-3.ensures.set
    ∙ ap (λ (s : List ℕ). set_part s 2 1000)
    (c.set_part-2.ensures.set
    ∙ ap (λ (s : List ℕ). set_part s 1 1000)
    (c.set_part.ensures.set ∙ ap (λ (s : List ℕ). set_part s 0 1000) c.zero-received.ensures))))
    c.as_slice-zero.ensures.sample c.as_slice-one.ensures.sample c.as_slice-two.ensures.sample
