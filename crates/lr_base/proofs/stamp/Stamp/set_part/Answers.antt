use Rattle.std.proofs.Common.{◌<◌, ◌∙◌, List, ℕ, length, sym, ap}
use Rattle.lr_base.proofs.Bounded.{bounded-set}
use Rattle.lr_base.proofs.Order.{set_part-within, refill-set}
use Rattle.lr_base.specs.Stamps.{set_part}
use Rattle.lr_base.proofs.stamp.Stamp.set_part.Goals as goal

pub returns-clause-set : goal.returns-clause-set
returns-clause-set c =
    refill-set c.self.inside.parts.items c.deref_mut.result.now c.args.place c.args.number c.deref_mut.ensures.value
    ∙ sym (set_part-within c.self.inside.parts.items c.args.place c.args.number (rw c.self.view_is c.requires.place))
    ∙ ap (λ (a : List ℕ). set_part a c.args.place c.args.number) c.self.view_is

pub invariant_of-self : goal.invariant_of-self
invariant_of-self c =
    let own = c.self.inside.parts.items in
    let within : c.args.place < length own = rw c.self.view_is c.requires.place in
    bounded-set own _ c.args.place c.args.number
    (refill-set own c.deref_mut.result.now c.args.place c.args.number c.deref_mut.ensures.value
    ∙ sym (set_part-within own c.args.place c.args.number within))
    c.self.invariant within c.requires.number
