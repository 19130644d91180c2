use Rattle.std.proofs.Common.{◌≡◌, ◌∙◌, length, refl}
use Rattle.lr_base.proofs.Bounded.{bounded-join}
use Rattle.lr_base.proofs.Order.{refill-whole}
use Rattle.lr_base.specs.StampLaws.{length-join}
use Rattle.lr_base.specs.Stamps.{join}
use Rattle.lr_base.proofs.stamp.Stamp.join.Goals as goal

pub invariant_of-self : goal.invariant_of-self
invariant_of-self c =
    let own = c.self.inside.parts.items in
    let other = c.other.inside.parts.items in
    let long : length own ≡ length other = rw (c.self.view_is, c.other.view_is) c.requires in
    let joined : c.raise.new.own ≡ join own other = rw (c.raise.ensures, c.as_mut_slice.ensures.value, c.as_slice.ensures.value) refl in
    let count : length c.raise.new.own ≡ length own = rw (joined, length-join own other long) refl in
    bounded-join own other _ (refill-whole (length own) own c.raise.new.own refl count ∙ joined) long c.self.invariant c.other.invariant
