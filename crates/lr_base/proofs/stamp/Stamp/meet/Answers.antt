use Rattle.std.proofs.Common.{◌≡◌, ◌∙◌, length, refl}
use Rattle.lr_base.proofs.Bounded.{bounded-meet}
use Rattle.lr_base.proofs.Order.{refill-whole}
use Rattle.lr_base.specs.StampLaws.{length-meet}
use Rattle.lr_base.specs.Stamps.{meet}
use Rattle.lr_base.proofs.stamp.Stamp.meet.Goals as goal

pub invariant_of-self : goal.invariant_of-self
invariant_of-self c =
    let own = c.self.inside.parts.items in
    let other = c.other.inside.parts.items in
    let long : length own ≡ length other = rw (c.self.view_is, c.other.view_is) c.requires in
    let met : c.lower.new.own ≡ meet own other = rw (c.lower.ensures, c.as_mut_slice.ensures.value, c.as_slice.ensures.value) refl in
    let count : length c.lower.new.own ≡ length own = rw (met, length-meet own other long) refl in
    bounded-meet own other _ (refill-whole (length own) own c.lower.new.own refl count ∙ met) long c.self.invariant
