use Rattle.lr_base.proofs.Bounded.{bounded-push}
use Rattle.lr_base.proofs.stamp.Stamp.push.Goals as goal

pub invariant_of-self : goal.invariant_of-self
invariant_of-self c = bounded-push c.self.inside.parts.items c.push.new.self.items c.args.number c.push.ensures.items c.self.invariant (rw c.self.view_is c.requires.room) c.requires.number
