use Rattle.std.proofs.Common.{arith}
use Rattle.lr_tests.proofs.Places.{sample-push}
use Rattle.lr_tests.proofs.value.OfPlace.push.Goals as goal

pub invariant_of-self-2 : goal.invariant_of-self-2
invariant_of-self-2 g c =
    sample-push c.self.inside.place c.self.inside.last c.self.inside.items.items c.push.new.self.items c.args.update
    c.in_ok-push.ensures.items c.requires (omega arith) (omega arith) (omega arith) c.self.invariant
