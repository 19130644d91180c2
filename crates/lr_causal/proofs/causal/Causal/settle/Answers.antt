use Rattle.lr_causal.specs.State.{state_of}
use Rattle.lr_causal.proofs.causal.Causal.settle.Goals as goal

pub close-requires : goal.close-requires
close-requires g c =
    let it = state_of c.args.self.now in (it, c.apply.ensures.point it c.save-point.ensures.point)
