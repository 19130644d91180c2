use Rattle.std.proofs.Common.{◌∙◌, ◌+◌, ◌%◌, ap}
use Rattle.std.proofs.Math.Nat.{add-mod-mod, mod-add-mod}
use Rattle.lr_front.proofs.front.Front.choice.Goals as goal

pub returns : goal.returns
returns g c =
    let it = c.self.inside in
    mod-add-mod it.client it.replicas (c.args.turn % it.replicas)
    ∙ add-mod-mod it.client c.args.turn it.replicas
    ∙ ap (λ front. (front.client + c.args.turn) % front.replicas) c.self.view_is
