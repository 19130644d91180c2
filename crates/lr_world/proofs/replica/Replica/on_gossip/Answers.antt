use Rattle.std.proofs.Common.{ap}
use Rattle.lr_causal.specs.State.{config_of, state_of}
use Rattle.lr_world.proofs.Answering.{AllAsked-along}
use Rattle.lr_world.proofs.replica.Replica.on_gossip.Goals as goal

pub invariant_of-self : goal.invariant_of-self
invariant_of-self g c =
    let it = c.self.inside.causal in
    let next = c.take_gossip.new.self in
    AllAsked-along g.S.Op.Operation.kind_of (config_of it) (config_of next) (state_of it).held (state_of next).held
    c.take_gossip.ensures.undo.same.setting (ap (λ s. s.held) c.in_err-count.ensures.err) c.self.invariant

pub invariant_of-self-2 : goal.invariant_of-self-2
invariant_of-self-2 g c =
    let it = c.self.inside.causal in
    let next = c.take_gossip.new.self in
    AllAsked-along g.S.Op.Operation.kind_of (config_of it) (config_of next) (state_of it).held (state_of next).held
    c.take_gossip.ensures.undo.same.setting (ap (λ s. s.held) c.in_ok-count.ensures.ok) c.self.invariant
