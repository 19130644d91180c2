use Rattle.std.proofs.Common.{ap}
use Rattle.lr_causal.specs.State.{config_of, replica_of, state_of}
use Rattle.lr_world.proofs.Answering.{AllAsked-along, IsPointOf-along}
use Rattle.lr_world.proofs.replica.Replica.settle.Goals as goal

pub invariant_of-self : goal.invariant_of-self
invariant_of-self g c =
    let it = c.self.inside.causal in
    let next = c.apply.new.self in
    AllAsked-along g.S.Op.Operation.kind_of (config_of it) (config_of next) (state_of it).held (state_of next).held
    c.apply.ensures.same.setting (ap (λ s. s.held) c.in_err-apply.ensures.err) c.self.invariant

pub invariant_of-self-2 : goal.invariant_of-self-2
invariant_of-self-2 g c =
    let it = c.self.inside.causal in
    let next = c.apply.new.self in
    AllAsked-along g.S.Op.Operation.kind_of (config_of it) (config_of next) (state_of it).held (state_of next).held
    c.apply.ensures.same.setting (ap (λ s. s.held) c.in_ok-apply.ensures.ok) c.self.invariant

pub returns-clause-point : goal.returns-clause-point
returns-clause-point g c before is =
    c.apply.ensures.point before (IsPointOf-along c.args.point.now (replica_of c.self.inside.causal) c.args.self.now before c.self.view_is is)
