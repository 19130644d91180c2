use Rattle.lr_causal.specs.Savepoint.{IsPointOf}
use Rattle.lr_causal.specs.State.{config_of, replica_of, state_of}
use Rattle.lr_world.proofs.Answering.{AllAsked-restored, IsPointOf-along}
use Rattle.lr_world.proofs.replica.Replica.begin.Goals as goal

pub restore-requires : goal.restore-requires
restore-requires g c =
    let now = c.args.self.now.causal in
    (IsPointOf-along c.make.new.point (replica_of c.self.inside.causal) c.make.new.self now c.self.view_is
    (c.make.ensures.point now c.save-point.ensures.heard c.save-point.ensures.point)).shape

pub invariant_of-self : goal.invariant_of-self
invariant_of-self g c =
    let now = c.args.self.now.causal in
    let it = c.self.inside.causal in
    let next = c.restore.new.self in
    let point : IsPointOf c.make.new.point (replica_of it) now =
    IsPointOf-along c.make.new.point (replica_of it) c.make.new.self now c.self.view_is
    (c.make.ensures.point now c.save-point.ensures.heard c.save-point.ensures.point) in
    AllAsked-restored g.S.Op.Operation.kind_of (config_of it) (config_of next) (replica_of it) (state_of next) c.make.new.point now
    c.restore.ensures.same.setting point (c.restore.ensures.state now point) c.self.invariant

pub returns-clause-point : goal.returns-clause-point
returns-clause-point g c = c.make.ensures.point c.args.self.now.causal c.save-point.ensures.heard c.save-point.ensures.point
