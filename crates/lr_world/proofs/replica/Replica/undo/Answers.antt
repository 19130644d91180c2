use Rattle.lr_causal.specs.Savepoint.{IsPointOf}
use Rattle.lr_causal.specs.State.{config_of, replica_of, state_of}
use Rattle.lr_world.proofs.Answering.{AllAsked-restored, IsPointOf-along}
use Rattle.lr_world.proofs.replica.Replica.undo.Goals as goal

pub invariant_of-self : goal.invariant_of-self
invariant_of-self g c =
    let it = c.self.inside.causal in
    let next = c.restore.new.self in
    let before = c.requires.0 in
    let point : IsPointOf c.args.point (replica_of it) before = IsPointOf-along c.args.point (replica_of it) c.args.self.now before c.self.view_is c.requires.1 in
    AllAsked-restored g.S.Op.Operation.kind_of (config_of it) (config_of next) (replica_of it) (state_of next) c.args.point before c.restore.ensures.same.setting point (c.restore.ensures.state before point) c.self.invariant
