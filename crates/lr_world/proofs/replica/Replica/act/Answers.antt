use Rattle.std.proofs.Common.{ap, subst}
use Rattle.lr_causal.specs.Savepoint.{CanUndo}
use Rattle.lr_causal.specs.State.{config_of, replica_of, state_of}
use Rattle.lr_world.specs.Parts.{heard_in}
use Rattle.lr_world.proofs.Answering.{AllAsked-along}
use Rattle.lr_world.proofs.replica.Replica.act.Goals as goal

pub invariant_of-self : goal.invariant_of-self
invariant_of-self g c =
    let it = c.self.inside.causal in
    let next = c.tick-reading.new.self in
    AllAsked-along g.S.Op.Operation.kind_of (config_of it) (config_of next) (state_of it).held (state_of next).held
    (c.tick-reading.ensures.undo 0).same.setting (ap (λ s. s.held) c.tick-reading.ensures.state) c.self.invariant

pub returns-in-Read-clause-undo : goal.returns-in-Read-clause-undo
returns-in-Read-clause-undo g c = subst (λ r. CanUndo (heard_in c.args.self.now.me c.args.task) r (replica_of c.tick-reading.new.self)) c.self.view_is (c.tick-reading.ensures.undo (heard_in c.args.self.now.me c.args.task))
