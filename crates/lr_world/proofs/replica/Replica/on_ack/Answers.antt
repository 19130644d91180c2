use Rattle.std.proofs.Common.{ap, subst}
use Rattle.lr_causal.specs.Savepoint.{CanUndo}
use Rattle.lr_causal.specs.State.{config_of, replica_of, state_of}
use Rattle.lr_world.proofs.Answering.{AllAsked-along, ack-holds}
use Rattle.lr_world.proofs.replica.Replica.on_ack.Goals as goal

pub invariant_of-self : goal.invariant_of-self
invariant_of-self g c =
    let it = c.self.inside.causal in
    let next = c.ack.new.self in
    AllAsked-along g.S.Op.Operation.kind_of (config_of it) (config_of next) (state_of it).held (state_of next).held
    (c.ack.ensures.undo 0).same.setting (ap (λ s. s.held) c.in_err-spot.ensures.err) c.self.invariant

pub returns-in_err-spot-clause-undo : goal.returns-in_err-spot-clause-undo
returns-in_err-spot-clause-undo g c row = subst (λ r. CanUndo row r (replica_of c.ack.new.self)) c.self.view_is (c.ack.ensures.undo row)

pub invariant_of-self-2 : goal.invariant_of-self-2
invariant_of-self-2 g c =
    let it = c.self.inside.causal in
    let next = c.ack.new.self in
    AllAsked-along g.S.Op.Operation.kind_of (config_of it) (config_of next) (state_of it).held (state_of next).held
    (c.ack.ensures.undo 0).same.setting (ack-holds _ (state_of it) (state_of next) _ _ _ _ _ c.in_ok-spot.ensures.ok.state_is) c.self.invariant

pub returns-clause-undo : goal.returns-clause-undo
returns-clause-undo g c row = subst (λ r. CanUndo row r (replica_of c.ack.new.self)) c.self.view_is (c.ack.ensures.undo row)
