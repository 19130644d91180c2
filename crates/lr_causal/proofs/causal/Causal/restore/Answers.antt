use Rattle.std.proofs.Common.{ap}
use Rattle.lr_causal.proofs.Facts.{AllLogged-filter}
use Rattle.lr_causal.proofs.Received.{AllAcksReceived-stays, AllReceived-stays}
use Rattle.lr_log.specs.Tables.{Told}
use Rattle.lr_causal.proofs.Entered.{AllKnown-without}
use Rattle.lr_causal.proofs.causal.Causal.restore.Goals as goal

pub invariant_of-self-clause-updates_received : goal.invariant_of-self-clause-updates_received
invariant_of-self-clause-updates_received g c =
    AllReceived-stays c.point.inside.rep_ts c.put_own.new.self.own c.args.self.now.log.updates c.drop_new.new.self.updates (ap (λ (t : Told). t.own) c.put_own.ensures) c.drop_new.ensures.updates

pub invariant_of-self-clause-acks_received : goal.invariant_of-self-clause-acks_received
invariant_of-self-clause-acks_received g c =
    AllAcksReceived-stays c.point.inside.rep_ts c.put_own.new.self.own c.args.self.now.log.acks c.drop_new.new.self.acks (ap (λ (t : Told). t.own) c.put_own.ensures) c.drop_new.ensures.acks

pub invariant_of-self-clause-known : goal.invariant_of-self-clause-known
invariant_of-self-clause-known g c =
    AllKnown-without _ c.as_slice.result.now c.args.self.now.calls c.leave.new.self c.leave.ensures c.args.self.now.known

pub invariant_of-self-clause-logged : goal.invariant_of-self-clause-logged
invariant_of-self-clause-logged g c =
    AllLogged-filter g.S.Op.Operation.kind_of _ _ c.args.self.now.log.updates c.drop_new.new.self.updates c.drop_new.ensures.updates c.args.self.now.logged
