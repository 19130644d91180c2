use Rattle.std.proofs.Common.{◌∙◌, ap, refl}
use Rattle.lr_log.specs.Items.{Items}
use Rattle.lr_log.specs.Tables.{Told}
use Rattle.lr_causal.proofs.Facts.{AllLogged-along}
use Rattle.lr_causal.proofs.Received.{AllAcksReceived-along, AllReceived-along}
use Rattle.lr_causal.proofs.Entered.{AllKnown-along}
use Rattle.lr_causal.proofs.Resting.{IsAtRest-along}
use Rattle.lr_causal.proofs.Waiting.{NoneApplied-along}
use Rattle.lr_causal.proofs.causal.Causal.copy.Goals as goal

pub invariant_of-result-clause-logged : goal.invariant_of-result-clause-logged
invariant_of-result-clause-logged g c =
    AllLogged-along g.S.Op.Operation.kind_of _ _ c.args.self.now.log.updates c.in_ok-log.log.updates (ap (λ (log : Items _). log.updates) c.in_ok-log.ensures) refl c.args.self.now.logged

pub invariant_of-result-clause-known : goal.invariant_of-result-clause-known
invariant_of-result-clause-known g c = AllKnown-along _ c.args.self.now.calls c.in_ok-calls.calls c.in_ok-calls.ensures c.args.self.now.known

pub invariant_of-result-clause-updates_received : goal.invariant_of-result-clause-updates_received
invariant_of-result-clause-updates_received g c =
    AllReceived-along c.args.self.now.table.own _ c.args.self.now.log.updates c.in_ok-log.log.updates (ap (λ (t : Told). t.own) c.copy-4.ensures) (ap (λ (log : Items _). log.updates) c.in_ok-log.ensures) c.args.self.now.updates_received

pub invariant_of-result-clause-acks_received : goal.invariant_of-result-clause-acks_received
invariant_of-result-clause-acks_received g c =
    AllAcksReceived-along c.args.self.now.table.own _ c.args.self.now.log.acks c.in_ok-log.log.acks (ap (λ (t : Told). t.own) c.copy-4.ensures) (ap (λ (log : Items _). log.acks) c.in_ok-log.ensures) c.args.self.now.acks_received

pub invariant_of-result-clause-waits : goal.invariant_of-result-clause-waits
invariant_of-result-clause-waits g c known =
    let it = c.args.self.now in
    NoneApplied-along it.value.val_ts _ it.held.items _ (ap (λ v. v.val_ts) c.in_ok-value.ensures)
    (c.in_ok-held.ensures ∙ c.as_slice.ensures.value) (it.waits known)

pub invariant_of-result-clause-rests : goal.invariant_of-result-clause-rests
invariant_of-result-clause-rests g c known =
    let it = c.args.self.now in
    IsAtRest-along it.config.delta it.clock it.table.rows c.copy-4.result.rows it.log c.in_ok-log.log it.calls
    c.in_ok-calls.calls (ap (λ (t : Told). t.rows) c.copy-4.ensures) c.in_ok-log.ensures c.in_ok-calls.ensures
    (it.rests known)
