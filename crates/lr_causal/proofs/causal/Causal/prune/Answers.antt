use Rattle.std.proofs.Common.{◌≡◌, ◌∙◌, ◌&&◌, false, not, ap, sym, subst}
use Rattle.std.specs.Prelude.{filter}
use Rattle.lr_base.specs.Logged.{AllAcksReceived, AllReceived}
use Rattle.lr_base.specs.Rules.{is_covered, is_new, is_spent, known_in, logs_ack, logs_update}
use Rattle.lr_base.specs.declared.messages.LogAck.{LogAck}
use Rattle.lr_base.specs.declared.messages.LogUpdate.{LogUpdate}
use Rattle.lr_log.specs.Items.{Items}
use Rattle.lr_value.specs.Remembered.{Recalls, Waits}
use Rattle.lr_causal.proofs.Each.{Each-filter}
use Rattle.lr_causal.proofs.Entered.{AllKnown-filter}
use Rattle.lr_causal.proofs.Facts.{AllLogged-filter}
use Rattle.lr_causal.proofs.Resting.{IsAtRest-pruned}
use Rattle.lr_causal.proofs.causal.Causal.prune.Goals as goal

pub invariant_of-self-clause-logged : goal.invariant_of-self-clause-logged
invariant_of-self-clause-logged g c =
    let it = c.args.self.now in
    AllLogged-filter g.S.Op.Operation.kind_of _ (λ u. not (known_in it.table.rows u.spot)) it.log.updates
    c.drop_acks.new.self.updates
    (ap (λ (log : Items _). log.updates) c.drop_acks.ensures ∙ ap (λ (log : Items _). log.updates) c.retain_unknown.ensures)
    it.logged

pub invariant_of-self-clause-updates_received : goal.invariant_of-self-clause-updates_received
invariant_of-self-clause-updates_received g c =
    let it = c.args.self.now in
    subst (λ updates. AllReceived it.table.own updates)
    (sym (ap (λ (log : Items _). log.updates) c.drop_acks.ensures
    ∙ ap (λ (log : Items _). log.updates) c.retain_unknown.ensures))
    (Each-filter (λ (u : LogUpdate g.row.S-Op.Denot). is_new it.table.own u.spot ≡ false)
    (λ u. not (known_in it.table.rows u.spot)) it.log.updates it.updates_received)

pub invariant_of-self-clause-acks_received : goal.invariant_of-self-clause-acks_received
invariant_of-self-clause-acks_received g c =
    let it = c.args.self.now in
    subst (λ acks. AllAcksReceived it.table.own acks)
    (sym (ap (λ (log : Items _). log.acks) c.drop_acks.ensures
    ∙ ap (λ (log : Items g.row.S-Op.Denot). filter (λ a. not (is_spent it.config.delta it.clock it.table.rows
    c.retain_unknown.new.self.updates a)) log.acks) c.retain_unknown.ensures))
    (Each-filter (λ (a : LogAck). is_new it.table.own a.spot ≡ false)
    (λ a. not (is_spent it.config.delta it.clock it.table.rows c.retain_unknown.new.self.updates a)) it.log.acks
    it.acks_received)

pub invariant_of-self-clause-known : goal.invariant_of-self-clause-known
invariant_of-self-clause-known g c =
    let it = c.args.self.now in
    let log = c.retain_unknown.new.self in
    AllKnown-filter (λ cid. not (logs_ack log.acks cid && not (logs_update log.updates cid))) _ it.calls
    c.forget_done.new.calls c.forget_done.ensures it.known

pub invariant_of-self-clause-remembers : goal.invariant_of-self-clause-remembers
invariant_of-self-clause-remembers g c memory is =
    let it = c.args.self.now in
    subst (λ updates. Recalls it.value.val_ts updates memory)
    (sym (ap (λ (log : Items _). log.updates) c.drop_acks.ensures
    ∙ ap (λ (log : Items _). log.updates) c.retain_unknown.ensures))
    (Each-filter (λ (u : LogUpdate g.row.S-Op.Denot). is_new memory.seen u.spot ≡ false
    → is_covered it.value.val_ts u ≡ false → Waits it.value.val_ts memory.waits u)
    (λ u. not (known_in it.table.rows u.spot)) it.log.updates (it.remembers memory is))

pub invariant_of-self-clause-rests : goal.invariant_of-self-clause-rests
invariant_of-self-clause-rests g c known =
    let it = c.args.self.now in
    IsAtRest-pruned it.config.delta it.clock it.table.rows it.log c.retain_unknown.new.self c.drop_acks.new.self it.calls
    c.forget_done.new.calls c.retain_unknown.ensures c.forget_done.ensures c.drop_acks.ensures
