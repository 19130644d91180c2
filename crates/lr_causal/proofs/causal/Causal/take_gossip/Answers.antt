use Rattle.std.proofs.Common.{◌≡◌, ◌∙◌, ap, refl, rules, subst, sym}
use Rattle.lr_base.specs.Rules.{gossip_taken, new_acks, new_updates}
use Rattle.lr_base.specs.StampLaws.{join-least}
use Rattle.lr_base.specs.Stamps.{join}
use Rattle.lr_log.specs.ItemLaws.{CanTake-new, IsOrdered-new}
use Rattle.lr_log.specs.Items.{CanTake, IsOrdered, Items, items_of}
use Rattle.lr_value.specs.Waiting.{behind}
use Rattle.lr_causal.specs.Causal.{HasSeen}
use Rattle.lr_causal.specs.GossipLaws.{IsOrdered-of}
use Rattle.lr_causal.specs.State.{replica_of, state_of}
use Rattle.lr_causal.proofs.Facts.{AllLogged-gained, AllLogged-same}
use Rattle.lr_causal.proofs.Points.{point-same, point-taken}
use Rattle.lr_causal.proofs.Received.{AllAcksReceived-along, AllAcksReceived-gained, AllReceived-along, AllReceived-gained}
use Rattle.lr_causal.proofs.Remembering.{HasSeen-later, Remembers-along, Remembers-gained}
use Rattle.lr_log.specs.Tables.{Told}
use Rattle.lr_causal.proofs.causal.Causal.take_gossip.Goals as goal

pub invariant_of-self-2-clause-logged : goal.invariant_of-self-2-clause-logged
invariant_of-self-2-clause-logged g c =
    let told : behind c.as_slice-3.result.now ≡ new_updates c.args.self.now.table.own c.args.gossip.now.updates =
    ap behind c.as_slice-3.ensures.value ∙ c.in_ok-updates.ensures
    ∙ ap (λ own. new_updates own c.as_slice.result.now) (c.copy-own.ensures ∙ c.own.ensures.own)
    ∙ ap (λ us. new_updates c.args.self.now.table.own us) c.as_slice.ensures in
    AllLogged-gained g.S.Op.Operation.kind_of _ c.args.self.now.table.own c.args.gossip.now.updates _ c.args.self.now.log.updates c.add_all.new.self
    told (ap (λ (log : Items _). log.updates) c.in-Ok.ensures.ok) c.requires.gossip.logged c.args.self.now.logged

pub invariant_of-self-clause-logged : goal.invariant_of-self-clause-logged
invariant_of-self-clause-logged g c = AllLogged-same g.S.Op.Operation.kind_of _ c.args.self.now.log c.add_all.new.self c.in_default.ensures.err c.args.self.now.logged

pub invariant_of-self-2-clause-updates_received : goal.invariant_of-self-2-clause-updates_received
invariant_of-self-2-clause-updates_received g c =
    let told : behind c.as_slice-3.result.now ≡ new_updates c.args.self.now.table.own c.args.gossip.now.updates =
    ap behind c.as_slice-3.ensures.value ∙ c.in_ok-updates.ensures
    ∙ ap (λ own. new_updates own c.as_slice.result.now) (c.copy-own.ensures ∙ c.own.ensures.own)
    ∙ ap (λ us. new_updates c.args.self.now.table.own us) c.as_slice.ensures in
    AllReceived-gained c.args.self.now.table.own c.args.gossip.now.rep_ts c.put_own.new.self.own c.args.gossip.now.updates _ c.args.self.now.log.updates c.add_all.new.self.updates
    (ap (λ (t : Told). t.own) c.put_own.ensures ∙ c.join.ensures.joined
    ∙ ap (λ own. join own c.args.gossip.now.rep_ts) (c.copy-own.ensures ∙ c.own.ensures.own)) told (ap (λ (log : Items _). log.updates) c.in-Ok.ensures.ok) c.requires.gossip.updates_received c.args.self.now.updates_received

pub invariant_of-self-2-clause-acks_received : goal.invariant_of-self-2-clause-acks_received
invariant_of-self-2-clause-acks_received g c =
    AllAcksReceived-gained c.args.self.now.table.own c.args.gossip.now.rep_ts c.put_own.new.self.own c.args.gossip.now.acks c.as_slice-4.result.now c.args.self.now.log.acks c.add_all.new.self.acks
    (ap (λ (t : Told). t.own) c.put_own.ensures ∙ c.join.ensures.joined
    ∙ ap (λ own. join own c.args.gossip.now.rep_ts) (c.copy-own.ensures ∙ c.own.ensures.own)) (c.as_slice-4.ensures.value ∙ c.in_ok-acks.ensures ∙ ap (λ own. new_acks own c.as_slice-2.result.now) (c.copy-own.ensures ∙ c.own.ensures.own) ∙ ap (λ as'. new_acks c.args.self.now.table.own as') c.as_slice-2.ensures) (ap (λ (log : Items _). log.acks) c.in-Ok.ensures.ok)
    c.requires.gossip.acks_received c.args.self.now.acks_received

pub invariant_of-self-clause-updates_received : goal.invariant_of-self-clause-updates_received
invariant_of-self-clause-updates_received g c = AllReceived-along _ _ c.args.self.now.log.updates c.add_all.new.self.updates refl (ap (λ (log : Items _). log.updates) c.in_default.ensures.err) c.args.self.now.updates_received

pub invariant_of-self-clause-acks_received : goal.invariant_of-self-clause-acks_received
invariant_of-self-clause-acks_received g c = AllAcksReceived-along _ _ c.args.self.now.log.acks c.add_all.new.self.acks refl (ap (λ (log : Items _). log.acks) c.in_default.ensures.err) c.args.self.now.acks_received

pub add_all-requires-clause-ordered : goal.add_all-requires-clause-ordered
add_all-requires-clause-ordered g c =
    let it = c.args.self.now in
    let gossip = c.args.gossip.now in
    let told : behind c.as_slice-3.result.now ≡ new_updates c.args.self.now.table.own c.args.gossip.now.updates =
    ap behind c.as_slice-3.ensures.value ∙ c.in_ok-updates.ensures
    ∙ ap (λ own. new_updates own c.as_slice.result.now) (c.copy-own.ensures ∙ c.own.ensures.own)
    ∙ ap (λ us. new_updates c.args.self.now.table.own us) c.as_slice.ensures in
    let told_acks : c.as_slice-4.result.now ≡ new_acks c.args.self.now.table.own c.args.gossip.now.acks =
    c.as_slice-4.ensures.value ∙ c.in_ok-acks.ensures
    ∙ ap (λ own. new_acks own c.as_slice-2.result.now) (c.copy-own.ensures ∙ c.own.ensures.own)
    ∙ ap (λ as'. new_acks c.args.self.now.table.own as') c.as_slice-2.ensures in
    subst (λ us. IsOrdered (items_of us c.as_slice-4.result.now)) (sym told)
    (subst (λ as'. IsOrdered (items_of (new_updates it.table.own gossip.updates) as')) (sym told_acks)
    (IsOrdered-new it.table.own (items_of gossip.updates gossip.acks)
    (IsOrdered-of gossip.updates gossip.acks c.requires.gossip.ordered)))

pub add_all-requires-clause-free : goal.add_all-requires-clause-free
add_all-requires-clause-free g c =
    let it = c.args.self.now in
    let gossip = c.args.gossip.now in
    let told : behind c.as_slice-3.result.now ≡ new_updates c.args.self.now.table.own c.args.gossip.now.updates =
    ap behind c.as_slice-3.ensures.value ∙ c.in_ok-updates.ensures
    ∙ ap (λ own. new_updates own c.as_slice.result.now) (c.copy-own.ensures ∙ c.own.ensures.own)
    ∙ ap (λ us. new_updates c.args.self.now.table.own us) c.as_slice.ensures in
    let told_acks : c.as_slice-4.result.now ≡ new_acks c.args.self.now.table.own c.args.gossip.now.acks =
    c.as_slice-4.ensures.value ∙ c.in_ok-acks.ensures
    ∙ ap (λ own. new_acks own c.as_slice-2.result.now) (c.copy-own.ensures ∙ c.own.ensures.own)
    ∙ ap (λ as'. new_acks c.args.self.now.table.own as') c.as_slice-2.ensures in
    subst (λ us. CanTake it.log (items_of us c.as_slice-4.result.now)) (sym told)
    (subst (λ as'. CanTake it.log (items_of (new_updates it.table.own gossip.updates) as')) (sym told_acks)
    (CanTake-new it.table.own it.log (items_of gossip.updates gossip.acks) it.updates_received it.acks_received))

pub invariant_of-self-2-clause-remembers : goal.invariant_of-self-2-clause-remembers
invariant_of-self-2-clause-remembers g c =
    let it = c.args.self.now in
    let told : behind c.as_slice-3.result.now ≡ new_updates c.args.self.now.table.own c.args.gossip.now.updates =
    ap behind c.as_slice-3.ensures.value ∙ c.in_ok-updates.ensures
    ∙ ap (λ own. new_updates own c.as_slice.result.now) (c.copy-own.ensures ∙ c.own.ensures.own)
    ∙ ap (λ us. new_updates c.args.self.now.table.own us) c.as_slice.ensures in
    Remembers-gained it.value it.table.own it.seen c.args.gossip.now.updates _ it.log.updates c.add_all.new.self.updates told
    (ap (λ (log : Items _). log.updates) c.in-Ok.ensures.ok) it.remembers

pub invariant_of-self-2-clause-seen : goal.invariant_of-self-2-clause-seen
invariant_of-self-2-clause-seen g c =
    let it = c.args.self.now in
    let told = c.args.gossip.now.rep_ts in
    subst (λ rep_ts. HasSeen rep_ts it.value.memory) (sym (ap (λ (t : Told). t.own) c.put_own.ensures ∙ c.join.ensures.joined
    ∙ ap (λ own. join own c.args.gossip.now.rep_ts) (c.copy-own.ensures ∙ c.own.ensures.own)))
    (HasSeen-later it.table.own (join it.table.own told) it.value.memory (join-least it.table.own told).above_first it.seen)

pub invariant_of-self-clause-remembers : goal.invariant_of-self-clause-remembers
invariant_of-self-clause-remembers g c =
    let it = c.args.self.now in
    Remembers-along it.value it.log.updates _ (ap (λ (log : Items _). log.updates) c.in_default.ensures.err) it.remembers

pub returns-clause-undo : goal.returns-clause-undo
returns-clause-undo g c = record {
  same = record { setting = refl; number = refl };
  points = λ p before heard point.
      let it = c.args.self.now in
      point-same p (record (replica_of it) {
        causal = gossip_taken it.me c.args.from (state_of it) c.args.gossip.now;
      }) _ before (search rules)
      (point-taken p c.args.from (replica_of it) before c.args.gossip.now heard
      (c.requires.gossip.rep_parts ∙ sym it.rep_parts) point);
}

pub returns-then-has_heard-clause-count : goal.returns-then-has_heard-clause-count
returns-then-has_heard-clause-count g c = sym (c.if-has_heard.ensures.none_new refl)

pub returns-then-has_heard-clause-ok : goal.returns-then-has_heard-clause-ok
returns-then-has_heard-clause-ok g c = sym (c.if-has_heard.ensures.same refl)

pub invariant_of-self-2-clause-known : goal.invariant_of-self-2-clause-known
invariant_of-self-2-clause-known g c = c.args.self.now.known

pub invariant_of-self-2-clause-waits : goal.invariant_of-self-2-clause-waits
invariant_of-self-2-clause-waits g c = c.args.self.now.waits
