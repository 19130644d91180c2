use Rattle.std.proofs.Common.{◌≡◌, ◌<◌, ◌≤◌, ◌+◌, ◌∙◌, ap, length, refl, rules, subst, sym, arith, lt-ltb}
use Rattle.lr_base.specs.Kinds.{IsUpdate}
use Rattle.lr_base.specs.Limits.{last_number}
use Rattle.lr_base.specs.Stamps.{part, set_part}
use Rattle.lr_causal.specs.Causal.{HasSeen}
use Rattle.lr_log.specs.Items.{Items}
use Rattle.lr_log.specs.Tables.{Told}
use Rattle.lr_causal.specs.State.{replica_of}
use Rattle.lr_causal.proofs.Facts.{AllLogged-more, AllLogged-same}
use Rattle.lr_causal.proofs.Points.{point-logged}
use Rattle.lr_causal.proofs.Received.{AllAcksReceived-along, AllAcksReceived-next, AllReceived-along, AllReceived-next}
use Rattle.lr_causal.proofs.Received.{set_part-above}
use Rattle.lr_causal.proofs.Remembering.{HasSeen-later, Remembers-along, Remembers-more}
use Rattle.lr_log.specs.ItemLaws.{IsFree-next}
use Rattle.lr_causal.proofs.causal.Causal.accept.Goals as goal

pub invariant_of-self-2-clause-logged : goal.invariant_of-self-2-clause-logged
invariant_of-self-2-clause-logged g c =
    let prev : length c.join.new.self ≡ c.args.self.now.config.replicas + 1 = c.join.ensures.parts ∙ ap length c.copy-prev.ensures ∙ c.requires.call.label in
    let own : c.args.self.now.me < c.args.self.now.config.replicas = c.args.self.now.own_place in
    let place : c.args.self.now.me < c.args.self.now.config.replicas + 1 = omega arith in
    let update : IsUpdate (g.S.Op.Operation.kind_of c.in_ok-copy.field-0) = rw c.in_ok-copy.ensures c.requires.call.update in
    let own_is : c.copy-own.result ≡ c.args.self.now.table.own = c.copy-own.ensures ∙ c.own.ensures.own in
    let is : c.part-number.result ≡ part c.args.self.now.table.own c.args.self.now.me = c.part-number.ensures ∙ ap (λ s. part s c.args.self.now.me) own_is in
    let number : c.part-number.result + 1 ≤ last_number = omega (arith, c.requires.not_worn, is) in
    AllLogged-more g.S.Op.Operation.kind_of _ c.args.self.now.log c.add_update.new.self _ c.in-Ok.ensures.ok
    (record { prev = prev; place = place; number = number; update = update })
    c.args.self.now.logged

pub invariant_of-self-clause-logged : goal.invariant_of-self-clause-logged
invariant_of-self-clause-logged g c = AllLogged-same g.S.Op.Operation.kind_of _ c.args.self.now.log c.add_update.new.self c.in_default.ensures.err c.args.self.now.logged

pub invariant_of-self-2-clause-updates_received : goal.invariant_of-self-2-clause-updates_received
invariant_of-self-2-clause-updates_received g c =
    let it = c.args.self.now in
    let own_is : c.copy-own.result ≡ it.table.own = c.copy-own.ensures ∙ c.own.ensures.own in
    let is : c.part-number.result ≡ part it.table.own it.me = c.part-number.ensures ∙ ap (λ s. part s it.me) own_is in
    let at : c.put_own.new.self.own ≡ set_part it.table.own it.me (c.part-number.result + 1) =
    ap (λ (t : Told). t.own) c.put_own.ensures ∙ c.set_part.ensures.set ∙ ap (λ s. set_part s it.me (c.part-number.result + 1)) own_is in
    AllReceived-next c.args.self.now.table.own c.put_own.new.self.own _ c.args.self.now.log c.add_update.new.self at (omega (arith, is)) c.in-Ok.ensures.ok c.args.self.now.updates_received

pub invariant_of-self-2-clause-acks_received : goal.invariant_of-self-2-clause-acks_received
invariant_of-self-2-clause-acks_received g c =
    let it = c.args.self.now in
    let own_is : c.copy-own.result ≡ it.table.own = c.copy-own.ensures ∙ c.own.ensures.own in
    let is : c.part-number.result ≡ part it.table.own it.me = c.part-number.ensures ∙ ap (λ s. part s it.me) own_is in
    let at : c.put_own.new.self.own ≡ set_part it.table.own it.me (c.part-number.result + 1) =
    ap (λ (t : Told). t.own) c.put_own.ensures ∙ c.set_part.ensures.set ∙ ap (λ s. set_part s it.me (c.part-number.result + 1)) own_is in
    AllAcksReceived-next c.args.self.now.table.own c.put_own.new.self.own _ _ c.args.self.now.log.acks _ at (omega (arith, is)) (ap (λ (log : Items _). log.acks) c.in-Ok.ensures.ok) c.args.self.now.acks_received

pub invariant_of-self-clause-updates_received : goal.invariant_of-self-clause-updates_received
invariant_of-self-clause-updates_received g c = AllReceived-along _ _ c.args.self.now.log.updates c.add_update.new.self.updates refl (ap (λ (log : Items _). log.updates) c.in_default.ensures.err) c.args.self.now.updates_received

pub invariant_of-self-clause-acks_received : goal.invariant_of-self-clause-acks_received
invariant_of-self-clause-acks_received g c = AllAcksReceived-along _ _ c.args.self.now.log.acks c.add_update.new.self.acks refl (ap (λ (log : Items _). log.acks) c.in_default.ensures.err) c.args.self.now.acks_received

pub add_update-requires : goal.add_update-requires
add_update-requires g c =
    let it = c.args.self.now in record {
      free = rw (c.part-number.ensures, c.copy-own.ensures, c.own.ensures.own) (IsFree-next it.table.own it.me it.log it.updates_received it.acks_received);
    }

pub invariant_of-self-2-clause-remembers : goal.invariant_of-self-2-clause-remembers
invariant_of-self-2-clause-remembers g c =
    let it = c.args.self.now in
    let is : c.part-number.result ≡ part it.table.own it.me =
    c.part-number.ensures ∙ ap (λ s. part s it.me) (c.copy-own.ensures ∙ c.own.ensures.own) in
    let next : part it.table.own it.me < c.part-number.result + 1 = omega (arith, is) in
    Remembers-more it.value it.table.own it.seen _ it.log.updates c.add_update.new.self.updates
    (ap (λ (log : Items _). log.updates) c.in-Ok.ensures.ok)
    (lt-ltb (part it.table.own it.me) (c.part-number.result + 1) next) it.remembers

pub invariant_of-self-2-clause-seen : goal.invariant_of-self-2-clause-seen
invariant_of-self-2-clause-seen g c =
    let it = c.args.self.now in
    let number = c.part-number.result + 1 in
    let own_is : c.copy-own.result ≡ it.table.own = c.copy-own.ensures ∙ c.own.ensures.own in
    let is : c.part-number.result ≡ part it.table.own it.me = c.part-number.ensures ∙ ap (λ s. part s it.me) own_is in
    let at : c.put_own.new.self.own ≡ set_part it.table.own it.me number =
    ap (λ (t : Told). t.own) c.put_own.ensures ∙ c.set_part.ensures.set ∙ ap (λ s. set_part s it.me number) own_is in
    subst (λ rep_ts. HasSeen rep_ts it.value.memory) (sym at)
    (HasSeen-later it.table.own (set_part it.table.own it.me number) it.value.memory
    (set_part-above it.table.own it.me number (omega (arith, is))) it.seen)

pub invariant_of-self-clause-remembers : goal.invariant_of-self-clause-remembers
invariant_of-self-clause-remembers g c =
    let it = c.args.self.now in
    Remembers-along it.value it.log.updates _ (ap (λ (log : Items _). log.updates) c.in_default.ensures.err) it.remembers

pub returns-clause-undo : goal.returns-clause-undo
returns-clause-undo g c row = record {
  same = record { setting = refl; number = refl };
  points = λ p before heard point.
      let it = c.args.self.now in
      let own_is : c.copy-own.result ≡ it.table.own = c.copy-own.ensures ∙ c.own.ensures.own in
      let is : c.part-number.result ≡ part it.table.own it.me = c.part-number.ensures ∙ ap (λ s. part s it.me) own_is in
      point-logged p
      (record {
        spot = record { place = it.me; number = c.part-number.result + 1 };
        cid = c.args.call.now.cid;
        prev = c.join.new.self;
        op = c.in_ok-copy.field-0;
      }) (replica_of it) before _ refl (omega (arith, it.own_place, it.rep_parts)) (omega (arith, is))
      (search rules) point;
}
