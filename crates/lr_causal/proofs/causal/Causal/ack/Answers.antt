use Rattle.std.proofs.Common.{◌≡◌, ◌∙◌, ◌+◌, ap, refl, rules, subst, sym, arith}
use Rattle.lr_base.specs.Logged.{AllReceived}
use Rattle.lr_base.specs.Stamps.{part, set_part}
use Rattle.lr_base.specs.declared.messages.LogAck.{LogAck}
use Rattle.lr_causal.specs.Causal.{HasSeen}
use Rattle.lr_causal.specs.State.{replica_of}
use Rattle.lr_log.specs.Items.{Items}
use Rattle.lr_log.specs.Tables.{Told}
use Rattle.lr_log.specs.ItemLaws.{IsFree-next}
use Rattle.lr_causal.proofs.Facts.{AllLogged-along, AllLogged-same}
use Rattle.lr_causal.proofs.Points.{point-noted}
use Rattle.lr_causal.proofs.Received.{AllAcksReceived-along, AllAcksReceived-noted, AllReceived-along, AllReceived-later, set_part-above}
use Rattle.lr_causal.proofs.Remembering.{HasSeen-later, Remembers-along}
use Rattle.lr_causal.proofs.causal.Causal.ack.Goals as goal

pub add_ack-requires : goal.add_ack-requires
add_ack-requires g c =
    let it = c.args.self.now in record {
      free = rw (c.part-number.ensures, c.copy-own.ensures, c.own.ensures.own) (IsFree-next it.table.own it.me it.log it.updates_received it.acks_received);
    }

-- where the acknowledgement is logged, the updates are as they were

pub invariant_of-self-2-clause-logged : goal.invariant_of-self-2-clause-logged
invariant_of-self-2-clause-logged g c =
    AllLogged-along g.S.Op.Operation.kind_of _ _ c.args.self.now.log.updates c.add_ack.new.self.updates
    (ap (λ (log : Items _). log.updates) c.in-Ok.ensures.ok) refl c.args.self.now.logged

pub invariant_of-self-2-clause-updates_received : goal.invariant_of-self-2-clause-updates_received
invariant_of-self-2-clause-updates_received g c =
    let it = c.args.self.now in
    let number = c.part-number.result + 1 in
    let own_is : c.copy-own.result ≡ it.table.own = c.copy-own.ensures ∙ c.own.ensures.own in
    let is : c.part-number.result ≡ part it.table.own it.me = c.part-number.ensures ∙ ap (λ s. part s it.me) own_is in
    let at : c.put_own.new.self.own ≡ set_part it.table.own it.me number =
    ap (λ (t : Told). t.own) c.put_own.ensures ∙ c.set_part.ensures.set ∙ ap (λ s. set_part s it.me number) own_is in
    subst (λ rep_ts. AllReceived rep_ts c.add_ack.new.self.updates) (sym at)
    (AllReceived-later it.table.own (set_part it.table.own it.me number) it.log.updates c.add_ack.new.self.updates
    (set_part-above it.table.own it.me number (omega (arith, is)))
    (ap (λ (log : Items _). log.updates) c.in-Ok.ensures.ok) it.updates_received)

pub invariant_of-self-2-clause-acks_received : goal.invariant_of-self-2-clause-acks_received
invariant_of-self-2-clause-acks_received g c =
    let it = c.args.self.now in
    let ack : LogAck = record { spot = record { place = it.me; number = c.part-number.result + 1 }; cid = c.args.cid; time = c.args.time } in
    let own_is : c.copy-own.result ≡ it.table.own = c.copy-own.ensures ∙ c.own.ensures.own in
    let is : c.part-number.result ≡ part it.table.own it.me = c.part-number.ensures ∙ ap (λ s. part s it.me) own_is in
    let at : c.put_own.new.self.own ≡ set_part it.table.own it.me (c.part-number.result + 1) =
    ap (λ (t : Told). t.own) c.put_own.ensures ∙ c.set_part.ensures.set
    ∙ ap (λ s. set_part s it.me (c.part-number.result + 1)) own_is in
    AllAcksReceived-noted it.table.own c.put_own.new.self.own ack it.log.acks c.add_ack.new.self.acks at
    (omega (arith, is)) (ap (λ (log : Items _). log.acks) c.in-Ok.ensures.ok) it.acks_received

pub invariant_of-self-2-clause-remembers : goal.invariant_of-self-2-clause-remembers
invariant_of-self-2-clause-remembers g c =
    let it = c.args.self.now in
    Remembers-along it.value it.log.updates _ (ap (λ (log : Items _). log.updates) c.in-Ok.ensures.ok) it.remembers

pub invariant_of-self-2-clause-seen : goal.invariant_of-self-2-clause-seen
invariant_of-self-2-clause-seen g c =
    let it = c.args.self.now in
    let number = c.part-number.result + 1 in
    let own_is : c.copy-own.result ≡ it.table.own = c.copy-own.ensures ∙ c.own.ensures.own in
    let is : c.part-number.result ≡ part it.table.own it.me = c.part-number.ensures ∙ ap (λ s. part s it.me) own_is in
    let at : c.put_own.new.self.own ≡ set_part it.table.own it.me number =
    ap (λ (t : Told). t.own) c.put_own.ensures ∙ c.set_part.ensures.set ∙ ap (λ s. set_part s it.me number) own_is in
    subst (λ rep_ts. HasSeen rep_ts it.value.memory) (sym at)
    (HasSeen-later it.table.own (set_part it.table.own it.me number) it.value.memory
    (set_part-above it.table.own it.me number (omega (arith, is))) it.seen)

-- where it isn't, the log is as it was

pub invariant_of-self-clause-logged : goal.invariant_of-self-clause-logged
invariant_of-self-clause-logged g c =
    AllLogged-same g.S.Op.Operation.kind_of _ c.args.self.now.log c.add_ack.new.self c.in_default-add_ack.ensures.err c.args.self.now.logged

pub invariant_of-self-clause-updates_received : goal.invariant_of-self-clause-updates_received
invariant_of-self-clause-updates_received g c =
    AllReceived-along _ _ c.args.self.now.log.updates c.add_ack.new.self.updates refl
    (ap (λ (log : Items _). log.updates) c.in_default-add_ack.ensures.err) c.args.self.now.updates_received

pub invariant_of-self-clause-acks_received : goal.invariant_of-self-clause-acks_received
invariant_of-self-clause-acks_received g c =
    AllAcksReceived-along _ _ c.args.self.now.log.acks c.add_ack.new.self.acks refl
    (ap (λ (log : Items _). log.acks) c.in_default-add_ack.ensures.err) c.args.self.now.acks_received

pub invariant_of-self-clause-remembers : goal.invariant_of-self-clause-remembers
invariant_of-self-clause-remembers g c =
    let it = c.args.self.now in
    Remembers-along it.value it.log.updates _ (ap (λ (log : Items _). log.updates) c.in_default-add_ack.ensures.err) it.remembers

pub returns-clause-undo : goal.returns-clause-undo
returns-clause-undo g c row = record {
  same = record { setting = refl; number = refl };
  points = λ p before heard point.
      let it = c.args.self.now in
      let own_is : c.copy-own.result ≡ it.table.own = c.copy-own.ensures ∙ c.own.ensures.own in
      let is : c.part-number.result ≡ part it.table.own it.me = c.part-number.ensures ∙ ap (λ s. part s it.me) own_is in
      point-noted p
      (record { spot = record { place = it.me; number = c.part-number.result + 1 }; cid = c.args.cid; time = c.args.time })
      (replica_of it) before _ refl (omega (arith, it.own_place, it.rep_parts)) (omega (arith, is)) (search rules) point;
}
