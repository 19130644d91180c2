use Rattle.std.proofs.Common.{◌≡◌, ◌∙◌, ◌+◌, ℕ, List, ap, length, refl, subst, sym, Some}
use Rattle.lr_base.specs.Logged.{AllKnown, AllReceived}
use Rattle.lr_value.specs.Applied.{IsOlderOf, progress}
use Rattle.lr_value.specs.Remembered.{Remembers}
use Rattle.lr_causal.specs.Causal.{HasSeen, NoneApplied}
use Rattle.lr_causal.specs.Savepoint.{Saved, kept_first}
use Rattle.lr_causal.specs.State.{replica_of}
use Rattle.lr_calls.specs.Tables.{without}
use Rattle.lr_causal.proofs.Facts.{AllLogged-along}
use Rattle.lr_causal.proofs.Points.{point-applied}
use Rattle.lr_causal.proofs.Remembering.{HasSeen-looked}
use Rattle.lr_causal.proofs.causal.Causal.apply.Goals as goal

pub apply_ready-requires : goal.apply_ready-requires
apply_ready-requires g c =
    let it = c.args.self.now in record {
      logged = AllLogged-along g.S.Op.Operation.kind_of _ _ it.log.updates _ refl it.val_parts it.logged;
      all_received = subst (λ (s : List ℕ). AllReceived s it.log.updates) (sym c.own.ensures.own) it.updates_received;
      remembered = it.remembers;
      parts = ap length c.own.ensures.own ∙ it.rep_parts ∙ sym it.val_parts;
    }

-- ---- where there is no memory

pub invariant_of-self-clause-val_parts : goal.invariant_of-self-clause-val_parts
invariant_of-self-clause-val_parts g c =
    let it = c.args.self.now in
    subst (λ v. length v.val_ts ≡ it.config.replicas + 1) (sym c.in_default.ensures.err.0) it.val_parts

pub invariant_of-self-clause-known : goal.invariant_of-self-clause-known
invariant_of-self-clause-known g c =
    let it = c.args.self.now in
    subst (λ calls. AllKnown (it.config.replicas + 1) calls) (sym c.in_default.ensures.err.1) it.known

pub invariant_of-self-clause-remembers : goal.invariant_of-self-clause-remembers
invariant_of-self-clause-remembers g c =
    let it = c.args.self.now in subst (λ v. Remembers v it.log.updates) (sym c.in_default.ensures.err.0) it.remembers

pub invariant_of-self-clause-seen : goal.invariant_of-self-clause-seen
invariant_of-self-clause-seen g c =
    let it = c.args.self.now in subst (λ v. HasSeen it.table.own v.memory) (sym c.in_default.ensures.err.0) it.seen

pub invariant_of-self-clause-waits : goal.invariant_of-self-clause-waits
invariant_of-self-clause-waits g c known =
    let it = c.args.self.now in
    subst (λ v. NoneApplied v.val_ts it.held.items) (sym c.in_default.ensures.err.0) (it.waits known)

-- ---- where something is applied

pub invariant_of-self-in-Some-clause-val_parts : goal.invariant_of-self-in-Some-clause-val_parts
invariant_of-self-in-Some-clause-val_parts g c = c.in-Ok.ensures.settled.1.parts ∙ c.args.self.now.val_parts

pub invariant_of-self-in-Some-clause-known : goal.invariant_of-self-in-Some-clause-known
invariant_of-self-in-Some-clause-known g c =
    let it = c.args.self.now in
    subst (λ n. AllKnown n c.apply_ready.new.calls) it.val_parts
    (c.in-Ok.ensures.settled.1.known (subst (λ n. AllKnown n it.calls) (sym it.val_parts) it.known))

pub invariant_of-self-in-Some-clause-remembers : goal.invariant_of-self-in-Some-clause-remembers
invariant_of-self-in-Some-clause-remembers g c = c.in-Ok.ensures.settled.0.remembers

pub invariant_of-self-in-Some-clause-seen : goal.invariant_of-self-in-Some-clause-seen
invariant_of-self-in-Some-clause-seen g c =
    let it = c.args.self.now in
    HasSeen-looked it.table.own c.own.result.now c.apply_ready.new.value.memory c.own.ensures.own c.in-Ok.ensures.settled.0.looked

pub returns-in-Some-clause-point : goal.returns-in-Some-clause-point
returns-in-Some-clause-point g c before point =
    let it = c.args.self.now in
    let lags = subst (IsOlderOf (progress it.value it.calls) (progress c.apply_ready.new.value c.apply_ready.new.calls))
    c.in-Some.is c.in-Ok.ensures.older in
    let keeps = c.keep.ensures
    ∙ ap (λ (p : Saved _). record p {
      entered = c.apply_ready.new.entered.items;
      applied = Some (kept_first p.applied c.in-Some.older);
    }) c.point.view_is in
    let undo = c.in-Ok.ensures.undo ∙ ap (λ (p : Saved _). without p.entered it.calls) c.point.view_is in
    point-applied c.args.point.now c.keep.new.self (replica_of it) before c.in-Some.older c.apply_ready.new.value
    c.apply_ready.new.calls c.apply_ready.new.entered.items keeps lags undo (it.val_parts ∙ sym it.rep_parts) point

-- ---- where nothing is

pub invariant_of-self-in_default-older-clause-val_parts : goal.invariant_of-self-in_default-older-clause-val_parts
invariant_of-self-in_default-older-clause-val_parts g c = c.in-Ok.ensures.settled.1.parts ∙ c.args.self.now.val_parts

pub invariant_of-self-in_default-older-clause-known : goal.invariant_of-self-in_default-older-clause-known
invariant_of-self-in_default-older-clause-known g c =
    let it = c.args.self.now in
    subst (λ n. AllKnown n c.apply_ready.new.calls) it.val_parts
    (c.in-Ok.ensures.settled.1.known (subst (λ n. AllKnown n it.calls) (sym it.val_parts) it.known))

pub invariant_of-self-in_default-older-clause-remembers : goal.invariant_of-self-in_default-older-clause-remembers
invariant_of-self-in_default-older-clause-remembers g c = c.in-Ok.ensures.settled.0.remembers

pub invariant_of-self-in_default-older-clause-seen : goal.invariant_of-self-in_default-older-clause-seen
invariant_of-self-in_default-older-clause-seen g c =
    let it = c.args.self.now in
    HasSeen-looked it.table.own c.own.result.now c.apply_ready.new.value.memory c.own.ensures.own c.in-Ok.ensures.settled.0.looked

pub invariant_of-self-in_default-older-clause-waits : goal.invariant_of-self-in_default-older-clause-waits
invariant_of-self-in_default-older-clause-waits g c known =
    let it = c.args.self.now in
    let same = subst (IsOlderOf (progress it.value it.calls) (progress c.apply_ready.new.value c.apply_ready.new.calls))
    c.in_default-older.is c.in-Ok.ensures.older in
    subst (λ val_ts. NoneApplied val_ts it.held.items) (sym (ap (λ p. p.val_ts) same)) (it.waits known)
