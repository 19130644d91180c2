use Rattle.std.proofs.Common.{◌≡◌, ap, rules, subst, sym}
use Rattle.std.specs.Prelude.{filter, not}
use Rattle.std.proofs.lemmas.Fn.{filter_same}
use Rattle.lr_base.specs.Stamps.{stamp_le}
use Rattle.lr_causal.specs.Causal.{NoneApplied}
use Rattle.lr_causal.specs.State.{state_of}
use Rattle.lr_causal.proofs.Waiting.{NoneApplied-all, NoneApplied-stay}
use Rattle.lr_causal.proofs.causal.Causal.drop_answered.Goals as goal

pub returns-clause-state : goal.returns-clause-state
returns-clause-state g c =
    let kept : c.retain.new.self.items ≡ filter (λ call. not (stamp_le call.prev c.args.self.now.value.val_ts)) c.args.self.now.held.items =
    filter_same _ (λ call. not (stamp_le call.prev c.args.self.now.value.val_ts)) _ (λ x b f' t. search rules) _ _ c.retain.ensures.filtered in
    ap (λ held. record (state_of c.args.self.now) { held = held }) kept

pub returns-then-self-clause-state : goal.returns-then-self-clause-state
returns-then-self-clause-state g c =
    let it = c.args.self.now in
    ap (λ held. record (state_of it) { held = held })
    (sym (NoneApplied-all it.value.val_ts it.held.items (it.waits c.if-self.true)))

pub invariant_of-self-clause-waits : goal.invariant_of-self-clause-waits
invariant_of-self-clause-waits g c known =
    let it = c.args.self.now in
    let kept : c.retain.new.self.items ≡ filter (λ call. not (stamp_le call.prev it.value.val_ts)) it.held.items =
    filter_same _ (λ call. not (stamp_le call.prev it.value.val_ts)) _ (λ x b f' t. search rules) _ _ c.retain.ensures.filtered in
    subst (λ held. NoneApplied it.value.val_ts held) (sym kept) (NoneApplied-stay it.value.val_ts it.held.items)
