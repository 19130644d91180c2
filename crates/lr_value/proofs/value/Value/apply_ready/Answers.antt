use Rattle.std.proofs.Common.{◌≡◌, ◌∙◌, false, true≢false, Option, Some, None, length, ap, sym, refl, subst}
use Rattle.std.proofs.Common.{List, ℕ, not}
use Rattle.std.specs.Prelude.{is_some}
use Rattle.std.specs.Borrow.{Bor}
use Rattle.lr_base.specs.declared.messages.LogUpdate.{LogUpdate}
use Rattle.lr_base.specs.Logged.{AllReceived, Fits}
use Rattle.lr_base.specs.Places.{AreInOrder}
use Rattle.lr_base.specs.Rules.{is_covered, take_ready, waiting}
use Rattle.lr_base.specs.StampLaws.{stamp_le-refl}
use Rattle.lr_value.specs.Applied.{Applied, all_ready, progress, progress_at}
use Rattle.lr_value.specs.Executing.{HasApplied}
use Rattle.lr_value.specs.Remembered.{Recalls}
use Rattle.lr_value.specs.Waiting.{AreLeft, behind}
use Rattle.lr_value.proofs.Ended.{blocked-idle, none-ready-at}
use Rattle.lr_value.proofs.Executed.{has-applied}
use Rattle.lr_value.proofs.Facts.{AllFit-logged, AllLogged-along, AllLogged-filter}
use Rattle.lr_value.proofs.Left.{left-all}
use Rattle.lr_value.proofs.Numbered.{index-filter}
use Rattle.lr_value.proofs.Settled.{ready-at, ready-grows, settled-after, waiting-received}
use Rattle.lr_value.proofs.value.Value.apply_ready.Goals as goal

-- where it was tested that there is nothing, there is nothing
none-is : {X : Type 0} (o : Option X) → is_some o ≡ false → o ≡ None
none-is None is = refl
none-is (Some x) is = absurd (true≢false is)

pub returns-then-is_settled-clause-applied : goal.returns-then-is_settled-clause-applied
returns-then-is_settled-clause-applied g c =
    let calls = g.E.Executed.known c.args.calls.now in
    let p = progress c.args.self.now calls in
    has-applied g.S.Service.meaning (g.L.Places.updates c.args.log.now) p p
    (sym (c.is_settled.ensures.idle c.if-is_settled.true calls))

pub gathered-requires-clause-fit : goal.gathered-requires-clause-fit
gathered-requires-clause-fit g c =
    AllFit-logged g.S.Op.Operation.kind_of _ _ (g.L.Places.updates c.args.log.now) _ refl
    (ap (λ (v : Applied _). length v.val_ts) c.self.view_is) c.requires.logged

pub gathered-requires-clause-memory : goal.gathered-requires-clause-memory
gathered-requires-clause-memory g c x is =
    let updates = g.L.Places.updates c.args.log.now in
    let stamp : c.self.inside.val_ts ≡ c.args.self.now.val_ts = ap (λ (v : Applied _). v.val_ts) c.self.view_is in
    let same : c.self.inside.memory ≡ c.args.self.now.memory = ap (λ (v : Applied _). v.memory) c.self.view_is in
    let recalls : Recalls c.args.self.now.val_ts updates x = c.requires.remembered x (sym same ∙ is) in
    record { parts = c.self.invariant.1 x is; recalls = rw stamp recalls }

pub is_one_ready-requires : goal.is_one_ready-requires
is_one_ready-requires g c =
    let updates = g.L.Places.updates c.args.log.now in
    index-filter (Fits (length c.self.inside.val_ts)) (λ u. not (is_covered c.self.inside.val_ts u)) updates
    (behind c.as_slice.result.now) (ap behind c.as_slice.ensures.value ∙ c.in_ok-waiting.ensures.waiting)
    (AllFit-logged g.S.Op.Operation.kind_of _ _ updates _ refl
    (ap (λ (v : Applied _). length v.val_ts) c.self.view_is) c.requires.logged)

pub of-requires-clause-in_order : goal.of-requires-clause-in_order
of-requires-clause-in_order g c =
    subst (λ (l : List (Bor (LogUpdate _))). AreInOrder (λ u. u.spot) (behind l))
    (sym c.as_slice-then-not-is_one_ready.ensures.value) c.in_ok-waiting.ensures.in_order

pub of-requires-clause-received : goal.of-requires-clause-received
of-requires-clause-received g c =
    waiting-received c.self.inside.val_ts c.args.received.now (g.L.Places.updates c.args.log.now) _
    (ap behind c.as_slice-then-not-is_one_ready.ensures.value ∙ c.in_ok-waiting.ensures.waiting) c.requires.all_received

pub returns-then-not-is_one_ready-clause-applied : goal.returns-then-not-is_one_ready-clause-applied
returns-then-not-is_one_ready-clause-applied g c =
    let m = g.S.Service.meaning in
    let updates = g.L.Places.updates c.args.log.now in
    let val_ts = c.self.inside.val_ts in
    let calls = g.E.Executed.known c.args.calls.now in
    let todo : behind c.as_slice.result.now ≡ waiting val_ts updates =
    ap behind c.as_slice.ensures.value ∙ c.in_ok-waiting.ensures.waiting in
    let none : take_ready val_ts (waiting val_ts updates) ≡ None =
    subst (λ (l : List (LogUpdate _)). take_ready val_ts l ≡ None) todo
    (none-is (take_ready val_ts _) (sym c.is_one_ready.ensures ∙ c.if-not-is_one_ready.true)) in
    let p = progress_at c.self.inside.value val_ts calls in
    subst (λ (v : Applied _). HasApplied m updates (progress v calls) p) c.self.view_is
    (has-applied m updates p p (sym (blocked-idle m _ (waiting val_ts updates) p none)))

pub returns-then-not-is_one_ready-clause-settled : goal.returns-then-not-is_one_ready-clause-settled
returns-then-not-is_one_ready-clause-settled g c =
    let m = g.S.Service.meaning in
    let updates = g.L.Places.updates c.args.log.now in
    let val_ts = c.self.inside.val_ts in
    let items = c.in_ok-waiting.waiting.items in
    let todo : behind c.as_slice.result.now ≡ waiting val_ts updates =
    ap behind c.as_slice.ensures.value ∙ c.in_ok-waiting.ensures.waiting in
    let none : take_ready val_ts (waiting val_ts updates) ≡ None =
    subst (λ (l : List (LogUpdate _)). take_ready val_ts l ≡ None) todo
    (none-is (take_ready val_ts _) (sym c.is_one_ready.ensures ∙ c.if-not-is_one_ready.true)) in
    let p = progress (record { value = c.self.inside.value; val_ts = val_ts; memory = c.self.inside.memory })
    (g.E.Executed.known c.args.calls.now) in
    let left : AreLeft val_ts (behind items) (behind c.as_slice-then-not-is_one_ready.result.now) =
    subst (λ (l : List (Bor (LogUpdate _))). AreLeft val_ts (behind items) (behind l))
    (sym c.as_slice-then-not-is_one_ready.ensures.value) (left-all val_ts (behind items)) in
    settled-after val_ts val_ts _ updates (behind items) (behind c.as_slice-then-not-is_one_ready.result.now)
    c.in_ok-memory.memory c.args.received.now c.in_ok-waiting.ensures.waiting (stamp_le-refl val_ts)
    (none-ready-at m updates p p (sym (blocked-idle m _ (waiting val_ts updates) p none))) left
    c.in_ok-memory.ensures.seen c.in_ok-memory.ensures.waits refl refl

pub apply_all-requires : goal.apply_all-requires
apply_all-requires g c =
    let updates = g.L.Places.updates c.args.log.now in (
      AllLogged-along g.S.Op.Operation.kind_of _ _ (waiting c.self.inside.val_ts updates) _
          c.in_ok-waiting.ensures.waiting (ap length c.in_ok-draft.ensures.val_ts)
          (AllLogged-filter g.S.Op.Operation.kind_of _ _ updates c.requires.logged),
      c.in_ok-waiting.ensures.in_order,
    )

pub of-requires-2-clause-in_order : goal.of-requires-2-clause-in_order
of-requires-2-clause-in_order g c =
    subst (λ (l : List (Bor (LogUpdate _))). AreInOrder (λ u. u.spot) (behind l)) (sym c.as_slice-2.ensures.value)
    (c.in_ok-left.ensures.left.in_order c.in_ok-waiting.ensures.in_order)

pub of-requires-2-clause-received : goal.of-requires-2-clause-received
of-requires-2-clause-received g c =
    subst (λ (l : List (Bor (LogUpdate _))). AllReceived c.args.received.now (behind l))
    (sym c.as_slice-2.ensures.value)
    (c.in_ok-left.ensures.left.received c.args.received.now
    (waiting-received c.self.inside.val_ts c.args.received.now (g.L.Places.updates c.args.log.now) _
    c.in_ok-waiting.ensures.waiting c.requires.all_received))

pub returns-clause-applied : goal.returns-clause-applied
returns-clause-applied g c =
    let m = g.S.Service.meaning in
    let updates = g.L.Places.updates c.args.log.now in
    let before = c.args.self.now in
    let after = c.apply_all.new.draft in
    let items = c.in_ok-waiting.waiting.items in
    let calls = g.E.Executed.known c.apply_all.new.calls in
    let p = progress before (g.E.Executed.known c.args.calls.now) in
    let q = progress_at after.value after.val_ts calls in
    let stamp : c.self.inside.val_ts ≡ before.val_ts = ap (λ (v : Applied _). v.val_ts) c.self.view_is in
    let todo : behind items ≡ waiting before.val_ts updates =
    c.in_ok-waiting.ensures.waiting ∙ ap (λ (s : List ℕ). waiting s updates) stamp in
    let is : q ≡ all_ready m updates p =
    ready-at m updates (behind items) before c.in_ok-draft.draft.value c.in_ok-draft.draft.val_ts
    (g.E.Executed.known c.args.calls.now) q todo c.in_ok-draft.ensures.value c.in_ok-draft.ensures.val_ts
    c.in_ok-left.ensures.ok in
    has-applied m updates p (progress c.put.new.self calls)
    (ap (λ (v : Applied _). progress v calls) c.put.ensures.after ∙ is)

pub returns-clause-settled : goal.returns-clause-settled
returns-clause-settled g c =
    let m = g.S.Service.meaning in
    let updates = g.L.Places.updates c.args.log.now in
    let before = c.args.self.now in
    let after = c.apply_all.new.draft in
    let items = c.in_ok-waiting.waiting.items in
    let p = progress before (g.E.Executed.known c.args.calls.now) in
    let q = progress_at after.value after.val_ts (g.E.Executed.known c.apply_all.new.calls) in
    let stamp : c.self.inside.val_ts ≡ before.val_ts = ap (λ (v : Applied _). v.val_ts) c.self.view_is in
    let todo : behind items ≡ waiting before.val_ts updates =
    c.in_ok-waiting.ensures.waiting ∙ ap (λ (s : List ℕ). waiting s updates) stamp in
    let is : q ≡ all_ready m updates p =
    ready-at m updates (behind items) before c.in_ok-draft.draft.value c.in_ok-draft.draft.val_ts
    (g.E.Executed.known c.args.calls.now) q todo c.in_ok-draft.ensures.value c.in_ok-draft.ensures.val_ts
    c.in_ok-left.ensures.ok in
    let left : AreLeft after.val_ts (behind items) (behind c.as_slice-2.result.now) =
    subst (λ (l : List (Bor (LogUpdate _))). AreLeft after.val_ts (behind items) (behind l))
    (sym c.as_slice-2.ensures.value) c.in_ok-left.ensures.left in
    settled-after before.val_ts after.val_ts c.put.new.self updates (behind items) (behind c.as_slice-2.result.now)
    c.in_ok-memory-2.memory c.args.received.now todo (ready-grows m updates p q is) (none-ready-at m updates p q is)
    left
    c.in_ok-memory-2.ensures.seen c.in_ok-memory-2.ensures.waits
    (ap (λ (v : Applied _). v.val_ts) c.put.ensures.after) (ap (λ (v : Applied _). v.memory) c.put.ensures.after)
