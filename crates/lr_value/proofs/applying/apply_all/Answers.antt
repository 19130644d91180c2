use Rattle.std.proofs.Common.{◌≡◌, ◌∙◌, length, inl, sym, refl}
use Rattle.std.specs.Prelude.{remove}
use Rattle.lr_value.specs.Applied.{progress_at}
use Rattle.lr_value.specs.Waiting.{behind}
use Rattle.lr_value.proofs.Ended.{blocked-idle, one-covers-at, one-grows-at}
use Rattle.lr_value.proofs.Facts.{AllFit-logged, AllLogged-remove}
use Rattle.lr_value.proofs.Held.{if-both, if-ok}
use Rattle.lr_value.proofs.Left.{left-all, left-but}
use Rattle.lr_value.proofs.Members.{fits-among, same-members}
use Rattle.lr_value.proofs.Ready.{apply_ready-step}
use Rattle.lr_value.proofs.Tables.{goes_further, stays}
use Rattle.lr_value.proofs.Taking.{held-others, table-next, takes, takes-none}
use Rattle.lr_value.proofs.applying.apply_all.Goals as goal

pub of-requires-clause-fit : goal.of-requires-clause-fit
of-requires-clause-fit g c =
    AllFit-logged g.S.Op.Operation.kind_of _ _ (behind c.args.waiting.items) _ refl refl c.requires.0

pub loop-update-init : goal.loop-update-init
loop-update-init g c = record {
  left = behind c.args.waiting.items;
  table = c.in_ok-table.ensures.table;
  whole = c.in_ok-table.ensures.whole;
  same = refl;
  leads = λ from e. e;
  of_left = left-all c.args.draft.now.val_ts (behind c.args.waiting.items);
  goes_on = stays (progress_at c.args.draft.now.value c.args.draft.now.val_ts (g.E.Executed.known c.args.calls.now));
  kept = refl;
  logged = c.requires.0;
}

pub execute-requires : goal.execute-requires
execute-requires g c =
    let old = c.loop-update.invariant in
    let whole = rw c.in-Some.ensures.some at old.whole in
    let table = rw c.in-Some.ensures.some at old.table in
    let taken = takes c.loop-update.draft.val_ts old.left c.in-Some.update c.take_first.new.self.ready.items
    c.loop-update.table.blocked.items table whole in
    rw old.goes_on.parts (old.logged taken.0 c.in-Some.update.now taken.1)

pub wake-requires-clause-table : goal.wake-requires-clause-table
wake-requires-clause-table g c =
    let old = c.loop-update.invariant in
    let next = progress_at c.execute.new.draft.value c.execute.new.draft.val_ts
    (g.E.Executed.known c.execute.new.calls) in
    let whole = rw c.in-Some.ensures.some at old.whole in
    let table = rw c.in-Some.ensures.some at old.table in
    rw c.take_first.ensures.blocked (
      _,
      table-next c.loop-update.draft.val_ts old.left c.in-Some.update c.take_first.new.self.ready.items
          c.loop-update.table.blocked.items table whole g.S.Service.meaning c.loop-update.draft.value
          (g.E.Executed.known c.loop-update.calls) next c.in_ok-execute.ensures.ok c.in_ok-execute.ensures.goes_on.parts,
    )

pub wake-requires-clause-within : goal.wake-requires-clause-within
wake-requires-clause-within g c =
    let table = rw c.in-Some.ensures.some at c.loop-update.invariant.table in
    let update = c.in-Some.update in
    rw c.in_ok-execute.ensures.goes_on.parts (fits-among _ c.loop-update.invariant.left table.fit update.now
    (table.held update.now (inl (update, inl refl, refl)))).place

pub loop-update-preserved : goal.loop-update-preserved
loop-update-preserved g c =
    let m = g.S.Service.meaning in
    let old = c.loop-update.invariant in
    let first = progress_at c.args.draft.now.value c.args.draft.now.val_ts (g.E.Executed.known c.args.calls.now) in
    let p = progress_at c.loop-update.draft.value c.loop-update.draft.val_ts (g.E.Executed.known c.loop-update.calls) in
    let next = progress_at c.execute.new.draft.value c.execute.new.draft.val_ts
    (g.E.Executed.known c.execute.new.calls) in
    let update = c.in-Some.update in
    let rest = c.take_first.new.self.ready.items in
    let blocked = c.loop-update.table.blocked.items in
    let whole = rw c.in-Some.ensures.some at old.whole in
    let table = rw c.in-Some.ensures.some at old.table in
    let val_ts = c.loop-update.draft.val_ts in
    let taken = takes val_ts old.left update rest blocked table whole in
    let woken = rw c.take_first.ensures.blocked at c.in_ok-wake.ensures.held in
    record {
      left = remove old.left taken.0;
      table = c.in_ok-wake.ensures.table _ (rw c.take_first.ensures.blocked
          (table-next val_ts old.left update rest blocked table whole m c.loop-update.draft.value
          (g.E.Executed.known c.loop-update.calls) next c.in_ok-execute.ensures.ok
          c.in_ok-execute.ensures.goes_on.parts));
      whole = λ u among. (woken u).1 ((held-others val_ts old.left update rest blocked table whole u).1 among);
      same = rw c.in_ok-execute.ensures.ok
          (sym (apply_ready-step m old.left taken.0 update.now p taken.1 taken.2) ∙ old.same);
      leads = λ from e. c.in_ok-execute.ensures.since from (old.leads from e);
      of_left = left-but c.loop-update.draft.val_ts c.execute.new.draft.val_ts (behind c.args.waiting.items) old.left
          (remove old.left taken.0) taken.0 update.now taken.1 refl
          (one-grows-at m p next update.now c.in_ok-execute.ensures.ok)
          (one-covers-at m p next update.now c.in_ok-execute.ensures.ok) old.of_left;
      goes_on = goes_further first p next old.goes_on c.in_ok-execute.ensures.goes_on;
      kept = c.in_ok-execute.ensures.kept ∙ old.kept;
      logged = AllLogged-remove g.S.Op.Operation.kind_of _ old.left taken.0 old.logged;
    }

pub returns-in_err-wake-clause-goes_on : goal.returns-in_err-wake-clause-goes_on
returns-in_err-wake-clause-goes_on g c =
    goes_further
    (progress_at c.args.draft.now.value c.args.draft.now.val_ts (g.E.Executed.known c.args.calls.now))
    (progress_at c.loop-update.draft.value c.loop-update.draft.val_ts (g.E.Executed.known c.loop-update.calls))
    (progress_at c.execute.new.draft.value c.execute.new.draft.val_ts (g.E.Executed.known c.execute.new.calls))
    c.loop-update.invariant.goes_on c.in_ok-execute.ensures.goes_on

pub returns-clause-ok : goal.returns-clause-ok
returns-clause-ok g c =
    let m = g.S.Service.meaning in
    let old = c.loop-update.invariant in
    let now = progress_at c.loop-update.draft.value c.loop-update.draft.val_ts
    (g.E.Executed.known c.loop-update.calls) in
    let none = takes-none c.loop-update.draft.val_ts old.left c.loop-update.table.ready.items
    c.loop-update.table.blocked.items (c.in_default.ensures.none refl) old.table old.whole in
    if-ok c.rest.result _ (λ x. sym (blocked-idle m (length old.left) old.left now none) ∙ old.same)

pub returns-clause-left : goal.returns-clause-left
returns-clause-left g c =
    let old = c.loop-update.invariant in
    if-both c.rest.result _ _ _ (λ rest order held.
    let same : old.left ≡ behind rest.items =
    same-members old.left (behind rest.items) old.table.order order (λ u. (
      λ among. (held u).1 (old.whole u among),
      λ among. old.table.held u ((held u).0 among),
    )) in
    rw (← same) old.of_left) c.rest.ensures.in_order (rw (c.in_default.ensures.unchanged refl) at c.rest.ensures.held)

pub returns-in_err-execute-clause-goes_on : goal.returns-in_err-execute-clause-goes_on
returns-in_err-execute-clause-goes_on g c =
    goes_further
    (progress_at c.args.draft.now.value c.args.draft.now.val_ts (g.E.Executed.known c.args.calls.now))
    (progress_at c.loop-update.draft.value c.loop-update.draft.val_ts (g.E.Executed.known c.loop-update.calls))
    (progress_at c.execute.new.draft.value c.execute.new.draft.val_ts (g.E.Executed.known c.execute.new.calls))
    c.loop-update.invariant.goes_on c.in_err-execute.ensures.goes_on
