use Rattle.std.proofs.Common.{◌≡◌, ◌+◌, length, vec_len}
use Rattle.std.specs.Prelude.{List}
use Rattle.lr_base.specs.declared.messages.LogUpdate.{LogUpdate}
use Rattle.lr_base.specs.Logged.{AllLogged}
use Rattle.lr_base.specs.Orders.{IsAmong}
use Rattle.lr_base.specs.Rules.{apply_ready}
use Rattle.lr_value.specs.Applied.{GoesOn, progress_at}
use Rattle.lr_value.specs.Executing.{LeadsOn}
use Rattle.lr_value.specs.Table.{IsHeld, IsTable}
use Rattle.lr_value.specs.Waiting.{AreLeft, behind}
use Rattle.lr_value.proofs.applying.apply_all.Given as goal

-- the table is that of what is left, applying which comes to the same as applying all that waited at first
abbrev pub invariant-loop-update : goal.invariant-loop-update
invariant-loop-update g l =
    let m = g.S.Service.meaning in
    let todo = behind l.fn.waiting.items in
    let first = progress_at l.initial.draft.value l.initial.draft.val_ts (g.E.Executed.known l.initial.calls) in
    let now = progress_at l.draft.value l.draft.val_ts (g.E.Executed.known l.calls) in
    record {
      left : List (LogUpdate _);
      table : IsTable l.draft.val_ts left l.table.ready.items l.table.blocked.items;
      whole : (u : _) → IsAmong u left → IsHeld u l.table.ready.items l.table.blocked.items;
      same : apply_ready m (length left) left now ≡ apply_ready m (length todo) todo first;
      leads : LeadsOn m l.initial.draft.since l.initial.draft.value l.draft.since l.draft.value;
      of_left : AreLeft l.draft.val_ts todo left;
      goes_on : GoesOn first now;
      kept : g.E.Executed.kept l.calls ≡ g.E.Executed.kept l.initial.calls;
      logged : AllLogged g.S.Op.Operation.kind_of (length l.initial.draft.val_ts) left;
    }

abbrev pub decreases-loop-update : goal.decreases-loop-update
decreases-loop-update g l = vec_len l.table.ready + vec_len l.table.blocked
