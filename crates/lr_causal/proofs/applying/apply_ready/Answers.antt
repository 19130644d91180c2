use Rattle.std.proofs.Common.{◌∙◌, length}
use Rattle.lr_calls.specs.Tables.{without}
use Rattle.lr_causal.proofs.Entered.{kept-is, kept-undone}
use Rattle.lr_causal.proofs.applying.apply_ready.Goals as goal

pub returns-in-Ok-clause-undo : goal.returns-in-Ok-clause-undo
returns-in-Ok-clause-undo g c =
    let first = c.new-entering.result in
    let last = c.apply_ready.new.calls in
    let noted = c.new-entering.ensures.entered ∙ (λ i. (c.replace-noted.ensures.value i).items) in
    let count = c.new-entering.ensures.before ∙ (λ i. length (c.replace-noted.ensures.value i).items) in
    let table = c.new-entering.ensures.table ∙ c.replace-table.ensures.value in
    let kept = kept-is last.before first.before last.entered.items c.args.entered.now.items first.entered.items last.table
    c.args.calls.now first.table noted count table c.in-Ok.ensures.stays.2 in
    (λ i. without (c.end.ensures.entered i) (c.end.ensures.table i))
    ∙ kept-undone last.before last.entered.items c.args.entered.now.items last.table c.args.calls.now kept.0 kept.1

pub returns-in-Err-clause-err : goal.returns-in-Err-clause-err
returns-in-Err-clause-err g c =
    let first = c.new-entering.result in
    let last = c.apply_ready.new.calls in
    let noted = c.new-entering.ensures.entered ∙ (λ i. (c.replace-noted.ensures.value i).items) in
    let count = c.new-entering.ensures.before ∙ (λ i. length (c.replace-noted.ensures.value i).items) in
    let table = c.new-entering.ensures.table ∙ c.replace-table.ensures.value in
    let kept = kept-is last.before first.before last.entered.items c.args.entered.now.items first.entered.items last.table
    c.args.calls.now first.table noted count table c.in-Err.ensures.stays.2 in (
      (c.in-Err.ensures.stays.0).0,
      c.end-in-Err.ensures.table ∙ c.undo.ensures.table ∙ kept.1,
      c.end-in-Err.ensures.entered ∙ c.undo.ensures.entered ∙ kept.0,
    )

pub returns-in-Err-clause-undo : goal.returns-in-Err-clause-undo
returns-in-Err-clause-undo g c =
    let stays = returns-in-Err-clause-err g c in λ i. without (stays.2 i) (stays.1 i)
