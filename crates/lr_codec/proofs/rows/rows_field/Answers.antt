use Rattle.std.proofs.Common.{◌-◌, ◌+◌, arith, ◌∙◌}
use Rattle.lr_base.specs.RowLaws.{joined-more}
use Rattle.lr_codec.proofs.rows.rows_field.Goals as goal

pub loop-preserved : goal.loop-preserved
loop-preserved g c =
    let found = rw c.as_slice.ensures at c.in_ok-row.ensures in
    rw c.in_ok-push.ensures.ok
    (joined-more (λ last. (g.R.ReadRow.format c.args.reader.now last).field) c.loop.rows
    (c.args.count - c.loop.counter) (c.args.count - (c.loop.counter + 1)) c.loop.rest.now c.in_ok-row.row
    c.in_ok-row.end.now (omega arith) found ∙ c.loop.invariant)
