use Rattle.std.proofs.Common.{◌≡◌, ◌∙◌, List, ap, get_or, length, arith}
use Rattle.lr_base.specs.Rules.{is_new}
use Rattle.lr_log.proofs.Floors.{new_for-more}
use Rattle.lr_log.specs.Tables.{Told}
use Rattle.lr_log.proofs.table.Table.floor.Goals as goal

pub loop-row-preserved : goal.loop-row-preserved
loop-row-preserved c = record {
  parts = c.meet.ensures.parts ∙ c.loop-row.invariant.parts;
  floor = λ spot. ap (λ (f : List _). is_new f spot) c.meet.ensures.met
      ∙ new_for-more c.args.self.now.rows c.loop-row.row-index c.row-item.result c.loop-row.floor spot
      (let less = c.loop-row-test.true in let n = ap length rows_are in omega arith)
      (c.row-item.is ∙ ap (λ (rows : List (List _)). get_or rows c.loop-row.row-index c.row-item.result) rows_are)
      (c.loop-row.invariant.floor spot);
}
  where
    rows_are : c.as_slice-row-items.result.now ≡ c.args.self.now.rows
    rows_are = c.as_slice-row-items.ensures.value ∙ ap (λ (it : Told). it.rows) c.self.view_is
