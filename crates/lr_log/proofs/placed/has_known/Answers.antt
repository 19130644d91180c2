use Rattle.std.proofs.Common.{◌≡◌, ◌+◌, true, sym, subst, arith}
use Rattle.lr_base.specs.Rules.{is_new}
use Rattle.lr_log.proofs.RowLemmas.{AreRows-at, each-row_all, each-row_more}
use Rattle.lr_log.specs.Rows.{IsRow}
use Rattle.lr_log.proofs.placed.has_known.Goals as goal

pub begins_known-requires : goal.begins_known-requires
begins_known-requires g c = (
  0 + c.loop-row.row-index,
  subst (IsRow g.T.AtSpot.spot_of (0 + c.loop-row.row-index)) (sym c.row-item.is)
      (AreRows-at g.T.AtSpot.spot_of 0 c.loop-row.row-index c.args.rows.now c.row-item.result c.requires (omega arith)),
)

pub loop-row-preserved : goal.loop-row-preserved
loop-row-preserved g c =
    each-row_more (λ x. is_new c.args.floor.now (g.T.AtSpot.spot_of x) ≡ true) c.args.rows.now c.loop-row.row-index
    c.row-item.result (omega arith) c.row-item.is c.loop-row.invariant
    (c.begins_known.ensures c.if-begins_known.false)

pub returns : goal.returns
returns g c e = each-row_all (λ x. is_new c.args.floor.now (g.T.AtSpot.spot_of x) ≡ true) c.args.rows.now
    c.loop-row.row-index (omega arith) c.loop-row.invariant
