use Rattle.std.proofs.Common.{◌≡◌, ◌+◌, ◌-◌, length}
use Rattle.lr_log.specs.Rows.{AreRows, together}
use Rattle.lr_log.proofs.placed.make_row.Given as goal

-- empty rows change no items
abbrev pub invariant-loop-alloc : goal.invariant-loop-alloc
invariant-loop-alloc g l = record {
  rows : AreRows g.T.AtSpot.spot_of 0 l.rows.items;
  same : together l.rows.items ≡ together l.initial.rows.items;
}

abbrev pub decreases-loop-alloc : goal.decreases-loop-alloc
decreases-loop-alloc g l = l.place + 1 - length l.rows.items
