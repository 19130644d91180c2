use Rattle.std.proofs.Common.{◌≡◌, map, take}
use Rattle.lr_log.specs.Rows.{together}
use Rattle.lr_log.proofs.placed.Placed.spots.Given as goal

-- the spots of the rows so far are listed
abbrev pub invariant-loop-row : goal.invariant-loop-row
invariant-loop-row g l = l.spots ≡ map g.T.AtSpot.spot_of (together (take l.row-index l.row-items))
