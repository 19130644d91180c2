use Rattle.std.proofs.Common.{◌≡◌, ◌++◌, map, take}
use Rattle.lr_log.proofs.row.Row.list_spots.Given as goal

-- as many spots are listed as turns were made
abbrev pub invariant-loop-item : goal.invariant-loop-item
invariant-loop-item g l = l.spots ≡ l.initial.spots ++ map g.T.AtSpot.spot_of (take l.item-index l.item-items)
