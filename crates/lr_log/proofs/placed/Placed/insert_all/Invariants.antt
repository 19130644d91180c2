use Rattle.std.proofs.Common.{◌≡◌, map, take}
use Rattle.lr_log.specs.Rows.{insert_items}
use Rattle.lr_log.proofs.placed.Placed.insert_all.Given as goal

-- the items so far are put in
abbrev pub invariant-loop-at : goal.invariant-loop-at
invariant-loop-at g l = l.self ≡ insert_items g.T.AtSpot.spot_of (take l.at (map g.R.Lends.lent l.items)) l.initial.self
