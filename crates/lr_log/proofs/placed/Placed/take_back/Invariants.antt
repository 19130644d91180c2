use Rattle.std.proofs.Common.{◌≡◌, ◌≤◌, List, length, map, take}
use Rattle.lr_log.specs.Rows.{AreFree, insert_items}
use Rattle.lr_log.proofs.placed.Placed.take_back.Given as goal

-- the last ones are taken out
abbrev pub invariant-loop-count : goal.invariant-loop-count
invariant-loop-count g l = record {
  within : l.count ≤ length l.items;
  left : (first : List g.row.T.Denot) → AreFree g.T.AtSpot.spot_of (map g.R.Lends.lent l.items) first
      → l.initial.self ≡ insert_items g.T.AtSpot.spot_of (take l.initial.count (map g.R.Lends.lent l.items)) first
      → l.self ≡ insert_items g.T.AtSpot.spot_of (take l.count (map g.R.Lends.lent l.items)) first;
}

abbrev pub decreases-loop-count : goal.decreases-loop-count
decreases-loop-count g l = l.count
