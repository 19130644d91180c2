use Rattle.std.proofs.Common.{◌≡◌, take}
use Rattle.lr_graph.specs.Sets.{◌∪◌}
use Rattle.lr_graph.specs.Told.{set_of}
use Rattle.lr_graph.proofs.facts.spots.add_all.Given as goal

-- the spots so far are in the set
abbrev pub invariant-loop-spot : goal.invariant-loop-spot
invariant-loop-spot l = set_of l.set ≡ set_of l.initial.set ∪ set_of (take l.spot-index l.spot-items)
