use Rattle.std.proofs.Common.{◌≡◌, map, take}
use Rattle.lr_graph.specs.Told.{acceptance_of, set_of}
use Rattle.lr_graph.proofs.Told.ToldLists.{ready_of_some}
use Rattle.lr_graph.proofs.facts.causes.ready_spots.Given as goal

-- the ready ones so far are in the set
abbrev pub invariant-loop-update : goal.invariant-loop-update
invariant-loop-update g l = set_of l.spots ≡ ready_of_some (map acceptance_of l.accepted) (map acceptance_of (take l.update-index l.accepted)) (set_of l.received)
