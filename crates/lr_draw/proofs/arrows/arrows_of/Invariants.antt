use Rattle.std.proofs.Common.{◌≡◌, take}
use Rattle.std.specs.List.{flat_map}
use Rattle.lr_draw.specs.Arrows.{arrows_at}
use Rattle.lr_draw.proofs.arrows.arrows_of.Given as goal

-- the arrows are those at the events so far
abbrev pub invariant-loop-event : goal.invariant-loop-event
invariant-loop-event l = l.arrows ≡ flat_map (arrows_at l.range l.messages) (take l.event-index l.events)
