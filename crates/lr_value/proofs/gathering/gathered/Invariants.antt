use Rattle.std.proofs.Common.{◌≡◌, ◌<◌}
use Rattle.lr_base.specs.Places.{AreInOrder, up_to_place}
use Rattle.lr_base.specs.Rules.{waiting}
use Rattle.lr_value.specs.Waiting.{behind}
use Rattle.lr_value.proofs.gathering.gathered.Given as goal

-- what waits of the places so far was found, and a log that was asked is in order
abbrev pub invariant-loop-place : goal.invariant-loop-place
invariant-loop-place g l =
    let updates = g.L.Places.updates l.log in
    record {
      found : behind l.found.items ≡ up_to_place (λ u. u.spot) l.place (waiting l.val_ts updates);
      in_order : 0 < l.place → AreInOrder (λ u. u.spot) updates;
    }
