use Rattle.std.proofs.Common.{◌≡◌, ◌-◌, ◌≤◌, length, take}
use Rattle.std.specs.Io.KnownBytes.{Appends}
use Rattle.lr_outside.proofs.whole.write_whole.Given as goal

-- the bytes before `at` were written, and no write failed
abbrev pub invariant-loop-at : goal.invariant-loop-at
invariant-loop-at g l = record {
  within : l.at ≤ length l.piece;
  written : Appends (g.W.Sink.seen l.initial.out).held (g.W.Sink.seen l.out).held (take l.at l.piece);
  unfailed : (g.W.Sink.seen l.out).faults ≡ (g.W.Sink.seen l.initial.out).faults;
}

abbrev pub decreases-loop-at : goal.decreases-loop-at
decreases-loop-at g l = length l.piece - l.at
