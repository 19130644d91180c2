use Rattle.std.proofs.Common.{◌≡◌, ◌<◌, ◌-◌, ◌≤◌, length}
use Rattle.std.specs.Io.KnownBytes.{Consumes}
use Rattle.lr_outside.proofs.whole.read_up_to.Given as goal

-- the bytes are what was read so far, and no read failed
abbrev pub invariant-loop-bytes : goal.invariant-loop-bytes
invariant-loop-bytes g l = record {
  within : length l.bytes ≤ l.most;
  read : Consumes (g.R.Source.seen l.initial.input).left (g.R.Source.seen l.input).left l.bytes;
  unfailed : (g.R.Source.seen l.input).faults ≡ (g.R.Source.seen l.initial.input).faults;
  room : 0 < length l.buffer.items;
}

abbrev pub decreases-loop-bytes : goal.decreases-loop-bytes
decreases-loop-bytes g l = l.most - length l.bytes
