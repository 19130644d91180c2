use Rattle.std.proofs.Common.{◌≡◌, ◌++◌, flat_map, take}
use Rattle.byteorder.specs.Endian.{big_bytes}
use Rattle.lr_codec.proofs.writing.put_stamp.Given as goal

-- the parts so far stand behind what was there
abbrev pub invariant-loop-part : goal.invariant-loop-part
invariant-loop-part l = l.out ≡ l.initial.out ++ flat_map (big_bytes 8) (take l.part-index l.fn.stamp)
