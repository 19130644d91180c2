use Rattle.std.proofs.Common.{◌≡◌, ◌++◌, take}
use Rattle.std.specs.List.{flat_map}
use Rattle.lr_draw.specs.Escapes.{escaped_byte}
use Rattle.lr_draw.proofs.escapes.put_escaped.Given as goal

-- the bytes so far were added, each or its escape
abbrev pub invariant-loop-byte : goal.invariant-loop-byte
invariant-loop-byte l = l.out ≡ l.initial.out ++ flat_map escaped_byte (take l.byte-index l.text)
