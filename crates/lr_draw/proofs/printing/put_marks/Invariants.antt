use Rattle.std.proofs.Common.{◌≡◌, ◌++◌, take}
use Rattle.std.specs.List.{flat_map}
use Rattle.lr_draw.specs.Svg.{mark_text}
use Rattle.lr_draw.proofs.printing.put_marks.Given as goal

-- the marks so far were added
abbrev pub invariant-loop-mark : goal.invariant-loop-mark
invariant-loop-mark l = l.out ≡ l.initial.out ++ flat_map (mark_text l.bytes) (take l.mark-index l.marks)
