use Rattle.std.proofs.Common.{◌≡◌, ◌++◌, take}
use Rattle.std.specs.List.{flat_map}
use Rattle.lr_draw.specs.Svg.{arrow_text}
use Rattle.lr_draw.proofs.printing.put_arrows.Given as goal

-- the arrows so far were added
abbrev pub invariant-loop-arrow : goal.invariant-loop-arrow
invariant-loop-arrow l = l.out ≡ l.initial.out ++ flat_map (arrow_text l.bytes l.picture) (take l.arrow-index
    l.picture.arrows)
