use Rattle.std.proofs.Common.{◌≡◌, ◌++◌, take}
use Rattle.std.specs.Prelude.{codes}
use Rattle.std.specs.List.{flat_map}
use Rattle.lr_report.proofs.names.put_others.Given as goal

-- the elements so far were added, each behind a comma
abbrev pub invariant-loop-other : goal.invariant-loop-other
invariant-loop-other g l = l.out ≡ l.initial.out ++ flat_map (λ other. codes "," ++ g.T.Element.text l.replicas other) (take l.other-index l.others)
