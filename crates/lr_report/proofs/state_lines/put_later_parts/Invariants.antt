use Rattle.std.proofs.Common.{◌≡◌, ◌-◌, ◌++◌, take, drop}
use Rattle.std.specs.Prelude.{codes}
use Rattle.std.specs.Fmt.{decimal}
use Rattle.std.specs.List.{flat_map}
use Rattle.lr_report.proofs.state_lines.put_later_parts.Given as goal

-- the parts so far were added but the first, each behind a dot
abbrev pub invariant-loop-place : goal.invariant-loop-place
invariant-loop-place l = l.out ≡ l.initial.out ++ flat_map (λ number. codes "." ++ decimal number) (take (l.place - 1) (drop 1 l.stamp))
