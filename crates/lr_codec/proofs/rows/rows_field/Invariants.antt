use Rattle.std.proofs.Common.{◌≡◌, ◌-◌}
use Rattle.std.specs.Prelude.{None}
use Rattle.lr_base.specs.Bytes.{times}
use Rattle.lr_base.specs.Lasts.{last_of}
use Rattle.lr_base.specs.RowLaws.{joined}
use Rattle.lr_codec.proofs.rows.rows_field.Given as goal

-- the elements so far, and what is left of the bytes
abbrev pub invariant-loop : goal.invariant-loop
invariant-loop g l =
    joined l.rows (times (λ last. (g.R.ReadRow.format l.reader last).field)
    (l.count - l.counter) (last_of l.rows) l.rest)
    ≡ times (λ last. (g.R.ReadRow.format l.reader last).field) l.count None l.bytes
