use Rattle.std.proofs.Common.{◌≡◌, ◌-◌, length}
use Rattle.std.specs.Prelude.{None}
use Rattle.lr_base.specs.Bytes.{times}
use Rattle.lr_base.specs.Lasts.{last_of}
use Rattle.lr_base.specs.RowLaws.{joined}
use Rattle.lr_codec.specs.Parts.{part_format}
use Rattle.lr_codec.proofs.parts.stamp_field.Given as goal

-- the parts so far, and what is left of the bytes
abbrev pub invariant-loop : goal.invariant-loop
invariant-loop l = record {
  reads : joined l.stamp (times (λ last. part_format.field) (l.parts - l.counter) (last_of l.stamp) l.rest)
      ≡ times (λ last. part_format.field) l.parts None l.bytes;
  count : length l.stamp ≡ l.counter;
}
