use Rattle.std.proofs.Common.{◌≡◌, ◌-◌}
use Rattle.std.specs.Prelude.{None}
use Rattle.std.specs.BTreeMap.{IsOrdered}
use Rattle.std.specs.Cmp.Lexicographic.{slice_cmp}
use Rattle.std.specs.Ordering.{nat_cmp}
use Rattle.lr_base.specs.Bytes.{times}
use Rattle.lr_words.specs.Tables.{entry_field}
use Rattle.lr_base.specs.Lasts.{last_of}
use Rattle.lr_base.specs.RowLaws.{joined}
use Rattle.lr_words.proofs.entries.entries_field.Given as goal

-- the entries so far, and what is left of the bytes
abbrev pub invariant-loop : goal.invariant-loop
invariant-loop g l =
    let one = entry_field g.V.Stored.format in
    record {
      reads : joined l.entries.entries (times one (l.count - l.counter) (last_of l.entries.entries) l.rest) ≡ times one l.count None l.bytes;
      order : IsOrdered (slice_cmp nat_cmp) l.entries;
    }
