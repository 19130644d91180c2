use Rattle.std.proofs.Common.{◌≡◌, ◌++◌, flat_map, take, true}
use Rattle.std.specs.Prelude.{None}
use Rattle.std.specs.List.{list_all}
use Rattle.lr_codec.proofs.writing_rows.put_rows.Given as goal

-- the elements so far stand behind what was there, and their operations are the service's
abbrev pub invariant-loop-row : goal.invariant-loop-row
invariant-loop-row g l = record {
  put : l.out ≡ l.initial.out ++ flat_map (g.R.ReadRow.format l.writer None).written (take l.row-index l.rows);
  real : list_all (g.R.PutRow.is_own l.writer) (take l.row-index l.rows) ≡ true;
}
