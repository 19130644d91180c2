use Rattle.std.proofs.Common.{◌≡◌, ◌++◌, flat_map, true}
use Rattle.std.specs.List.{list_all}
use Rattle.lr_words.specs.Tables.{entry_bytes}
use Rattle.lr_words.specs.TableLaws.{is_entry}
use Rattle.lr_words.proofs.entries.put_entries.Given as goal

-- what was put, before what is left
abbrev pub invariant-loop-name : goal.invariant-loop-name
invariant-loop-name g l =
    let format = g.V.Stored.format in
    record {
      put : l.out ++ flat_map (entry_bytes format) l.name-iterator ≡ l.initial.out ++ flat_map (entry_bytes format) l.entries.entries;
      real : list_all (is_entry format) l.name-iterator ≡ true → list_all (is_entry format) l.entries.entries ≡ true;
    }
