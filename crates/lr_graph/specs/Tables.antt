-- What a table that is kept by number says.
-- How the lists of a program tell facts, for the slow calls below. In the examples `0:1` was accepted and received at
-- `r0`.
use Rattle.std.specs.Prelude.{ℕ, ◌==◌, List, Option}
use Rattle.std.specs.List.{find}
use Rattle.std.specs.Option.{option_map}
use Rattle.lr_graph.specs.declared.facts.entry.Entry.{Entry}

-- the value that a table has for a number, if it has one
abbrev pub entry_at : {T : Type 0} → List (Entry T) → ℕ → Option T
entry_at entries key = option_map (λ e. e.value) (find (λ e. e.key == key) entries)
