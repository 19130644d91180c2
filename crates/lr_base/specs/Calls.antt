-- Tables of executed calls, in the order of their calls. In the examples `0.2` was executed at `1:1`.
use Rattle.std.specs.Prelude.{Bool, List}
use Rattle.lr_base.specs.Ascending.{cid_before, cid_up_to}
use Rattle.lr_base.specs.Insertion.{Ascends, insert_all_by, insert_by, sorted_by}
use Rattle.lr_base.specs.declared.messages.Known.{Known}
use Rattle.lr_base.specs.declared.names.Cid.{Cid}

-- whether an entry's call doesn't come behind another's
-- for example: `0.1` up to `0.2`
abbrev pub up_to_call : Cid × Known → Cid × Known → Bool
up_to_call a b = cid_up_to a.0 b.0

-- the table with one more call, in its place
-- for example: `0.1` goes before `0.2`
abbrev pub enter_call : Cid × Known → List (Cid × Known) → List (Cid × Known)
enter_call entry calls = insert_by up_to_call entry calls

-- the table with these calls too, entered one by one
abbrev pub enter_calls : List (Cid × Known) → List (Cid × Known) → List (Cid × Known)
enter_calls entries calls = insert_all_by up_to_call entries calls

-- the table of these entries, in whatever order they come
-- for example: of `0.2`, `0.1`: `0.1`, `0.2`
abbrev pub by_call : List (Cid × Known) → List (Cid × Known)
by_call entries = sorted_by up_to_call entries

-- each call comes before all behind it, so that a table is a map: it is told by what is known of each call
-- for example: `0.1`, `0.2`
abbrev pub AreByCall : List (Cid × Known) → Type 0
AreByCall calls = Ascends (λ a b. cid_before a.0 b.0) calls
