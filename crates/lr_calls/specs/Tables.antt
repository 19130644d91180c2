-- Calls that are taken out of a table of executed calls.
use Rattle.std.specs.Prelude.{Bool, List, filter, not}
use Rattle.std.specs.List.{list_any}
use Rattle.lr_base.specs.Ascending.{same_cid}
use Rattle.lr_base.specs.declared.messages.Known.{Known}
use Rattle.lr_base.specs.declared.names.Cid.{Cid}

-- whether a call is among these
-- for example: `0.1` among `0.1`, `1.1`
abbrev pub is_named : List Cid → Cid → Bool
is_named cids cid = list_any (same_cid cid) cids

-- the table without these calls
-- for example: without `0.1` the table `0.1`, `0.2` is `0.2`
abbrev pub without : List Cid → List (Cid × Known) → List (Cid × Known)
without cids calls = filter (λ e. not (is_named cids e.0)) calls
