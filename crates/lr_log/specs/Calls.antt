-- An index from calls to the spots of their items.
use Rattle.std.specs.Prelude.{◌≡◌, ◌&&◌, ◌||◌, Bool, List, map}
use Rattle.lr_base.specs.Ascending.{cid_before, is_before, same_cid}
use Rattle.lr_base.specs.Insertion.{insert_by, sorted_by}
use Rattle.lr_base.specs.declared.names.Cid.{Cid}
use Rattle.lr_base.specs.declared.names.Spot.{Spot}
use Rattle.lr_log.specs.Rows.{AreRows, together}
use Rattle.lr_log.specs.declared.calls.CallSpot.{CallSpot}

-- whether an entry comes before another: by call, and then by spot
-- for example: `0.1` at `1:1` before `0.2` at `0:1`
abbrev pub entry_before : CallSpot → CallSpot → Bool
entry_before a b = cid_before a.cid b.cid || (same_cid a.cid b.cid && is_before a.spot b.spot)

-- the entries with one more, in their order
abbrev pub insert_entry : CallSpot → List CallSpot → List CallSpot
insert_entry entry entries = insert_by entry_before entry entries

-- an item's entry
-- for example: `0.1` at `0:1`
abbrev pub entry_of : {A : Type 0} → (A → Spot) → (A → Cid) → A → CallSpot
entry_of spot_of cid_of x = record { cid = cid_of x; spot = spot_of x }

-- the items' entries, in the order of calls and then spots
-- for example: `0.1` at `1:1`, then `0.2` at `0:1`
abbrev pub index_of : {A : Type 0} → (A → Spot) → (A → Cid) → List A → List CallSpot
index_of spot_of cid_of items = sorted_by entry_before (map (entry_of spot_of cid_of) items)

-- the rows have the items of the places, in order, and the index has the items' entries
pub record IsPlaced {A : Type 0} (spot_of : A → Spot) (cid_of : A → Cid) (rows : List (List A)) (index : List CallSpot)
    : Type 0 where
  pub placed : AreRows spot_of 0 rows
  pub indexed : index ≡ index_of spot_of cid_of (together rows)
