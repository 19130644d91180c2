-- To be believed: calls and spots: when two calls are one, and the order of calls and of spots.
use Rattle.std.specs.Prelude.{◌&&◌, ◌||◌, ◌==◌, Bool, not, nat_lt, List}
use Rattle.lr_base.specs.Insertion.{insert_by, sorted_by}
use Rattle.lr_base.specs.declared.names.Cid.{Cid}
use Rattle.lr_base.specs.declared.names.Spot.{Spot}

-- whether two names are those of one call
-- for example: true of `0.1`, `0.1`; false of `0.1`, `1.1`
abbrev pub same_cid : Cid → Cid → Bool
same_cid a b = (a.client == b.client) && (a.seq == b.seq)

-- whether the first spot comes before the second in the order of places and then numbers
-- for example: `0:2` before `1:1`, `0:1` before `0:2`
abbrev pub is_before : Spot → Spot → Bool
is_before a b = nat_lt a.place b.place || ((a.place == b.place) && nat_lt a.number b.number)

-- whether a call comes before another: by client, and then by number
-- for example: `0.2` before `0.10`, `0.2` before `1.1`
abbrev pub cid_before : Cid → Cid → Bool
cid_before a b = nat_lt a.client b.client || ((a.client == b.client) && nat_lt a.seq b.seq)

-- whether a call doesn't come behind another
-- for example: `0.1` up to `0.2`, and up to `0.1`
abbrev pub cid_up_to : Cid → Cid → Bool
cid_up_to a b = not (cid_before b a)

-- the list with one more call, before the first that isn't before it
-- for example: `0.2` goes behind `0.1` and before `1.1`
abbrev pub insert_cid : Cid → List Cid → List Cid
insert_cid cid cids = insert_by cid_up_to cid cids

-- the calls in ascending order
-- for example: of `1.1`, `0.1`: `0.1`, `1.1`
abbrev pub ascending : List Cid → List Cid
ascending cids = sorted_by cid_up_to cids
