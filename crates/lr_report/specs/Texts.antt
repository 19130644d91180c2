-- To be believed: the one text of each name in a history.
use Rattle.std.specs.Prelude.{ℕ, List, ◌++◌, ◌==◌, cond, codes}
use Rattle.std.specs.Fmt.{decimal}
use Rattle.lr_base.specs.declared.names.Actor.{Actor}
use Rattle.lr_base.specs.declared.names.Actor.TheVariants.{Client, Replica}
use Rattle.lr_base.specs.declared.names.Cid.{Cid}
use Rattle.lr_base.specs.declared.names.Spot.{Spot}

-- a call: its client and that client's count of calls
-- for example: `0.1`
abbrev pub cid_text : Cid → List ℕ
cid_text cid = decimal cid.client ++ (codes "." ++ decimal cid.seq)

-- a place: a replica's number, or an o for the order, which is the place behind the replicas'
-- for example: `0`; `o`
abbrev pub place_text : ℕ → ℕ → List ℕ
place_text replicas place = cond (place == replicas) (codes "o") (decimal place)

-- where an item stands, an update or an acknowledgement: the place and its count, in a run with so many replicas
-- for example: `0:1`
abbrev pub spot_text : ℕ → Spot → List ℕ
spot_text replicas spot = place_text replicas spot.place ++ (codes ":" ++ decimal spot.number)

-- a client or a replica
-- for example: `c0`; `r1`
abbrev pub actor_text : Actor → List ℕ
actor_text (Client number) = codes "c" ++ decimal number
actor_text (Replica number) = codes "r" ++ decimal number
