-- To be believed: sets of spots, as tests, and lists made of them.
use Rattle.std.specs.Prelude.{ℕ, suc, Bool, false, ◌&&◌, ◌||◌, ◌==◌, if◌then◌else◌, List, [], ◌∷◌, Option, Some, None}
use Rattle.lr_base.specs.Ascending.{cid_before, same_cid, is_before}
use Rattle.lr_base.specs.Insertion.{insert_by, insert_new_by}
use Rattle.lr_base.specs.declared.names.Cid.{Cid}
use Rattle.lr_base.specs.declared.names.Spot.{Spot}

-- a set of spots: whether a spot is in it
abbrev pub SpotSet : Type 0
SpotSet = Spot → Bool

-- whether two spots are one
-- for example: true of `0:1`, `0:1`; false of `0:1`, `1:1`
abbrev pub same_spot : Spot → Spot → Bool
same_spot a b = (a.place == b.place) && (a.number == b.number)

-- the set of no spot
-- for example: `0:1` isn't in it
abbrev pub nothing : SpotSet
nothing spot = false

-- the set of this spot alone
-- for example: `only 0:1` has `0:1` and not `0:2`
abbrev pub only : Spot → SpotSet
only one spot = same_spot spot one

-- the spots of either set
-- for example: `only 0:1 ∪ only 1:1` has both
infixl 35 ◌∪◌
abbrev pub ◌∪◌ : SpotSet → SpotSet → SpotSet
◌∪◌ a b spot = a spot || b spot

-- what is kept by number, with x at i
-- for example: `put_at 0 x table` has `x` at 0, and at 1 what `table` has
abbrev pub put_at : {X : Type 0} → ℕ → X → (ℕ → X) → ℕ → X
put_at i x table j = if j == i then x else table j

-- how many of these pass the test
-- for example: 2 of three acceptances are at place 0
abbrev pub how_many : {X : Type 0} → (X → Bool) → List X → ℕ
how_many test [] = 0
how_many test (x ∷ xs) = if test x then suc (how_many test xs) else how_many test xs

-- the lesser of a spot and another, if there is another
-- for example: of `0:2` and `0:1`, `0:1`; of `0:2` and none, `0:2`
abbrev pub lesser : Spot → Option Spot → Option Spot
lesser a None = Some a
lesser a (Some b) = Some (if is_before a b then a else b)

-- the ascending list with this call in it, once
-- for example: `0.1` into `0.1, 0.2` changes nothing
abbrev pub insert_call : Cid → List Cid → List Cid
insert_call cid cids = insert_new_by same_cid cid_before cid cids

-- the ascending list with this spot in it
-- for example: `0:2` goes behind `0:1`
abbrev pub insert_spot : Spot → List Spot → List Spot
insert_spot spot spots = insert_by is_before spot spots
