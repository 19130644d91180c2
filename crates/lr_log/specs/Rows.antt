-- Items that are kept place by place.
use Rattle.std.specs.Prelude.{◌≡◌, ◌==◌, ◌&&◌, Bool, ℕ, suc, List, [], ◌∷◌, flat_map}
use Rattle.std.specs.List.{AllByRecursion}
use Rattle.lr_base.specs.Ascending.{is_before}
use Rattle.lr_base.specs.Places.{AreInOrder}
use Rattle.lr_base.specs.Insertion.{insert_all_by, insert_by}
use Rattle.lr_base.specs.declared.names.Spot.{Spot}
use Rattle.lr_log.specs.Items.{NoneAt}

-- whether two spots are the same
-- for example: `0:1` and `0:1`
abbrev pub same_spot : Spot → Spot → Bool
same_spot a b = (a.place == b.place) && (a.number == b.number)

-- the items with one more, in the order of spots
-- for example: `0:2` among `0:1` and `0:3`
abbrev pub insert_item : {A : Type 0} → (A → Spot) → A → List A → List A
insert_item spot_of x items = insert_by (λ a b. is_before (spot_of a) (spot_of b)) x items

-- the items with more of them, in the order of spots
abbrev pub insert_items : {A : Type 0} → (A → Spot) → List A → List A → List A
insert_items spot_of more items = insert_all_by (λ a b. is_before (spot_of a) (spot_of b)) more items

-- none of the items stands at the spot of one of the others
-- for example: `0:2` and `1:1` beside `0:1`
abbrev pub AreFree : {A : Type 0} → (A → Spot) → List A → List A → Type 0
AreFree spot_of more items = AllByRecursion (λ x. NoneAt spot_of (spot_of x) items) more

-- the rows, one behind the other
-- for example: `0:1`, `0:3` and `1:1` from two rows
abbrev pub together : {A : Type 0} → List (List A) → List A
together rows = flat_map (λ row. row) rows

-- the items of a row are of this place, and stand in their order
-- for example: `0:1` and `0:3`
abbrev pub IsRow : {A : Type 0} → (A → Spot) → ℕ → List A → Type 0
IsRow spot_of place row = AllByRecursion (λ x. (spot_of x).place ≡ place) row × AreInOrder spot_of row

-- each row has items of one place, from this place on
-- for example: the row of place 0, then that of place 1
abbrev pub AreRows : {A : Type 0} → (A → Spot) → ℕ → List (List A) → Type 0
AreRows spot_of place [] = Unit {0}
AreRows spot_of place (row ∷ rows) = IsRow spot_of place row × AreRows spot_of (suc place) rows
