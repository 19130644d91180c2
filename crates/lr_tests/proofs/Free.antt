-- Spots that are free in a log.
use Rattle.std.proofs.Common.{◌≡◌, Bool, true, false, cond, List, [], ◌∷◌}
use Rattle.std.proofs.Common.{Option, Some, None, is_some, refl, sym, ◌∙◌, eq-eqb}
use Rattle.std.specs.Prelude.{◌==◌, find}
use Rattle.std.specs.Borrow.{Bor}
use Rattle.std.specs.Option.{option_copied}
use Rattle.lr_base.specs.Places.{items_at}
use Rattle.lr_base.specs.declared.names.Spot.{Spot}
use Rattle.lr_log.specs.Items.{NoneAt}
use Rattle.lr_log.specs.Rows.{same_spot}

same_spot-is : (a b : Spot) → a ≡ b → same_spot a b ≡ true
same_spot-is a b same =
    let first : (a.place == b.place) ≡ true = eq-eqb a.place b.place (λ i. (same i).place) in
    let second : (a.number == b.number) ≡ true = eq-eqb a.number b.number (λ i. (same i).number) in
    rw (first, second) refl

-- no item stands at a spot where none of its place does
pub none-at : {A : Type 0} (spot_of : A → Spot) (spot : Spot) (items : List A)
    → find (λ x. same_spot (spot_of x) spot) (items_at spot_of spot.place items) ≡ None → NoneAt spot_of spot items
none-at spot_of spot [] none = tt
none-at spot_of spot (x ∷ items) none =
    go ((spot_of x).place == spot.place) refl (same_spot (spot_of x) spot) refl none (none-at spot_of spot items)
  where
    go : (s : Bool) → ((spot_of x).place == spot.place) ≡ s → (t : Bool) → same_spot (spot_of x) spot ≡ t
        → find (λ y. same_spot (spot_of y) spot) (cond s (x ∷ items_at spot_of spot.place items)
        (items_at spot_of spot.place items)) ≡ None
        → (find (λ y. same_spot (spot_of y) spot) (items_at spot_of spot.place items) ≡ None
        → NoneAt spot_of spot items)
        → NoneAt spot_of spot (x ∷ items)
    go true at true same nothing rest = let found : Some x ≡ None = rw same at nothing in cc
    go true at false same nothing rest =
        let later : find (λ y. same_spot (spot_of y) spot) (items_at spot_of spot.place items) ≡ None =
        rw same at nothing in
        ((λ e. let is : false ≡ true = sym same ∙ same_spot-is (spot_of x) spot e in cc), rest later)
    go false at t same nothing rest = (
      (λ e. let is : false ≡ true = sym at ∙ eq-eqb (spot_of x).place spot.place (λ i. (e i).place) in cc),
      rest nothing,
    )

-- what isn't there isn't found
pub none-found : {A : Type 0} (found : Option (Bor A)) (first : Option A) → is_some found ≡ false
    → option_copied found ≡ first
    → first ≡ None
none-found None first none is = sym is
none-found (Some x) first none is = cc
