-- What stays of a log when some of its items leave.
use Rattle.std.proofs.Common.{◌≡◌, suc, Bool, true, false, not, List, [], ◌∷◌, refl, ◌∙◌, ap}
use Rattle.std.specs.Prelude.{filter}
use Rattle.lr_base.specs.Insertion.{insert_all_by, insert_by}
use Rattle.lr_causal.proofs.Each.{Each}

-- where none leaves, all stay
pub filter-none : {X : Type 0} (leaves : X → Bool) (xs : List X) → Each (λ x. leaves x ≡ false) xs → filter (λ x. not (leaves x)) xs ≡ xs
filter-none leaves [] stay = refl
filter-none {X} leaves (x ∷ xs) stay = rw (stay 0 x refl) (ap (λ (ys : List X). x ∷ ys) (filter-none leaves xs (λ k. stay (suc k))))

module _ {X : Type 0} (leaves : X → Bool) (goes_before : X → X → Bool) where
  -- an element that leaves makes no difference to what stays
  pub filter-insert : (x : X) (xs : List X) → leaves x ≡ true → filter (λ y. not (leaves y)) (insert_by goes_before x xs) ≡ filter (λ y. not (leaves y)) xs
  filter-insert x [] new = rw new refl
  filter-insert x (y ∷ xs) new = go (goes_before x y) refl (leaves y) refl (filter-insert x xs new)
    where
      go : (before : Bool) → goes_before x y ≡ before → (here : Bool) → leaves y ≡ here
          → filter (λ z. not (leaves z)) (insert_by goes_before x xs) ≡ filter (λ z. not (leaves z)) xs
          → filter (λ z. not (leaves z)) (insert_by goes_before x (y ∷ xs)) ≡ filter (λ z. not (leaves z)) (y ∷ xs)
      go true is here at later = rw (is, new) refl
      go false is true at later = rw (is, at) later
      go false is false at later = rw (is, at) (ap (λ (ys : List X). y ∷ ys) later)

  -- nor do several
  pub filter-insert_all : (more xs : List X) → Each (λ x. leaves x ≡ true) more → filter (λ y. not (leaves y)) (insert_all_by goes_before more xs) ≡ filter (λ y. not (leaves y)) xs
  filter-insert_all [] xs new = refl
  filter-insert_all (x ∷ more) xs new = filter-insert_all more (insert_by goes_before x xs) (λ k. new (suc k)) ∙ filter-insert x xs (new 0 x refl)
