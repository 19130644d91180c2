-- Elements of lists by their places.
use Rattle.std.proofs.Common.{◌≡◌, ◌≢◌, ℕ, ◌<◌, ◌≤◌, List, [], ◌∷◌, ◌++◌, ◌⊎◌, inl, inr, length, set, Some, refl, sym, ap, ◌∙◌, arith}
use Rattle.std.specs.List.{slice_get}
use Rattle.std.proofs.lemmas.List.{get_or-set_other, get_or-set_same, length-append, length-set}
use Rattle.std.proofs.lemmas.Option.{slice_get-get_or, slice_get_past}
use Rattle.std.proofs.Math.ListN.{get_or-append}
use Rattle.lr_graph.proofs.Lists.Tests.{le-or-lt}

module _ {X : Type 0} where
  -- the element that was set
  pub slice-set_same : (xs : List X) (k : ℕ) (y : X) → k < length xs → slice_get (set xs k y) k ≡ Some y
  slice-set_same xs k y within =
      slice_get-get_or (set xs k y) k y (omega (arith, length-set xs k y)) ∙ ap Some (get_or-set_same xs k y y within)

  -- the others stay
  pub slice-set_other : (xs : List X) (k j : ℕ) (y : X) → j ≢ k → slice_get (set xs k y) j ≡ slice_get xs j
  slice-set_other xs k j y apart = by_place (le-or-lt j (length xs))
    where
      by_place : (length xs ≤ j) ⊎ (j < length xs) → slice_get (set xs k y) j ≡ slice_get xs j
      by_place (inl past) = slice_get_past (set xs k y) j (omega (arith, length-set xs k y)) ∙ sym (slice_get_past xs j past)
      by_place (inr within) =
          slice_get-get_or (set xs k y) j y (omega (arith, length-set xs k y)) ∙ ap Some (get_or-set_other xs k j y y apart)
          ∙ sym (slice_get-get_or xs j y within)

  -- an element that was there before another came behind
  pub slice-before : (xs : List X) (y : X) (k : ℕ) → k < length xs → slice_get (xs ++ y ∷ []) k ≡ slice_get xs k
  slice-before xs y k within =
      slice_get-get_or (xs ++ y ∷ []) k y (omega (arith, length-append xs (y ∷ []))) ∙ ap Some (get_or-append xs (y ∷ []) y k within)
      ∙ sym (slice_get-get_or xs k y within)

  -- the element behind the others
  pub slice-behind : (xs : List X) (y : X) → slice_get (xs ++ y ∷ []) (length xs) ≡ Some y
  slice-behind [] y = refl
  slice-behind (x ∷ xs) y = slice-behind xs y
