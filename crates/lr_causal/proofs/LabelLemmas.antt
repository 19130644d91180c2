-- Whether a label is at most a stamp, part by part.
use Rattle.std.proofs.Common.{◌≡◌, ◌<◌, ◌≤◌, ℕ, suc, Bool, true, false, ◌==◌, nat_le, List, [], ◌∷◌, length, refl, arith, eq-eqb, le-leb}
use Rattle.lr_base.specs.Stamps.{part, stamp_le}
use Rattle.lr_base.specs.StampLaws.{parts-stamp_le}

-- the order holds where each part up to the end is at most its counterpart
pub stamp_le-within : (a b : List ℕ) → ((place : ℕ) → place < length a → part a place ≤ part b place) → stamp_le a b ≡ true
stamp_le-within [] b each = refl
stamp_le-within (x ∷ a) [] each =
    let first : x ≤ 0 = each 0 (omega arith) in
    let none : (x == 0) ≡ true = eq-eqb x 0 (omega arith) in
    rw none (stamp_le-within a [] (λ place within. each (suc place) (omega arith)))
stamp_le-within (x ∷ a) (y ∷ b) each =
    let head : nat_le x y ≡ true = le-leb x y (each 0 (omega arith)) in
    rw head (stamp_le-within a b (λ place within. each (suc place) (omega arith)))

-- the order fails where one part is greater than its counterpart
pub stamp_le-beyond : (a b : List ℕ) (place : ℕ) → part b place < part a place → stamp_le a b ≡ false
stamp_le-beyond a b place beyond = go (stamp_le a b) refl
  where
    go : (holds : Bool) → stamp_le a b ≡ holds → holds ≡ false
    go true holds = let most = parts-stamp_le a b holds place in absurd (omega arith)
    go false holds = refl
