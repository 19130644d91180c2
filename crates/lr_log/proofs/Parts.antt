-- Parts past the end of a stamp.
use Rattle.std.proofs.Common.{◌≡◌, ◌≤◌, ℕ, zero, suc, List, [], ◌∷◌, length, refl, arith}
use Rattle.lr_base.specs.Stamps.{part}

-- a part past the end is 0
pub part-past : (a : List ℕ) (place : ℕ) → length a ≤ place → part a place ≡ 0
part-past [] place past = refl
part-past (x ∷ a) zero past = absurd (omega arith)
part-past (x ∷ a) (suc place) past = part-past a place (omega arith)
