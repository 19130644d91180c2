-- Lists that are printed element by element.
use Rattle.std.proofs.Common.{◌≡◌, ℕ, zero, suc, ◌+◌, ◌-◌, ◌<◌, ◌≤◌, List, [], ◌∷◌, ◌++◌, length, take, drop, refl, ap, arith}
use Rattle.lr_base.specs.Stamps.{part}

-- the parts up to one are those before it and that one
take-part : (stamp : List ℕ) (place : ℕ) → place < length stamp → take (suc place) stamp ≡ take place stamp ++ part stamp place ∷ []
take-part [] place h = absurd (omega arith)
take-part (x ∷ stamp) zero h = refl
take-part (x ∷ stamp) (suc place) h = ap (λ parts. x ∷ parts) (take-part stamp place (omega (arith, h)))

-- the same behind the first part
pub later_parts : (stamp : List ℕ) (place : ℕ) → 1 ≤ place → place < length stamp → take ((place + 1) - 1) (drop 1 stamp) ≡ take (place - 1) (drop 1 stamp) ++ part stamp place ∷ []
later_parts [] place least h = absurd (omega arith)
later_parts (x ∷ stamp) zero least h = absurd (omega arith)
later_parts (x ∷ stamp) (suc place) least h =
    let now : (suc place + 1) - 1 ≡ suc place = omega arith in
    let before : suc place - 1 ≡ place = omega arith in
    rw (now, before) (take-part stamp place (omega (arith, h)))
