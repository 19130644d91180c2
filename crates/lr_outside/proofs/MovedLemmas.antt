-- Bytes that move in several pieces.
use Rattle.std.proofs.Common.{◌≡◌, ℕ, ◌+◌, ◌-◌, List, ◌++◌, Option, length, take, drop, sym, ◌∙◌, ap, subst, arith}
use Rattle.std.proofs.lemmas.Grind.{common_steps}
use Rattle.std.proofs.Math.Seq.{take-add}
use Rattle.std.specs.Io.KnownBytes.{Appends}
use Rattle.std.proofs.KnownBytes.{Appends-trans}

-- a list from some place on, as long as what is there
pub take-rest : (xs : List ℕ) (at : ℕ) → take (length xs - at) (drop at xs) ≡ drop at xs
take-rest xs at = grind (arith, common_steps)

-- a front of the list was written, and then a front of what is behind it
pub Appends-next : (a b c : Option (List ℕ)) (xs : List ℕ) (at n : ℕ) → Appends a b (take at xs) → Appends b c (take n (take (length xs - at) (drop at xs))) → Appends a c (take (at + n) xs)
Appends-next a b c xs at n first second =
    let joined : take at xs ++ take n (take (length xs - at) (drop at xs)) ≡ take (at + n) xs =
    ap (λ ys. take at xs ++ take n ys) (take-rest xs at) ∙ sym (take-add at n xs) in
    subst (Appends a c) joined (Appends-trans a b c _ _ first second)
