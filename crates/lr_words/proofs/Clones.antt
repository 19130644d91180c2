-- Clones of entries.
use Rattle.std.proofs.Common.{◌≡◌, List, [], ◌∷◌, refl}
use Rattle.std.specs.List.{AllZip}

-- entries whose names and values are clones are equal, where clones of values are
pub same-clones : {K V : Type 0} (C : V → V → Type 0) → ((value copied : V) → C value copied → copied ≡ value) → (xs ys : List (K × V)) → AllZip (λ p q. (q.0 ≡ p.0) × C p.1 q.1) xs ys → ys ≡ xs
same-clones C cloned [] [] zip = refl
same-clones C cloned (x ∷ xs) (y ∷ ys) zip =
    let name : y.0 ≡ x.0 = zip.0.0 in
    let value : y.1 ≡ x.1 = cloned x.1 y.1 zip.0.1 in
    λ i. (name i, value i) ∷ same-clones C cloned xs ys zip.1 i
same-clones C cloned [] (y ∷ ys) zip = absurd zip
same-clones C cloned (x ∷ xs) [] zip = absurd zip
