-- What a table of what replicas told keeps.
use Rattle.std.specs.Prelude.{◌≡◌, ◌<◌, ◌+◌, ℕ, zero, suc, List, [], ◌∷◌, get_or, length}
use Rattle.std.specs.List.{AllByRecursion}
use Rattle.std.proofs.Common.{arith}
use Rattle.lr_log.specs.Tables.{IsTold, Told}

-- what was received at the replica itself is its row
pub own-row : (it : Told) → IsTold it → it.own ≡ get_or it.rows it.me []
own-row it told = told.own_row

-- each row has a part for each replica and one more
pub row-parts : (it : Told) → IsTold it → (k : ℕ) → k < length it.rows
    → length (get_or it.rows k []) ≡ length it.rows + 1
row-parts it told k within = at it.rows told.parts k within
  where
    at : (rows : List (List ℕ)) → AllByRecursion (λ row. length row ≡ length it.rows + 1) rows → (j : ℕ)
        → j < length rows → length (get_or rows j []) ≡ length it.rows + 1
    at [] all j low = absurd (omega arith)
    at (row ∷ rows) all zero low = all.0
    at (row ∷ rows) all (suc j) low = at rows all.1 j (omega arith)
