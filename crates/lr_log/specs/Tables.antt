-- What a replica was told of each replica, as a table of stamps.
use Rattle.std.specs.Prelude.{◌≡◌, ◌<◌, ◌≤◌, ◌+◌, ℕ, List, [], get_or, length}
use Rattle.std.specs.List.{AllByRecursion}
use Rattle.lr_base.specs.Limits.{most_replicas}
use Rattle.lr_base.specs.Stamps.{Stamp}

-- whose table it is, what was received there, and a stamp for each replica: what that one told that it received
-- for example: replica 0, `[2, 0, 0]`, and the rows `[2, 0, 0]` and `[1, 0, 0]`
pub record Told : Type 0 where
  pub me : ℕ
  pub own : Stamp
  pub rows : List Stamp

-- the replica is one of those that there are, its row is what was received there, and each stamp has a part for each
-- replica and one for the order
-- for example: replica 0 of 2, stamps of 3 parts
pub record IsTold (it : Told) : Type 0 where
  pub within : it.me < length it.rows
  pub own_row : it.own ≡ get_or it.rows it.me []
  pub most : length it.rows ≤ most_replicas
  pub parts : AllByRecursion (λ row. length row ≡ length it.rows + 1) it.rows
