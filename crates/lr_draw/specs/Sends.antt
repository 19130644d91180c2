-- The lines that tell that a message was sent.
use Rattle.std.specs.Prelude.{◌≡◌, ◌≢◌, ◌<◌, ◌⊎◌, ◌++◌, ℕ, List, [], codes}
use Rattle.std.specs.Fmt.{decimal}
use Rattle.lr_base.specs.declared.names.Actor.{Actor}
use Rattle.lr_base.specs.declared.names.Actor.TheVariants.{Client, Replica}
use Rattle.lr_draw.specs.declared.sends.Way.{Way}
use Rattle.lr_draw.specs.Fields.{first_field, behind_field}
use Rattle.lr_draw.specs.Kinds.{IsNamed}

-- a client or a replica is written so
-- for example: `c0`, `r2`
abbrev pub IsActor : List ℕ → Actor → Type 0
IsActor field (Client number) = (field ≡ codes "c" ++ decimal number) × (number < 64)
IsActor field (Replica number) = (field ≡ codes "r" ++ decimal number) × (number < 15)

-- the sender, the receiver, and what was sent, which is something
-- for example: `r0 r1 gossip`
pub record IsWay (fields : List ℕ) (way : Way) : Type 0 where
  pub sender : IsActor (first_field fields) way.from
  pub receiver : IsActor (first_field (behind_field fields)) way.to
  pub something : behind_field (behind_field fields) ≢ []
  pub named : IsNamed (first_field (behind_field (behind_field fields))) way.kind

-- no client and no replica is written so
-- for example: `x1`
abbrev pub IsNobody : List ℕ → Type 0
IsNobody field = (actor : Actor) → ¬ (IsActor field actor)

-- there is no sender, no receiver, or nothing that was sent
abbrev pub IsNoWay : List ℕ → Type 0
IsNoWay fields =
    IsNobody (first_field fields) ⊎ IsNobody (first_field (behind_field fields)) ⊎ (behind_field (behind_field
    fields) ≡ [])
