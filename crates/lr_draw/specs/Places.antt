-- Where things stand in a picture, in pixels from its upper left corner.
use Rattle.std.specs.Prelude.{ℕ, ◌+◌, ◌-◌, ◌*◌, ◌==◌, min, Bool, false, cond, nat_lt, List, unwrap_or, position}
use Rattle.lr_base.specs.declared.names.Actor.{Actor}
use Rattle.lr_base.specs.declared.names.Actor.TheVariants.{Client, Replica}

-- the column of an event, where the first drawn one has this number; all before it stand at the edge
-- for example: 72 for the first
abbrev pub x_of : ℕ → ℕ → ℕ
x_of first event = cond (nat_lt event first) 44 (72 + 30 * (event - first))

-- whether two actors are one
-- for example: true of `r0`, `r0`
abbrev pub same_actor : Actor → Actor → Bool
same_actor (Client a) (Client b) = a == b
same_actor (Client a) (Replica b) = false
same_actor (Replica a) (Client b) = false
same_actor (Replica a) (Replica b) = a == b

-- the height of an actor's lane, which is the one of its place among the lanes' actors
-- for example: 84 for the first
abbrev pub y_of : List Actor → Actor → ℕ
y_of lanes actor = 84 + 68 * min (unwrap_or (position (λ lane. same_actor lane actor) lanes) 0) 127
