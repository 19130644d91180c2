-- Stamps, as lists of parts: one part for each place. A part past the end is 0.
use Rattle.std.specs.Prelude.{ℕ, zero, suc, max, min, Bool, true, ◌≤◌, ◌&&◌, ◌==◌, nat_le, List, [], ◌∷◌, length}
use Rattle.lr_base.specs.Limits.{last_number, most_parts}

-- a stamp, as the list of its parts
-- for example: `[3, 1]`
abbrev pub Stamp : Type 0
Stamp = List ℕ

-- the part at this place
-- for example: `part [3, 1] 0` is 3, `part [3, 1] 7` is 0
abbrev pub part : Stamp → ℕ → ℕ
part [] place = 0
part (x ∷ a) zero = x
part (x ∷ a) (suc place) = part a place

-- the greater of each pair of parts
-- for example: `join [3, 1] [2, 5]` is `[3, 5]`
abbrev pub join : Stamp → Stamp → Stamp
join [] b = b
join (x ∷ a) [] = x ∷ a
join (x ∷ a) (y ∷ b) = max x y ∷ join a b

-- the lesser of each pair of parts
-- for example: `meet [3, 1] [2, 5]` is `[2, 1]`
abbrev pub meet : Stamp → Stamp → Stamp
meet [] b = []
meet (x ∷ a) [] = 0 ∷ meet a []
meet (x ∷ a) (y ∷ b) = min x y ∷ meet a b

-- whether each part of the first is at most its counterpart in the second
-- for example: true of `[2, 1]`, `[3, 1]`; false of `[4, 0]`, `[3, 1]`
abbrev pub stamp_le : Stamp → Stamp → Bool
stamp_le [] b = true
stamp_le (x ∷ a) [] = (x == 0) && stamp_le a []
stamp_le (x ∷ a) (y ∷ b) = nat_le x y && stamp_le a b

-- the stamp with this part, and with zeros before it where it is past the end
-- for example: `set_part [3, 1] 0 4` is `[4, 1]`
abbrev pub set_part : Stamp → ℕ → ℕ → Stamp
set_part [] zero n = n ∷ []
set_part [] (suc place) n = 0 ∷ set_part [] place n
set_part (x ∷ a) zero n = n ∷ a
set_part (x ∷ a) (suc place) n = x ∷ set_part a place n

-- what a stamp of the program always is: it has at most `most_parts` parts, and each is at most `last_number`
-- for example: `[3, 1]`, and not `[2^62 + 1, 1]`
pub record IsBounded (a : Stamp) : Type 0 where
  pub few : length a ≤ most_parts
  pub parts : (place : ℕ) → part a place ≤ last_number
