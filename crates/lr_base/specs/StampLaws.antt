-- The laws of the order of stamps, of their join, and of writing a part.
-- Facts with their proofs: `stamp_le` is an order and goes part by part, a part of a `join` is the greater of the two,
-- and `set_part` changes one part.
use Rattle.std.proofs.Common.{◌≡◌, ◌≢◌, ◌<◌, ℕ, zero, suc, max, min, true, ◌==◌, nat_le, [], ◌∷◌, length, replicate}
use Rattle.std.proofs.Common.{refl, arith, eq-eqb, eqb-true, leb-true, le-leb}
use Rattle.std.proofs.lemmas.Bool.{and_parts}
use Rattle.lr_base.specs.Stamps.{Stamp, part, join, meet, stamp_le, set_part}
use Rattle.lr_base.specs.Lattice.{IsLeastAbove, IsPartwise}

-- where the order holds, each part is at most its counterpart
pub parts-stamp_le : (a b : Stamp) → stamp_le a b ≡ true → IsPartwise a b
parts-stamp_le [] b holds place = omega arith
parts-stamp_le (x ∷ a) [] holds zero =
    let none : x ≡ 0 = eqb-true x 0 (and_parts (x == 0) (stamp_le a []) holds).0 in
    omega arith
parts-stamp_le (x ∷ a) [] holds (suc place) = parts-stamp_le a [] (and_parts (x == 0) (stamp_le a []) holds).1 place
parts-stamp_le (x ∷ a) (y ∷ b) holds zero = leb-true x y (and_parts (nat_le x y) (stamp_le a b) holds).0
parts-stamp_le (x ∷ a) (y ∷ b) holds (suc place) =
    parts-stamp_le a b (and_parts (nat_le x y) (stamp_le a b) holds).1 place

-- the order holds where each part is at most its counterpart
pub stamp_le-parts : (a b : Stamp) → IsPartwise a b → stamp_le a b ≡ true
stamp_le-parts [] b each = refl
stamp_le-parts (x ∷ a) [] each =
    let first = each 0 in
    let none : (x == 0) ≡ true = eq-eqb x 0 (omega arith) in
    rw none (stamp_le-parts a [] (λ place. each (suc place)))
stamp_le-parts (x ∷ a) (y ∷ b) each =
    let head : nat_le x y ≡ true = le-leb x y (each 0) in
    rw head (stamp_le-parts a b (λ place. each (suc place)))

-- stamps of one count of parts with equal parts are one
same-parts : (a b : Stamp) → length a ≡ length b → ((place : ℕ) → part a place ≡ part b place) → a ≡ b
same-parts [] [] long each = refl
same-parts [] (y ∷ b) long each = absurd (omega arith)
same-parts (x ∷ a) [] long each = absurd (omega arith)
same-parts (x ∷ a) (y ∷ b) long each =
    let head : x ≡ y = each 0 in
    let rest : a ≡ b = same-parts a b (omega arith) (λ place. each (suc place)) in
    cc

-- a stamp is at most itself
pub stamp_le-refl : (a : Stamp) → stamp_le a a ≡ true
stamp_le-refl a = stamp_le-parts a a (λ place. omega arith)

-- what is at most a stamp is at most each stamp above that one
pub stamp_le-trans : (a b c : Stamp) → stamp_le a b ≡ true → stamp_le b c ≡ true → stamp_le a c ≡ true
stamp_le-trans a b c first second = stamp_le-parts a c (λ place.
    let low = parts-stamp_le a b first place in
    let high = parts-stamp_le b c second place in
    omega arith)

-- stamps of one count of parts that are at most one another are one
pub stamp_le-antisymm : (a b : Stamp) → length a ≡ length b → stamp_le a b ≡ true → stamp_le b a ≡ true → a ≡ b
stamp_le-antisymm a b long first second = same-parts a b long (λ place.
    let low = parts-stamp_le a b first place in
    let high = parts-stamp_le b a second place in
    omega arith)

-- a stamp of zeros is at most every stamp
pub stamp_le-zeros : (parts : ℕ) (a : Stamp) → stamp_le (replicate parts 0) a ≡ true
stamp_le-zeros zero a = refl
stamp_le-zeros (suc parts) [] = stamp_le-zeros parts []
stamp_le-zeros (suc parts) (x ∷ a) =
    let head : nat_le 0 x ≡ true = le-leb 0 x (omega arith) in
    rw head (stamp_le-zeros parts a)

-- a part of the join is the greater of the two
pub part-join : (a b : Stamp) (place : ℕ) → part (join a b) place ≡ max (part a place) (part b place)
part-join [] b place = omega arith
part-join (x ∷ a) [] place = omega arith
part-join (x ∷ a) (y ∷ b) zero = refl
part-join (x ∷ a) (y ∷ b) (suc place) = part-join a b place

-- the meet of two stamps with one count of parts has that count
pub length-meet : (a b : Stamp) → length a ≡ length b → length (meet a b) ≡ length a
length-meet [] b long = refl
length-meet (x ∷ a) [] long = absurd (omega arith)
length-meet (x ∷ a) (y ∷ b) long =
    let rest : length (meet a b) ≡ length a = length-meet a b (omega arith) in
    omega arith

-- a part of the meet is the lesser of the two
pub part-meet : (a b : Stamp) (place : ℕ) → part (meet a b) place ≡ min (part a place) (part b place)
part-meet [] b place = omega arith
part-meet (x ∷ a) [] zero = omega arith
part-meet (x ∷ a) [] (suc place) = part-meet a [] place
part-meet (x ∷ a) (y ∷ b) zero = refl
part-meet (x ∷ a) (y ∷ b) (suc place) = part-meet a b place

-- the join is the least stamp above both
pub join-least : (a b : Stamp) → IsLeastAbove a b (join a b)
join-least a b = record {
  above_first = stamp_le-parts a (join a b) (λ place. let greater = part-join a b place in omega arith);
  above_second = stamp_le-parts b (join a b) (λ place. let greater = part-join a b place in omega arith);
  least = λ d first second. stamp_le-parts (join a b) d (λ place.
      let greater = part-join a b place in
      let own = parts-stamp_le a d first place in
      let other = parts-stamp_le b d second place in
      omega arith);
}

-- the join has as many parts as each of two stamps with one count
pub length-join : (a b : Stamp) → length a ≡ length b → length (join a b) ≡ length a
length-join [] [] long = refl
length-join [] (y ∷ b) long = absurd (omega arith)
length-join (x ∷ a) [] long = refl
length-join (x ∷ a) (y ∷ b) long =
    let rest : length (join a b) ≡ length a = length-join a b (omega arith) in
    omega arith

-- the order of the two makes no difference to a join
pub join-comm : (a b : Stamp) → join a b ≡ join b a
join-comm [] [] = refl
join-comm [] (y ∷ b) = refl
join-comm (x ∷ a) [] = refl
join-comm (x ∷ a) (y ∷ b) =
    let head : max x y ≡ max y x = omega arith in
    let rest : join a b ≡ join b a = join-comm a b in
    cc

-- nor does which two of three are joined first
pub join-assoc : (a b c : Stamp) → join (join a b) c ≡ join a (join b c)
join-assoc [] b c = refl
join-assoc (x ∷ a) [] c = refl
join-assoc (x ∷ a) (y ∷ b) [] = refl
join-assoc (x ∷ a) (y ∷ b) (z ∷ c) =
    let head : max (max x y) z ≡ max x (max y z) = omega arith in
    let rest : join (join a b) c ≡ join a (join b c) = join-assoc a b c in
    cc

-- a stamp joined with itself is itself
pub join-self : (a : Stamp) → join a a ≡ a
join-self [] = refl
join-self (x ∷ a) =
    let head : max x x ≡ x = omega arith in
    let rest : join a a ≡ a = join-self a in
    cc

-- the written part is the one that was given
pub part-set_part : (a : Stamp) (place n : ℕ) → part (set_part a place n) place ≡ n
part-set_part [] zero n = refl
part-set_part [] (suc place) n = part-set_part [] place n
part-set_part (x ∷ a) zero n = refl
part-set_part (x ∷ a) (suc place) n = part-set_part a place n

-- the other parts stay
pub part-set_part_other : (a : Stamp) (place n q : ℕ) → q ≢ place → part (set_part a place n) q ≡ part a q
part-set_part_other [] zero n zero apart = absurd (apart refl)
part-set_part_other [] zero n (suc q) apart = refl
part-set_part_other [] (suc place) n zero apart = refl
part-set_part_other [] (suc place) n (suc q) apart = part-set_part_other [] place n q (λ same. apart (omega arith))
part-set_part_other (x ∷ a) zero n zero apart = absurd (apart refl)
part-set_part_other (x ∷ a) zero n (suc q) apart = refl
part-set_part_other (x ∷ a) (suc place) n zero apart = refl
part-set_part_other (x ∷ a) (suc place) n (suc q) apart = part-set_part_other a place n q (λ same. apart (omega arith))

-- within the parts their count stays
pub length-set_part : (a : Stamp) (place n : ℕ) → place < length a → length (set_part a place n) ≡ length a
length-set_part [] place n within = absurd (omega arith)
length-set_part (x ∷ a) zero n within = refl
length-set_part (x ∷ a) (suc place) n within =
    let rest : length (set_part a place n) ≡ length a = length-set_part a place n (omega arith) in
    omega arith
