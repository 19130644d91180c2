-- The words of stamps, part by part, and at lists of one length, element by element.
use Rattle.std.proofs.Common.{◌≡◌, ◌<◌, ◌≤◌, ℕ, zero, suc, max, min, Bool, true, false, ◌==◌, nat_le, List, [], ◌∷◌, length, get_or, set, refl, ap, arith, eqb-true, leb-true, le-leb}
use Rattle.std.specs.List.{refill}
use Rattle.std.proofs.lemmas.Bool.{and_parts}
use Rattle.std.proofs.lemmas.Grind.{common_steps}
use Rattle.std.proofs.Math.ListN.{length-set}
use Rattle.lr_base.specs.Stamps.{part, join, meet, stamp_le, set_part}

-- a part is the element at its place
pub part-element : (a : List ℕ) (place : ℕ) → part a place ≡ get_or a place 0
part-element [] place = refl
part-element (x ∷ a) zero = refl
part-element (x ∷ a) (suc place) = part-element a place

-- within the parts, a part is written as an element is
pub set_part-within : (a : List ℕ) (place n : ℕ) → place < length a → set_part a place n ≡ set a place n
set_part-within [] place n within = absurd (omega arith)
set_part-within (x ∷ a) zero n within = refl
set_part-within (x ∷ a) (suc place) n within = ap (λ (b : List ℕ). x ∷ b) (set_part-within a place n (omega arith))

-- a stamp with the greater of each pair of elements is the join
pub join-elements : (a b c : List ℕ) → length a ≡ length b → length c ≡ length a → ((k : ℕ) → k < length a → get_or c k 0 ≡ max (get_or a k 0) (get_or b k 0)) → c ≡ join a b
join-elements [] [] [] same long greater = refl
join-elements [] [] (z ∷ c) same long greater = absurd (omega arith)
join-elements [] (y ∷ b) c same long greater = absurd (omega arith)
join-elements (x ∷ a) [] c same long greater = absurd (omega arith)
join-elements (x ∷ a) (y ∷ b) [] same long greater = absurd (omega arith)
join-elements (x ∷ a) (y ∷ b) (z ∷ c) same long greater =
    let head : z ≡ max x y = greater 0 (omega arith) in
    let rest : c ≡ join a b = join-elements a b c (omega arith) (omega arith) (λ k within. greater (suc k) (omega arith)) in
    cc

-- a stamp with the lesser of each pair of elements is the meet
pub meet-elements : (a b c : List ℕ) → length a ≡ length b → length c ≡ length a → ((k : ℕ) → k < length a → get_or c k 0 ≡ min (get_or a k 0) (get_or b k 0)) → c ≡ meet a b
meet-elements [] [] [] same long lesser = refl
meet-elements [] [] (z ∷ c) same long lesser = absurd (omega arith)
meet-elements [] (y ∷ b) c same long lesser = absurd (omega arith)
meet-elements (x ∷ a) [] c same long lesser = absurd (omega arith)
meet-elements (x ∷ a) (y ∷ b) [] same long lesser = absurd (omega arith)
meet-elements (x ∷ a) (y ∷ b) (z ∷ c) same long lesser =
    let head : z ≡ min x y = lesser 0 (omega arith) in
    let rest : c ≡ meet a b = meet-elements a b c (omega arith) (omega arith) (λ k within. lesser (suc k) (omega arith)) in
    cc

-- the order holds where each element is at most its counterpart
pub stamp_le-elements : (a b : List ℕ) → length a ≡ length b → ((k : ℕ) → k < length a → get_or a k 0 ≤ get_or b k 0) → stamp_le a b ≡ true
stamp_le-elements [] b same each = refl
stamp_le-elements (x ∷ a) [] same each = absurd (omega arith)
stamp_le-elements (x ∷ a) (y ∷ b) same each =
    let head : nat_le x y ≡ true = le-leb x y (each 0 (omega arith)) in
    rw head (stamp_le-elements a b (omega arith) (λ k within. each (suc k) (omega arith)))

-- where the order holds, each element is at most its counterpart
pub elements-stamp_le : (a b : List ℕ) → stamp_le a b ≡ true → (k : ℕ) → get_or a k 0 ≤ get_or b k 0
elements-stamp_le [] b holds k = omega arith
elements-stamp_le (x ∷ a) [] holds zero =
    let none : x ≡ 0 = eqb-true x 0 (and_parts (x == 0) (stamp_le a []) holds).0 in
    omega arith
elements-stamp_le (x ∷ a) [] holds (suc k) =
    elements-stamp_le a [] (and_parts (x == 0) (stamp_le a []) holds).1 k
elements-stamp_le (x ∷ a) (y ∷ b) holds zero = leb-true x y (and_parts (nat_le x y) (stamp_le a b) holds).0
elements-stamp_le (x ∷ a) (y ∷ b) holds (suc k) = elements-stamp_le a b (and_parts (nat_le x y) (stamp_le a b) holds).1 k

-- the order fails where one element is greater than its counterpart
pub stamp_le-greater : (a b : List ℕ) (k : ℕ) → get_or b k 0 < get_or a k 0 → stamp_le a b ≡ false
stamp_le-greater a b k greater = go (stamp_le a b) refl
  where
    go : (holds : Bool) → stamp_le a b ≡ holds → holds ≡ false
    go true e = let most = elements-stamp_le a b e k in absurd (omega arith)
    go false e = refl

-- a slice that is written back whole
pub refill-whole : (n : ℕ) (xs ws : List ℕ) → n ≡ length xs → length ws ≡ n → refill n xs ws ≡ ws
refill-whole n xs ws long same = grind (arith, common_steps)

-- a slice with one element written, written back whole
pub refill-set : (xs ws : List ℕ) (k n : ℕ) → ws ≡ xs → refill (length xs) xs (set ws k n) ≡ set xs k n
refill-set xs ws k n same = rw same (refill-whole (length xs) xs (set xs k n) refl (length-set xs k n))
