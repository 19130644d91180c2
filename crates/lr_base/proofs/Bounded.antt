-- What is made of bounded stamps is bounded.
use Rattle.std.proofs.Common.{◌≡◌, ◌≤◌, ◌<◌, ℕ, zero, suc, List, [], ◌∷◌, ◌++◌, length, replicate, refl, arith}
use Rattle.std.proofs.Math.Nat.{min-le_left}
use Rattle.std.proofs.lemmas.List.{length-append, length-replicate}
use Rattle.lr_base.specs.Limits.{last_number, most_parts}
use Rattle.lr_base.specs.Stamps.{IsBounded, part, join, meet, set_part}
use Rattle.lr_base.specs.StampLaws.{length-join, length-meet, length-set_part, part-join, part-meet}

-- no part of zeros is above a number
part-zeros : (parts place : ℕ) → part (replicate parts 0) place ≡ 0
part-zeros zero place = refl
part-zeros (suc parts) zero = refl
part-zeros (suc parts) (suc place) = part-zeros parts place

-- each part of a stamp with one more is a part of it, or the new one
part-push : (a : List ℕ) (number most place : ℕ) → number ≤ most → ((q : ℕ) → part a q ≤ most) → part (a ++ number ∷ []) place ≤ most
part-push [] number most zero low each = low
part-push [] number most (suc place) low each = omega arith
part-push (x ∷ a) number most zero low each = each 0
part-push (x ∷ a) number most (suc place) low each = part-push a number most place low (λ q. each (suc q))

-- each part of a stamp with one written is a part of it, or the written one
part-written : (a : List ℕ) (at number most place : ℕ) → number ≤ most → ((q : ℕ) → part a q ≤ most) → part (set_part a at number) place ≤ most
part-written [] zero number most zero low each = low
part-written [] zero number most (suc place) low each = omega arith
part-written [] (suc at) number most zero low each = omega arith
part-written [] (suc at) number most (suc place) low each = part-written [] at number most place low each
part-written (x ∷ a) zero number most zero low each = low
part-written (x ∷ a) zero number most (suc place) low each = each (suc place)
part-written (x ∷ a) (suc at) number most zero low each = each 0
part-written (x ∷ a) (suc at) number most (suc place) low each = part-written a at number most place low (λ q. each (suc q))

-- zeros are bounded
pub bounded-zeros : (parts : ℕ) (a : List ℕ) → a ≡ replicate parts 0 → parts ≤ most_parts → IsBounded a
bounded-zeros parts a is few = record {
  few = rw (is, length-replicate {A = ℕ} parts 0) few;
  parts = λ place. let none = part-zeros parts place in rw is (omega arith);
}

-- a bounded stamp with room stays so with one more part
pub bounded-push : (a new : List ℕ) (number : ℕ) → new ≡ a ++ number ∷ [] → IsBounded a → length a < most_parts → number ≤ last_number → IsBounded new
bounded-push a new number is bounded room low = record {
  few = rw (is, length-append a (number ∷ [])) (omega arith);
  parts = λ place. rw is (part-push a number last_number place low bounded.parts);
}

-- and with a part written
pub bounded-set : (a new : List ℕ) (place number : ℕ) → new ≡ set_part a place number → IsBounded a → place < length a → number ≤ last_number → IsBounded new
bounded-set a new place number is bounded within low = record {
  few = rw (is, length-set_part a place number within) bounded.few;
  parts = λ q. rw is (part-written a place number last_number q low bounded.parts);
}

-- so is the join of two with one count of parts
pub bounded-join : (a b new : List ℕ) → new ≡ join a b → length a ≡ length b → IsBounded a → IsBounded b → IsBounded new
bounded-join a b new is long first second = record {
  few = rw (is, length-join a b long) first.few;
  parts = λ place.
      let greater = part-join a b place in
      let own = first.parts place in
      let other = second.parts place in
      rw is (omega arith);
}

-- and their meet
pub bounded-meet : (a b new : List ℕ) → new ≡ meet a b → length a ≡ length b → IsBounded a → IsBounded new
bounded-meet a b new is long first = record {
  few = rw (is, length-meet a b long) first.few;
  parts = λ place.
      let lesser = part-meet a b place in
      let own = first.parts place in
      let low = min-le_left (part a place) (part b place) in
      rw is (omega arith);
}
