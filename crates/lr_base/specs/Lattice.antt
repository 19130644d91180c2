-- The laws of stamps: what their order is, what their join is, and what writing a part changes.
-- The laws of stamps, which the contracts of `order_of_stamps`, `join_is_least` and `set_part_changes_one` carry.
use Rattle.std.specs.Prelude.{◌≡◌, ◌≤◌, ℕ, Bool, true, length}
use Rattle.lr_base.specs.Stamps.{Stamp, part, stamp_le}

-- each part of a is at most its counterpart in b
-- for example: `[2, 1]`, `[3, 1]`
abbrev pub IsPartwise : Stamp → Stamp → Type 0
IsPartwise a b = (place : ℕ) → part a place ≤ part b place

-- a test of two stamps that orders those with one count of parts
-- for example: `stamp_le`
pub record IsOrder (at_most : Stamp → Stamp → Bool) : Type 0 where
  pub reflexive : (a : Stamp) → at_most a a ≡ true
  pub transitive : (a b c : Stamp) → at_most a b ≡ true → at_most b c ≡ true → at_most a c ≡ true
  pub antisymmetric : (a b : Stamp) → length a ≡ length b → at_most a b ≡ true → at_most b a ≡ true → a ≡ b

-- c is above a and above b, and at most every stamp above both
-- for example: `[3, 5]` above `[3, 1]` and `[2, 5]`
pub record IsLeastAbove (a b c : Stamp) : Type 0 where
  pub above_first : stamp_le a c ≡ true
  pub above_second : stamp_le b c ≡ true
  pub least : (d : Stamp) → stamp_le a d ≡ true → stamp_le b d ≡ true → stamp_le c d ≡ true

-- a way to make one stamp of two, in which neither order nor repetition counts
-- for example: `join`
pub record IsMerge (merge : Stamp → Stamp → Stamp) : Type 0 where
  pub commutative : (a b : Stamp) → merge a b ≡ merge b a
  pub associative : (a b c : Stamp) → merge (merge a b) c ≡ merge a (merge b c)
  pub idempotent : (a : Stamp) → merge a a ≡ a
