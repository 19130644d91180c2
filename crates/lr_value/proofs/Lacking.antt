-- What causes lack of a stamp.
use Rattle.std.proofs.Common.{◌≡◌, ◌≢◌, ◌<◌, ◌≤◌, ℕ, zero, suc, Bool, true, false, [], ◌∷◌, length, refl, arith}
use Rattle.std.proofs.Common.{ltb-true, ltb-false}
use Rattle.std.specs.Prelude.{nat_lt}
use Rattle.lr_base.specs.Stamps.{Stamp, part, join, set_part, stamp_le}
use Rattle.lr_base.specs.StampLaws.{part-join, part-set_part_other, parts-stamp_le, stamp_le-parts}

part-past : (a : Stamp) (q : ℕ) → length a ≤ q → part a q ≡ 0
part-past [] q past = refl
part-past (x ∷ a) zero past = absurd (omega arith)
part-past (x ∷ a) (suc q) past = part-past a q (omega arith)

-- a stamp is at most another where none of its parts exceeds that one's
pub none-lacking : (a b : Stamp) (n : ℕ) → length a ≤ n → ((q : ℕ) → q < n → part a q ≤ part b q) → stamp_le a b ≡ true
none-lacking a b n long below = stamp_le-parts a b (λ q. go q (nat_lt q n) refl)
  where
    go : (q : ℕ) (s : Bool) → nat_lt q n ≡ s → part a q ≤ part b q
    go q true is = below q (ltb-true q n is)
    go q false is =
        let far : n ≤ q = ltb-false q n is in
        let none = part-past a q (omega arith) in omega arith

-- one of whose parts another has less isn't at most that other
pub lacking : (a b : Stamp) (q : ℕ) → part b q < part a q → stamp_le a b ≡ false
lacking a b q less = go (stamp_le a b) refl
  where
    go : (s : Bool) → stamp_le a b ≡ s → stamp_le a b ≡ false
    go false is = is
    go true is = let most = parts-stamp_le a b is q in absurd (omega arith)

-- where what an update's causes need was there, its own stamp raises no other place
pub raises-own : (val_ts prev : Stamp) (place number q : ℕ) → stamp_le prev val_ts ≡ true → q ≢ place
    → part (join val_ts (set_part prev place number)) q ≡ part val_ts q
raises-own val_ts prev place number q ready other =
    let joined = part-join val_ts (set_part prev place number) q in
    let own = part-set_part_other prev place number q other in
    let most = parts-stamp_le prev val_ts ready q in omega arith
