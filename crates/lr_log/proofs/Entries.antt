-- The order of entries: by call, and then by spot.
use Rattle.std.proofs.Common.{◌≡◌, ◌≢◌, ◌⊎◌, ◌||◌, ◌&&◌, inl, inr, Bool, true, false, refl, sym, ◌∙◌, ap, not, subst}
use Rattle.std.proofs.Common.{arith}
use Rattle.std.proofs.lemmas.Bool.Decides.{nat_tests}
use Rattle.lr_base.specs.Ascending.{cid_before, is_before, same_cid}
use Rattle.lr_base.specs.NameLaws.{before-trans, cid-neither, same_cid-is, same_cid-self, cid-trans, neither-before}
use Rattle.lr_base.specs.declared.names.Cid.{Cid}
use Rattle.lr_base.specs.declared.names.Spot.{Spot}
use Rattle.lr_log.specs.Calls.{entry_before}
use Rattle.lr_log.specs.declared.calls.CallSpot.{CallSpot}
use Rattle.lr_log.specs.Rows.{same_spot}

pub same-cid : (a b : Cid) → a ≡ b → same_cid a b ≡ true
same-cid a b same = rw same (same_cid-self b)

-- an entry before another is of a call before, or of the same call and at a spot before
pub entry-holds : (a b : CallSpot) → entry_before a b ≡ true
    → (cid_before a.cid b.cid ≡ true) ⊎ ((a.cid ≡ b.cid) × (is_before a.spot b.spot ≡ true))
entry-holds a b before = go (cid_before a.cid b.cid) refl (same_cid a.cid b.cid) refl before
  where
    go : (s : Bool) → cid_before a.cid b.cid ≡ s → (t : Bool) → same_cid a.cid b.cid ≡ t
        → (s || (t && is_before a.spot b.spot)) ≡ true
        → (cid_before a.cid b.cid ≡ true) ⊎ ((a.cid ≡ b.cid) × (is_before a.spot b.spot ≡ true))
    go true first t same is = inl first
    go false first true same is = inr (same_cid-is a.cid b.cid same, is)
    go false first false same is = cc

pub entry-shown : (a b : CallSpot)
    → (cid_before a.cid b.cid ≡ true) ⊎ ((a.cid ≡ b.cid) × (is_before a.spot b.spot ≡ true))
    → entry_before a b ≡ true
entry-shown a b (inl first) = rw first refl
entry-shown a b (inr both) = go (cid_before a.cid b.cid) refl
  where
    go : (s : Bool) → cid_before a.cid b.cid ≡ s → entry_before a b ≡ true
    go true first = rw first refl
    go false first = rw (first, same-cid a.cid b.cid both.0, both.1) refl

pub entry-trans : (a b c : CallSpot) → entry_before a b ≡ true → entry_before b c ≡ true → entry_before a c ≡ true
entry-trans a b c one two = go (entry-holds a b one) (entry-holds b c two)
  where
    go : (cid_before a.cid b.cid ≡ true) ⊎ ((a.cid ≡ b.cid) × (is_before a.spot b.spot ≡ true))
        → (cid_before b.cid c.cid ≡ true) ⊎ ((b.cid ≡ c.cid) × (is_before b.spot c.spot ≡ true))
        → entry_before a c ≡ true
    go (inl p) (inl q) = entry-shown a c (inl (cid-trans a.cid b.cid c.cid p q))
    go (inl p) (inr q) = entry-shown a c (inl (subst (λ x. cid_before a.cid x ≡ true) q.0 p))
    go (inr p) (inl q) = entry-shown a c (inl (subst (λ x. cid_before x c.cid ≡ true) (sym p.0) q))
    go (inr p) (inr q) = entry-shown a c (inr (p.0 ∙ q.0, before-trans a.spot b.spot c.spot p.1 q.1))

pub entry-once : (a b : CallSpot) → entry_before a b ≡ true → entry_before b a ≡ false
entry-once a b before = grind (arith, nat_tests)

-- entries neither of which is before the other are the same
entry-neither : (a b : CallSpot) → entry_before a b ≡ false → entry_before b a ≡ false → a ≡ b
entry-neither a b one other =
    let cid : a.cid ≡ b.cid = cid-neither a.cid b.cid (grind (arith, nat_tests)) (grind (arith, nat_tests)) in
    let spot : a.spot ≡ b.spot = neither-before a.spot b.spot (grind (arith, nat_tests)) (grind (arith, nat_tests)) in
    λ i. record { cid = cid i; spot = spot i }

pub entry-one : (a b : CallSpot) → entry_before a b ≡ entry_before b a → a ≡ b
entry-one a b same = entry-neither a b (grind (arith, nat_tests)) (grind (arith, nat_tests))

-- of two entries of other spots one is before the other
pub entry-behind : (a b : CallSpot) → a.spot ≢ b.spot → entry_before a b ≡ false → entry_before b a ≡ true
entry-behind a b apart is = go (entry_before b a) refl
  where
    go : (s : Bool) → entry_before b a ≡ s → entry_before b a ≡ true
    go true other = other
    go false other = absurd (apart (ap (λ (e : CallSpot). e.spot) (entry-neither a b is other)))

-- an entry before one of an earlier call is of an earlier call
pub earlier-call : (cid : Cid) (x y : CallSpot) → entry_before x y ≡ true → cid_before y.cid cid ≡ true
    → cid_before x.cid cid ≡ true
earlier-call cid x y first second = grind (arith, nat_tests)

-- a spot is itself, and not another
pub same_spot-refl : (a : Spot) → same_spot a a ≡ true
same_spot-refl a = grind (arith, nat_tests)

pub same_spot-same : (a b : Spot) → same_spot a b ≡ true → a ≡ b
same_spot-same a b same =
    let place : a.place ≡ b.place = grind (arith, nat_tests) in
    let number : a.number ≡ b.number = grind (arith, nat_tests) in
    λ i. record { place = place i; number = number i }

pub same_spot-apart : (a b : Spot) → a ≢ b → same_spot a b ≡ false
same_spot-apart a b apart = go (same_spot a b) refl
  where
    go : (s : Bool) → same_spot a b ≡ s → same_spot a b ≡ false
    go true same = absurd (apart (same_spot-same a b same))
    go false same = same

-- a test that was turned round
pub not-false : (b : Bool) → not b ≡ false → b ≡ true
not-false true is = refl
not-false false is = cc

pub not-true : (b : Bool) → not b ≡ true → b ≡ false
not-true true is = cc
not-true false is = refl
