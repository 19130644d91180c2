-- Acknowledgements of one place, each behind those of lesser numbers.
use Rattle.std.proofs.Common.{◌≡◌, ◌<◌, ◌≤◌, ◌++◌, ℕ, zero, suc, Bool, true, false, List, [], ◌∷◌, None, Some, refl}
use Rattle.std.proofs.Common.{subst, arith, eq-eqb, lt-ltb}
use Rattle.std.specs.Prelude.{◌||◌, ◌&&◌, nat_lt}
use Rattle.std.specs.List.{AllByRecursion}
use Rattle.lr_base.specs.Ascending.{is_before}
use Rattle.lr_base.specs.Places.{AreInOrder}
use Rattle.lr_base.specs.Logged.{AllAcksReceived}
use Rattle.lr_base.specs.Rules.{is_new}
use Rattle.lr_base.specs.declared.messages.LogAck.{LogAck}

-- each stands at this place, and none has a number past the last
abbrev pub AreUpTo : ℕ → ℕ → List LogAck → Type 0
AreUpTo place last acks = AllByRecursion (λ a. (a.spot.place ≡ place) × (a.spot.number ≤ last)) acks

-- one of a greater number comes behind each
behind : (place last : ℕ) (a b : LogAck) → (a.spot.place ≡ place) × (a.spot.number ≤ last) → b.spot.place ≡ place
    → last < b.spot.number → is_before a.spot b.spot ≡ true
behind place last a b own here past =
    let same = eq-eqb a.spot.place b.spot.place (omega (arith, own.0, here)) in
    let most : a.spot.number ≤ last = own.1 in
    let less = lt-ltb a.spot.number b.spot.number (omega arith) in
    rw (same, less) (or-true (nat_lt a.spot.place b.spot.place))
  where
    or-true : (s : Bool) → (s || (true && true)) ≡ true
    or-true true = refl
    or-true false = refl

-- with it they go up to its number
pub up_to-push : (place last : ℕ) (acks : List LogAck) (b : LogAck) → b.spot.place ≡ place → last < b.spot.number
    → AreUpTo place last acks → AreUpTo place b.spot.number (acks ++ b ∷ [])
up_to-push place last [] b here past all = ((here, omega arith), tt)
up_to-push place last (a ∷ acks) b here past all =
    let most : a.spot.number ≤ last = all.0.1 in
    ((all.0.0, omega arith), up_to-push place last acks b here past all.1)

-- and stand in order
pub in_order-push : (place last : ℕ) (acks : List LogAck) (b : LogAck) → b.spot.place ≡ place → last < b.spot.number
    → AreUpTo place last acks → AreInOrder (λ a. a.spot) acks → AreInOrder (λ a. a.spot) (acks ++ b ∷ [])
in_order-push place last [] b here past all order = (tt, tt)
in_order-push place last (a ∷ acks) b here past all order =
    (each acks order.0, in_order-push place last acks b here past all.1 order.1)
  where
    each : (xs : List LogAck) → AllByRecursion (λ c. is_before a.spot c.spot ≡ true) xs
        → AllByRecursion (λ c. is_before a.spot c.spot ≡ true) (xs ++ b ∷ [])
    each [] none = (behind place last a b all.0 here past, tt)
    each (x ∷ xs) some = (some.0, each xs some.1)

-- and were received, where it was
pub received-push : (rep_ts : List ℕ) (acks : List LogAck) (b : LogAck) → is_new rep_ts b.spot ≡ false
    → AllAcksReceived rep_ts acks → AllAcksReceived rep_ts (acks ++ b ∷ [])
received-push rep_ts [] b own all zero = λ x e.
    let same : b ≡ x = cc in subst (λ (a : LogAck). is_new rep_ts a.spot ≡ false) same own
received-push rep_ts [] b own all (suc k) = λ x e. let none : None ≡ Some x = e in cc
received-push rep_ts (a ∷ acks) b own all zero = all 0
received-push rep_ts (a ∷ acks) b own all (suc k) = received-push rep_ts acks b own (λ j. all (suc j)) k
