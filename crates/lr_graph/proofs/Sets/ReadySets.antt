-- What is ready, what is below an acceptance, and the sets that stamps stand for.
use Rattle.std.proofs.Common.{◌≡◌, ◌≢◌, ℕ, ◌<◌, ◌≤◌, Bool, true, false, not, ◌&&◌, ◌||◌, ◌⊎◌, inl, inr, List, [], ◌∷◌, refl, sym, ap, ◌∙◌, subst, true≢false, arith}
use Rattle.lr_base.specs.Orders.{IsAmong}
use Rattle.lr_base.specs.Rules.{stamp_of}
use Rattle.lr_base.specs.StampLaws.{part-join, part-set_part, part-set_part_other}
use Rattle.lr_base.specs.Stamps.{part, join, set_part}
use Rattle.lr_base.specs.declared.messages.LogUpdate.{LogUpdate}
use Rattle.lr_base.specs.declared.names.Spot.{Spot}
use Rattle.lr_graph.specs.Closed.{IsWithin, IsClosed, IsAccepted, IsSound, HasApartSpots, HasOlderCauses, causes}
use Rattle.lr_graph.specs.Graph.{Acceptance, is_within, ready}
use Rattle.lr_graph.specs.Names.{Names, spot_at}
use Rattle.lr_graph.specs.Sets.{SpotSet, same_spot, only, ◌∪◌}
use Rattle.lr_graph.proofs.Lists.Members.{each-at, each-from, each-map, list_all-each, each-list_all, list_any-among, among-list_any}
use Rattle.lr_graph.proofs.Lists.Tests.{and-intro, and-left, and-right, or-cases, or-left, or-right, implied, implies, same-test, le-or-lt, equal-or-not, same_spot-is, same_spot-self}
use Rattle.lr_graph.proofs.Related.Ties.{StandsFor}

-- two acceptances of one spot are one
pub apart-same : {Op : Type 0} (l : List (Acceptance Op)) → HasApartSpots l → (a b : Acceptance Op) → IsAmong a l → IsAmong b l → a.spot ≡ b.spot → a ≡ b
apart-same [] apart a b in_a in_b e = absurd in_a
apart-same (x ∷ l) apart a b (inl p) (inl q) e = p ∙ sym q
apart-same {Op} (x ∷ l) apart a b (inl p) (inr q) e =
    let one : same_spot b.spot x.spot ≡ true = ap (λ (c : Acceptance Op). same_spot b.spot c.spot) (sym p) ∙ ap (same_spot b.spot) e ∙ same_spot-self b.spot in
    absurd (true≢false (sym one ∙ each-at _ b l apart.0 q))
apart-same {Op} (x ∷ l) apart a b (inr p) (inl q) e =
    let one : same_spot a.spot x.spot ≡ true = ap (λ (c : Acceptance Op). same_spot a.spot c.spot) (sym q) ∙ ap (same_spot a.spot) (sym e) ∙ same_spot-self a.spot in
    absurd (true≢false (sym one ∙ each-at _ a l apart.0 p))
apart-same (x ∷ l) apart a b (inr p) (inr q) e = apart-same l apart.1 a b p q e

-- ---- what is ready

module _ {Op : Type 0} (l : List (Acceptance Op)) where
  pub within-holds : (x y : SpotSet) → is_within l x y ≡ true → IsWithin l x y
  within-holds x y e = each-map _ _ l (λ a h. implies (x a.spot) (y a.spot) h) (list_all-each _ l e)

  pub holds-within : (x y : SpotSet) → IsWithin l x y → is_within l x y ≡ true
  holds-within x y h = each-list_all _ l (each-map _ _ l (λ a f. implied (x a.spot) (y a.spot) f) h)

  -- a ready spot is that of an acceptance that was received with all that is below it
  pub ready-holds : (r : SpotSet) (s : Spot) → ready l r s ≡ true → (a : Acceptance Op) × IsAmong a l × (s ≡ a.spot) × (r a.spot ≡ true) × IsWithin l a.below r
  ready-holds r s e =
      let found = list_any-among (λ a. same_spot s a.spot && (r a.spot && is_within l a.below r)) l e in
      let a = found.0 in
      let test : (r a.spot && is_within l a.below r) ≡ true = and-right (same_spot s a.spot) _ found.2 in
      (a, found.1, same_spot-is s a.spot (and-left (same_spot s a.spot) _ found.2), and-left (r a.spot) _ test, within-holds a.below r (and-right (r a.spot) _ test))

  pub holds-ready : (r : SpotSet) (a : Acceptance Op) → IsAmong a l → r a.spot ≡ true → IsWithin l a.below r → ready l r a.spot ≡ true
  holds-ready r a member here below =
      let test : (r a.spot && is_within l a.below r) ≡ true = and-intro (r a.spot) _ here (holds-within a.below r below) in
      among-list_any (λ b. same_spot a.spot b.spot && (r b.spot && is_within l b.below r)) a l member (and-intro (same_spot a.spot a.spot) _ (same_spot-self a.spot) test)

  pub ready-received : (r : SpotSet) (s : Spot) → ready l r s ≡ true → r s ≡ true
  ready-received r s e = let h = ready-holds r s e in ap r h.2 ∙ h.3

  -- all that is below a ready acceptance is ready
  pub ready-closed : (r : SpotSet) → IsSound l → IsClosed l (ready l r)
  ready-closed r sound = each-from _ l (λ a in_a is_ready.
      let h = ready-holds r a.spot is_ready in
      let same : h.0 ≡ a = sym (apart-same l sound.apart a h.0 in_a h.1 h.2) in
      let inside : IsWithin l a.below r = subst (λ (x : Acceptance Op). IsWithin l x.below r) same h.4 in
      each-from _ l (λ b in_b below_a.
      let under = each-at _ b l (each-at _ a l sound.closed in_a) in_b below_a in
      holds-ready r b in_b (each-at _ b l inside in_b below_a)
      (each-from _ l (λ c in_c below_b. each-at _ c l inside in_c (each-at _ c l under in_c below_b)))))

  -- a closed set of what was received is ready
  pub ready-greatest : (r x : SpotSet) → IsWithin l x r → IsClosed l x → IsWithin l x (ready l r)
  ready-greatest r x inside closed = each-from _ l (λ a in_a here.
      let under = each-at _ a l closed in_a here in
      holds-ready r a in_a (each-at _ a l inside in_a here)
      (each-from _ l (λ b in_b below_a. each-at _ b l inside in_b (each-at _ b l under in_b below_a))))

-- ---- what is below an acceptance

pub self-below : {Op : Type 0} (l : List (Acceptance Op)) → HasOlderCauses l → (a : Acceptance Op) → IsAmong a l → a.below a.spot ≡ true
self-below [] older a member = absurd member
self-below {Op} (b ∷ l) older a (inl e) = ap (λ (c : Acceptance Op). c.below c.spot) e ∙ older.0
self-below (b ∷ l) older a (inr member) = self-below l older.2 a member

pub causes-accepted : {Op : Type 0} (l : List (Acceptance Op)) → HasOlderCauses l → (a : Acceptance Op) → IsAmong a l → (s : Spot) → causes a s ≡ true → IsAccepted l s
causes-accepted [] older a member s h = absurd member
causes-accepted {Op} (b ∷ l) older a (inl e) s h =
    let made = older.1 s (ap (λ (c : Acceptance Op). causes c s) (sym e) ∙ h) in
    (made.0, inr made.1, made.2)
causes-accepted (b ∷ l) older a (inr member) s h =
    let made = causes-accepted l older.2 a member s h in
    (made.0, inr made.1, made.2)

-- below an acceptance are its causes and itself
pub below-parts : {Op : Type 0} (a : Acceptance Op) → a.below a.spot ≡ true → (s : Spot) → a.below s ≡ (causes a s || same_spot s a.spot)
below-parts a self s = same-test _ _ (λ h. parted h (same_spot s a.spot) refl) (λ h. elim (or-cases (causes a s) _ h) [
  | inl k ↦ and-left (a.below s) _ k
  | inr k ↦ ap a.below (same_spot-is s a.spot k) ∙ self
])
  where
    parted : a.below s ≡ true → (t : Bool) → same_spot s a.spot ≡ t → ((a.below s && not t) || t) ≡ true
    parted h true e = or-right (a.below s && false) true refl
    parted h false e = or-left (a.below s && true) false (and-intro (a.below s) true h refl)

pub below-accepted : {Op : Type 0} (l : List (Acceptance Op)) → IsSound l → (a : Acceptance Op) → IsAmong a l → (s : Spot) → a.below s ≡ true → IsAccepted l s
below-accepted {Op} l sound a member s h = by_part (or-cases (causes a s) _ (sym (below-parts a (self-below l sound.older a member) s) ∙ h))
  where
    by_part : (causes a s ≡ true) ⊎ (same_spot s a.spot ≡ true) → IsAccepted l s
    by_part (inl k) = causes-accepted l sound.older a member s k
    by_part (inr k) = (a, member, sym (same_spot-is s a.spot k))

-- ---- the sets that stamps stand for

pub names-same : (stamp : List ℕ) (x y : SpotSet) → ((s : Spot) → x s ≡ y s) → Names stamp x → Names stamp y
names-same stamp x y same n = record {
  above = λ s h. n.above s (same s ∙ h);
  reached = λ place some. sym (same (spot_at place (part stamp place))) ∙ n.reached place some;
}

-- a join stands for what either stamp stands for
pub names-join : (s t : List ℕ) (x y : SpotSet) → Names s x → Names t y → Names (join s t) (x ∪ y)
names-join s t x y f g = record {
  above = λ a h. elim (or-cases (x a) (y a) h) [
    | inl k ↦ let low = f.above a k in omega (arith, part-join s t a.place)
    | inr k ↦ let low = g.above a k in omega (arith, part-join s t a.place)
  ];
  reached = λ place some. by_greater place some (le-or-lt (part s place) (part t place));
}
  where
    by_greater : (place : ℕ) → 0 < part (join s t) place → (part t place ≤ part s place) ⊎ (part s place < part t place) → (x ∪ y) (spot_at place (part (join s t) place)) ≡ true
    by_greater place some (inl le) =
        let first : part (join s t) place ≡ part s place = omega (arith, part-join s t place) in
        or-left _ _ (ap (λ n. x (spot_at place n)) first ∙ f.reached place (omega arith))
    by_greater place some (inr lt) =
        let second : part (join s t) place ≡ part t place = omega (arith, part-join s t place) in
        or-right _ _ (ap (λ n. y (spot_at place n)) second ∙ g.reached place (omega arith))

-- with a part raised to a number a stamp stands for that spot too
pub names-set_part : (s : List ℕ) (x : SpotSet) (place number : ℕ) → Names s x → part s place < number → Names (set_part s place number) (x ∪ only (spot_at place number))
names-set_part s x place number f rises = record {
  above = λ a h. elim (or-cases (x a) _ h) [
    | inl k ↦ old a k (equal-or-not a.place place)
    | inr k ↦ new a (same_spot-is a (spot_at place number) k)
  ];
  reached = λ q some. at_place q some (equal-or-not q place);
}
  where
    raised : (q : ℕ) → q ≡ place → part (set_part s place number) q ≡ number
    raised q e = ap (part (set_part s place number)) e ∙ part-set_part s place number

    old : (a : Spot) → x a ≡ true → (a.place ≡ place) ⊎ (a.place ≢ place) → a.number ≤ part (set_part s place number) a.place
    old a h (inl e) =
        let low = f.above a h in
        let here = raised a.place e in
        let before : part s a.place ≡ part s place = ap (part s) e in
        omega arith
    old a h (inr other) =
        let low = f.above a h in
        omega (arith, part-set_part_other s place number a.place other)

    new : (a : Spot) → a ≡ spot_at place number → a.number ≤ part (set_part s place number) a.place
    new a e =
        let own : a.number ≡ number = ap (λ (b : Spot). b.number) e in
        let here = raised a.place (ap (λ (b : Spot). b.place) e) in
        omega arith

    at_place : (q : ℕ) → 0 < part (set_part s place number) q → (q ≡ place) ⊎ (q ≢ place) → (x ∪ only (spot_at place number)) (spot_at q (part (set_part s place number) q)) ≡ true
    at_place q some (inl e) =
        let one : spot_at q (part (set_part s place number) q) ≡ spot_at place number = λ i. spot_at (e i) (raised q e i) in
        or-right _ _ (ap (only (spot_at place number)) one ∙ same_spot-self (spot_at place number))
    at_place q some (inr other) =
        let stays : part (set_part s place number) q ≡ part s q = part-set_part_other s place number q other in
        or-left _ _ (ap (λ n. x (spot_at q n)) stays ∙ f.reached q (omega arith))

-- the stamp of an update stands for what is below its acceptance
pub update-stamp : {Op : Type 0} (l : List (Acceptance Op)) → IsSound l → (u : LogUpdate Op) (a : Acceptance Op) → StandsFor l u a → Names (stamp_of u) a.below
update-stamp l sound u a stands =
    let parts = below-parts a (self-below l sound.older a stands.among) in
    names-same _ _ _ (λ s. ap (λ k. causes a s || same_spot s k) stands.spot ∙ sym (parts s))
    (names-set_part u.prev (causes a) u.spot.place u.spot.number stands.prev stands.rises)
