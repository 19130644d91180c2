-- How many items a set has.
use Rattle.std.proofs.Common.{◌≡◌, ◌≢◌, ℕ, zero, suc, ◌+◌, ◌<◌, ◌≤◌, Bool, true, false, cond, ◌&&◌, ◌||◌, ◌==◌, ◌⊎◌, inl, inr, nat_le, List, [], ◌∷◌, ◌++◌, length, map, refl, sym, ap, ◌∙◌, arith, true≢false, eqb-true, eq-eqb, leb-true, le-leb}
use Rattle.lr_base.specs.Orders.{IsAmong}
use Rattle.lr_base.specs.Stamps.{part}
use Rattle.lr_base.specs.declared.names.Spot.{Spot}
use Rattle.lr_graph.specs.Closed.{Each}
use Rattle.lr_graph.specs.Graph.{counts, made}
use Rattle.lr_graph.specs.Names.{IsCounted, spot_at}
use Rattle.lr_graph.specs.Sets.{SpotSet, how_many, same_spot}
use Rattle.lr_graph.proofs.Stamps.Central.{counted-has, counted-most}
use Rattle.lr_graph.proofs.Logs.Items.{AreApart}
use Rattle.lr_graph.proofs.Lists.Members.{each-at, each-from, each-map}
use Rattle.lr_graph.proofs.Lists.Tests.{and-intro, and-left, and-right, equal-or-not, never, or-cases, or-left, or-right, same-test, same_spot-is, same_spot-self, spots-apart}

-- ---- counting

module _ {X : Type 0} where
  pub how_many-same : (p q : X → Bool) (xs : List X) → Each (λ x. p x ≡ q x) xs → how_many p xs ≡ how_many q xs
  how_many-same p q [] h = refl
  how_many-same p q (x ∷ xs) h = λ i. cond (h.0 i) (suc (how_many-same p q xs h.1 i)) (how_many-same p q xs h.1 i)

  pub how_many-none : (p : X → Bool) (xs : List X) → Each (λ x. p x ≡ false) xs → how_many p xs ≡ 0
  how_many-none p [] h = refl
  how_many-none p (x ∷ xs) h = ap (λ t. cond t (suc (how_many p xs)) (how_many p xs)) h.0 ∙ how_many-none p xs h.1

  -- of two tests that no element passes both
  pub how_many-either : (p q : X → Bool) (xs : List X) → Each (λ x. p x ≡ true → q x ≡ false) xs → how_many (λ x. p x || q x) xs ≡ how_many p xs + how_many q xs
  how_many-either p q [] h = refl
  how_many-either p q (x ∷ xs) h = at_head (p x) (q x) h.0 (how_many-either p q xs h.1)
    where
      at_head : (s t : Bool) → (s ≡ true → t ≡ false) → how_many (λ x. p x || q x) xs ≡ how_many p xs + how_many q xs
          → cond (s || t) (suc (how_many (λ x. p x || q x) xs)) (how_many (λ x. p x || q x) xs) ≡ cond s (suc (how_many p xs)) (how_many p xs) + cond t (suc (how_many q xs)) (how_many q xs)
      at_head true true out rest = absurd (true≢false (out refl))
      at_head true false out rest = omega arith
      at_head false true out rest = omega arith
      at_head false false out rest = rest

  pub how_many-append : (p : X → Bool) (xs ys : List X) → how_many p (xs ++ ys) ≡ how_many p xs + how_many p ys
  how_many-append p [] ys = omega arith
  how_many-append p (x ∷ xs) ys = at_head (p x) (how_many-append p xs ys)
    where
      at_head : (t : Bool) → how_many p (xs ++ ys) ≡ how_many p xs + how_many p ys
          → cond t (suc (how_many p (xs ++ ys))) (how_many p (xs ++ ys)) ≡ cond t (suc (how_many p xs)) (how_many p xs) + how_many p ys
      at_head true rest = omega arith
      at_head false rest = rest

pub how_many-map : {X Y : Type 0} (f : X → Y) (p : Y → Bool) (xs : List X) → how_many p (map f xs) ≡ how_many (λ x. p (f x)) xs
how_many-map f p [] = refl
how_many-map f p (x ∷ xs) = λ i. cond (p (f x)) (suc (how_many-map f p xs i)) (how_many-map f p xs i)

-- the first so many parts of a stamp
abbrev firsts : List ℕ → ℕ → List ℕ
firsts stamp zero = []
firsts stamp (suc place) = firsts stamp place ++ part stamp place ∷ []

firsts-behind : (x : ℕ) (stamp : List ℕ) (places : ℕ) → firsts (x ∷ stamp) (suc places) ≡ x ∷ firsts stamp places
firsts-behind x stamp zero = refl
firsts-behind x stamp (suc place) = ap (λ (xs : List ℕ). xs ++ part stamp place ∷ []) (firsts-behind x stamp place)

firsts-all : (stamp : List ℕ) → firsts stamp (length stamp) ≡ stamp
firsts-all [] = refl
firsts-all (x ∷ stamp) = firsts-behind x stamp (length stamp) ∙ ap (λ (xs : List ℕ). x ∷ xs) (firsts-all stamp)

module _ (l : List Spot) where
  -- a spot that was taken is that of one acceptance
  pub how_many-only : AreApart l → (s : Spot) → IsAmong s l → how_many (λ a. same_spot a s) l ≡ 1
  how_many-only apart s made = go l apart made
    where
      go : (k : List Spot) → AreApart k → IsAmong s k → how_many (λ a. same_spot a s) k ≡ 1
      go [] apart member = absurd member
      go (b ∷ k) apart (inl e) =
          let spot : b ≡ s = sym e in
          let here : same_spot b s ≡ true = ap (same_spot b) (sym spot) ∙ same_spot-self b in
          let others : how_many (λ c. same_spot c s) k ≡ 0 = how_many-none _ k (each-map _ _ k (λ c h. ap (same_spot c) (sym spot) ∙ h) apart.0) in
          ap (λ t. cond t (suc (how_many (λ c. same_spot c s) k)) (how_many (λ c. same_spot c s) k)) here ∙ ap suc others
      go (b ∷ k) apart (inr member) =
          let out : same_spot b s ≡ false = spots-apart b s (λ same. true≢false (sym (ap (λ x. same_spot x b) (sym same) ∙ same_spot-self b) ∙ each-at _ s k apart.0 member)) in
          ap (λ t. cond t (suc (how_many (λ c. same_spot c s) k)) (how_many (λ c. same_spot c s) k)) out ∙ go k apart.1 member

  -- as many acceptances of a place are numbered up to n as the numbers are
  pub how_many-to : AreApart l → Each (λ a. 0 < a.number) l → (place n : ℕ) → ((k : ℕ) → 1 ≤ k → k ≤ n → IsAmong (spot_at place k) l) → how_many (λ a. (a.place == place) && nat_le a.number n) l ≡ n
  how_many-to apart_l numbered place zero made = how_many-none _ l (each-map _ _ l (λ a some. never _ (λ e. absurd (none a some (leb-true a.number 0 (and-right (a.place == place) _ e))))) numbered)
    where
      none : (a : Spot) → 0 < a.number → a.number ≤ 0 → ⊥
      none a some most = absurd (omega arith)
  how_many-to apart_l numbered place (suc n) made =
      let rest = how_many-to apart_l numbered place n (λ k least most. made k least (omega arith)) in
      let one = how_many-only apart_l (spot_at place (suc n)) (made (suc n) (omega arith) (omega arith)) in
      how_many-same _ (λ a. ((a.place == place) && nat_le a.number n) || same_spot a (spot_at place (suc n))) l (each-from _ l (λ a member. split a))
      ∙ how_many-either (λ a. (a.place == place) && nat_le a.number n) (λ a. same_spot a (spot_at place (suc n))) l (each-from _ l (λ a member e. apart a e))
      ∙ (λ i. rest i + one i) ∙ omega arith
    where
      apart : (a : Spot) → ((a.place == place) && nat_le a.number n) ≡ true → same_spot a (spot_at place (suc n)) ≡ false
      apart a e = spots-apart a (spot_at place (suc n)) (λ same.
          let number : a.number ≡ suc n = ap (λ (s : Spot). s.number) same in
          let most = leb-true a.number n (and-right (a.place == place) _ e) in
          absurd (omega arith))

      split : (a : Spot) → ((a.place == place) && nat_le a.number (suc n)) ≡ (((a.place == place) && nat_le a.number n) || same_spot a (spot_at place (suc n)))
      split a = same-test _ _ there back
        where
          there : ((a.place == place) && nat_le a.number (suc n)) ≡ true → (((a.place == place) && nat_le a.number n) || same_spot a (spot_at place (suc n))) ≡ true
          there e = by_number (equal-or-not a.number (suc n))
            where
              in_place : (a.place == place) ≡ true
              in_place = and-left (a.place == place) _ e

              by_number : (a.number ≡ suc n) ⊎ (a.number ≢ suc n) → (((a.place == place) && nat_le a.number n) || same_spot a (spot_at place (suc n))) ≡ true
              by_number (inl q) = or-right _ _ (and-intro (a.place == place) _ in_place (eq-eqb a.number (suc n) q))
              by_number (inr ne) =
                  let most = leb-true a.number (suc n) (and-right (a.place == place) _ e) in
                  or-left _ _ (and-intro (a.place == place) _ in_place (le-leb a.number n (omega arith)))

          back : (((a.place == place) && nat_le a.number n) || same_spot a (spot_at place (suc n))) ≡ true → ((a.place == place) && nat_le a.number (suc n)) ≡ true
          back e = by_part (or-cases ((a.place == place) && nat_le a.number n) _ e)
            where
              by_part : (((a.place == place) && nat_le a.number n) ≡ true) ⊎ (same_spot a (spot_at place (suc n)) ≡ true) → ((a.place == place) && nat_le a.number (suc n)) ≡ true
              by_part (inl h) =
                  let most = leb-true a.number n (and-right (a.place == place) _ h) in
                  and-intro (a.place == place) _ (and-left (a.place == place) _ h) (le-leb a.number (suc n) (omega arith))
              by_part (inr h) =
                  let is = same_spot-is a (spot_at place (suc n)) h in
                  let number : a.number ≡ suc n = ap (λ (s : Spot). s.number) is in
                  and-intro (a.place == place) _ (eq-eqb a.place place (ap (λ (s : Spot). s.place) is)) (le-leb a.number (suc n) (omega arith))

  module _ (apart_l : AreApart l) (numbered : Each (λ a. 0 < a.number) l) (r : SpotSet) (rep : List ℕ) (counted : IsCounted r rep) (exist : (s : Spot) → r s ≡ true → IsAmong s l) where
    -- as many acceptances of a place were received as the stamp counts
    pub received-count : (place : ℕ) → how_many (λ a. (a.place == place) && r a) l ≡ part rep place
    received-count place =
        how_many-same _ _ l (each-from _ l (λ a member. within a member))
        ∙ how_many-to apart_l numbered place (part rep place) (λ k least most. exist (spot_at place k) (counted-has r rep counted (spot_at place k) least most))
      where
        within : (a : Spot) → IsAmong a l → ((a.place == place) && r a) ≡ ((a.place == place) && nat_le a.number (part rep place))
        within a member = at_place (a.place == place) refl
          where
            at_place : (t : Bool) → (a.place == place) ≡ t → (t && r a) ≡ (t && nat_le a.number (part rep place))
            at_place false e = refl
            at_place true e =
                let same : part rep a.place ≡ part rep place = ap (part rep) (eqb-true a.place place e) in
                same-test _ _
                (λ here. le-leb a.number _ (let most = counted-most r rep counted a here in omega arith))
                (λ most. counted-has r rep counted a (let some = each-at _ a l numbered member in omega arith) (let m = leb-true a.number _ most in omega arith))

    -- and as many were made at a place as it has received of its own
    pub made-count : (place : ℕ) → ((a : Spot) → IsAmong a l → a.place ≡ place → r a ≡ true) → made l place ≡ part rep place
    made-count place own = how_many-same _ _ l (each-from _ l (λ a member. all a member (a.place == place) refl)) ∙ received-count place
      where
        all : (a : Spot) → IsAmong a l → (t : Bool) → (a.place == place) ≡ t → t ≡ (t && r a)
        all a member true e = sym (own a member (eqb-true a.place place e))
        all a member false e = refl

    -- so the counts are the stamp's first parts
    pub counts-firsts : (places : ℕ) → counts l r places ≡ firsts rep places
    counts-firsts zero = refl
    counts-firsts (suc place) = λ i. counts-firsts place i ++ received-count place i ∷ []

    pub counts-are : (places : ℕ) → length rep ≡ places → counts l r places ≡ rep
    counts-are places long = counts-firsts places ∙ ap (firsts rep) (sym long) ∙ firsts-all rep
