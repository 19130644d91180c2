-- The calls and the value of a set with one acceptance more.
use Rattle.std.proofs.Common.{◌≡◌, Bool, true, false, cond, not, ◌&&◌, ◌||◌, ◌⊎◌, inl, inr, List, [], ◌∷◌, refl, sym, ap, ◌∙◌}
use Rattle.lr_base.specs.Ascending.{same_cid}
use Rattle.lr_base.specs.Meaning.{Meaning}
use Rattle.lr_base.specs.Orders.{IsAmong}
pub use Rattle.lr_base.specs.Orders.{Commute}
use Rattle.lr_base.specs.declared.names.Cid.{Cid}
use Rattle.lr_graph.specs.Closed.{Each, HasApartSpots}
use Rattle.lr_graph.specs.Graph.{Acceptance, has_call, value}
use Rattle.lr_graph.specs.Sets.{SpotSet, same_spot, only, ◌∪◌}
use Rattle.lr_graph.proofs.Lists.Members.{each-at, each-map, list_any-among, among-list_any}
use Rattle.lr_graph.proofs.Sets.ReadySets.{apart-same}
use Rattle.lr_graph.proofs.Lists.Tests.{and-intro, and-left, and-right, or-cases, or-left, or-right, or-false, or-false_left, or-false_right, same-test, same_spot-is, same_spot-self, same_spot-sym, same_cid-is, same_cid-self, same_cid-sym}

-- ---- the calls of a set

module _ {Op : Type 0} (l : List (Acceptance Op)) where
  pub has_call-holds : (x : SpotSet) (cid : Cid) → has_call l x cid ≡ true → (a : Acceptance Op) × IsAmong a l × (x a.spot ≡ true) × (a.cid ≡ cid)
  has_call-holds x cid e =
      let found = list_any-among (λ a. x a.spot && same_cid cid a.cid) l e in
      (found.0, found.1, and-left (x found.0.spot) _ found.2, sym (same_cid-is cid found.0.cid (and-right (x found.0.spot) _ found.2)))

  pub holds-has_call : (x : SpotSet) (cid : Cid) (a : Acceptance Op) → IsAmong a l → x a.spot ≡ true → a.cid ≡ cid → has_call l x cid ≡ true
  holds-has_call x cid a member here is =
      among-list_any (λ b. x b.spot && same_cid cid b.cid) a l member (and-intro (x a.spot) _ here (ap (same_cid cid) is ∙ same_cid-self cid))

  -- a wider set has no fewer calls
  pub has_call-wider : (x y : SpotSet) (cid : Cid) → ((a : Acceptance Op) → IsAmong a l → x a.spot ≡ true → y a.spot ≡ true) → has_call l x cid ≡ true → has_call l y cid ≡ true
  has_call-wider x y cid into h = let a = has_call-holds x cid h in holds-has_call y cid a.0 a.1 (into a.0 a.1 a.2) a.3

  -- one acceptance more is one call more
  pub has_call-more : (x : SpotSet) (a : Acceptance Op) → HasApartSpots l → IsAmong a l → (cid : Cid) → has_call l (x ∪ only a.spot) cid ≡ (same_cid cid a.cid || has_call l x cid)
  has_call-more x a apart member cid = same-test _ _ from_wider to_wider
    where
      from_wider : has_call l (x ∪ only a.spot) cid ≡ true → (same_cid cid a.cid || has_call l x cid) ≡ true
      from_wider h =
          let b = has_call-holds (x ∪ only a.spot) cid h in
          by_part b.0 b.1 b.3 (or-cases (x b.0.spot) _ b.2)
        where
          by_part : (b : Acceptance Op) → IsAmong b l → b.cid ≡ cid → (x b.spot ≡ true) ⊎ (same_spot b.spot a.spot ≡ true) → (same_cid cid a.cid || has_call l x cid) ≡ true
          by_part b in_l is (inl here) = or-right (same_cid cid a.cid) _ (holds-has_call x cid b in_l here is)
          by_part b in_l is (inr one) =
              let same : b ≡ a = apart-same l apart b a in_l member (same_spot-is b.spot a.spot one) in
              or-left (same_cid cid a.cid) _ (ap (same_cid cid) (ap (λ (c : Acceptance Op). c.cid) (sym same) ∙ is) ∙ same_cid-self cid)

      to_wider : (same_cid cid a.cid || has_call l x cid) ≡ true → has_call l (x ∪ only a.spot) cid ≡ true
      to_wider h = elim (or-cases (same_cid cid a.cid) _ h) [
        | inl is ↦ holds-has_call (x ∪ only a.spot) cid a member (or-right (x a.spot) _ (same_spot-self a.spot)) (sym (same_cid-is cid a.cid is))
        | inr has ↦ has_call-wider x (x ∪ only a.spot) cid (λ b in_l here. or-left (x b.spot) _ here) has
      ]

pub has_call-same : {Op : Type 0} (l : List (Acceptance Op)) (x y : SpotSet) (cid : Cid) → Each (λ a. x a.spot ≡ y a.spot) l → has_call l x cid ≡ has_call l y cid
has_call-same [] x y cid same = refl
has_call-same (a ∷ l) x y cid same = λ i. (same.0 i && same_cid cid a.cid) || has_call-same l x y cid same.1 i

-- ---- the value of a set

-- an acceptance commutes with each of the set that was made after it
abbrev pub CommutesWithNewer : {Value Op : Type 0} → Meaning Value Op → SpotSet → Acceptance Op → List (Acceptance Op) → Type 0
CommutesWithNewer m x a [] = Unit {0}
CommutesWithNewer m x a (b ∷ l) = (IsAmong a l → x b.spot ≡ true → Commute m a.op b.op) × CommutesWithNewer m x a l

module _ {Value Op : Type 0} (m : Meaning Value Op) where
  -- what commutes with all commutes with the newer ones
  pub commutes-newer : (x : SpotSet) (a : Acceptance Op) (l : List (Acceptance Op)) → Each (λ b. Commute m a.op b.op) l → CommutesWithNewer m x a l
  commutes-newer x a [] all = tt
  commutes-newer x a (b ∷ l) all = ((λ older here. all.0), commutes-newer x a l all.1)

  -- the value depends on which of the acceptances are in the set
  pub value-same : (l : List (Acceptance Op)) (x y : SpotSet) → Each (λ a. x a.spot ≡ y a.spot) l → value m l x ≡ value m l y
  value-same [] x y same = refl
  value-same (a ∷ l) x y same =
      λ i. cond (same.0 i && not (has_call-same l x y a.cid same.1 i)) (m.apply (value-same l x y same.1 i) a.op) (value-same l x y same.1 i)

  -- the value after the newest acceptance, once its tests are known
  value-newest : (b : Acceptance Op) (l : List (Acceptance Op)) (x : SpotSet) (here before : Bool) → x b.spot ≡ here → has_call l x b.cid ≡ before
      → value m (b ∷ l) x ≡ cond (here && not before) (m.apply (value m l x) b.op) (value m l x)
  value-newest b l x here before e f = λ i. cond (e i && not (f i)) (m.apply (value m l x) b.op) (value m l x)

  -- where the set lacks it, the newest acceptance makes no difference
  value-lacks : (b : Acceptance Op) (l : List (Acceptance Op)) (x : SpotSet) → x b.spot ≡ false → value m (b ∷ l) x ≡ value m l x
  value-lacks b l x e = value-newest b l x false (has_call l x b.cid) e refl

  -- an acceptance that isn't among the others makes no difference to them
  only-others : (l : List (Acceptance Op)) (x : SpotSet) (a : Acceptance Op) → Each (λ b. same_spot b.spot a.spot ≡ false) l → Each (λ b. (x ∪ only a.spot) b.spot ≡ x b.spot) l
  only-others l x a apart = each-map _ _ l (λ b other. or-false (x b.spot) _ other) apart

  -- an acceptance of a call that the set lacks may be applied last
  pub value-new : (l : List (Acceptance Op)) (x : SpotSet) (a : Acceptance Op) → HasApartSpots l → IsAmong a l → x a.spot ≡ false → has_call l x a.cid ≡ false
      → CommutesWithNewer m x a l → value m l (x ∪ only a.spot) ≡ m.apply (value m l x) a.op
  value-new [] x a apart member out none commutes = absurd member
  value-new (b ∷ l) x a apart (inl e) out none commutes =
      let others : Each (λ c. (x ∪ only a.spot) c.spot ≡ x c.spot) l = only-others l x a (each-map _ _ l (λ c other. ap (λ (d : Acceptance Op). same_spot c.spot d.spot) e ∙ other) apart.0) in
      let here : (x ∪ only a.spot) b.spot ≡ true = or-right (x b.spot) _ (ap (λ (d : Acceptance Op). same_spot b.spot d.spot) e ∙ same_spot-self b.spot) in
      let lacks : has_call l x b.cid ≡ false = ap (λ (d : Acceptance Op). has_call l x d.cid) (sym e) ∙ or-false_right (x b.spot && same_cid a.cid b.cid) _ none in
      value-newest b l (x ∪ only a.spot) true false here (has_call-same l (x ∪ only a.spot) x b.cid others ∙ lacks)
      ∙ ap (λ v. m.apply v b.op) (value-same l (x ∪ only a.spot) x others)
      ∙ ap (λ (d : Acceptance Op). m.apply (value m l x) d.op) (sym e)
      ∙ ap (λ v. m.apply v a.op) (sym (value-lacks b l x (ap (λ (d : Acceptance Op). x d.spot) (sym e) ∙ out)))
  value-new (b ∷ l) x a apart (inr member) out none commutes =
      let other : same_spot b.spot a.spot ≡ false = same_spot-sym b.spot a.spot ∙ each-at _ a l apart.0 member in
      by_newest (x b.spot) refl (or-false (x b.spot) _ other) (value-new l x a apart.1 member out (or-false_right (x b.spot && same_cid a.cid b.cid) _ none) commutes.1)
    where
      by_newest : (here : Bool) → x b.spot ≡ here → (x ∪ only a.spot) b.spot ≡ x b.spot → value m l (x ∪ only a.spot) ≡ m.apply (value m l x) a.op
          → value m (b ∷ l) (x ∪ only a.spot) ≡ m.apply (value m (b ∷ l) x) a.op
      by_newest false e stays rest = value-lacks b l (x ∪ only a.spot) (stays ∙ e) ∙ rest ∙ ap (λ v. m.apply v a.op) (sym (value-lacks b l x e))
      by_newest true e stays rest =
          let apart_calls : same_cid b.cid a.cid ≡ false = same_cid-sym b.cid a.cid ∙ ap (λ t. t && same_cid a.cid b.cid) (sym e) ∙ or-false_left (x b.spot && same_cid a.cid b.cid) _ none in
          let calls : has_call l (x ∪ only a.spot) b.cid ≡ has_call l x b.cid = has_call-more l x a apart.1 member b.cid ∙ ap (λ t. t || has_call l x b.cid) apart_calls in
          by_call (has_call l x b.cid) refl calls
        where
          by_call : (before : Bool) → has_call l x b.cid ≡ before → has_call l (x ∪ only a.spot) b.cid ≡ has_call l x b.cid
              → value m (b ∷ l) (x ∪ only a.spot) ≡ m.apply (value m (b ∷ l) x) a.op
          by_call true f calls =
              value-newest b l (x ∪ only a.spot) true true (stays ∙ e) (calls ∙ f) ∙ rest ∙ ap (λ v. m.apply v a.op) (sym (value-newest b l x true true e f))
          by_call false f calls =
              value-newest b l (x ∪ only a.spot) true false (stays ∙ e) (calls ∙ f)
              ∙ ap (λ v. m.apply v b.op) rest
              ∙ commutes.0 member e (value m l x)
              ∙ ap (λ v. m.apply v a.op) (sym (value-newest b l x true false e f))

  -- an acceptance of a call that the set has makes no difference
  pub value-again : (l : List (Acceptance Op)) (x : SpotSet) (a : Acceptance Op) → HasApartSpots l → Each (λ b. a.cid ≡ b.cid → a.op ≡ b.op) l → IsAmong a l
      → x a.spot ≡ false → has_call l x a.cid ≡ true → CommutesWithNewer m x a l → value m l (x ∪ only a.spot) ≡ value m l x
  value-again [] x a apart one_op member out has commutes = absurd member
  value-again (b ∷ l) x a apart one_op (inl e) out has commutes =
      let others : Each (λ c. (x ∪ only a.spot) c.spot ≡ x c.spot) l = only-others l x a (each-map _ _ l (λ c other. ap (λ (d : Acceptance Op). same_spot c.spot d.spot) e ∙ other) apart.0) in
      let here : (x ∪ only a.spot) b.spot ≡ true = or-right (x b.spot) _ (ap (λ (d : Acceptance Op). same_spot b.spot d.spot) e ∙ same_spot-self b.spot) in
      let lacks : x b.spot ≡ false = ap (λ (d : Acceptance Op). x d.spot) (sym e) ∙ out in
      let before : has_call l x b.cid ≡ true = ap (λ (d : Acceptance Op). has_call l x d.cid) (sym e) ∙ sym (ap (λ t. (t && same_cid a.cid b.cid) || has_call l x a.cid) lacks) ∙ has in
      value-newest b l (x ∪ only a.spot) true true here (has_call-same l (x ∪ only a.spot) x b.cid others ∙ before)
      ∙ value-same l (x ∪ only a.spot) x others
      ∙ sym (value-lacks b l x lacks)
  value-again (b ∷ l) x a apart one_op (inr member) out has commutes =
      let other : same_spot b.spot a.spot ≡ false = same_spot-sym b.spot a.spot ∙ each-at _ a l apart.0 member in
      by_older (has_call l x a.cid) refl (or-false (x b.spot) _ other) (value-again l x a apart.1 one_op.1 member out)
    where
      by_older : (older : Bool) → has_call l x a.cid ≡ older → (x ∪ only a.spot) b.spot ≡ x b.spot
          → (has_call l x a.cid ≡ true → CommutesWithNewer m x a l → value m l (x ∪ only a.spot) ≡ value m l x) → value m (b ∷ l) (x ∪ only a.spot) ≡ value m (b ∷ l) x
      by_older true e stays rest =
          let calls : has_call l (x ∪ only a.spot) b.cid ≡ has_call l x b.cid = has_call-more l x a apart.1 member b.cid ∙ absorbed (same_cid b.cid a.cid) refl in
          let same : value m l (x ∪ only a.spot) ≡ value m l x = rest e commutes.1 in
          λ i. cond (stays i && not (calls i)) (m.apply (same i) b.op) (same i)
        where
          absorbed : (t : Bool) → same_cid b.cid a.cid ≡ t → (t || has_call l x b.cid) ≡ has_call l x b.cid
          absorbed true q = sym (ap (has_call l x) (same_cid-is b.cid a.cid q) ∙ e)
          absorbed false q = refl
      by_older false e stays rest =
          let newest : (x b.spot && same_cid a.cid b.cid) ≡ true = sym (or-false (x b.spot && same_cid a.cid b.cid) _ e) ∙ has in
          let here : x b.spot ≡ true = and-left (x b.spot) _ newest in
          let one : a.cid ≡ b.cid = same_cid-is a.cid b.cid (and-right (x b.spot) _ newest) in
          let now : has_call l (x ∪ only a.spot) b.cid ≡ true = has_call-more l x a apart.1 member b.cid ∙ or-left (same_cid b.cid a.cid) _ (ap (same_cid b.cid) one ∙ same_cid-self b.cid) in
          value-newest b l (x ∪ only a.spot) true true (stays ∙ here) now
          ∙ value-new l x a apart.1 member out e commutes.1
          ∙ ap (m.apply (value m l x)) (one_op.0 one)
          ∙ sym (value-newest b l x true false here (ap (has_call l x) (sym one) ∙ e))
