-- Every order of a set's acceptances that agrees where kinds need one order gives the set's value, and the order of making is one.
use Rattle.std.proofs.Common.{◌≡◌, ◌≢◌, ℕ, Bool, true, false, cond, not, ◌&&◌, ◌||◌, if◌then◌else◌, ◌⊎◌, inl, inr, List, [], ◌∷◌, ◌++◌, filter, refl, sym, ap, ◌∙◌, subst, true≢false}
use Rattle.lr_base.specs.Ascending.{same_cid}
use Rattle.lr_base.specs.Kinds.{IsUpdate, are_ordered, is_query}
use Rattle.lr_base.specs.Meaning.{Encoding, Lawful, Meaning}
use Rattle.lr_base.specs.OrderLaws.{apply_all-behind, before-first, before-second, one-value, ordered-opposites}
use Rattle.lr_base.specs.Orders.{AgreeWhereOrdered, AreUpdates, HasEachOnce, HasSameUpdates, IsAmong, Keyed, apply_all}
use Rattle.lr_base.specs.declared.events.Step.{Step}
use Rattle.lr_base.specs.declared.lr_service.Kind.{Kind}
use Rattle.lr_base.specs.declared.names.Cid.{Cid}
use Rattle.lr_base.specs.declared.names.Config.{Config}
use Rattle.lr_graph.specs.Central.{facts_after}
use Rattle.lr_graph.specs.Closed.{Each, HasApartSpots, HasOlderCauses, IsSound, causes}
use Rattle.lr_graph.specs.Graph.{Acceptance, first_facts, has_call, ready, value}
use Rattle.lr_graph.specs.Legal.{IsLegal}
use Rattle.lr_graph.specs.Orderings.{FollowsCauses, IsOrderOf, everything}
use Rattle.lr_graph.specs.Sets.{SpotSet, same_spot}
use Rattle.lr_graph.proofs.Histories.Law.{legal-same}
use Rattle.lr_graph.proofs.Lists.Members.{among-filter, among-left, among-right, each-at, each-from, each-map, filter-each}
use Rattle.lr_graph.proofs.Sets.ReadySets.{below-parts, causes-accepted, self-below}
use Rattle.lr_graph.proofs.Related.Relation.{calls_in}
use Rattle.lr_graph.proofs.Replicas.Stepping.{all-free, one-call}
use Rattle.lr_graph.proofs.Lists.Tests.{and-intro, and-left, and-right, never, not-false, or-cases, or-false, same_cid-is, same_spot-is, same_spot-self}
use Rattle.lr_graph.proofs.Related.Ties.{HasOneCall, IsFree}
use Rattle.lr_graph.proofs.Sets.Values.{holds-has_call}

-- ---- lists with one element more

among-parts : {A : Type 0} (x : A) (xs ys : List A) → IsAmong x (xs ++ ys) → IsAmong x xs ⊎ IsAmong x ys
among-parts x [] ys member = inr member
among-parts x (y ∷ xs) ys (inl e) = inl (inl e)
among-parts x (y ∷ xs) ys (inr member) = elim (among-parts x xs ys member) [ inl first ↦ inl (inr first) | inr second ↦ inr second ]

once-behind : {Key Op : Type 0} (us : List (Keyed Key Op)) (u : Keyed Key Op) → HasEachOnce us → ((v : Keyed Key Op) → IsAmong v us → v.key ≢ u.key) → HasEachOnce (us ++ u ∷ [])
once-behind [] u once new = ((λ v member. absurd member), tt)
once-behind {Key} {Op} (y ∷ us) u once new =
    ((λ v member. apart v (among-parts v us (u ∷ []) member)), once-behind us u once.1 (λ v member. new v (inr member)))
  where
    apart : (v : Keyed Key Op) → IsAmong v us ⊎ IsAmong v (u ∷ []) → v.key ≢ y.key
    apart v (inl member) same = once.0 v member same
    apart v (inr (inl e)) same = new y (inl refl) (sym same ∙ ap (λ (w : Keyed Key Op). w.key) e)
    apart v (inr (inr none)) same = none

-- ---- the updates that a value applies

module _ {Op : Type 0} where
  -- the update of an acceptance, keyed by its call
  abbrev pub update_of : Acceptance Op → Keyed Cid Op
  update_of a = record { key = a.cid; op = a.op }

  -- the updates that the value of a set applies, the first one first: each call once
  abbrev pub first_calls : List (Acceptance Op) → SpotSet → List (Keyed Cid Op)
  first_calls [] set = []
  first_calls (a ∷ older) set =
      if set a.spot && not (has_call older set a.cid) then first_calls older set ++ update_of a ∷ [] else first_calls older set

  -- this update is that of an acceptance of the set
  abbrev pub IsUpdateFrom : List (Acceptance Op) → SpotSet → Keyed Cid Op → Type 0
  IsUpdateFrom l x u = (a : Acceptance Op) × IsAmong a l × (x a.spot ≡ true) × (u ≡ update_of a)

  pub first_calls-of : (l : List (Acceptance Op)) (x : SpotSet) (u : Keyed Cid Op) → IsAmong u (first_calls l x) → IsUpdateFrom l x u
  first_calls-of [] x u member = absurd member
  first_calls-of (b ∷ l) x u member = by_test (x b.spot && not (has_call l x b.cid)) refl member (first_calls-of l x u)
    where
      older : IsUpdateFrom l x u → IsUpdateFrom (b ∷ l) x u
      older found = (found.0, inr found.1, found.2, found.3)

      at_end : x b.spot ≡ true → IsAmong u (first_calls l x) ⊎ IsAmong u (update_of b ∷ []) → (IsAmong u (first_calls l x) → IsUpdateFrom l x u) → IsUpdateFrom (b ∷ l) x u
      at_end here (inl first) rest = older (rest first)
      at_end here (inr (inl e)) rest = (b, inl refl, here, e)
      at_end here (inr (inr none)) rest = absurd none

      by_test : (t : Bool) → (x b.spot && not (has_call l x b.cid)) ≡ t → IsAmong u (cond t (first_calls l x ++ update_of b ∷ []) (first_calls l x))
          → (IsAmong u (first_calls l x) → IsUpdateFrom l x u) → IsUpdateFrom (b ∷ l) x u
      by_test true e member rest = at_end (and-left (x b.spot) _ e) (among-parts u (first_calls l x) (update_of b ∷ []) member) rest
      by_test false e member rest = older (rest member)

  -- an acceptance of this call is applied
  abbrev pub IsCallIn : List (Acceptance Op) → SpotSet → Cid → Type 0
  IsCallIn l x cid = (a : Acceptance Op) × IsAmong a l × (a.cid ≡ cid) × IsAmong (update_of a) (first_calls l x)

  -- of each call of the set one acceptance is applied
  pub call-applied : (l : List (Acceptance Op)) (x : SpotSet) (cid : Cid) → has_call l x cid ≡ true → IsCallIn l x cid
  call-applied [] x cid e = absurd (true≢false (sym e))
  call-applied (b ∷ l) x cid e = by_older (has_call l x cid) refl e (call-applied l x cid)
    where
      before : (t : Bool) → IsCallIn l x cid → (c : Acceptance Op) × IsAmong c (b ∷ l) × (c.cid ≡ cid) × IsAmong (update_of c) (cond t (first_calls l x ++ update_of b ∷ []) (first_calls l x))
      before true found = (found.0, inr found.1, found.2, among-left (update_of found.0) (first_calls l x) (update_of b ∷ []) found.3)
      before false found = (found.0, inr found.1, found.2, found.3)

      newest : (t : Bool) → t ≡ true → b.cid ≡ cid → (c : Acceptance Op) × IsAmong c (b ∷ l) × (c.cid ≡ cid) × IsAmong (update_of c) (cond t (first_calls l x ++ update_of b ∷ []) (first_calls l x))
      newest true e is = (b, inl refl, is, among-right (update_of b) (first_calls l x) (update_of b ∷ []) (inl refl))
      newest false e is = absurd (true≢false (sym e))

      by_older : (t : Bool) → has_call l x cid ≡ t → ((x b.spot && same_cid cid b.cid) || t) ≡ true → (has_call l x cid ≡ true → IsCallIn l x cid) → IsCallIn (b ∷ l) x cid
      by_older true older e rest = before (x b.spot && not (has_call l x b.cid)) (rest older)
      by_older false older e rest =
          let test : (x b.spot && same_cid cid b.cid) ≡ true = sym (or-false (x b.spot && same_cid cid b.cid) false refl) ∙ e in
          let is : cid ≡ b.cid = same_cid-is cid b.cid (and-right (x b.spot) _ test) in
          newest (x b.spot && not (has_call l x b.cid)) (and-intro (x b.spot) _ (and-left (x b.spot) _ test) (ap not (ap (has_call l x) (sym is) ∙ older))) (sym is)

  -- no call is applied twice
  pub first_calls-once : (l : List (Acceptance Op)) (x : SpotSet) → HasEachOnce (first_calls l x)
  first_calls-once [] x = tt
  first_calls-once (b ∷ l) x = by_test (x b.spot && not (has_call l x b.cid)) refl (first_calls-once l x)
    where
      by_test : (t : Bool) → (x b.spot && not (has_call l x b.cid)) ≡ t → HasEachOnce (first_calls l x) → HasEachOnce (cond t (first_calls l x ++ update_of b ∷ []) (first_calls l x))
      by_test true e once = once-behind (first_calls l x) (update_of b) once (λ u member same.
          let found = first_calls-of l x u member in
          let again : has_call l x b.cid ≡ true = holds-has_call l x b.cid found.0 found.1 found.2 (sym (ap (λ (w : Keyed Cid Op). w.key) found.3) ∙ same) in
          true≢false (sym again ∙ not-false _ (and-right (x b.spot) _ e)))
      by_test false e once = once

  -- what one value applies another does too, which has its acceptances among others of the same calls
  first_calls-into : (all l other : List (Acceptance Op)) (x y : SpotSet) → HasOneCall all → ((a : Acceptance Op) → IsAmong a l → IsAmong a all) → ((a : Acceptance Op) → IsAmong a other → IsAmong a all)
      → ((a : Acceptance Op) → IsAmong a l → x a.spot ≡ true → IsAmong a other × (y a.spot ≡ true)) → (u : Keyed Cid Op) → IsAmong u (first_calls l x) → IsAmong u (first_calls other y)
  first_calls-into all l other x y one_call in_all other_in_all into u member =
      let found = first_calls-of l x u member in
      let there = into found.0 found.1 found.2 in
      let kept = call-applied other y found.0.cid (holds-has_call other y found.0.cid found.0 there.0 there.1 refl) in
      let op = (one_call kept.0 found.0 (other_in_all kept.0 kept.1) (in_all found.0 found.1) kept.2).0 in
      let same : update_of kept.0 ≡ u = (λ i. record { key = kept.2 i; op = op i }) ∙ sym found.3 in
      subst (λ (w : Keyed Cid Op). IsAmong w (first_calls other y)) same kept.3

  -- an order of a set has the updates that the set's value applies
  pub same-updates : (l : List (Acceptance Op)) (x : SpotSet) (order : List (Acceptance Op)) → HasOneCall l → IsOrderOf l x order → HasSameUpdates (first_calls order everything) (first_calls l x)
  same-updates l x order one_call is = record {
    once = first_calls-once order everything;
    other_once = first_calls-once l x;
    into = first_calls-into l order l everything x one_call (λ a member. (each-at _ a order is.inside member).0) (λ a member. member) (λ a member here. each-at _ a order is.inside member);
    back = first_calls-into l l order x everything one_call (λ a member. member) (λ a member. (each-at _ a order is.inside member).0) (λ a member here. (each-at _ a l is.all member here, refl));
  }

-- ---- one value

module _ {Value Op : Type 0} (m : Meaning Value Op) where
  value-first_calls : (l : List (Acceptance Op)) (x : SpotSet) → value m l x ≡ apply_all m m.start (first_calls l x)
  value-first_calls [] x = refl
  value-first_calls (b ∷ l) x = by_test (x b.spot && not (has_call l x b.cid)) (value-first_calls l x)
    where
      by_test : (t : Bool) → value m l x ≡ apply_all m m.start (first_calls l x)
          → cond t (m.apply (value m l x) b.op) (value m l x) ≡ apply_all m m.start (cond t (first_calls l x ++ update_of b ∷ []) (first_calls l x))
      by_test true e = ap (λ v. m.apply v b.op) e ∙ sym (apply_all-behind m m.start (first_calls l x) (update_of b))
      by_test false e = e

  -- an order of a set that agrees where kinds need one order gives the set's value
  pub agreeing-value : {e : Encoding Value} (kind_of : Op → Kind) → Lawful m e kind_of → (l : List (Acceptance Op)) (x : SpotSet) (order : List (Acceptance Op)) → HasOneCall l → Each (λ a. IsUpdate (m.kind a.op)) l
      → IsOrderOf l x order → AgreeWhereOrdered m (first_calls order everything) (first_calls l x) → value m order everything ≡ value m l x
  agreeing-value kind_of lawful l x order one_call updates is agree =
      let same = same-updates l x order one_call is in
      value-first_calls order everything
      ∙ one-value m (first_calls order everything) (first_calls l x) m.start same (ordered-opposites m kind_of lawful (first_calls order everything) (first_calls l x) same all_updates agree)
      ∙ sym (value-first_calls l x)
    where
      all_updates : AreUpdates m (first_calls order everything)
      all_updates u member =
          let found = first_calls-of order everything u member in
          let update : IsUpdate (m.kind found.0.op) = each-at _ found.0 l updates (each-at _ found.0 order is.inside found.1).0 in
          ap (λ (w : Keyed Cid Op). is_query (m.kind w.op)) found.3 ∙ update

  -- where no two acceptances need one order, every order agrees
  pub free-agree : (l : List (Acceptance Op)) (x : SpotSet) (order : List (Acceptance Op)) → IsFree m l → IsOrderOf l x order → AgreeWhereOrdered m (first_calls order everything) (first_calls l x)
  free-agree l x order free is a b ordered before =
      let first = first_calls-of order everything a (before-first a b (first_calls order everything) before) in
      let second = first_calls-of order everything b (before-second a b (first_calls order everything) before) in
      let first_in = (each-at _ first.0 order is.inside first.1).0 in
      let second_in = (each-at _ second.0 order is.inside second.1).0 in
      let none : are_ordered (m.kind first.0.op) (m.kind second.0.op) ≡ false = each-at _ second.0 l (each-at _ first.0 l free.unordered first_in) second_in in
      let kinds : are_ordered (m.kind a.op) (m.kind b.op) ≡ are_ordered (m.kind first.0.op) (m.kind second.0.op) = λ i. are_ordered (m.kind (first.3 i).op) (m.kind (second.3 i).op) in
      absurd (true≢false (sym ordered ∙ kinds ∙ none))

-- ---- the order of making

module _ {Op : Type 0} where
  -- no acceptance is below an older one
  follows-made : (l : List (Acceptance Op)) → HasApartSpots l → HasOlderCauses l → FollowsCauses l
  follows-made [] apart older = tt
  follows-made (a ∷ l) apart older = (each-from _ l (λ b member. never (b.below a.spot) (λ below. new b member (or-cases (causes b a.spot) _ (sym (below-parts b (self-below l older.2 b member) a.spot) ∙ below)))), follows-made l apart.1 older.2)
    where
      taken : (c : Acceptance Op) → IsAmong c l → c.spot ≡ a.spot → ⊥
      taken c member is = true≢false (sym (ap (same_spot c.spot) (sym is) ∙ same_spot-self c.spot) ∙ each-at _ c l apart.0 member)

      new : (b : Acceptance Op) → IsAmong b l → (causes b a.spot ≡ true) ⊎ (same_spot a.spot b.spot ≡ true) → ⊥
      new b member (inl cause) = let found = causes-accepted l older.2 b member a.spot cause in taken found.0 found.1 found.2
      new b member (inr one) = taken b member (sym (same_spot-is a.spot b.spot one))

  each-kept : (P : Acceptance Op → Type 0) (p : Acceptance Op → Bool) (l : List (Acceptance Op)) → Each P l → Each P (filter p l)
  each-kept P p l all = each-map _ P (filter p l) (λ a h. h.0) (filter-each P p l all)

  follows-kept : (p : Acceptance Op → Bool) (l : List (Acceptance Op)) → FollowsCauses l → FollowsCauses (filter p l)
  follows-kept p [] follows = tt
  follows-kept p (a ∷ l) follows = at_head (p a) (each-kept (λ b. b.below a.spot ≡ false) p l follows.0) (follows-kept p l follows.1)
    where
      at_head : (t : Bool) → Each (λ b. b.below a.spot ≡ false) (filter p l) → FollowsCauses (filter p l) → FollowsCauses (cond t (a ∷ filter p l) (filter p l))
      at_head true first rest = (first, rest)
      at_head false first rest = rest

  apart-kept : (p : Acceptance Op → Bool) (l : List (Acceptance Op)) → HasApartSpots l → HasApartSpots (filter p l)
  apart-kept p [] apart = tt
  apart-kept p (a ∷ l) apart = at_head (p a) (each-kept (λ b. same_spot b.spot a.spot ≡ false) p l apart.0) (apart-kept p l apart.1)
    where
      at_head : (t : Bool) → Each (λ b. same_spot b.spot a.spot ≡ false) (filter p l) → HasApartSpots (filter p l) → HasApartSpots (cond t (a ∷ filter p l) (filter p l))
      at_head true first rest = (first, rest)
      at_head false first rest = rest

  -- the order of making is one
  pub made-order : (l : List (Acceptance Op)) (x : SpotSet) → IsSound l → IsOrderOf l x (filter (λ a. x a.spot) l)
  made-order l x sound = record {
    apart = apart-kept (λ a. x a.spot) l sound.apart;
    inside = filter-each (λ a. IsAmong a l) (λ a. x a.spot) l (each-from _ l (λ a member. member));
    all = each-from _ l (λ a member here. among-filter (λ a. x a.spot) a l member here);
    follows = follows-kept (λ a. x a.spot) l (follows-made l sound.apart sound.older);
  }

-- ---- legal histories

module _ {Value Op : Type 0} (m : Meaning Value Op) {e : Encoding Value} (kind_of : Op → Kind) (lawful : Lawful m e kind_of) (config : Config) where
  -- every order of what is ready gives the replica's value
  pub every-order : (steps : List (Step Op)) → IsLegal m config steps → (i : ℕ) (order : List (Acceptance Op))
      → IsOrderOf (facts_after m config first_facts steps).accepted (ready (facts_after m config first_facts steps).accepted ((facts_after m config first_facts steps).received i)) order
      → value m order everything ≡ value m (facts_after m config first_facts steps).accepted (ready (facts_after m config first_facts steps).accepted ((facts_after m config first_facts steps).received i))
  every-order steps legal i order is =
      let w = facts_after m config first_facts steps in
      let same = (legal-same m kind_of lawful config steps legal).1 in
      let set = ready w.accepted (w.received i) in
      let free = all-free m config same.issued (calls_in w) w.accepted same.shared.each in
      agreeing-value m kind_of lawful w.accepted set order (one-call m config same.issued (calls_in w) w.accepted same.shared.each) free.updates is (free-agree m w.accepted set order free is)

  -- what is ready in the order of making is one of these
  pub ready-order : (steps : List (Step Op)) → IsLegal m config steps → (i : ℕ)
      → IsOrderOf (facts_after m config first_facts steps).accepted (ready (facts_after m config first_facts steps).accepted ((facts_after m config first_facts steps).received i))
      (filter (λ a. ready (facts_after m config first_facts steps).accepted ((facts_after m config first_facts steps).received i) a.spot) (facts_after m config first_facts steps).accepted)
  ready-order steps legal i =
      let w = facts_after m config first_facts steps in
      made-order w.accepted (ready w.accepted (w.received i)) (legal-same m kind_of lawful config steps legal).1.shared.sound
