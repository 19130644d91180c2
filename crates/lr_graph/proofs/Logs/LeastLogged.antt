-- The least spot of a call in a log is the first that is found there.
use Rattle.std.proofs.Common.{◌≡◌, Bool, true, false, cond, ◌⊎◌, inl, inr, find, List, [], ◌∷◌, Option, Some, None, refl, sym, ap, ◌∙◌, true≢false}
use Rattle.std.specs.Option.{option_map}
use Rattle.lr_base.specs.Ascending.{is_before, same_cid}
use Rattle.lr_base.specs.Orders.{IsAmong}
use Rattle.lr_base.specs.declared.messages.LogUpdate.{LogUpdate}
use Rattle.lr_base.specs.declared.names.Cid.{Cid}
use Rattle.lr_base.specs.declared.names.Spot.{Spot}
use Rattle.lr_graph.specs.Closed.{IsSound}
use Rattle.lr_graph.specs.Graph.{Acceptance, least_spot}
use Rattle.lr_graph.specs.Sets.{SpotSet}
use Rattle.lr_graph.proofs.Sets.KeptSpots.{IsFirst, least_spot-first, least_spot-lacks}
use Rattle.lr_graph.proofs.Lists.Members.{each-at, find-none, find-some}
use Rattle.lr_graph.proofs.Sets.ReadySets.{apart-same}
use Rattle.lr_graph.proofs.Lists.Tests.{never, same_cid-is, same_cid-self}
use Rattle.lr_graph.proofs.Related.Ties.{IsAscending, IsLogOf}
use Rattle.lr_graph.proofs.Sets.Values.{has_call-holds}

module _ {Op : Type 0} where
  -- what is found comes before all else that passes
  find-first : (p : LogUpdate Op → Bool) (us : List (LogUpdate Op)) (u x : LogUpdate Op) → IsAscending us → find p us ≡ Some u → IsAmong x us → p x ≡ true → (x ≡ u) ⊎ (is_before u.spot x.spot ≡ true)
  find-first p [] u x h e member pass = absurd member
  find-first p (y ∷ us) u x h e member pass = at_head (p y) refl e member (find-first p us u x h.1)
    where
      at_head : (t : Bool) → p y ≡ t → cond t (Some y) (find p us) ≡ Some u → IsAmong x (y ∷ us) → (find p us ≡ Some u → IsAmong x us → p x ≡ true → (x ≡ u) ⊎ (is_before u.spot x.spot ≡ true))
          → (x ≡ u) ⊎ (is_before u.spot x.spot ≡ true)
      at_head true q e (inl is) rest = let same : y ≡ u = cc in inl (is ∙ same)
      at_head true q e (inr member) rest = let same : y ≡ u = cc in inr (ap (λ (z : LogUpdate Op). is_before z.spot x.spot) (sym same) ∙ each-at _ x us h.0 member)
      at_head false q e (inl is) rest = absurd (true≢false (sym pass ∙ ap p is ∙ q))
      at_head false q e (inr member) rest = rest e member pass

  module _ (l : List (Acceptance Op)) (g : SpotSet) (us : List (LogUpdate Op)) (sound : IsSound l) (log : IsLogOf l g us) where
    -- the update at an acceptance's spot is of its call
    logged-cid : (a : Acceptance Op) → IsAmong a l → (u : LogUpdate Op) → IsAmong u us → u.spot ≡ a.spot → u.cid ≡ a.cid
    logged-cid a member u in_us same =
        let h = each-at _ u us log.each in_us in
        let is : h.0 ≡ a = apart-same l sound.apart h.0 a h.1.among member (sym h.1.spot ∙ same) in
        h.1.cid ∙ ap (λ (b : Acceptance Op). b.cid) is

    pub least-find : (cid : Cid) → least_spot l g cid ≡ option_map (λ u. u.spot) (find (λ u. same_cid u.cid cid) us)
    least-find cid = by_found (find (λ u. same_cid u.cid cid) us) refl
      where
        by_found : (o : Option (LogUpdate Op)) → find (λ u. same_cid u.cid cid) us ≡ o → least_spot l g cid ≡ option_map (λ u. u.spot) o
        by_found None e = least_spot-lacks l g cid (never _ (λ has.
            let a = has_call-holds l g cid has in
            let u = each-at _ a.0 l log.all a.1 a.2 in
            let is : u.0.cid ≡ cid = logged-cid a.0 a.1 u.0 u.1 u.2 ∙ a.3 in
            true≢false (sym (ap (λ c. same_cid c cid) is ∙ same_cid-self cid) ∙ each-at _ u.0 us (find-none _ us e) u.1)))
        by_found (Some u) e =
            let found = find-some (λ u. same_cid u.cid cid) us u e in
            let a = each-at _ u us log.each found.0 in
            let is : a.0.cid ≡ cid = sym a.1.cid ∙ same_cid-is u.cid cid found.1 in
            ap (least_spot l g) (sym is) ∙ least_spot-first l g a.0 a.1.among a.2 (λ b member here same.
            let x = each-at _ b l log.all member here in
            let pass : same_cid x.0.cid cid ≡ true = ap (λ c. same_cid c cid) (logged-cid b member x.0 x.1 x.2 ∙ same ∙ is) ∙ same_cid-self cid in
            first a.1.spot x.2 (find-first _ us u x.0 log.ascending e x.1 pass))
            ∙ ap Some (sym a.1.spot)
          where
            first : {s b : Spot} {x : LogUpdate Op} → u.spot ≡ s → x.spot ≡ b → (x ≡ u) ⊎ (is_before u.spot x.spot ≡ true) → IsFirst s b
            first p q (inl same) = inl (sym q ∙ ap (λ (z : LogUpdate Op). z.spot) same ∙ p)
            first p q (inr before) = inr (λ i. (Rattle.std.proofs.Common.subst₂ (λ (y z : Spot). is_before y z ≡ true) p q before) i)
