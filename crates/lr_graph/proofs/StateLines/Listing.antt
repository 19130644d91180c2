-- What a state line lists of a replica, in the graph and by the rules.
use Rattle.std.proofs.Common.{◌≡◌, suc, Bool, true, false, cond, ◌⊎◌, inl, inr, List, [], ◌∷◌, length, map, refl, sym, ap, ◌∙◌, subst, true≢false}
use Rattle.lr_base.specs.Ascending.{is_before}
use Rattle.lr_base.specs.Orders.{IsAmong}
use Rattle.lr_base.specs.InsertionLaws.{among-inserted, ascends-inserted, each-inserted, length-inserted}
use Rattle.lr_base.specs.declared.messages.LogUpdate.{LogUpdate}
use Rattle.lr_base.specs.declared.names.Spot.{Spot}
use Rattle.lr_graph.specs.Closed.{Each, HasApartSpots, IsSound}
use Rattle.lr_graph.specs.Graph.{Acceptance, spots_of}
use Rattle.lr_graph.specs.Sets.{SpotSet, how_many, insert_spot, same_spot}
use Rattle.lr_graph.proofs.Lists.Ascents.{Ascends, same-ascents}
use Rattle.lr_graph.proofs.Lists.Members.{each-at, each-map}
use Rattle.lr_graph.proofs.Logs.Orders.{before-apart, before-trans, behind-shown}
use Rattle.lr_graph.proofs.Lists.Tests.{same_spot-self}
use Rattle.lr_graph.proofs.Related.Ties.{HasUpdateAt, IsAscending, IsLogOf}

-- ---- the spots of a log

module _ (spot : Spot) where
  each-insert_spot : (P : Spot → Type 0) (spots : List Spot) → P spot → Each P spots → Each P (insert_spot spot spots)
  each-insert_spot P spots own all = each-inserted (λ x y. false) is_before spot P spots own all

  among-insert_spot : (y : Spot) (spots : List Spot) → (y ≡ spot) ⊎ IsAmong y spots → IsAmong y (insert_spot spot spots)
  among-insert_spot y spots either = among-inserted (λ x y. false) is_before spot (λ x no. absurd (true≢false (sym no))) y spots either

  ascends-insert_spot : (spots : List Spot) → Each (λ x. spot ≡ x → ⊥) spots → Ascends is_before spots → Ascends is_before (insert_spot spot spots)
  ascends-insert_spot spots apart h =
      ascends-inserted (λ x y. false) is_before spot is_before (before-trans spot) spots (each-map _ _ spots (λ x out t no e. by_test x out t e) apart) h
    where
      by_test : (x : Spot) → (spot ≡ x → ⊥) → (t : Bool) → is_before spot x ≡ t → cond t (is_before spot x) (is_before x spot) ≡ true
      by_test x out true e = e
      by_test x out false e = behind-shown spot x out e

module _ {Op : Type 0} where
  -- each listed spot is that of an acceptance of the set
  pub each-spots_of : (P : Spot → Type 0) (l : List (Acceptance Op)) (g : SpotSet) → Each (λ a. g a.spot ≡ true → P a.spot) l → Each P (spots_of l g)
  each-spots_of P [] g h = tt
  each-spots_of P (a ∷ l) g h = at_head (g a.spot) refl (each-spots_of P l g h.1)
    where
      at_head : (t : Bool) → g a.spot ≡ t → Each P (spots_of l g) → Each P (cond t (insert_spot a.spot (spots_of l g)) (spots_of l g))
      at_head true e rest = each-insert_spot a.spot P (spots_of l g) (h.0 e) rest
      at_head false e rest = rest

  pub among-spots_of : (l : List (Acceptance Op)) (g : SpotSet) (a : Acceptance Op) → IsAmong a l → g a.spot ≡ true → IsAmong a.spot (spots_of l g)
  among-spots_of [] g a member here = absurd member
  among-spots_of (b ∷ l) g a (inl e) here = at_head (g b.spot) (ap (λ (c : Acceptance Op). g c.spot) (sym e) ∙ here)
    where
      at_head : (t : Bool) → t ≡ true → IsAmong a.spot (cond t (insert_spot b.spot (spots_of l g)) (spots_of l g))
      at_head true q = among-insert_spot b.spot a.spot (spots_of l g) (inl (ap (λ (c : Acceptance Op). c.spot) e))
      at_head false q = absurd (true≢false (sym q))
  among-spots_of (b ∷ l) g a (inr member) here = at_head (g b.spot) (among-spots_of l g a member here)
    where
      at_head : (t : Bool) → IsAmong a.spot (spots_of l g) → IsAmong a.spot (cond t (insert_spot b.spot (spots_of l g)) (spots_of l g))
      at_head true rest = among-insert_spot b.spot a.spot (spots_of l g) (inr rest)
      at_head false rest = rest

  pub ascends-spots_of : (l : List (Acceptance Op)) (g : SpotSet) → HasApartSpots l → Ascends is_before (spots_of l g)
  ascends-spots_of [] g apart = tt
  ascends-spots_of (a ∷ l) g apart = at_head (g a.spot) (ascends-spots_of l g apart.1)
    where
      at_head : (t : Bool) → Ascends is_before (spots_of l g) → Ascends is_before (cond t (insert_spot a.spot (spots_of l g)) (spots_of l g))
      at_head true rest = ascends-insert_spot a.spot (spots_of l g) (each-spots_of (λ s. a.spot ≡ s → ⊥) l g (each-map _ _ l (λ b h here same. true≢false (sym (ap (λ s. same_spot s a.spot) (sym same) ∙ same_spot-self a.spot) ∙ h)) apart.0)) rest
      at_head false rest = rest

  length-spots_of : (l : List (Acceptance Op)) (g : SpotSet) → length (spots_of l g) ≡ how_many (λ a. g a.spot) l
  length-spots_of [] g = refl
  length-spots_of (a ∷ l) g = at_head (g a.spot) (length-spots_of l g)
    where
      at_head : (t : Bool) → length (spots_of l g) ≡ how_many (λ a. g a.spot) l → length (cond t (insert_spot a.spot (spots_of l g)) (spots_of l g)) ≡ cond t (suc (how_many (λ a. g a.spot) l)) (how_many (λ a. g a.spot) l)
      at_head true rest = length-inserted is_before a.spot (spots_of l g) ∙ ap suc rest
      at_head false rest = rest

  among-log : (us : List (LogUpdate Op)) (u : LogUpdate Op) → IsAmong u us → IsAmong u.spot (map (λ x. x.spot) us)
  among-log [] u member = absurd member
  among-log (x ∷ us) u (inl e) = inl (ap (λ (y : LogUpdate Op). y.spot) e)
  among-log (x ∷ us) u (inr member) = inr (among-log us u member)

  each-log : (P : Spot → Type 0) (us : List (LogUpdate Op)) → Each (λ u. P u.spot) us → Each P (map (λ x. x.spot) us)
  each-log P [] h = tt
  each-log P (u ∷ us) h = (h.0, each-log P us h.1)

  ascends-log : (us : List (LogUpdate Op)) → IsAscending us → Ascends is_before (map (λ x. x.spot) us)
  ascends-log [] h = tt
  ascends-log (u ∷ us) h = (each-log (λ s. is_before u.spot s ≡ true) us h.0, ascends-log us h.1)

  -- the log is listed as the set of its acceptances is
  pub spots-log : (l : List (Acceptance Op)) (g : SpotSet) (us : List (LogUpdate Op)) → IsSound l → IsLogOf l g us → spots_of l g ≡ map (λ u. u.spot) us
  spots-log l g us sound log =
      same-ascents is_before before-apart before-trans (spots_of l g) (map (λ u. u.spot) us) (ascends-spots_of l g sound.apart) (ascends-log us log.ascending)
      (λ s member. each-at _ s (spots_of l g) (each-spots_of (λ s. IsAmong s (map (λ u. u.spot) us)) l g (each-map _ _ l (λ a f here. there (f here)) log.all)) member)
      (λ s member. each-at _ s (map (λ u. u.spot) us) (each-log (λ s. IsAmong s (spots_of l g)) us (each-map _ _ us (λ u h. back u h.0 h.1.among h.1.spot h.2) log.each)) member)
    where
      there : {s : Spot} → HasUpdateAt s us → IsAmong s (map (λ u. u.spot) us)
      there h = subst (λ (s : Spot). IsAmong s (map (λ u. u.spot) us)) h.2 (among-log us h.0 h.1)

      back : (u : LogUpdate Op) (a : Acceptance Op) → IsAmong a l → u.spot ≡ a.spot → g a.spot ≡ true → IsAmong u.spot (spots_of l g)
      back u a member is here = subst (λ (s : Spot). IsAmong s (spots_of l g)) (sym is) (among-spots_of l g a member here)

  length-map : (us : List (LogUpdate Op)) → length (map (λ u. u.spot) us) ≡ length us
  length-map [] = refl
  length-map (u ∷ us) = ap suc (length-map us)

  -- and there are as many updates
  pub size-log : (l : List (Acceptance Op)) (g : SpotSet) (us : List (LogUpdate Op)) → IsSound l → IsLogOf l g us → how_many (λ a. g a.spot) l ≡ length us
  size-log l g us sound log = sym (length-spots_of l g) ∙ ap length (spots-log l g us sound log) ∙ length-map us
