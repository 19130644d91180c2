-- What all told a replica, and a call that left there.
use Rattle.std.proofs.Common.{◌≡◌, ◌≢◌, ◌<◌, ℕ, Bool, true, false, cond, not, ◌==◌, ◌⊎◌, inl, inr, refl, sym, ap, ◌∙◌, subst, true≢false, eq-eqb, eqb-true}
use Rattle.lr_base.specs.Orders.{IsAmong}
use Rattle.lr_base.specs.declared.names.Cid.{Cid}
use Rattle.lr_base.specs.declared.names.Config.{Config}
use Rattle.lr_base.specs.declared.names.Spot.{Spot}
use Rattle.lr_graph.specs.Closed.{Each, IsSound}
use Rattle.lr_graph.specs.Graph.{Acceptance, Facts, has_ack, has_call, ready}
use Rattle.lr_graph.specs.Pruned.{is_left, is_ready, known_everywhere, logged, logs_call, told_by}
use Rattle.lr_graph.specs.Sets.{SpotSet}
use Rattle.lr_graph.specs.Spread.{IsSpread, IsSpreadBy, has_item}
use Rattle.lr_graph.proofs.Lists.Members.{each-at, each-from}
use Rattle.lr_graph.proofs.Lists.Tests.{and-intro, and-left, and-right, equal-or-not, never, never-false, not-false, or-left, or-right}
use Rattle.lr_graph.proofs.Pruning.Rows.{first-each}
use Rattle.lr_graph.proofs.Pruning.Spreading.{holds-has_ack, received-spread}
use Rattle.lr_graph.proofs.Replicas.Ending.{AllHave, HasHeard, IsWhole}
use Rattle.lr_graph.proofs.Sets.ReadySets.{holds-ready, ready-received}
use Rattle.lr_graph.proofs.Sets.Values.{has_call-holds, holds-has_call}

module _ {Op : Type 0} (config : Config) (w : Facts Op) (sound : IsSound w.accepted) (places : Each (λ a. a.spot.place < config.replicas) w.accepted)
    (own : (a : Acceptance Op) → IsAmong a w.accepted → w.received a.spot.place a.spot ≡ true) (spread : IsSpread config w) where
  -- what a replica knows that another has that one told, or is that replica itself
  pub told-spread : (i k : ℕ) → k < config.replicas → IsSpreadBy w k (told_by w i k)
  told-spread i k less = by_own (equal-or-not k i)
    where
      by_own : (k ≡ i) ⊎ (k ≢ i) → IsSpreadBy w k (told_by w i k)
      by_own (inl e) = subst (λ (t : Bool). IsSpreadBy w k (cond t (w.received i) (w.told i k))) (sym (eq-eqb k i e))
          (subst (λ (n : ℕ). IsSpreadBy w k (w.received n)) e (received-spread w own k))
      by_own (inr apart) = subst (λ (t : Bool). IsSpreadBy w k (cond t (w.received i) (w.told i k))) (sym (never (k == i) (λ e. apart (eqb-true k i e)))) (spread.told i k less)

  told-taken : (i k : ℕ) (s : Spot) → told_by w i k s ≡ true → w.received i s ≡ true
  told-taken i k s e = by_own (k == i) e
    where
      by_own : (t : Bool) → cond t (w.received i) (w.told i k) s ≡ true → w.received i s ≡ true
      by_own true h = h
      by_own false h = spread.taken i k s h

  module _ (i : ℕ) where
    -- what is known everywhere at a replica each told it
    pub each-told : (s : Spot) → known_everywhere config w i s ≡ true → (k : ℕ) → k < config.replicas → told_by w i k s ≡ true
    each-told s known k less = first-each (told_by w i) config.replicas s known k less

    -- of a call of which an item is known everywhere each acceptance was received
    pub known-call : (s : Spot) (cid : Cid) → known_everywhere config w i s ≡ true → ((x : SpotSet) → x s ≡ true → has_item w x cid ≡ true)
        → Each (λ b. b.cid ≡ cid → w.received i b.spot ≡ true) w.accepted
    known-call s cid known item = each-from _ w.accepted (λ b member is.
        let less = each-at _ b w.accepted places member in
        let has = item (told_by w i b.spot.place) (each-told s known b.spot.place less) in
        told-taken i b.spot.place b.spot (each-at _ b w.accepted ((told-spread i b.spot.place less).calls cid has) member refl is))

    -- what is known everywhere is ready, where it was received
    pub known-ready : (a : Acceptance Op) → IsAmong a w.accepted → w.received i a.spot ≡ true → known_everywhere config w i a.spot ≡ true → ready w.accepted (w.received i) a.spot ≡ true
    known-ready a member here known = holds-ready w.accepted (w.received i) a member here (each-from _ w.accepted (λ b in_b below.
        let less = each-at _ b w.accepted places in_b in
        let has = each-at _ a w.accepted (told-spread i b.spot.place less).causes member (each-told a.spot known b.spot.place less) in
        told-taken i b.spot.place b.spot (each-at _ b w.accepted has in_b refl below)))

    module _ (inside : i < config.replicas) where
      pub known-received : (s : Spot) → known_everywhere config w i s ≡ true → w.received i s ≡ true
      known-received s known = told-taken i i s (each-told s known i inside)

      -- an acceptance of a call of which none is logged is known everywhere, where it was received
      pub unlogged-call : (cid : Cid) → not (logs_call config w i cid) ≡ true → (b : Acceptance Op) → IsAmong b w.accepted → b.cid ≡ cid → w.received i b.spot ≡ true → known_everywhere config w i b.spot ≡ true
      unlogged-call cid none b member is here = never-false (known_everywhere config w i b.spot) (λ out.
          true≢false (sym (holds-has_call w.accepted (logged config w i) cid b member (and-intro (w.received i b.spot) _ here (ap not out)) is) ∙ not-false (logs_call config w i cid) none))

      -- an acceptance of a call that left is known everywhere
      pub left-known : (cid : Cid) → is_left config w i cid ≡ true → (a : Acceptance Op) × IsAmong a w.accepted × (a.cid ≡ cid) × (known_everywhere config w i a.spot ≡ true)
      left-known cid gone =
          let a = has_call-holds w.accepted (ready w.accepted (w.received i)) cid (and-left (is_ready w i cid) _ gone) in
          let none = and-right (has_ack w.acks (w.received i) cid) _ (and-right (is_ready w i cid) _ gone) in
          (a.0, a.1, a.3, unlogged-call cid none a.0 a.1 a.3 (ready-received w.accepted (w.received i) a.0.spot a.2))

      accepted-has : (a : Acceptance Op) → IsAmong a w.accepted → (cid : Cid) → a.cid ≡ cid → (x : SpotSet) → x a.spot ≡ true → has_item w x cid ≡ true
      accepted-has a member cid is x here = or-left _ _ (holds-has_call w.accepted x cid a member here is)

      -- all acceptances of a call that left were received, are known everywhere and are ready
      pub left-over : (cid : Cid) → is_left config w i cid ≡ true
          → Each (λ b. b.cid ≡ cid → (w.received i b.spot ≡ true) × (known_everywhere config w i b.spot ≡ true) × (ready w.accepted (w.received i) b.spot ≡ true)) w.accepted
      left-over cid gone =
          let a = left-known cid gone in
          let none = and-right (has_ack w.acks (w.received i) cid) _ (and-right (is_ready w i cid) _ gone) in
          let all = known-call a.0.spot cid a.3 (accepted-has a.0 a.1 cid a.2) in
          each-from _ w.accepted (λ b member is.
          let here = each-at _ b w.accepted all member is in
          let known = unlogged-call cid none b member is here in
          (here, known, known-ready b member here known))

      pub whole-at : IsWhole config w i
      whole-at = record {
        known = each-from _ w.accepted (λ a member known. known-ready a member (known-received a.spot known) known);
        left = each-from _ w.accepted (λ a member gone. (each-at _ a w.accepted (left-over a.cid gone) member refl).2);
      }

      pub all-have : AllHave config w i
      all-have = record { acks = λ a member known. known-call a.spot a.cid known (λ x here. or-right (has_call w.accepted x a.cid) _ (holds-has_ack w.acks x a.cid a member here refl)) }

      pub has-heard : (to : ℕ) → to < config.replicas → HasHeard config w i to
      has-heard to less = record {
        told = (spread.told i to less).within;
        known = λ s known. (told-spread i to less).within s (each-told s known to less);
      }

    -- a call that left at a replica was accepted at each
    pub left-received : i < config.replicas → (cid : Cid) → is_left config w i cid ≡ true → (k : ℕ) → k < config.replicas → has_call w.accepted (w.received k) cid ≡ true
    left-received inside cid gone k less =
        let a = left-known inside cid gone in
        holds-has_call w.accepted (w.received k) cid a.0 a.1 ((told-spread i k less).within a.0.spot (each-told a.0.spot a.3 k less)) a.2
