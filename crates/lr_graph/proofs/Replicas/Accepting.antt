-- A replica that accepts a call.
use Rattle.std.proofs.Common.{Bool, ◌≡◌, ◌≢◌, ℕ, zero, suc, ◌+◌, ◌<◌, ◌≤◌, true, false, not, ◌&&◌, ◌||◌, ◌⊎◌, inl, inr, nat_lt, nat_le, List, ◌∷◌, refl, sym, ap, ◌∙◌, subst, arith, true≢false, le-leb, leb-true}
use Rattle.lr_base.specs.Meaning.{Meaning}
use Rattle.lr_base.specs.Orders.{IsAmong}
use Rattle.lr_base.specs.Rules.{CausalState, accepted, insert_update, stamp_of, update_of_call}
use Rattle.lr_base.specs.StampLaws.{part-join, part-set_part, part-set_part_other, parts-stamp_le}
use Rattle.lr_base.specs.Stamps.{part, set_part, stamp_le}
use Rattle.lr_base.specs.declared.messages.Call.{Call}
use Rattle.lr_base.specs.declared.messages.LogUpdate.{LogUpdate}
use Rattle.lr_base.specs.declared.names.Cid.{Cid}
use Rattle.lr_base.specs.declared.names.Config.{Config}
use Rattle.lr_base.specs.declared.names.Spot.{Spot}
use Rattle.lr_graph.specs.Closed.{Each, IsClosed, IsAccepted, IsSetOf, IsSound, IsWithin, causes}
use Rattle.lr_graph.specs.Graph.{Acceptance, Kept, LabelledCall, is_within, ready}
use Rattle.lr_graph.specs.Names.{IsCounted, Names, spot_at}
use Rattle.lr_graph.specs.Sets.{SpotSet, only, same_spot, ◌∪◌}
use Rattle.lr_graph.proofs.Stamps.Central.{below-set, counted-has, counted-least, counted-most, stamp_le-within}
use Rattle.lr_graph.proofs.Lists.Members.{each-at, each-from, each-map}
use Rattle.lr_graph.proofs.Related.More.{applied-more, not-ready, set-more, stands-more}
use Rattle.lr_graph.proofs.Logs.Orders.{among-put, among-put_old, ascending-put, each-put}
use Rattle.lr_graph.proofs.Sets.ReadySets.{apart-same, holds-ready, names-same, ready-holds, update-stamp, within-holds}
use Rattle.lr_graph.proofs.Related.Relation.{IsReplicaAt}
use Rattle.lr_graph.proofs.Lists.Tests.{and-intro, and-left, and-right, equal-or-not, le-or-lt, never, not-false, or-cases, or-left, or-right, same-test, same_spot-is, same_spot-self, spots-apart}
use Rattle.lr_graph.proofs.Related.Ties.{HasUpdateAt, IsLogOf, IsPending, IsUpdateOf, StandsFor}

-- only the parts of a stamp count
pub names-parts : (s t : List ℕ) (x : SpotSet) → ((place : ℕ) → part s place ≡ part t place) → Names s x → Names t x
names-parts s t x same h = record {
  above = λ spot e. subst (λ (n : ℕ). spot.number ≤ n) (same spot.place) (h.above spot e);
  reached = λ place some. ap (λ n. x (spot_at place n)) (sym (same place)) ∙ h.reached place (subst (λ (n : ℕ). 0 < n) (sym (same place)) some);
}

-- an acceptance that was received is ready where all below it was received
pub ready-is : {Op : Type 0} (l : List (Acceptance Op)) → IsSound l → (r : SpotSet) (a : Acceptance Op) → IsAmong a l → r a.spot ≡ true → ready l r a.spot ≡ is_within l a.below r
ready-is l sound r a member here = same-test _ _ there (λ e. holds-ready l r a member here (within-holds l a.below r e))
  where
    there : ready l r a.spot ≡ true → is_within l a.below r ≡ true
    there e =
        let h = ready-holds l r a.spot e in
        let same : h.0 ≡ a = apart-same l sound.apart h.0 a h.1 member (sym h.2) in
        Rattle.lr_graph.proofs.Sets.ReadySets.holds-within l a.below r (subst (λ (b : Acceptance _). IsWithin l b.below r) same h.4)

module _ {Value Op : Type 0} (m : Meaning Value Op) (config : Config) (l : List (Acceptance Op)) (sound : IsSound l) (r g : SpotSet) (left : Cid → Bool) (kept : List Kept) (held : List (LabelledCall Op)) (state : CausalState Value Op) (ok : IsReplicaAt m config l r g left kept held state) where
  -- a logged update counts as applied just where its acceptance is ready
  pub flagged-all : Each (λ u. stamp_le (stamp_of u) state.val_ts ≡ ready l r u.spot) state.updates
  flagged-all = each-map _ _ state.updates (λ u h. flag u h.0 h.1 (ok.within h.0.spot h.2)) ok.log.each
    where
      flag : (u : LogUpdate Op) (a : Acceptance Op) → StandsFor l u a → r a.spot ≡ true → stamp_le (stamp_of u) state.val_ts ≡ ready l r u.spot
      flag u a s here =
          stamp_le-within l sound r state.rep_ts ok.counted state.val_ts ok.applied.names (stamp_of u) a.below (update-stamp l sound u a s) (below-set l sound a s.among)
          ∙ sym (ready-is l sound r a s.among here) ∙ ap (ready l r) (sym s.spot)

  -- a replica at which nothing came
  pub unchanged-pending : IsPending m l r g (ready l r) left kept state
  unchanged-pending = record {
    counted = ok.counted;
    log = ok.log;
    received = ok.within;
    covered = ok.covered;
    within = λ s e. e;
    flagged = flagged-all;
    over = ok.over;
    applied = ok.applied;
  }

-- ---- the new acceptance

module _ {Op : Type 0} (l : List (Acceptance Op)) (sound : IsSound l) (spot : Spot) (fresh : IsAccepted l spot → ⊥) (some : 0 < spot.number) (cid : Cid) (op : Op) (x : SpotSet) (set : IsSetOf l x) where
  abbrev pub made_at : Acceptance Op
  made_at = record { spot = spot; cid = cid; op = op; below = x ∪ only spot }

  out : x spot ≡ false
  out = never _ (λ e. fresh (set.exist spot e))

  -- its causes are what its label names
  pub new-causes : (s : Spot) → causes made_at s ≡ x s
  new-causes s = same-test _ _ (λ e. label (or-cases (x s) _ (and-left (x s || same_spot s spot) _ e)) e) (λ e. and-intro _ _ (or-left (x s) _ e) (ap not (spots-apart s spot (λ same. true≢false (sym e ∙ ap x same ∙ out)))))
    where
      label : (x s ≡ true) ⊎ (same_spot s spot ≡ true) → causes made_at s ≡ true → x s ≡ true
      label (inl h) e = h
      label (inr h) e = absurd (true≢false (sym h ∙ not-false (same_spot s spot) (and-right (x s || same_spot s spot) _ e)))

  pub sound-more : IsSound (made_at ∷ l)
  sound-more = record {
    apart = (each-from _ l (λ b member. spots-apart b.spot spot (λ same. fresh (b, member, same))), sound.apart);
    closed = (own_closed, each-from _ l (λ b member. (set-more l made_at fresh sound b.below (below-set l sound b member)).closed));
    older = (or-right (x spot) _ (same_spot-self spot), (λ s e. set.exist s (sym (new-causes s) ∙ e)), sound.older);
    numbered = (some, sound.numbered);
  }
    where
      own_closed : IsClosed (made_at ∷ l) (x ∪ only spot)
      own_closed = (
        (λ e. ((λ h. h), each-from _ l (λ c member h. h))),
        each-from _ l (λ b member e. by_part b member (or-cases (x b.spot) _ e)),
      )
        where
          by_part : (b : Acceptance Op) → IsAmong b l → (x b.spot ≡ true) ⊎ (same_spot b.spot spot ≡ true) → IsWithin (made_at ∷ l) b.below (x ∪ only spot)
          by_part b member (inl h) = (
            (λ e. or-right (x spot) _ (same_spot-self spot)),
            each-map _ _ l (λ c f e. or-left (x c.spot) _ (f e)) (each-at _ b l set.closed member h),
          )
          by_part b member (inr h) = absurd (fresh (b, member, same_spot-is b.spot spot h))

-- ---- what is received with it

module _ {Value Op : Type 0} (m : Meaning Value Op) (config : Config) (l : List (Acceptance Op)) (sound : IsSound l) (r g : SpotSet) (left : Cid → Bool) (kept : List Kept) (held : List (LabelledCall Op)) (state : CausalState Value Op) (ok : IsReplicaAt m config l r g left kept held state)
    (i : ℕ) (own : (b : Acceptance Op) → IsAmong b l → b.spot.place ≡ i → r b.spot ≡ true) where
  abbrev pub next : Spot
  next = spot_at i (part state.rep_ts i + 1)

  -- no acceptance has the next spot
  pub next-fresh : IsAccepted l next → ⊥
  next-fresh made =
      let here : r made.0.spot ≡ true = own made.0 made.1 (ap (λ (s : Spot). s.place) made.2) in
      let most = counted-most r state.rep_ts ok.counted next (ap r (sym made.2) ∙ here) in
      absurd (omega arith)

  -- with the next spot the received set is counted by the stamp with the next number
  pub counted-next : IsCounted (r ∪ only next) (set_part state.rep_ts i (part state.rep_ts i + 1))
  counted-next s = same-test _ _ (λ e. up (or-cases (r s) _ e)) (λ e. back (leb-true 1 s.number (and-left (nat_lt 0 s.number) _ e)) (leb-true s.number _ (and-right (nat_lt 0 s.number) _ e)) (equal-or-not s.place i))
    where
      new : List ℕ
      new = set_part state.rep_ts i (part state.rep_ts i + 1)

      grows : part state.rep_ts s.place ≤ part new s.place
      grows = by_place (equal-or-not s.place i)
        where
          by_place : (s.place ≡ i) ⊎ (s.place ≢ i) → part state.rep_ts s.place ≤ part new s.place
          by_place (inl e) =
              let p : part new s.place ≡ part state.rep_ts i + 1 = ap (part new) e ∙ part-set_part state.rep_ts i (part state.rep_ts i + 1) in
              let q : part state.rep_ts s.place ≡ part state.rep_ts i = ap (part state.rep_ts) e in
              omega arith
          by_place (inr ne) = omega (arith, part-set_part_other state.rep_ts i (part state.rep_ts i + 1) s.place ne)

      up : (r s ≡ true) ⊎ (same_spot s next ≡ true) → (nat_lt 0 s.number && nat_le s.number (part new s.place)) ≡ true
      up (inl e) =
          let least = counted-least r state.rep_ts ok.counted s e in
          let most = counted-most r state.rep_ts ok.counted s e in
          let g = grows in
          and-intro (nat_lt 0 s.number) _ (le-leb 1 s.number least) (le-leb s.number _ (omega arith))
      up (inr e) =
          let is : s ≡ next = same_spot-is s next e in
          let number : s.number ≡ part state.rep_ts i + 1 = ap (λ (k : Spot). k.number) is in
          let place : s.place ≡ i = ap (λ (k : Spot). k.place) is in
          let p : part new s.place ≡ part state.rep_ts i + 1 = ap (part new) place ∙ part-set_part state.rep_ts i (part state.rep_ts i + 1) in
          and-intro (nat_lt 0 s.number) _ (le-leb 1 s.number (omega arith)) (le-leb s.number _ (omega arith))

      back : 1 ≤ s.number → s.number ≤ part new s.place → (s.place ≡ i) ⊎ (s.place ≢ i) → (r s || same_spot s next) ≡ true
      back least most (inr ne) =
          let q = part-set_part_other state.rep_ts i (part state.rep_ts i + 1) s.place ne in
          or-left (r s) _ (counted-has r state.rep_ts ok.counted s least (omega arith))
      back least most (inl e) = by_number (le-or-lt (part state.rep_ts i) s.number)
        where
          by_number : (s.number ≤ part state.rep_ts i) ⊎ (part state.rep_ts i < s.number) → (r s || same_spot s next) ≡ true
          by_number (inl le) =
              let q : part state.rep_ts s.place ≡ part state.rep_ts i = ap (part state.rep_ts) e in
              or-left (r s) _ (counted-has r state.rep_ts ok.counted s least (omega arith))
          by_number (inr lt) =
              let p : part new s.place ≡ part state.rep_ts i + 1 = ap (part new) e ∙ part-set_part state.rep_ts i (part state.rep_ts i + 1) in
              let number : s.number ≡ part state.rep_ts i + 1 = omega arith in
              or-right (r s) _ (ap (λ k. same_spot k next) (λ j. spot_at (e j) (number j)) ∙ same_spot-self next)

  module _ (call : Call Op) (x : SpotSet) (names : Names call.prev x) (set : IsSetOf l x) (op : Op) (same_op : call.op ≡ op) (cid : Cid) (same_cid : call.cid ≡ cid) (stays : left cid ≡ false) where
    abbrev pub a : Acceptance Op
    a = made_at l sound next next-fresh (omega arith) cid op x set

    abbrev pub u : LogUpdate Op
    u = update_of_call i state call

    -- the update's causes are its call's label
    prev-names : Names u.prev x
    prev-names = names-parts call.prev u.prev x (λ place. let j = part-join call.prev state.imm_ts place in let z = ok.still.imm place in omega arith) names

    rises : part u.prev i < part state.rep_ts i + 1
    rises = go (part u.prev i) refl
      where
        go : (n : ℕ) → part u.prev i ≡ n → part u.prev i < part state.rep_ts i + 1
        go zero e = omega arith
        go (suc n) e =
            let here : x (spot_at i (part u.prev i)) ≡ true = prev-names.reached i (omega arith) in
            let b = set.exist _ here in
            let got : r (spot_at i (part u.prev i)) ≡ true = ap r (sym b.2) ∙ own b.0 b.1 (ap (λ (s : Spot). s.place) b.2) in
            let most = counted-most r state.rep_ts ok.counted _ got in
            omega arith

    pub new-stands : StandsFor (a ∷ l) u a
    new-stands = record {
      among = inl refl;
      spot = refl;
      cid = same_cid;
      op = same_op;
      prev = names-same u.prev x (causes a) (λ s. sym (new-causes l sound next next-fresh (omega arith) cid op x set s)) prev-names;
      rises = rises;
    }

    g_out : g next ≡ false
    g_out = never _ (λ e. let most = counted-most r state.rep_ts ok.counted next (ok.within next e) in absurd (omega arith))

    apart-old : Each (λ y. u.spot ≡ y.spot → ⊥) state.updates
    apart-old = each-map _ _ state.updates (λ y h same. next-fresh (h.0, h.1.among, sym (same ∙ h.1.spot))) ok.log.each

    new-log : IsLogOf (a ∷ l) (g ∪ only next) (insert_update u state.updates)
    new-log = record {
      each = each-put u (IsUpdateOf (a ∷ l) (g ∪ only next)) state.updates (a, new-stands, or-right (g next) _ (same_spot-self next))
          (each-map _ _ state.updates (λ y h. (h.0, stands-more l a next-fresh y h.0 h.1, or-left (g h.0.spot) _ h.2)) ok.log.each);
      all = (
        (λ e. (u, among-put u state.updates, refl)),
        each-from _ l (λ b member e. old b (each-at _ b l ok.log.all member (was b member (or-cases (g b.spot) _ e)))),
      );
      ascending = ascending-put u state.updates ok.log.ascending apart-old;
    }
      where
        was : (b : Acceptance Op) → IsAmong b l → (g b.spot ≡ true) ⊎ (same_spot b.spot next ≡ true) → g b.spot ≡ true
        was b member (inl e) = e
        was b member (inr e) = absurd (next-fresh (b, member, same_spot-is b.spot next e))

        old : (b : Acceptance Op) → HasUpdateAt b.spot state.updates → HasUpdateAt b.spot (insert_update u state.updates)
        old b h = (h.0, among-put_old u state.updates h.0 h.1, h.2)

    too_high : stamp_le (stamp_of u) state.val_ts ≡ true → ⊥
    too_high le =
        let up : part (stamp_of u) i ≤ part state.val_ts i = parts-stamp_le (stamp_of u) state.val_ts le i in
        let p : part (stamp_of u) i ≡ part state.rep_ts i + 1 = part-set_part u.prev i (part state.rep_ts i + 1) in
        let top = ok.applied.names.reached i (omega arith) in
        let got = ready-holds l r _ top in
        let most = counted-most r state.rep_ts ok.counted (spot_at i (part state.val_ts i)) (ap r got.2 ∙ got.3) in
        absurd (omega arith)

    pub accept-pending : IsPending m (a ∷ l) (r ∪ only next) (g ∪ only next) (ready l r) left kept (accepted i state call)
    accept-pending = record {
      counted = counted-next;
      log = new-log;
      received = λ s e. wider s (or-cases (g s) _ e);
      covered = (
        (λ e unready. or-right (g next) _ (same_spot-self next)),
        each-from _ l (λ b member e unready. or-left (g b.spot) _ (each-at _ b l ok.covered member (was b member (or-cases (r b.spot) _ e)) unready)),
      );
      within = λ s e. still_ready s (ready-holds l r s e);
      flagged = each-put u (λ y. stamp_le (stamp_of y) state.val_ts ≡ ready l r y.spot) state.updates
          (never _ too_high ∙ sym (not-ready l a next-fresh r)) (flagged-all m config l sound r g left kept held state ok);
      over = ((λ gone. absurd (true≢false (sym gone ∙ stays))), ok.over);
      applied = let h = applied-more l a next-fresh m (ready l r) left kept state (not-ready l a next-fresh r) ok.applied in
          record { names = h.names; value_is = h.value_is; table = h.table };
    }
      where
        wider : (s : Spot) → (g s ≡ true) ⊎ (same_spot s next ≡ true) → (r s || same_spot s next) ≡ true
        wider s (inl e) = or-left (r s) _ (ok.within s e)
        wider s (inr e) = or-right (r s) _ e

        was : (b : Acceptance Op) → IsAmong b l → (r b.spot ≡ true) ⊎ (same_spot b.spot next ≡ true) → r b.spot ≡ true
        was b member (inl e) = e
        was b member (inr e) = absurd (next-fresh (b, member, same_spot-is b.spot next e))

        still_ready : (s : Spot) → (b : Acceptance Op) × IsAmong b l × (s ≡ b.spot) × (r b.spot ≡ true) × IsWithin l b.below r → ready (a ∷ l) (r ∪ only next) s ≡ true
        still_ready s h =
            ap (ready (a ∷ l) (r ∪ only next)) h.2
            ∙ holds-ready (a ∷ l) (r ∪ only next) h.0 (inr h.1) (or-left (r h.0.spot) _ h.3) (
              (λ e. or-right (r next) _ (same_spot-self next)),
              each-map _ _ l (λ c f e. or-left (r c.spot) _ (f e)) h.4,
            )
