-- A replica that takes gossip.
use Rattle.std.proofs.Common.{◌≡◌, ℕ, suc, ◌<◌, ◌≤◌, Bool, true, false, not, ◌&&◌, ◌||◌, ◌⊎◌, inl, inr, nat_lt, nat_le, List, [], ◌∷◌, length, refl, sym, ap, ◌∙◌, subst, arith, true≢false, le-leb, leb-true}
use Rattle.lr_base.specs.Meaning.{Meaning}
use Rattle.lr_base.specs.Orders.{IsAmong}
use Rattle.lr_base.specs.Rules.{CausalState, gossip_taken, is_new, new_updates, insert_update, insert_updates, stamp_of}
use Rattle.lr_base.specs.StampLaws.{part-join, part-set_part, parts-stamp_le}
use Rattle.lr_base.specs.Stamps.{join, part, stamp_le}
use Rattle.lr_base.specs.declared.messages.Gossip.{Gossip}
use Rattle.lr_base.specs.declared.messages.LogAck.{LogAck}
use Rattle.lr_base.specs.declared.messages.LogUpdate.{LogUpdate}
use Rattle.lr_base.specs.declared.names.Cid.{Cid}
use Rattle.lr_base.specs.declared.names.Config.{Config}
use Rattle.lr_base.specs.declared.names.Spot.{Spot}
use Rattle.lr_graph.specs.Closed.{Each, IsSound}
use Rattle.lr_graph.specs.Graph.{Acceptance, Kept, LabelledCall, ready}
use Rattle.lr_graph.specs.Names.{IsCounted}
use Rattle.lr_graph.specs.Sets.{SpotSet, how_many, ◌∪◌}
use Rattle.lr_graph.proofs.Replicas.Accepting.{flagged-all}
use Rattle.lr_graph.proofs.Stamps.Central.{counted-has, counted-least, counted-most, top-received}
use Rattle.lr_graph.proofs.StateLines.Listing.{size-log}
use Rattle.lr_graph.proofs.Lists.Members.{among-filter, each-at, each-from, each-map, filter-each}
use Rattle.lr_graph.proofs.Logs.Orders.{among-put, among-put_old, ascending-put, before-apart, each-put}
use Rattle.lr_graph.proofs.Sets.ReadySets.{holds-ready, ready-holds, ready-received}
use Rattle.lr_graph.proofs.Related.Relation.{IsReplicaAt, SameGossip}
use Rattle.lr_graph.proofs.Applying.Taking.{ascending-filter}
use Rattle.lr_graph.proofs.Logs.Tallying.{how_many-same}
use Rattle.lr_graph.proofs.Lists.Tests.{and-intro, and-left, and-right, decided, le-or-lt, never, not-false, or-cases, or-false_left, or-false_right, or-left, or-right, same-test}
use Rattle.lr_graph.proofs.Related.Ties.{HasUpdateAt, IsAscending, IsLogOf, IsPending, IsUpdateOf, StandsFor}

-- ---- a log with several updates more

module _ {Op : Type 0} where
  pub each-puts : (P : LogUpdate Op → Type 0) (more us : List (LogUpdate Op)) → Each P more → Each P us → Each P (insert_updates more us)
  each-puts P [] us h k = k
  each-puts P (u ∷ more) us h k = each-puts P more (insert_update u us) h.1 (each-put u P us h.0 k)

  pub among-puts_old : (more us : List (LogUpdate Op)) (y : LogUpdate Op) → IsAmong y us → IsAmong y (insert_updates more us)
  among-puts_old [] us y member = member
  among-puts_old (u ∷ more) us y member = among-puts_old more (insert_update u us) y (among-put_old u us y member)

  pub among-puts_new : (more us : List (LogUpdate Op)) (y : LogUpdate Op) → IsAmong y more → IsAmong y (insert_updates more us)
  among-puts_new [] us y member = absurd member
  among-puts_new (u ∷ more) us y (inl e) = among-puts_old more (insert_update u us) y (subst (λ (z : LogUpdate Op). IsAmong z (insert_update u us)) (sym e) (among-put u us))
  among-puts_new (u ∷ more) us y (inr member) = among-puts_new more (insert_update u us) y member

  -- the updates are at other spots than those of the log, and in order
  pub ascending-puts : (more us : List (LogUpdate Op)) → IsAscending more → IsAscending us → Each (λ x. Each (λ y. x.spot ≡ y.spot → ⊥) us) more → IsAscending (insert_updates more us)
  ascending-puts [] us f g apart = g
  ascending-puts (u ∷ more) us f g apart =
      ascending-puts more (insert_update u us) f.1 (ascending-put u us g apart.0)
      (each-from _ more (λ x member. each-put u (λ y. x.spot ≡ y.spot → ⊥) us (λ same. before-apart u.spot x.spot (each-at _ x more f.0 member) (sym same)) (each-at _ x more apart.1 member)))

module _ {Op : Type 0} (l : List (Acceptance Op)) (g h : SpotSet) (us more : List (LogUpdate Op)) (log : IsLogOf l g us) (others : IsLogOf l h more) (disjoint : (s : Spot) → h s ≡ true → g s ≡ true → ⊥) where
  -- two logs of two sets make one
  pub log-both : IsLogOf l (g ∪ h) (insert_updates more us)
  log-both = record {
    each = each-puts (IsUpdateOf l (g ∪ h)) more us (each-map _ _ more (λ u k. (k.0, k.1, or-right (g k.0.spot) _ k.2)) others.each) (each-map _ _ us (λ u k. (k.0, k.1, or-left (g k.0.spot) _ k.2)) log.each);
    all = each-from _ l (λ a member e. by_part a member (or-cases (g a.spot) _ e));
    ascending = ascending-puts more us others.ascending log.ascending
        (each-map _ _ more (λ x k. each-map _ _ us (λ y j same. disjoint k.0.spot k.2 (ap g (sym k.1.spot ∙ same ∙ j.1.spot) ∙ j.2)) log.each) others.each);
  }
    where
      by_part : (a : Acceptance Op) → IsAmong a l → (g a.spot ≡ true) ⊎ (h a.spot ≡ true) → HasUpdateAt a.spot (insert_updates more us)
      by_part a member (inl e) = let u = each-at _ a l log.all member e in (u.0, among-puts_old more us u.0 u.1, u.2)
      by_part a member (inr e) = let u = each-at _ a l others.all member e in (u.0, among-puts_new more us u.0 u.1, u.2)

-- two counted sets make one
pub counted-join : (x y : SpotSet) (s t : List ℕ) → IsCounted x s → IsCounted y t → IsCounted (x ∪ y) (join s t)
counted-join x y s t f g a = same-test _ _ (λ e. up (or-cases (x a) _ e)) (λ e. back (leb-true 1 a.number (and-left (nat_lt 0 a.number) _ e)) (leb-true a.number _ (and-right (nat_lt 0 a.number) _ e)))
  where
    up : (x a ≡ true) ⊎ (y a ≡ true) → (nat_lt 0 a.number && nat_le a.number (part (join s t) a.place)) ≡ true
    up (inl e) =
        let least = counted-least x s f a e in
        let most = counted-most x s f a e in
        let joined = part-join s t a.place in
        and-intro (nat_lt 0 a.number) _ (le-leb 1 a.number least) (le-leb a.number _ (omega arith))
    up (inr e) =
        let least = counted-least y t g a e in
        let most = counted-most y t g a e in
        let joined = part-join s t a.place in
        and-intro (nat_lt 0 a.number) _ (le-leb 1 a.number least) (le-leb a.number _ (omega arith))

    back : 1 ≤ a.number → a.number ≤ part (join s t) a.place → (x a || y a) ≡ true
    back least most = by_first (le-or-lt (part s a.place) a.number)
      where
        by_first : (a.number ≤ part s a.place) ⊎ (part s a.place < a.number) → (x a || y a) ≡ true
        by_first (inl le) = or-left (x a) _ (counted-has x s f a least le)
        by_first (inr lt) = or-right (x a) _ (counted-has y t g a least (let joined = part-join s t a.place in omega arith))

-- ---- a replica and gossip

-- an item is new where it wasn't received
pub new-spot : (r : SpotSet) (rep : List ℕ) → IsCounted r rep → (s : Spot) → 0 < s.number → is_new rep s ≡ not (r s)
new-spot r rep counted s some = same-test _ _ there back
  where
    there : is_new rep s ≡ true → not (r s) ≡ true
    there e = by_test (r s) refl
      where
        by_test : (t : Bool) → r s ≡ t → not t ≡ true
        by_test false q = refl
        by_test true q =
            let most = counted-most r rep counted s q in
            let lt = leb-true (suc (part rep s.place)) s.number e in
            absurd (omega arith)

    back : not (r s) ≡ true → is_new rep s ≡ true
    back e = by_number (le-or-lt (part rep s.place) s.number)
      where
        by_number : (s.number ≤ part rep s.place) ⊎ (part rep s.place < s.number) → is_new rep s ≡ true
        by_number (inl le) = absurd (true≢false (sym (counted-has r rep counted s (omega arith) le) ∙ not-false (r s) e))
        by_number (inr lt) = le-leb (suc (part rep s.place)) s.number lt

module _ {Value Op : Type 0} (m : Meaning Value Op) (config : Config) (l : List (Acceptance Op)) (acks : List LogAck) (sound : IsSound l) (received : ℕ → SpotSet) (i : ℕ) (here : i < config.replicas) (logs : SpotSet) (left : Cid → Bool) (kept : List Kept) (held : List (LabelledCall Op)) (state : CausalState Value Op)
    (ok : IsReplicaAt m config l (received i) logs left kept held state) (names : SpotSet) (gossip : Gossip Op) (same : SameGossip config.replicas l acks (received i) names gossip) where
  abbrev r : SpotSet
  r = received i

  -- what is logged there and wasn't received here
  abbrev pub fresh : SpotSet
  fresh s = same.logs s && not (r s)

  -- new is what wasn't received
  new-not_received : (u : LogUpdate Op) (a : Acceptance Op) → StandsFor l u a → is_new state.rep_ts u.spot ≡ not (r u.spot)
  new-not_received u a s = new-spot r state.rep_ts ok.counted u.spot (subst (λ (k : Spot). 0 < k.number) (sym s.spot) (each-at _ a l sound.numbered s.among))

  -- the new updates are the log of what is fresh
  new-log : IsLogOf l fresh (new_updates state.rep_ts gossip.updates)
  new-log = record {
    each = each-map _ _ (new_updates state.rep_ts gossip.updates) (λ u h. of_new u h.0.0 h.0.1 h.0.2 h.1) (filter-each (IsUpdateOf l same.logs) (λ u. is_new state.rep_ts u.spot) gossip.updates same.log.each);
    all = each-from _ l (λ a member e. still a (each-at _ a l same.log.all member (and-left (same.logs a.spot) _ e)) (and-right (same.logs a.spot) _ e));
    ascending = ascending-filter (λ u. is_new state.rep_ts u.spot) gossip.updates same.log.ascending;
  }
    where
      of_new : (u : LogUpdate Op) (a : Acceptance Op) → StandsFor l u a → same.logs a.spot ≡ true → is_new state.rep_ts u.spot ≡ true → IsUpdateOf l fresh u
      of_new u a s here e = (a, s, and-intro (same.logs a.spot) _ here (ap (λ x. not (r x)) (sym s.spot) ∙ sym (new-not_received u a s) ∙ e))

      still : (a : Acceptance Op) → HasUpdateAt a.spot gossip.updates → not (r a.spot) ≡ true → HasUpdateAt a.spot (new_updates state.rep_ts gossip.updates)
      still a u out =
          let h = each-at _ u.0 gossip.updates same.log.each u.1 in
          (u.0, among-filter (λ x. is_new state.rep_ts x.spot) u.0 gossip.updates u.1 (new-not_received u.0 h.0 h.1 ∙ ap (λ x. not (r x)) u.2 ∙ out), u.2)

  -- what is named and not logged there was received here
  pub fresh-is : (s : Spot) → (names s && not (r s)) ≡ fresh s
  fresh-is s = same-test _ _ there (λ e. and-intro (names s) _ (same.within s (and-left (same.logs s) _ e)) (and-right (same.logs s) _ e))
    where
      there : (names s && not (r s)) ≡ true → fresh s ≡ true
      there e = by_log (decided (same.logs s))
        where
          by_log : (same.logs s ≡ true) ⊎ (same.logs s ≡ false) → fresh s ≡ true
          by_log (inl h) = and-intro (same.logs s) _ h (and-right (names s) _ e)
          by_log (inr h) = absurd (true≢false (sym (same.elsewhere s (and-left (names s) _ e) h) ∙ not-false (r s) (and-right (names s) _ e)))

  -- so many acceptances are new as updates are
  pub count-new : how_many (λ a. names a.spot && not (r a.spot)) l ≡ length (new_updates state.rep_ts gossip.updates)
  count-new = how_many-same _ _ l (each-from _ l (λ a member. fresh-is a.spot)) ∙ size-log l fresh (new_updates state.rep_ts gossip.updates) sound new-log

  ready-wider : (s : Spot) → ready l r s ≡ true → ready l (r ∪ names) s ≡ true
  ready-wider s e =
      let h = ready-holds l r s e in
      ap (ready l (r ∪ names)) h.2 ∙ holds-ready l (r ∪ names) h.0 h.1 (or-left (r h.0.spot) _ h.3) (each-map _ _ l (λ b f below. or-left (r b.spot) _ (f below)) h.4)

  too-high : (u : LogUpdate Op) (a : Acceptance Op) → StandsFor l u a → r a.spot ≡ false → stamp_le (stamp_of u) state.val_ts ≡ true → ⊥
  too-high u a s out le =
      let some : 0 < u.spot.number = subst (λ (k : Spot). 0 < k.number) (sym s.spot) (each-at _ a l sound.numbered s.among) in
      let up = parts-stamp_le (stamp_of u) state.val_ts le u.spot.place in
      let own = part-set_part u.prev u.spot.place u.spot.number in
      let top = top-received l sound r state.rep_ts ok.counted state.val_ts ok.applied.names u.spot.place (omega arith) in
      let got : r u.spot ≡ true = counted-has r state.rep_ts ok.counted u.spot (omega arith) (omega arith) in
      true≢false (sym got ∙ ap r s.spot ∙ out)

  pub gossip-pending : (from : ℕ) → IsPending m l (r ∪ names) (logs ∪ fresh) (ready l r) left kept (gossip_taken i from state gossip)
  gossip-pending from = record {
    counted = counted-join r names state.rep_ts gossip.rep_ts ok.counted same.counted;
    log = log-both l logs fresh state.updates (new_updates state.rep_ts gossip.updates) ok.log new-log (λ s new old. true≢false (sym (ok.within s old) ∙ not-false (r s) (and-right (same.logs s) _ new)));
    received = λ s e. in_received s (or-cases (logs s) _ e);
    covered = each-from _ l (λ a member e unready. in_log a member (decided (r a.spot)) e unready);
    within = ready-wider;
    flagged = each-puts (λ u. stamp_le (stamp_of u) state.val_ts ≡ ready l r u.spot) (new_updates state.rep_ts gossip.updates) state.updates
        (each-map _ _ (new_updates state.rep_ts gossip.updates) (λ u h. high u h.0 h.1 (not-false (r h.0.spot) (and-right (same.logs h.0.spot) _ h.2))) new-log.each)
        (flagged-all m config l sound r logs left kept held state ok);
    over = ok.over;
    applied = record { names = ok.applied.names; value_is = ok.applied.value_is; table = ok.applied.table };
  }
    where
      in_received : (s : Spot) → (logs s ≡ true) ⊎ (fresh s ≡ true) → (r s || names s) ≡ true
      in_received s (inl e) = or-left (r s) _ (ok.within s e)
      in_received s (inr e) = or-right (r s) _ (same.within s (and-left (same.logs s) _ e))

      in_log : (a : Acceptance Op) → IsAmong a l → (r a.spot ≡ true) ⊎ (r a.spot ≡ false) → (r a.spot || names a.spot) ≡ true → ready l r a.spot ≡ false → (logs a.spot || fresh a.spot) ≡ true
      in_log a member (inl h) e unready = or-left (logs a.spot) _ (each-at _ a l ok.covered member h unready)
      in_log a member (inr h) e unready =
          let named : names a.spot ≡ true = ap (λ t. t || names a.spot) (sym h) ∙ e in
          or-right (logs a.spot) _ (sym (fresh-is a.spot) ∙ and-intro (names a.spot) _ named (ap not h))

      high : (u : LogUpdate Op) (a : Acceptance Op) → StandsFor l u a → r a.spot ≡ false → stamp_le (stamp_of u) state.val_ts ≡ ready l r u.spot
      high u a s out = never _ (too-high u a s out) ∙ sym (never _ (λ e. true≢false (sym (ready-received l r u.spot e) ∙ ap r s.spot ∙ out)))

  -- what is received now and isn't logged was received before and not logged
  pub gossip-unlogged : (s : Spot) → (r s || names s) ≡ true → (logs s || fresh s) ≡ false → (r s ≡ true) × (logs s ≡ false)
  gossip-unlogged s e out = by_test (decided (r s))
    where
      by_test : (r s ≡ true) ⊎ (r s ≡ false) → (r s ≡ true) × (logs s ≡ false)
      by_test (inl h) = (h, or-false_left (logs s) _ out)
      by_test (inr h) =
          let named : names s ≡ true = sym (ap (λ t. t || names s) h) ∙ e in
          absurd (true≢false (sym (sym (fresh-is s) ∙ and-intro (names s) _ named (ap not h)) ∙ or-false_right (logs s) _ out))
