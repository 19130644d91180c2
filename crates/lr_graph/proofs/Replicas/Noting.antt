-- What a message itself does at a replica: an acknowledgement that is noted.
use Rattle.std.proofs.Common.{◌≡◌, ◌≢◌, ℕ, suc, ◌+◌, ◌<◌, Bool, true, false, cond, not, ◌&&◌, ◌||◌, ◌==◌, ◌⊎◌, inl, inr, find, List, [], ◌∷◌, ◌++◌, length, map, Option, Some, refl, sym, ap, ◌∙◌, subst, arith, eqb-true, true≢false}
use Rattle.std.proofs.lemmas.List.{append-nil}
use Rattle.lr_base.specs.Ascending.{same_cid}
use Rattle.lr_base.specs.Meaning.{Meaning}
use Rattle.lr_base.specs.Orders.{IsAmong}
use Rattle.lr_base.specs.Rules.{CausalState, ack_of, insert_ack, noted as noted_state}
use Rattle.lr_base.specs.StampLaws.{length-set_part}
use Rattle.lr_base.specs.Stamps.{part, set_part}
use Rattle.lr_base.specs.declared.acts.Act.TheVariants.{Say}
use Rattle.lr_base.specs.declared.acts.Posted.{Posted}
use Rattle.lr_base.specs.declared.events.Outcome.TheVariants.{Note}
use Rattle.lr_base.specs.declared.messages.LogAck.{LogAck}
use Rattle.lr_base.specs.declared.messages.Gossip.{Gossip}
use Rattle.lr_base.specs.declared.names.Actor.{Actor}
use Rattle.lr_base.specs.declared.names.Actor.TheVariants.{Client, Replica}
use Rattle.lr_base.specs.declared.names.Cid.{Cid}
use Rattle.lr_base.specs.declared.names.Config.{Config}
use Rattle.lr_base.specs.declared.names.Spot.{Spot}
use Rattle.lr_graph.specs.After.{notes}
use Rattle.lr_graph.specs.Closed.{Each, IsWithin}
use Rattle.lr_graph.specs.Graph.{Acceptance, AckCopy, Facts, LabelledCall, acks_of, has_ack, item_spots, made, ready}
use Rattle.lr_graph.specs.Legal.{next_spot}
use Rattle.lr_graph.specs.Names.{IsCounted, spot_at}
use Rattle.lr_graph.specs.Runs.{RunState, message_at}
use Rattle.lr_graph.specs.Sets.{SpotSet, only, same_spot, ◌∪◌}
use Rattle.lr_graph.specs.Pruned.{is_acked, is_left, is_ready, is_spent, known_everywhere, logged, logs_call, told_by}
use Rattle.lr_graph.proofs.Handled.{came_in}
use Rattle.lr_graph.proofs.Lists.Members.{among-list_any, each-at, each-from, each-map, list_any-among}
use Rattle.lr_graph.proofs.Lists.Tests.{and-false, and-implied, and-intro, and-left, and-right, and-true, never, not-false, or-cases, or-false, or-false_left, or-false_right, or-left, or-right, same_spot-is, same_spot-self, spots-apart}
use Rattle.lr_graph.proofs.Logs.Acks.{acks-same}
use Rattle.lr_graph.proofs.Logs.Items.{accepted-item, among-between, apart-between, between-among, each-between, not-noted}
use Rattle.lr_graph.proofs.Pruning.Elsewhere.{tied-elsewhere, tied-noted}
use Rattle.lr_graph.proofs.Pruning.Later.{known-later, spent-later, told-own, unlogged-later}
use Rattle.lr_graph.proofs.Pruning.Spreading.{spread-grown, spread-lifted, spread-noted}
use Rattle.lr_graph.proofs.Pruning.Spent.{spent-left, spent-unlogged, unacked-spent, unlogged-known}
use Rattle.lr_graph.proofs.Related.More.{message-more}
use Rattle.lr_graph.proofs.Related.Relation.{at_actor, HasNoted, HasTold, IsReplicaAt, IsShared, IsTied, SameGossip, SameMessage, SameOption, calls_in}
use Rattle.lr_graph.proofs.Related.Ties.{IsPending}
use Rattle.lr_graph.proofs.Replicas.Accepting.{counted-next, flagged-all}
use Rattle.lr_graph.proofs.Replicas.Ending.{IsMid}
use Rattle.lr_graph.proofs.Replicas.Stepping.{IsOwnPart, put-other, put-same}
use Rattle.lr_graph.proofs.Sets.ReadySets.{holds-ready, ready-holds}
use Rattle.lr_graph.proofs.Sets.Values.{has_call-wider}
use Rattle.lr_graph.proofs.Stamps.Central.{counted-most}

module _ {Value Op : Type 0} (m : Meaning Value Op) (config : Config) (issued : Cid → Option (LabelledCall Op)) (w : Facts Op) (v : RunState Value Op) (shared : IsShared m config issued w v.fronts v.posted)
    (i : ℕ) (here : i < config.replicas) (state : CausalState Value Op) (ok : IsReplicaAt m config w.accepted (w.received i) (logged config w i) (is_left config w i) (w.kept i) (w.held i) state)
    (noted : HasNoted config.replicas w.acks (is_acked config w i) (w.clock i) (told_by w i) state) (others : (j : ℕ) → j ≢ i → j < config.replicas → IsTied m config w v.replicas j) (number : ℕ) (from : Actor)
    (cid other : Cid) (t time : ℕ) (cids : cid ≡ other) (times : t ≡ time) (own_made : made (item_spots w) i ≡ part state.rep_ts i) where
  abbrev l : List (Acceptance Op)
  l = w.accepted

  abbrev spot : Spot
  spot = spot_at i (part state.rep_ts i + 1)

  spot_is : spot ≡ next_spot w i
  spot_is = λ k. spot_at i (number_is k)
    where
      number_is : part state.rep_ts i + 1 ≡ suc (made (item_spots w) i)
      number_is = let n = own_made in omega arith

  -- no item has the next spot
  new_spot : IsAmong spot (item_spots w) → ⊥
  new_spot member = let most = counted-most (w.received i) state.rep_ts ok.counted spot (shared.own spot member) in absurd (omega arith)

  own_at : (b : Acceptance Op) → IsAmong b l → b.spot.place ≡ i → w.received i b.spot ≡ true
  own_at b member place = ap (λ k. w.received k b.spot) (sym place) ∙ shared.own b.spot (accepted-item w b member)

  abbrev w1 : Facts Op
  w1 = notes w i spot cid t

  abbrev after_it : CausalState Value Op
  after_it = noted_state i state other time

  abbrev new_ack : LogAck
  new_ack = record { spot = spot; cid = cid; time = t }

  received-grows : (j : ℕ) (s : Spot) → w.received j s ≡ true → w1.received j s ≡ true
  received-grows j s e = by_place (j == i) refl
    where
      by_place : (q : Bool) → (j == i) ≡ q → cond q (w.received i ∪ only spot) (w.received j) s ≡ true
      by_place true q = or-left (w.received i s) _ (ap (λ k. w.received k s) (sym (eqb-true j i q)) ∙ e)
      by_place false q = e

  not-item : Each (λ s. same_spot s spot ≡ false) (item_spots w)
  not-item = each-from _ (item_spots w) (λ s member. spots-apart s spot (λ same. new_spot (subst (λ x. IsAmong x (item_spots w)) same member)))

  among-more : (s : Spot) → IsAmong s (item_spots w) → IsAmong s (item_spots w1)
  among-more s member = among-between s (map (λ a. a.spot) w.accepted) (map (λ a. a.spot) w.acks) spot member

  among-new : IsAmong spot (item_spots w1)
  among-new = go (map (λ (a : Acceptance Op). a.spot) w.accepted)
    where
      go : (xs : List Spot) → IsAmong spot (xs ++ spot ∷ map (λ (a : LogAck). a.spot) w.acks)
      go [] = inl refl
      go (x ∷ xs) = inr (go xs)

  actor-grows : (to : Actor) (s : Spot) → at_actor w.received to s ≡ true → at_actor w1.received to s ≡ true
  actor-grows (Replica j) s e = received-grows j s e
  actor-grows (Client c) s e = e

  gossip-more : (to : Actor) (them : SpotSet) (g : Gossip Op) → SameGossip config.replicas l w.acks (at_actor w.received to) them g → SameGossip config.replicas l w1.acks (at_actor w1.received to) them g
  gossip-more to them g h = record {
    logs = h.logs;
    counted = h.counted;
    exist = λ s e. among-more s (h.exist s e);
    log = h.log;
    within = h.within;
    elsewhere = λ s e out. actor-grows to s (h.elsewhere s e out);
    ack_logs = λ a. h.ack_logs a && them a.spot;
    acks_are = h.acks_are
        ∙ acks-same _ _ w.acks (each-map _ _ w.acks (λ a within. sym (and-implied (h.ack_logs a) (them a.spot) within)) h.acks_within)
        ∙ sym (ap (λ q. cond q (insert_ack new_ack (acks_of (λ a. h.ack_logs a && them a.spot) w.acks)) (acks_of (λ a. h.ack_logs a && them a.spot) w.acks)) new_out);
    acks_within = each-from _ w1.acks (λ a member e. and-right (h.ack_logs a) _ e);
    acks_elsewhere = (
      (λ e. absurd (true≢false (sym e ∙ out))),
      each-from _ w.acks (λ a member e unlisted. actor-grows to a.spot (each-at _ a w.acks h.acks_elsewhere member e (sym (and-true (h.ack_logs a) _ e) ∙ unlisted))),
    );
    parts = h.parts;
  }
    where
      out : them spot ≡ false
      out = never _ (λ e. new_spot (h.exist spot e))

      new_out : (h.ack_logs new_ack && them spot) ≡ false
      new_out = ap (λ t. h.ack_logs new_ack && t) out ∙ and-false (h.ack_logs new_ack)

  shared_noted : IsShared m config issued w1 v.fronts (v.posted ++ [])
  shared_noted = record {
    sound = shared.sound;
    each = shared.each;
    apart = apart-between (map (λ a. a.spot) w.accepted) (map (λ a. a.spot) w.acks) spot not-item shared.apart;
    numbered = each-between (λ s. 0 < s.number) (map (λ a. a.spot) w.accepted) (map (λ a. a.spot) w.acks) spot (omega arith) shared.numbered;
    own = λ s member. own_all s (between-among s (map (λ a. a.spot) w.accepted) (map (λ a. a.spot) w.acks) spot member);
    exist = exist_all;
    spread = spread-lifted config w w1
        (λ k x h. spread-grown (record w { acks = new_ack ∷ w.acks }) w1.received received-grows k x (spread-noted w new_ack (λ j. never (w.received j spot) (λ e. new_spot (shared.exist j spot e))) k x h))
        refl refl received-grows shared.spread;
    fronts_are = shared.fronts_are;
    opened = shared.opened;
    count = shared.count ∙ ap length (sym (append-nil v.posted));
    messages = subst (λ (ps : List (Posted Op)). (n : ℕ) → SameOption (SameMessage m config w.accepted w1.acks w1.received issued (calls_in w)) (find (λ y. y.number == n) w.messages) (message_at ps n)) (sym (append-nil v.posted))
        (λ n. message-more m config (λ c d call. call) (λ x set. set) (λ c s x done. done) (λ c by. by) gossip-more (find (λ y. y.number == n) w.messages) (message_at v.posted n) (shared.messages n));
  }
    where
      own_all : (s : Spot) → (s ≡ spot) ⊎ IsAmong s (item_spots w) → w1.received s.place s ≡ true
      own_all s (inl e) = subst (λ (x : Spot). w1.received x.place x ≡ true) (sym e)
          (ap (λ (r : SpotSet). r spot) (put-same i (w.received i ∪ only spot) w.received) ∙ or-right (w.received i spot) _ (same_spot-self spot))
      own_all s (inr member) = received-grows s.place s (shared.own s member)

      exist_all : (j : ℕ) (s : Spot) → w1.received j s ≡ true → IsAmong s (item_spots w1)
      exist_all j s e = by_place (j == i) e
        where
          by_place : (q : Bool) → cond q (w.received i ∪ only spot) (w.received j) s ≡ true → IsAmong s (item_spots w1)
          by_place false h = among-more s (shared.exist j s h)
          by_place true h = by_part (or-cases (w.received i s) _ h)
            where
              by_part : (w.received i s ≡ true) ⊎ (same_spot s spot ≡ true) → IsAmong s (item_spots w1)
              by_part (inl k) = among-more s (shared.exist i s k)
              by_part (inr k) = subst (λ x. IsAmong x (item_spots w1)) (sym (same_spot-is s spot k)) among-new

  -- no acceptance is at the new spot
  not-accepted : (a : Acceptance Op) → IsAmong a l → same_spot a.spot spot ≡ false
  not-accepted a member = each-at _ a.spot (item_spots w) not-item (accepted-item w a member)

  ready-wider : (s : Spot) → ready l (w.received i) s ≡ true → ready l (w.received i ∪ only spot) s ≡ true
  ready-wider s e =
      let h = ready-holds l (w.received i) s e in
      ap (ready l (w.received i ∪ only spot)) h.2 ∙ holds-ready l (w.received i ∪ only spot) h.0 h.1 (or-left (w.received i h.0.spot) _ h.3) (each-map _ _ l (λ b f below. or-left (w.received i b.spot) _ (f below)) h.4)

  pending : IsPending m l (w.received i ∪ only spot) (logged config w i ∪ only spot) (ready l (w.received i)) (is_left config w i) (w.kept i) after_it
  pending = record {
    counted = counted-next m config l shared.sound (w.received i) (logged config w i) (is_left config w i) (w.kept i) (w.held i) state ok i own_at;
    log = record {
      each = each-map _ _ state.updates (λ u h. (h.0, h.1, or-left (logged config w i h.0.spot) _ h.2)) ok.log.each;
      all = each-from _ l (λ a member e. each-at _ a l ok.log.all member (sym (or-false (logged config w i a.spot) _ (not-accepted a member)) ∙ e));
      ascending = ok.log.ascending;
    };
    received = λ s e. wider s (or-cases (logged config w i s) _ e);
    covered = each-from _ l (λ a member e unready. or-left (logged config w i a.spot) _ (each-at _ a l ok.covered member (sym (or-false (w.received i a.spot) _ (not-accepted a member)) ∙ e) unready));
    within = ready-wider;
    flagged = flagged-all m config l shared.sound (w.received i) (logged config w i) (is_left config w i) (w.kept i) (w.held i) state ok;
    over = ok.over;
    applied = record { names = ok.applied.names; value_is = ok.applied.value_is; table = ok.applied.table };
  }
    where
      wider : (s : Spot) → (logged config w i s ≡ true) ⊎ (same_spot s spot ≡ true) → (w.received i s || same_spot s spot) ≡ true
      wider s (inl e) = or-left (w.received i s) _ (ok.within s e)
      wider s (inr e) = or-right (w.received i s) _ e

  -- what the replica knows of the others it goes on to know
  told-grows : (k : ℕ) (s : Spot) → told_by w i k s ≡ true → told_by w1 i k s ≡ true
  told-grows k s e = by_place (k == i) e
    where
      by_place : (q : Bool) → cond q (w.received i) (w.told i k) s ≡ true → cond q (w1.received i) (w.told i k) s ≡ true
      by_place true h = received-grows i s h
      by_place false h = h

  known-grows : (s : Spot) → known_everywhere config w i s ≡ true → known_everywhere config w1 i s ≡ true
  known-grows = known-later config w w1 i told-grows

  -- of what isn't the new spot nothing was received
  was-received : (s : Spot) → same_spot s spot ≡ false → w1.received i s ≡ true → w.received i s ≡ true
  was-received s other e = sym (or-false (w.received i s) _ other) ∙ ap (λ (r : SpotSet). r s) (sym (put-same i (w.received i ∪ only spot) w.received)) ∙ e

  was-logged : (b : Acceptance Op) → IsAmong b l → logged config w1 i b.spot ≡ true → logged config w i b.spot ≡ true
  was-logged b member e = and-intro (w.received i b.spot) _ (was-received b.spot (not-accepted b member) (and-left (w1.received i b.spot) _ e))
      (ap not (never (known_everywhere config w i b.spot) (λ known. true≢false (sym (known-grows b.spot known) ∙ not-false _ (and-right (w1.received i b.spot) _ e)))))

  still-unlogged : (c : Cid) → not (logs_call config w i c) ≡ true → not (logs_call config w1 i c) ≡ true
  still-unlogged c none = unlogged-later config w w1 i c (λ b member same e. (member, was-logged b member e)) none

  was-ready : (c : Cid) → is_ready w1 i c ≡ true → is_ready w i c ≡ true
  was-ready c e = has_call-wider l (ready l (w1.received i)) (ready l (w.received i)) c (λ b member h. at b member (ready-holds l (w1.received i) b.spot h)) e
    where
      at : (b : Acceptance Op) → IsAmong b l → (a : Acceptance Op) × IsAmong a l × (b.spot ≡ a.spot) × (w1.received i a.spot ≡ true) × IsWithin l a.below (w1.received i) → ready l (w.received i) b.spot ≡ true
      at b member h = ap (ready l (w.received i)) h.2
          ∙ holds-ready l (w.received i) h.0 h.1 (was-received h.0.spot (not-accepted h.0 h.1) h.3)
          (each-from _ l (λ c in_l below. was-received c.spot (not-accepted c in_l) (each-at _ c l h.4 in_l below)))

  still-ready : (c : Cid) → is_ready w i c ≡ true → is_ready w1 i c ≡ true
  still-ready c e = has_call-wider l (ready l (w.received i)) (ready l (w1.received i)) c
      (λ b member h. ap (λ (r : SpotSet). ready l r b.spot) (put-same i (w.received i ∪ only spot) w.received) ∙ ready-wider b.spot h) e

  still-left : (c : Cid) → is_left config w i c ≡ true → is_left config w1 i c ≡ true
  still-left c gone =
      let done = and-right (is_ready w i c) _ gone in
      let old = list_any-among (λ (x : LogAck). w.received i x.spot && same_cid c x.cid) w.acks (and-left (has_ack w.acks (w.received i) c) _ done) in
      and-intro (is_ready w1 i c) _ (still-ready c (and-left (is_ready w i c) _ gone))
      (and-intro (has_ack w1.acks (w1.received i) c) _
      (among-list_any (λ (x : LogAck). w1.received i x.spot && same_cid c x.cid) old.0 w1.acks (inr old.1) (and-intro (w1.received i old.0.spot) _ (received-grows i old.0.spot (and-left (w.received i old.0.spot) _ old.2)) (and-right (w.received i old.0.spot) _ old.2)))
      (still-unlogged c (and-right (has_ack w.acks (w.received i) c) _ done)))

  abbrev ack_logs : LogAck → Bool
  ack_logs a = is_acked config w i a || same_spot a.spot spot

  mid_noted : IsMid m config w1 i after_it
  mid_noted = record {
    logs = logged config w i ∪ only spot;
    done = ready l (w.received i);
    left = is_left config w i;
    ack_logs = ack_logs;
    pending = subst (λ (r : SpotSet). IsPending m l r (logged config w i ∪ only spot) (ready l (w.received i)) (is_left config w i) (w.kept i) after_it) (sym (put-same i (w.received i ∪ only spot) w.received)) pending;
    still = record { imm = ok.still.imm; parts = length-set_part state.rep_ts i (part state.rep_ts i + 1) (let p = ok.still.parts in omega arith) ∙ ok.still.parts; keys = ok.still.keys };
    noted = record { clock_is = noted.clock_is; acks_are = acks_now; rows = rows_now };
    held_are = ok.held_are;
    unlogged = λ s e out. known-grows s (unlogged-known config w i s (was-received s (or-false_right (logged config w i s) _ out) e) (or-false_left (logged config w i s) _ out));
    acks_within = each-from _ w1.acks (λ a member e. here_now a (or-cases (is_acked config w i a) _ e));
    unnoted = (
      (λ e out. absurd (true≢false (sym (or-right (is_acked config w i new_ack) _ (same_spot-self spot)) ∙ out))),
      each-from _ w.acks (λ a member e out. gone a member (was-received a.spot (or-false_right (is_acked config w i a) _ out) e) (or-false_left (is_acked config w i a) _ out)),
    );
    away = still-left;
  }
    where
      acks_now : after_it.acks ≡ acks_of ack_logs w1.acks
      acks_now =
          (λ k. insert_ack (record { spot = spot; cid = sym cids k; time = sym times k }) ((noted.acks_are ∙ acks-same _ _ w.acks (each-map _ _ w.acks (λ a out. sym (or-false (is_acked config w i a) _ out)) (not-noted w spot new_spot))) k))
          ∙ (λ k. cond (sym (or-right (is_acked config w i new_ack) _ (same_spot-self spot)) k) (insert_ack new_ack (acks_of ack_logs w.acks)) (acks_of ack_logs w.acks))

      rows_now : HasTold config.replicas (told_by w1 i) after_it
      rows_now = let rows = told-own config.replicas i here (w.told i) (w.received i) (w1.received i) (set_part state.rep_ts i (part state.rep_ts i + 1)) state
          (subst (λ (r : SpotSet). IsCounted r (set_part state.rep_ts i (part state.rep_ts i + 1))) (sym (put-same i (w.received i ∪ only spot) w.received)) (counted-next m config l shared.sound (w.received i) (logged config w i) (is_left config w i) (w.kept i) (w.held i) state ok i own_at)) noted.rows in
          record { rows = rows.rows; counted = rows.counted }

      here_now : (a : LogAck) → (is_acked config w i a ≡ true) ⊎ (same_spot a.spot spot ≡ true) → w1.received i a.spot ≡ true
      here_now a (inl e) = received-grows i a.spot (and-left (w.received i a.spot) _ e)
      here_now a (inr e) = ap (λ (r : SpotSet). r a.spot) (put-same i (w.received i ∪ only spot) w.received) ∙ or-right (w.received i a.spot) _ e

      gone : (a : LogAck) → IsAmong a w.acks → w.received i a.spot ≡ true → is_acked config w i a ≡ false → (is_spent config w1 i a ≡ true) × (is_ready w1 i a.cid ≡ true → is_left config w i a.cid ≡ true)
      gone a member was out =
          let spent = unacked-spent config w i a was out in (
            spent-later config w w1 i a (known-grows a.spot) refl (still-unlogged a.cid (spent-unlogged config w i a spent)) spent,
            λ e. spent-left config w i a member was spent (was-ready a.cid e),
          )

  others_stay : (j : ℕ) → j ≢ i → j < config.replicas → IsTied m config w1 v.replicas j
  others_stay j apart within =
      tied-elsewhere m config v.replicas j (record w { acks = new_ack ∷ w.acks }) w1.received w.told w.kept w.held w.clock
      (put-other i j (w.received i ∪ only spot) w.received apart) refl refl refl refl
      (tied-noted m config v.replicas j w new_ack (never _ (λ e. new_spot (shared.exist j spot e))) (others j apart within))

  pub own-noted : IsOwnPart m config issued w v i (came_in (Some (record { number = number; from = from; to = Replica i; what = AckCopy cid t }))) (Note (next_spot w i) cid ∷ [])
      (record { state = after_it; acts = Say (Note (ack_of i state other time).spot other) ∷ [] })
  own-noted = subst (λ (at : Spot). IsOwnPart m config issued w v i (came_in (Some (record { number = number; from = from; to = Replica i; what = AckCopy cid t }))) (Note at cid ∷ [])
      (record { state = after_it; acts = Say (Note spot other) ∷ [] })) spot_is (record {
        lines = λ k. Note spot (cids k) ∷ [];
        shared = shared_noted;
        mid = mid_noted;
        others = others_stay;
      })
