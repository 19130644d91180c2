-- What a message itself does at a replica: a query that is held, and an update that is accepted.
use Rattle.std.proofs.Common.{◌≡◌, ◌≢◌, ℕ, ◌+◌, ◌<◌, Bool, true, false, cond, not, ◌&&◌, ◌==◌, ◌⊎◌, inl, inr, find, List, [], ◌∷◌, ◌++◌, length, Option, Some, None, refl, sym, ap, ◌∙◌, subst, arith, true≢false, eqb-true}
use Rattle.std.proofs.lemmas.List.{append-nil}
use Rattle.lr_base.specs.Ascending.{same_cid}
use Rattle.lr_base.specs.Kinds.{IsUpdate, has_rules}
use Rattle.lr_base.specs.Meaning.{Meaning}
use Rattle.lr_base.specs.Orders.{IsAmong}
use Rattle.lr_base.specs.Rules.{CausalState, accepted, held_more, stamp_of, update_of_call}
use Rattle.lr_base.specs.Stamps.{part, set_part}
use Rattle.lr_base.specs.Steps.{done_act}
use Rattle.lr_base.specs.declared.acts.Act.TheVariants.{Say}
use Rattle.lr_base.specs.declared.acts.Posted.{Posted}
use Rattle.lr_base.specs.declared.events.Outcome.TheVariants.{Accept, Hold, Send}
use Rattle.lr_base.specs.declared.events.Sent.TheVariants.{Done as DoneSent}
use Rattle.lr_base.specs.declared.messages.Call.{Call}
use Rattle.lr_base.specs.declared.messages.Gossip.{Gossip}
use Rattle.lr_base.specs.declared.messages.LogAck.{LogAck}
use Rattle.lr_base.specs.declared.messages.Message.TheVariants.{Done}
use Rattle.lr_base.specs.declared.names.Actor.{Actor}
use Rattle.lr_base.specs.declared.names.Actor.TheVariants.{Client, Replica}
use Rattle.lr_base.specs.declared.names.Cid.{Cid}
use Rattle.lr_base.specs.declared.names.Config.{Config}
use Rattle.lr_base.specs.declared.names.Spot.{Spot}
use Rattle.lr_graph.specs.Closed.{Each, IsAccepted, IsDoneAt, IsSetOf, IsSound, IsWithin}
use Rattle.lr_graph.specs.Graph.{Acceptance, DoneReply, Facts, LabelledCall, QueryCopy, SentMessage, UpdateCopy, below_of, has_ack, has_call, item_spots, ready}
use Rattle.lr_graph.specs.Legal.{done_line, next_number}
use Rattle.lr_graph.specs.Names.{IsCounted, Names, spot_at}
use Rattle.lr_graph.specs.Runs.{RunState, message_at}
use Rattle.lr_graph.specs.Sets.{SpotSet, only, put_at, same_spot, ◌∪◌}
use Rattle.lr_graph.proofs.Replicas.Accepting.{accept-pending, unchanged-pending, made_at, new-causes, new-stands, next-fresh, sound-more}
use Rattle.lr_graph.proofs.Stamps.Central.{below-set, counted-most}
use Rattle.lr_graph.proofs.Replicas.Ending.{IsMid}
use Rattle.lr_graph.proofs.Related.More.{call-more, held-more, log-more, message-more, set-more}
use Rattle.lr_graph.proofs.Replicas.Posting.{message-sent, posting}
use Rattle.lr_graph.proofs.Sets.ReadySets.{holds-ready, ready-holds, update-stamp}
use Rattle.lr_graph.proofs.Sets.Values.{has_call-holds, holds-has_call}
use Rattle.lr_graph.proofs.Related.Relation.{at_actor, HasNoted, HasTold, IsAcceptance, IsIssued, IsReplicaAt, IsShared, IsTied, SameCall, SameGossip, SameHeld, SameList, SameMessage, SameOption, calls_in, same_done}
use Rattle.lr_graph.proofs.Replicas.Stepping.{IsOwnPart, put-other, put-same}
use Rattle.lr_graph.proofs.Lists.Members.{among-list_any, each-at, each-from, each-map, list_any-among}
use Rattle.lr_graph.proofs.Pruning.Elsewhere.{tied-accepted, tied-elsewhere}
use Rattle.lr_graph.proofs.Pruning.Later.{known-later, spent-later, told-own, unlogged-later}
use Rattle.lr_graph.proofs.Pruning.Spreading.{holds-has_ack, spread-accepted, spread-beside, spread-grown, spread-lifted}
use Rattle.lr_graph.specs.Spread.{has_item}
use Rattle.lr_graph.proofs.Pruning.Spent.{spent-left, spent-unlogged, unacked-spent, unlogged-known}
use Rattle.lr_graph.proofs.Lists.Tests.{and-intro, and-left, and-right, never, not-false, or-cases, or-false, or-false_left, or-false_right, or-left, or-right, same_spot-is, same_spot-self, spots-apart}
use Rattle.lr_graph.proofs.Logs.Items.{accepted-item, not-noted}
use Rattle.lr_graph.proofs.Related.Ties.{IsPending}
use Rattle.lr_graph.specs.After.{Handling}
use Rattle.lr_graph.specs.Pruned.{is_acked, is_left, is_ready, is_spent, known_everywhere, logged, logs_call, told_by}
use Rattle.lr_graph.proofs.Handled.{came_in}

-- ---- a query is held

same-held-behind : {Op : Type 0} (clients : ℕ) (l : List (Acceptance Op)) (cs : List (LabelledCall Op)) (ds : List (Call Op)) (c : LabelledCall Op) (d : Call Op) → SameList (SameHeld clients l) cs ds → SameHeld clients l c d
    → SameList (SameHeld clients l) (cs ++ c ∷ []) (ds ++ d ∷ [])
same-held-behind clients l [] [] c d h k = (k, tt)
same-held-behind clients l [] (e ∷ ds) c d h k = absurd h
same-held-behind clients l (b ∷ cs) [] c d h k = absurd h
same-held-behind clients l (b ∷ cs) (e ∷ ds) c d h k = (h.0, same-held-behind clients l cs ds c d h.1 k)

module _ {Value Op : Type 0} (m : Meaning Value Op) (config : Config) (issued : Cid → Option (LabelledCall Op)) (w : Facts Op) (v : RunState Value Op) (shared : IsShared m config issued w v.fronts v.posted)
    (i : ℕ) (here : i < config.replicas) (state : CausalState Value Op) (ok : IsReplicaAt m config w.accepted (w.received i) (logged config w i) (is_left config w i) (w.kept i) (w.held i) state)
    (noted : HasNoted config.replicas w.acks (is_acked config w i) (w.clock i) (told_by w i) state) (others : (j : ℕ) → j ≢ i → j < config.replicas → IsTied m config w v.replicas j) (number : ℕ) (from : Actor) where
  abbrev asked : LabelledCall Op → Handling Op
  asked c = came_in (Some (record { number = number; from = from; to = Replica i; what = QueryCopy c }))

  pub own-held : (c : LabelledCall Op) (d : Call Op) → SameCall w.accepted c d → c.cid.client < config.clients
      → IsOwnPart m config issued w v i (asked c) (Hold c.cid ∷ []) (record { state = held_more state d; acts = Say (Hold d.cid) ∷ [] })
  own-held c d same client = record {
    lines = λ k. Hold (same.cid k) ∷ [];
    shared = let s = shared in record {
      sound = s.sound;
      each = s.each;
      apart = s.apart;
      numbered = s.numbered;
      own = s.own;
      exist = s.exist;
      spread = spread-beside config w w.front w.kept (put_at i (w.held i ++ c ∷ []) w.held) w.clock s.spread;
      fronts_are = s.fronts_are;
      opened = s.opened;
      count = s.count ∙ ap length (sym (append-nil v.posted));
      messages = subst (λ (ps : List (Posted Op)). (n : ℕ) → SameOption (SameMessage m config w.accepted w.acks w.received issued (calls_in w)) (find (λ y. y.number == n) w.messages) (message_at ps n)) (sym (append-nil v.posted)) s.messages;
    };
    mid = let p = unchanged-pending m config w.accepted shared.sound (w.received i) (logged config w i) (is_left config w i) (w.kept i) (w.held i) state ok in record {
      logs = logged config w i;
      done = ready w.accepted (w.received i);
      left = is_left config w i;
      ack_logs = is_acked config w i;
      pending = record { counted = p.counted; log = p.log; received = p.received; covered = p.covered; within = p.within; flagged = p.flagged; over = p.over; applied = record { names = p.applied.names; value_is = p.applied.value_is; table = p.applied.table } };
      still = record { imm = ok.still.imm; parts = ok.still.parts; keys = ok.still.keys };
      noted = record { clock_is = noted.clock_is; acks_are = noted.acks_are; rows = record { rows = noted.rows.rows; counted = noted.rows.counted } };
      held_are = subst (λ (cs : List (LabelledCall Op)). SameList (SameHeld config.clients w.accepted) cs (state.held ++ d ∷ [])) (sym (put-same i (w.held i ++ c ∷ []) w.held))
          (same-held-behind config.clients w.accepted (w.held i) state.held c d ok.held_are (record { call = same; client = client }));
      unlogged = λ s here out. unlogged-known config w i s here out;
      acks_within = each-from _ w.acks (λ a member h. and-left (w.received i a.spot) _ h);
      unnoted = each-from _ w.acks (λ a member here out. (let spent = unacked-spent config w i a here out in (spent, λ r. spent-left config w i a member here spent r)));
      away = λ cid gone. gone;
    };
    others = λ j apart within. tied-elsewhere m config v.replicas j w w.received w.told w.kept (put_at i (w.held i ++ c ∷ []) w.held) w.clock
        refl refl refl (put-other i j (w.held i ++ c ∷ []) w.held apart) refl (others j apart within);
  }

-- ---- an update is accepted

module _ {Value Op : Type 0} (m : Meaning Value Op) (config : Config) (issued : Cid → Option (LabelledCall Op)) (w : Facts Op) (v : RunState Value Op) (shared : IsShared m config issued w v.fronts v.posted)
    (i : ℕ) (here : i < config.replicas) (state : CausalState Value Op) (ok : IsReplicaAt m config w.accepted (w.received i) (logged config w i) (is_left config w i) (w.kept i) (w.held i) state)
    (noted : HasNoted config.replicas w.acks (is_acked config w i) (w.clock i) (told_by w i) state) (others : (j : ℕ) → j ≢ i → j < config.replicas → IsTied m config w v.replicas j)
    (c : LabelledCall Op) (d : Call Op) (same : SameCall w.accepted c d) (is_issued : IsIssued config.clients issued (calls_in w) c) (update : IsUpdate (m.kind c.op)) (plain : has_rules (m.kind c.op) ≡ true)
    (first : has_item w (w.received i) c.cid ≡ false) (not_left : (j : ℕ) → j < config.replicas → is_left config w j c.cid ≡ false) where
  abbrev l : List (Acceptance Op)
  l = w.accepted

  own_at : (b : Acceptance Op) → IsAmong b l → b.spot.place ≡ i → w.received i b.spot ≡ true
  own_at b member place = ap (λ k. w.received k b.spot) (sym place) ∙ shared.own b.spot (accepted-item w b member)

  abbrev pub spot : Spot
  spot = spot_at i (part state.rep_ts i + 1)

  -- no item has the next spot
  pub new_spot : IsAmong spot (item_spots w) → ⊥
  new_spot member = let most = counted-most (w.received i) state.rep_ts ok.counted spot (shared.own spot member) in absurd (omega arith)

  fresh : IsAccepted l spot → ⊥
  fresh = next-fresh m config l shared.sound (w.received i) (logged config w i) (is_left config w i) (w.kept i) (w.held i) state ok i own_at

  abbrev some : 0 < part state.rep_ts i + 1
  some = omega arith

  abbrev a : Acceptance Op
  a = made_at l shared.sound spot fresh some c.cid c.op c.label same.set

  sound : IsSound (a ∷ l)
  sound = sound-more l shared.sound spot fresh some c.cid c.op c.label same.set

  abbrev w1 : Facts Op
  w1 = record w { accepted = a ∷ l; received = put_at i (w.received i ∪ only spot) w.received }

  new_one : IsAcceptance m config issued (calls_in w) a
  new_one = record {
    call = c;
    is = is_issued.is;
    op = refl;
    label = new-causes l shared.sound spot fresh some c.cid c.op c.label same.set;
    number = is_issued.number;
    client = is_issued.client;
    place = here;
    update = update;
    plain = plain;
  }

  received-grows : (j : ℕ) (s : Spot) → w.received j s ≡ true → w1.received j s ≡ true
  received-grows j s e = by_place (j == i) refl
    where
      by_place : (t : Bool) → (j == i) ≡ t → cond t (w.received i ∪ only spot) (w.received j) s ≡ true
      by_place true q = or-left (w.received i s) _ (ap (λ k. w.received k s) (sym (eqb-true j i q)) ∙ e)
      by_place false q = e

  done-more : (c : Cid) (s : Spot) (x : SpotSet) → IsDoneAt l c s x → IsDoneAt (a ∷ l) c s x
  done-more c s x done = record { acceptance = done.acceptance; among = inr done.among; call = done.call; at = done.at; below = done.below }

  actor-grows : (to : Actor) (s : Spot) → at_actor w.received to s ≡ true → at_actor w1.received to s ≡ true
  actor-grows (Replica j) s e = received-grows j s e
  actor-grows (Client c) s e = e

  gossip-more : (to : Actor) (names : SpotSet) (g : Gossip Op) → SameGossip config.replicas l w.acks (at_actor w.received to) names g → SameGossip config.replicas (a ∷ l) w.acks (at_actor w1.received to) names g
  gossip-more to names g h = record {
    logs = h.logs;
    counted = h.counted;
    exist = λ s e. inr (h.exist s e);
    log = log-more l a fresh h.logs g.updates (never _ (λ e. new_spot (h.exist spot (h.within spot e)))) h.log;
    within = h.within;
    elsewhere = λ s e out. actor-grows to s (h.elsewhere s e out);
    ack_logs = h.ack_logs;
    acks_are = h.acks_are;
    acks_within = h.acks_within;
    acks_elsewhere = each-map _ _ w.acks (λ k f e out. actor-grows to k.spot (f e out)) h.acks_elsewhere;
    parts = h.parts;
  }

  open-more : (o : Option (LabelledCall Op)) (p : Option (Call Op)) → SameOption (SameCall l) o p → SameOption (SameCall (a ∷ l)) o p
  open-more None None h = h
  open-more None (Some d) h = h
  open-more (Some c) None h = h
  open-more (Some c) (Some d) h = call-more l a fresh shared.sound c d h

  shared_accepted : IsShared m config issued w1 v.fronts v.posted
  shared_accepted = record {
    sound = sound;
    each = (new_one, shared.each);
    apart = (not-item, shared.apart);
    numbered = (some, shared.numbered);
    own = own_all;
    exist = exist_all;
    spread = spread-lifted config w w1
        (λ k x h. spread-grown (record w { accepted = a ∷ l }) w1.received received-grows k x (spread-accepted w a shared.sound fresh (λ j. never (w.received j spot) (λ e. new_spot (shared.exist j spot e))) first k x h))
        refl refl received-grows shared.spread;
    fronts_are = λ client within. (let f = shared.fronts_are client within in (
      f.0,
      f.1,
      record {
        client_is = f.2.client_is;
        calls = f.2.calls;
        clock = f.2.clock;
        open_call = open-more (w.front client).open_call f.0.open_call f.2.open_call;
        own_call = f.2.own_call;
        answered = f.2.answered;
        own_answered = f.2.own_answered;
        names = f.2.names;
        set = set-more l a fresh shared.sound (w.front client).label f.2.set;
      },
    ));
    opened = shared.opened;
    count = shared.count;
    messages = λ n. message-more m config (call-more l a fresh shared.sound) (set-more l a fresh shared.sound) done-more (λ c by. by) gossip-more (find (λ y. y.number == n) w.messages) (message_at v.posted n) (shared.messages n);
  }
    where
      not-item : Each (λ t. same_spot t spot ≡ false) (item_spots w)
      not-item = each-from _ (item_spots w) (λ t member. spots-apart t spot (λ same. new_spot (subst (λ s. IsAmong s (item_spots w)) same member)))

      own_all : (s : Spot) → IsAmong s (item_spots w1) → w1.received s.place s ≡ true
      own_all s (inl e) = subst (λ (x : Spot). w1.received x.place x ≡ true) (sym e)
          (ap (λ (r : SpotSet). r spot) (put-same i (w.received i ∪ only spot) w.received) ∙ or-right (w.received i spot) _ (same_spot-self spot))
      own_all s (inr member) = received-grows s.place s (shared.own s member)

      exist_all : (j : ℕ) (s : Spot) → w1.received j s ≡ true → IsAmong s (item_spots w1)
      exist_all j s e = by_place (j == i) refl e
        where
          made : (k : ℕ) → w.received k s ≡ true → IsAmong s (item_spots w1)
          made k h = inr (shared.exist k s h)

          by_place : (t : Bool) → (j == i) ≡ t → cond t (w.received i ∪ only spot) (w.received j) s ≡ true → IsAmong s (item_spots w1)
          by_place false q h = made j h
          by_place true q h = by_part (or-cases (w.received i s) _ h)
            where
              by_part : (w.received i s ≡ true) ⊎ (same_spot s spot ≡ true) → IsAmong s (item_spots w1)
              by_part (inl k) = made i k
              by_part (inr k) = inl (same_spot-is s spot k)

  abbrev after_it : CausalState Value Op
  after_it = accepted i state d

  abbrev sent : SentMessage Op
  sent = record { number = next_number w; from = Replica i; to = Client c.cid.client; what = DoneReply c.cid (below_of w1.accepted spot) }

  abbrev stamp : List ℕ
  stamp = stamp_of (update_of_call i state d)

  below_is : below_of w1.accepted spot ≡ a.below
  below_is = ap (λ t. cond t a.below (below_of l spot)) (same_spot-self spot)

  stamp_names : Names stamp a.below
  stamp_names = update-stamp (a ∷ l) sound (update_of_call i state d) a
      (new-stands m config l shared.sound (w.received i) (logged config w i) (is_left config w i) (w.kept i) (w.held i) state ok i own_at d c.label same.names same.set c.op (sym same.op) c.cid (sym same.cid) (not_left i here))

  shared_sent : IsShared m config issued (record w1 { messages = sent ∷ w.messages }) v.fronts (v.posted ++ posting (Replica i) (Client d.cid.client) (Done d.cid spot stamp) ∷ [])
  shared_sent = message-sent m config issued w1 v.fronts v.posted shared_accepted sent (posting (Replica i) (Client d.cid.client) (Done d.cid spot stamp)) (let n = shared.count in omega arith)
      (record {
        from = refl;
        to = ap (λ (cid : Cid). Client cid.client) same.cid;
        way = tt;
        there = is_issued.client;
        what = same_done c.cid d.cid (below_of w1.accepted spot) spot stamp same.cid (subst (Names stamp) (sym below_is) stamp_names) (subst (λ (y : SpotSet). IsSetOf (a ∷ l) y) (sym below_is) (below-set (a ∷ l) sound a (inl refl)))
            (record { acceptance = a; among = inl refl; call = refl; at = refl; below = sym below_is });
      }) tt

  pending : IsPending m (a ∷ l) (w.received i ∪ only spot) (logged config w i ∪ only spot) (ready l (w.received i)) (is_left config w i) (w.kept i) after_it
  pending = accept-pending m config l shared.sound (w.received i) (logged config w i) (is_left config w i) (w.kept i) (w.held i) state ok i own_at d c.label same.names same.set c.op (sym same.op) c.cid (sym same.cid) (not_left i here)

  abbrev w2 : Facts Op
  w2 = record w1 { messages = sent ∷ w.messages }

  -- what the replica knows of the others it goes on to know
  told-grows : (k : ℕ) (s : Spot) → told_by w i k s ≡ true → told_by w2 i k s ≡ true
  told-grows k s e = by_place (k == i) e
    where
      by_place : (q : Bool) → cond q (w.received i) (w.told i k) s ≡ true → cond q (w1.received i) (w.told i k) s ≡ true
      by_place true h = received-grows i s h
      by_place false h = h

  known-grows : (s : Spot) → known_everywhere config w i s ≡ true → known_everywhere config w2 i s ≡ true
  known-grows = known-later config w w2 i told-grows

  -- of what isn't the new spot nothing was received
  was-received : (s : Spot) → same_spot s spot ≡ false → w1.received i s ≡ true → w.received i s ≡ true
  was-received s other e = sym (or-false (w.received i s) _ other) ∙ ap (λ (r : SpotSet). r s) (sym (put-same i (w.received i ∪ only spot) w.received)) ∙ e

  old-spot : (b : Acceptance Op) → IsAmong b l → same_spot b.spot spot ≡ false
  old-spot b member = spots-apart b.spot spot (λ same. fresh (b, member, same))

  was-logged : (b : Acceptance Op) → IsAmong b l → logged config w2 i b.spot ≡ true → logged config w i b.spot ≡ true
  was-logged b member e = and-intro (w.received i b.spot) _ (was-received b.spot (old-spot b member) (and-left (w1.received i b.spot) _ e))
      (ap not (never (known_everywhere config w i b.spot) (λ known. true≢false (sym (known-grows b.spot known) ∙ not-false _ (and-right (w1.received i b.spot) _ e)))))

  -- an acceptance of another call isn't the new one
  other-call : (k : Cid) → (k ≡ c.cid → ⊥) → (b : Acceptance Op) → IsAmong b (a ∷ l) → b.cid ≡ k → IsAmong b l
  other-call k other b (inl e) same = absurd (other (sym same ∙ ap (λ (x : Acceptance Op). x.cid) e))
  other-call k other b (inr member) same = member

  still-unlogged : (k : Cid) → (k ≡ c.cid → ⊥) → not (logs_call config w i k) ≡ true → not (logs_call config w2 i k) ≡ true
  still-unlogged k other none = unlogged-later config w w2 i k (λ b member same e. (let old = other-call k other b member same in (old, was-logged b old e))) none

  was-ready : (k : Cid) → (k ≡ c.cid → ⊥) → is_ready w2 i k ≡ true → is_ready w i k ≡ true
  was-ready k other e =
      let b = has_call-holds (a ∷ l) (ready (a ∷ l) (w1.received i)) k e in
      let old = other-call k other b.0 b.1 b.3 in
      holds-has_call l (ready l (w.received i)) k b.0 old (at b.0 old (ready-holds (a ∷ l) (w1.received i) b.0.spot b.2)) b.3
    where
      at : (b : Acceptance Op) → IsAmong b l → (x : Acceptance Op) × IsAmong x (a ∷ l) × (b.spot ≡ x.spot) × (w1.received i x.spot ≡ true) × IsWithin (a ∷ l) x.below (w1.received i) → ready l (w.received i) b.spot ≡ true
      at b member h = by_part h.1
        where
          by_part : (h.0 ≡ a) ⊎ IsAmong h.0 l → ready l (w.received i) b.spot ≡ true
          by_part (inl e) = absurd (fresh (b, member, h.2 ∙ ap (λ (x : Acceptance Op). x.spot) e))
          by_part (inr old) = ap (ready l (w.received i)) h.2
              ∙ holds-ready l (w.received i) h.0 old (was-received h.0.spot (old-spot h.0 old) h.3)
              (each-from _ l (λ y in_l below. was-received y.spot (old-spot y in_l) (each-at _ y l h.4.1 in_l below)))

  still-ready : (k : Cid) → is_ready w i k ≡ true → is_ready w2 i k ≡ true
  still-ready k e =
      let b = has_call-holds l (ready l (w.received i)) k e in
      holds-has_call (a ∷ l) (ready (a ∷ l) (w1.received i)) k b.0 (inr b.1)
      (ap (λ (r : SpotSet). ready (a ∷ l) r b.0.spot) (put-same i (w.received i ∪ only spot) w.received) ∙ pending.within b.0.spot b.2) b.3

  still-left : (k : Cid) → is_left config w i k ≡ true → is_left config w2 i k ≡ true
  still-left k gone =
      let done = and-right (is_ready w i k) _ gone in
      let old = list_any-among (λ (x : LogAck). w.received i x.spot && same_cid k x.cid) w.acks (and-left (has_ack w.acks (w.received i) k) _ done) in
      and-intro (is_ready w2 i k) _ (still-ready k (and-left (is_ready w i k) _ gone))
      (and-intro (has_ack w.acks (w1.received i) k) _
      (among-list_any (λ (x : LogAck). w1.received i x.spot && same_cid k x.cid) old.0 w.acks old.1 (and-intro (w1.received i old.0.spot) _ (received-grows i old.0.spot (and-left (w.received i old.0.spot) _ old.2)) (and-right (w.received i old.0.spot) _ old.2)))
      (still-unlogged k (λ same. true≢false (sym gone ∙ ap (is_left config w i) same ∙ not_left i here)) (and-right (has_ack w.acks (w.received i) k) _ done)))

  mid_accepted : IsMid m config w2 i after_it
  mid_accepted = record {
    logs = logged config w i ∪ only spot;
    done = ready l (w.received i);
    left = is_left config w i;
    ack_logs = is_acked config w i;
    pending = subst (λ (r : SpotSet). IsPending m (a ∷ l) r (logged config w i ∪ only spot) (ready l (w.received i)) (is_left config w i) (w.kept i) after_it) (sym (put-same i (w.received i ∪ only spot) w.received)) pending;
    still = record { imm = ok.still.imm; parts = parts_stay; keys = ok.still.keys };
    noted = record { clock_is = noted.clock_is; acks_are = noted.acks_are; rows = rows_now };
    held_are = held-more l a fresh shared.sound config.clients (w.held i) state.held ok.held_are;
    unlogged = λ s e out. known-grows s (unlogged-known config w i s (was-received s (or-false_right (logged config w i s) _ out) e) (or-false_left (logged config w i s) _ out));
    acks_within = each-from _ w.acks (λ k member e. received-grows i k.spot (and-left (w.received i k.spot) _ e));
    unnoted = each-from _ w.acks (λ k member e out. gone k member (was-received k.spot (each-at _ k w.acks (not-noted w spot new_spot) member) e) out);
    away = still-left;
  }
    where
      rows_now : HasTold config.replicas (told_by w2 i) after_it
      rows_now = let rows = told-own config.replicas i here (w.told i) (w.received i) (w1.received i) (set_part state.rep_ts i (part state.rep_ts i + 1)) state
          (subst (λ (r : SpotSet). IsCounted r (set_part state.rep_ts i (part state.rep_ts i + 1))) (sym (put-same i (w.received i ∪ only spot) w.received)) pending.counted) noted.rows in
          record { rows = rows.rows; counted = rows.counted }

      parts_stay : length after_it.rep_ts ≡ config.replicas + 1
      parts_stay = Rattle.lr_base.specs.StampLaws.length-set_part state.rep_ts i (part state.rep_ts i + 1) (let p = ok.still.parts in omega arith) ∙ ok.still.parts

      gone : (k : LogAck) → IsAmong k w.acks → w.received i k.spot ≡ true → is_acked config w i k ≡ false → (is_spent config w2 i k ≡ true) × (is_ready w2 i k.cid ≡ true → is_left config w i k.cid ≡ true)
      gone k member was out =
          let spent = unacked-spent config w i k was out in
          let other : k.cid ≡ c.cid → ⊥ = λ same. true≢false (sym (or-right (has_call l (w.received i) c.cid) _ (holds-has_ack w.acks (w.received i) c.cid k member was same)) ∙ first) in (
            spent-later config w w2 i k (known-grows k.spot) refl (still-unlogged k.cid other (spent-unlogged config w i k spent)) spent,
            λ e. spent-left config w i k member was spent (was-ready k.cid other e),
          )

  others_stay : (j : ℕ) → j ≢ i → j < config.replicas → IsTied m config w2 v.replicas j
  others_stay j apart within =
      tied-elsewhere m config v.replicas j (record w { accepted = a ∷ l; messages = sent ∷ w.messages }) w1.received w.told w.kept w.held w.clock
      (put-other i j (w.received i ∪ only spot) w.received apart) refl refl refl refl
      (tied-accepted m config v.replicas j w a fresh shared.sound (never _ (λ e. new_spot (shared.exist j spot e))) (not_left j within) (others j apart within))

  pub own-accepted : (number : ℕ) (from : Actor) (time : ℕ)
      → IsOwnPart m config issued w v i (came_in (Some (record { number = number; from = from; to = Replica i; what = UpdateCopy c time }))) (Accept spot c.cid ∷ done_line w i c.cid spot ∷ [])
      (record { state = after_it; acts = Say (Accept spot d.cid) ∷ done_act d.cid spot stamp ∷ [] })
  own-accepted number from time = record {
    lines = λ k. Accept spot (same.cid k) ∷ Send (next_is k) (Replica i) (Client (same.cid k).client) (DoneSent (same.cid k) spot) ∷ [];
    shared = shared_sent;
    mid = mid_accepted;
    others = others_stay;
  }
    where
      next_is : next_number w ≡ length v.posted + 1
      next_is = let n = shared.count in omega arith
