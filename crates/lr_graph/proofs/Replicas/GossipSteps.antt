-- What gossip itself does at a replica that takes it, and at one that sends it.
use Rattle.std.proofs.Common.{◌≡◌, ◌≢◌, ℕ, ◌+◌, ◌<◌, Bool, true, false, cond, not, ◌&&◌, ◌||◌, ◌==◌, ◌⊎◌, inl, inr, find, List, [], ◌∷◌, ◌++◌, length, map, get_or, Option, Some, refl, sym, ap, ◌∙◌, subst, arith, true≢false, eqb-true}
use Rattle.std.proofs.lemmas.List.{append-nil}
use Rattle.lr_base.specs.Ascending.{same_cid}
use Rattle.lr_base.specs.Meaning.{Meaning}
use Rattle.lr_base.specs.Rules.{CausalState, gossip_of, gossip_taken, is_new, new_acks, new_count, new_updates, insert_acks}
use Rattle.lr_base.specs.StampLaws.{length-join}
use Rattle.lr_base.specs.Stamps.{join}
use Rattle.lr_base.specs.Steps.{gossip_given}
use Rattle.lr_base.specs.declared.acts.Act.TheVariants.{Send}
use Rattle.lr_base.specs.declared.acts.Posted.{Posted}
use Rattle.lr_base.specs.declared.events.Outcome.TheVariants.{Send as SendLine, Take}
use Rattle.lr_base.specs.declared.events.Sent.TheVariants.{Gossip as GossipSent}
use Rattle.lr_base.specs.declared.messages.Gossip.{Gossip}
use Rattle.lr_base.specs.Orders.{IsAmong}
use Rattle.lr_base.specs.declared.messages.LogAck.{LogAck}
use Rattle.lr_base.specs.declared.messages.Message.TheVariants.{Gossip as GossipMessage}
use Rattle.lr_base.specs.declared.messages.LogUpdate.{LogUpdate}
use Rattle.lr_base.specs.declared.names.Actor.{Actor}
use Rattle.lr_base.specs.declared.names.Actor.TheVariants.{Client, Replica}
use Rattle.lr_base.specs.declared.names.Cid.{Cid}
use Rattle.lr_base.specs.declared.names.Config.{Config}
use Rattle.lr_base.specs.declared.names.Spot.{Spot}
use Rattle.lr_graph.specs.After.{takes}
use Rattle.lr_graph.specs.Closed.{Each}
use Rattle.lr_graph.specs.Graph.{Acceptance, Facts, GossipOf, LabelledCall, SentMessage, acks_of, has_ack, item_spots, ready, size_of}
use Rattle.lr_graph.specs.Legal.{next_number, take_line}
use Rattle.lr_graph.specs.Names.{IsCounted}
use Rattle.lr_graph.specs.Runs.{RunState, message_at}
use Rattle.lr_graph.specs.Sets.{SpotSet, how_many, put_at, ◌∪◌}
use Rattle.lr_graph.specs.Pruned.{is_acked, is_left, is_ready, is_spent, known_everywhere, logged, logs_call, told_by}
use Rattle.lr_graph.proofs.Applying.Taking.{ascending-filter}
use Rattle.lr_graph.proofs.Lists.Members.{among-filter, among-list_any, each-at, each-from, each-map, filter-each, list_any-among}
use Rattle.lr_graph.proofs.Pruning.Elsewhere.{tied-elsewhere}
use Rattle.lr_graph.proofs.Pruning.Later.{known-later, spent-later, told-taken, unlogged-later}
use Rattle.lr_graph.proofs.Pruning.Spreading.{received-spread, spread-taken}
use Rattle.lr_graph.specs.Spread.{IsSpreadBy}
use Rattle.lr_graph.proofs.Pruning.Spent.{spent-left, spent-unlogged, unacked-spent, unlogged-known}
use Rattle.lr_graph.proofs.Sets.ReadySets.{holds-ready, ready-holds, ready-received}
use Rattle.lr_graph.proofs.Sets.Values.{has_call-holds, has_call-wider, holds-has_call}
use Rattle.lr_graph.proofs.Logs.Acks.{HasApartAcks, acks-same, filter-acks, length-acks, puts-acks}
use Rattle.lr_graph.proofs.Logs.Items.{accepted-item, apart-noted, noted-item}
use Rattle.lr_graph.proofs.Logs.Tallying.{how_many-append, how_many-map}
use Rattle.lr_graph.proofs.Replicas.Ending.{AllHave, HasHeard, IsMid, IsWhole}
use Rattle.lr_graph.proofs.Replicas.Gossiping.{count-new, counted-join, fresh, gossip-pending, gossip-unlogged, new-spot}
use Rattle.lr_graph.proofs.Replicas.Own.{unchanged-mid}
use Rattle.lr_graph.proofs.Replicas.Posting.{message-sent, posting}
use Rattle.lr_graph.proofs.Related.More.{message-more}
use Rattle.lr_graph.proofs.Related.Relation.{at_actor, HasNoted, HasTold, IsReplicaAt, IsShared, IsTied, SameGossip, SameMessage, SameOption, calls_in, same_gossip}
use Rattle.lr_graph.proofs.Replicas.Stepping.{IsOwnPart, put-other, put-same}
use Rattle.lr_graph.proofs.Lists.Tests.{and-intro, and-left, and-right, never, never-false, not-false, or-cases, or-false_left, or-false_right, or-left, or-right, same-test}
use Rattle.lr_graph.proofs.Related.Ties.{HasUpdateAt, IsLogOf, IsPending, IsUpdateOf, StandsFor}
use Rattle.lr_graph.proofs.Handled.{alone, came_in}

-- a stamp joined to one with as many parts keeps their count
length-joined : (a b : List ℕ) (n : ℕ) → length a ≡ n → length b ≡ n → length (join a b) ≡ n
length-joined a b n f g = length-join a b (f ∙ sym g) ∙ f

module _ {Value Op : Type 0} (m : Meaning Value Op) (config : Config) (issued : Cid → Option (LabelledCall Op)) (w : Facts Op) (v : RunState Value Op) (shared : IsShared m config issued w v.fronts v.posted)
    (i : ℕ) (here : i < config.replicas) (state : CausalState Value Op) (ok : IsReplicaAt m config w.accepted (w.received i) (logged config w i) (is_left config w i) (w.kept i) (w.held i) state)
    (noted : HasNoted config.replicas w.acks (is_acked config w i) (w.clock i) (told_by w i) state) (others : (j : ℕ) → j ≢ i → j < config.replicas → IsTied m config w v.replicas j) where
  -- ---- gossip is taken

  module _ (number from : ℕ) (other : (from == i) ≡ false) (there : from < config.replicas) (names : SpotSet) (told : IsSpreadBy w from names) (gossip : Gossip Op) (same : SameGossip config.replicas w.accepted w.acks (w.received i) names gossip)
      (whole : IsWhole config w i) (all_have : AllHave config w i) where
    abbrev w1 : Facts Op
    w1 = takes w (Replica from) i names

    received-grows : (j : ℕ) (s : Spot) → w.received j s ≡ true → w1.received j s ≡ true
    received-grows j s e = by_place (j == i) refl
      where
        by_place : (t : Bool) → (j == i) ≡ t → cond t (w.received i ∪ names) (w.received j) s ≡ true
        by_place true q = or-left (w.received i s) _ (ap (λ k. w.received k s) (sym (eqb-true j i q)) ∙ e)
        by_place false q = e

    actor-grows : (to : Actor) (s : Spot) → at_actor w.received to s ≡ true → at_actor w1.received to s ≡ true
    actor-grows (Replica j) s e = received-grows j s e
    actor-grows (Client c) s e = e

    gossip-wider : (to : Actor) (them : SpotSet) (g : Gossip Op) → SameGossip config.replicas w.accepted w.acks (at_actor w.received to) them g → SameGossip config.replicas w.accepted w.acks (at_actor w1.received to) them g
    gossip-wider to them g h = record {
      logs = h.logs;
      counted = h.counted;
      exist = h.exist;
      log = h.log;
      within = h.within;
      elsewhere = λ s e out. actor-grows to s (h.elsewhere s e out);
      ack_logs = h.ack_logs;
      acks_are = h.acks_are;
      acks_within = h.acks_within;
      acks_elsewhere = each-map _ _ w.acks (λ a f e out. actor-grows to a.spot (f e out)) h.acks_elsewhere;
      parts = h.parts;
    }

    shared_taken : IsShared m config issued w1 v.fronts (v.posted ++ [])
    shared_taken = record {
      sound = shared.sound;
      each = shared.each;
      apart = shared.apart;
      numbered = shared.numbered;
      own = λ s member. received-grows s.place s (shared.own s member);
      exist = exist_all;
      spread = spread-taken config w from i names told shared.spread;
      fronts_are = shared.fronts_are;
      opened = shared.opened;
      count = shared.count ∙ ap length (sym (append-nil v.posted));
      messages = subst (λ (ps : List (Posted Op)). (n : ℕ) → SameOption (SameMessage m config w.accepted w.acks w1.received issued (calls_in w)) (find (λ y. y.number == n) w.messages) (message_at ps n)) (sym (append-nil v.posted))
          (λ n. message-more m config (λ c d call. call) (λ x set. set) (λ c s x done. done) (λ c by. by) gossip-wider (find (λ y. y.number == n) w.messages) (message_at v.posted n) (shared.messages n));
    }
      where
        exist_all : (j : ℕ) (s : Spot) → w1.received j s ≡ true → IsAmong s (item_spots w)
        exist_all j s e = by_place (j == i) e
          where
            by_place : (t : Bool) → cond t (w.received i ∪ names) (w.received j) s ≡ true → IsAmong s (item_spots w)
            by_place false h = shared.exist j s h
            by_place true h = by_part (or-cases (w.received i s) _ h)
              where
                by_part : (w.received i s ≡ true) ⊎ (names s ≡ true) → IsAmong s (item_spots w)
                by_part (inl k) = shared.exist i s k
                by_part (inr k) = same.exist s k

    abbrev after_it : CausalState Value Op
    after_it = gossip_taken i from state gossip

    abbrev more : SpotSet
    more = fresh m config w.accepted w.acks shared.sound w.received i here (logged config w i) (is_left config w i) (w.kept i) (w.held i) state ok names gossip same

    apart : HasApartAcks w.acks
    apart = apart-noted w shared.apart

    -- the new acknowledgements are those that it has and that weren't received
    new_are : new_acks state.rep_ts gossip.acks ≡ acks_of (λ a. same.ack_logs a && not (w.received i a.spot)) w.acks
    new_are =
        ap (new_acks state.rep_ts) same.acks_are ∙ filter-acks same.ack_logs (λ a. is_new state.rep_ts a.spot) w.acks apart
        ∙ acks-same _ _ w.acks (each-from _ w.acks (λ a member. ap (λ t. same.ack_logs a && t) (new-spot (w.received i) state.rep_ts ok.counted a.spot (each-at _ a.spot (item_spots w) shared.numbered (noted-item w a member)))))

    -- what is named and wasn't received it has
    new_named : (a : LogAck) → IsAmong a w.acks → (same.ack_logs a && not (w.received i a.spot)) ≡ (names a.spot && not (w.received i a.spot))
    new_named a member = same-test _ _
        (λ e. and-intro (names a.spot) _ (each-at _ a w.acks same.acks_within member (and-left (same.ack_logs a) _ e)) (and-right (same.ack_logs a) _ e))
        (λ e. and-intro (same.ack_logs a) _
        (never-false (same.ack_logs a) (λ out. true≢false (sym (each-at _ a w.acks same.acks_elsewhere member (and-left (names a.spot) _ e) out) ∙ not-false (w.received i a.spot) (and-right (names a.spot) _ e))))
        (and-right (names a.spot) _ e))

    -- what the replica knows of the others it goes on to know
    told-grows : (k : ℕ) (s : Spot) → told_by w i k s ≡ true → told_by w1 i k s ≡ true
    told-grows k s e = by_own (k == i) e
      where
        by_own : (t : Bool) → cond t (w.received i) (w.told i k) s ≡ true → cond t (w1.received i) (w1.told i k) s ≡ true
        by_own true h = received-grows i s h
        by_own false h = ap (λ (sets : ℕ → SpotSet). sets k s) (put-same i (put_at from (w.told i from ∪ names) (w.told i)) w.told) ∙ by_sender (k == from) refl
          where
            by_sender : (t : Bool) → (k == from) ≡ t → cond t (w.told i from ∪ names) (w.told i k) s ≡ true
            by_sender true q = or-left (w.told i from s) _ (ap (λ n. w.told i n s) (sym (eqb-true k from q)) ∙ h)
            by_sender false q = h

    known-grows : (s : Spot) → known_everywhere config w i s ≡ true → known_everywhere config w1 i s ≡ true
    known-grows = known-later config w w1 i told-grows

    -- of a call whose acceptances were all received, and of which none was logged, none is
    still-unlogged : (c : Cid) → Each (λ b. b.cid ≡ c → w.received i b.spot ≡ true) w.accepted → not (logs_call config w i c) ≡ true → not (logs_call config w1 i c) ≡ true
    still-unlogged c all none = unlogged-later config w w1 i c (λ b member is e. (member, was-logged b member (each-at _ b w.accepted all member is) e)) none
      where
        was-logged : (b : Acceptance Op) → IsAmong b w.accepted → w.received i b.spot ≡ true → logged config w1 i b.spot ≡ true → logged config w i b.spot ≡ true
        was-logged b member had e = and-intro (w.received i b.spot) _ had
            (ap not (never (known_everywhere config w i b.spot) (λ known. true≢false (sym (known-grows b.spot known) ∙ not-false _ (and-right (w1.received i b.spot) _ e)))))

    -- all acceptances of an acknowledgement that was spent were received, and were known everywhere
    spent-whole : (a : LogAck) → IsAmong a w.acks → is_spent config w i a ≡ true → Each (λ b. b.cid ≡ a.cid → w.received i b.spot ≡ true) w.accepted
    spent-whole a member spent = all_have.acks a member (and-left (known_everywhere config w i a.spot) _ spent)

    unlogged-ready : (c : Cid) → Each (λ b. b.cid ≡ c → w.received i b.spot ≡ true) w.accepted → not (logs_call config w i c) ≡ true → is_ready w1 i c ≡ true → is_ready w i c ≡ true
    unlogged-ready c all none e =
        let b = has_call-holds w.accepted (ready w.accepted (w1.received i)) c e in
        let had = each-at _ b.0 w.accepted all b.1 b.3 in
        let known : known_everywhere config w i b.0.spot ≡ true = never-false (known_everywhere config w i b.0.spot) (λ out.
        true≢false (sym (holds-has_call w.accepted (logged config w i) c b.0 b.1 (and-intro (w.received i b.0.spot) _ had (ap not out)) b.3) ∙ not-false (logs_call config w i c) none)) in
        holds-has_call w.accepted (ready w.accepted (w.received i)) c b.0 b.1 (each-at _ b.0 w.accepted whole.known b.1 known) b.3

    still-ready : (c : Cid) → is_ready w i c ≡ true → is_ready w1 i c ≡ true
    still-ready c e = has_call-wider w.accepted (ready w.accepted (w.received i)) (ready w.accepted (w1.received i)) c (λ b member h. wider b.spot h) e
      where
        wider : (s : Spot) → ready w.accepted (w.received i) s ≡ true → ready w.accepted (w1.received i) s ≡ true
        wider s e =
            let h = ready-holds w.accepted (w.received i) s e in
            ap (ready w.accepted (w1.received i)) h.2 ∙ holds-ready w.accepted (w1.received i) h.0 h.1 (received-grows i h.0.spot h.3) (each-map _ _ w.accepted (λ b f below. received-grows i b.spot (f below)) h.4)

    still-left : (c : Cid) → is_left config w i c ≡ true → is_left config w1 i c ≡ true
    still-left c gone =
        let done = and-right (is_ready w i c) _ gone in
        let old = list_any-among (λ (x : LogAck). w.received i x.spot && same_cid c x.cid) w.acks (and-left (has_ack w.acks (w.received i) c) _ done) in
        and-intro (is_ready w1 i c) _ (still-ready c (and-left (is_ready w i c) _ gone))
        (and-intro (has_ack w.acks (w1.received i) c) _
        (among-list_any (λ (x : LogAck). w1.received i x.spot && same_cid c x.cid) old.0 w.acks old.1 (and-intro (w1.received i old.0.spot) _ (received-grows i old.0.spot (and-left (w.received i old.0.spot) _ old.2)) (and-right (w.received i old.0.spot) _ old.2)))
        (still-unlogged c (each-map _ _ w.accepted (λ b f is. ready-received w.accepted (w.received i) b.spot (f (ap (is_left config w i) is ∙ gone))) whole.left)
        (and-right (has_ack w.acks (w.received i) c) _ done)))

    abbrev ack_logs : LogAck → Bool
    ack_logs a = is_acked config w i a || (names a.spot && not (w.received i a.spot))

    mid_taken : IsMid m config w1 i after_it
    mid_taken = record {
      logs = logged config w i ∪ more;
      done = ready w.accepted (w.received i);
      left = is_left config w i;
      ack_logs = ack_logs;
      pending = let p = subst (λ (r : SpotSet). IsPending m w.accepted r (logged config w i ∪ more) (ready w.accepted (w.received i)) (is_left config w i) (w.kept i) after_it) (sym (put-same i (w.received i ∪ names) w.received))
          (gossip-pending m config w.accepted w.acks shared.sound w.received i here (logged config w i) (is_left config w i) (w.kept i) (w.held i) state ok names gossip same from) in p;
      noted = record { clock_is = noted.clock_is; acks_are = acks_taken; rows = rows_now };
      still = record { imm = ok.still.imm; parts = length-joined state.rep_ts gossip.rep_ts (config.replicas + 1) ok.still.parts same.parts; keys = ok.still.keys };
      held_are = ok.held_are;
      unlogged = λ s e out.
          let was = gossip-unlogged m config w.accepted w.acks shared.sound w.received i here (logged config w i) (is_left config w i) (w.kept i) (w.held i) state ok names gossip same s (received_is s ∙ e) out in
          known-grows s (unlogged-known config w i s was.0 was.1);
      acks_within = each-from _ w.acks (λ a member e. here_now a (or-cases (is_acked config w i a) _ e));
      unnoted = each-from _ w.acks (λ a member e out. gone a member (had a (received_is a.spot ∙ e) (or-false_right (is_acked config w i a) _ out)) (or-false_left (is_acked config w i a) _ out));
      away = still-left;
    }
      where
        received_is : (s : Spot) → (w.received i s || names s) ≡ w1.received i s
        received_is s = ap (λ (r : SpotSet). r s) (sym (put-same i (w.received i ∪ names) w.received))

        acks_taken : after_it.acks ≡ acks_of ack_logs w.acks
        acks_taken =
            (λ k. insert_acks ((new_are ∙ acks-same _ _ w.acks (each-from _ w.acks new_named)) k) (noted.acks_are k))
            ∙ puts-acks (λ a. names a.spot && not (w.received i a.spot)) (is_acked config w i) ack_logs w.acks apart (each-from _ w.acks (λ a member. (
              (λ f g. true≢false (sym (and-left (w.received i a.spot) _ g) ∙ not-false (w.received i a.spot) (and-right (names a.spot) _ f))),
              (λ e. by_test a (or-cases (is_acked config w i a) _ e)),
              (λ f. or-right (is_acked config w i a) _ f),
              (λ g. or-left (is_acked config w i a) _ g),
            )))
          where
            by_test : (a : LogAck) → (is_acked config w i a ≡ true) ⊎ ((names a.spot && not (w.received i a.spot)) ≡ true) → ((names a.spot && not (w.received i a.spot)) ≡ true) ⊎ (is_acked config w i a ≡ true)
            by_test a (inl h) = inr h
            by_test a (inr h) = inl h

        here_now : (a : LogAck) → (is_acked config w i a ≡ true) ⊎ ((names a.spot && not (w.received i a.spot)) ≡ true) → w1.received i a.spot ≡ true
        here_now a (inl e) = received-grows i a.spot (and-left (w.received i a.spot) _ e)
        here_now a (inr e) = sym (received_is a.spot) ∙ or-right (w.received i a.spot) _ (and-left (names a.spot) _ e)

        had : (a : LogAck) → (w.received i a.spot || names a.spot) ≡ true → (names a.spot && not (w.received i a.spot)) ≡ false → w.received i a.spot ≡ true
        had a e out = never-false (w.received i a.spot) (λ lacks.
            true≢false (sym (and-intro (names a.spot) _ (sym (ap (λ t. t || names a.spot) lacks) ∙ e) (ap not lacks)) ∙ out))

        gone : (a : LogAck) → IsAmong a w.acks → w.received i a.spot ≡ true → is_acked config w i a ≡ false → (is_spent config w1 i a ≡ true) × (is_ready w1 i a.cid ≡ true → is_left config w i a.cid ≡ true)
        gone a member was out =
            let spent = unacked-spent config w i a was out in
            let all = spent-whole a member spent in
            let none = spent-unlogged config w i a spent in (
              spent-later config w w1 i a (known-grows a.spot) refl (still-unlogged a.cid all none) spent,
              λ e. spent-left config w i a member was spent (unlogged-ready a.cid all none e),
            )

        -- the rows of the sender and of the replica itself
        rows_now : HasTold config.replicas (told_by w1 i) after_it
        rows_now = told-taken m config w i here from there other names gossip same.counted state noted.rows (counted-join (w.received i) names state.rep_ts gossip.rep_ts ok.counted same.counted)

    -- as many items are new as the rules count
    count_is : size_of (item_spots w) (λ s. names s && not (w.received i s)) ≡ new_count state gossip
    count_is =
        let both = how_many-append (λ (s : Spot). names s && not (w.received i s)) (map (λ a. a.spot) w.accepted) (map (λ a. a.spot) w.acks) in
        let first = how_many-map (λ (a : Acceptance Op). a.spot) (λ s. names s && not (w.received i s)) w.accepted in
        let second = how_many-map (λ (a : LogAck). a.spot) (λ s. names s && not (w.received i s)) w.acks in
        let acks : length (new_acks state.rep_ts gossip.acks) ≡ how_many (λ a. names a.spot && not (w.received i a.spot)) w.acks = ap length (new_are ∙ acks-same _ _ w.acks (each-from _ w.acks new_named)) ∙ length-acks _ w.acks in
        let updates = count-new m config w.accepted w.acks shared.sound w.received i here (logged config w i) (is_left config w i) (w.kept i) (w.held i) state ok names gossip same in
        omega arith

    others_stay : (j : ℕ) → j ≢ i → j < config.replicas → IsTied m config w1 v.replicas j
    others_stay j apart within = tied-elsewhere m config v.replicas j w w1.received w1.told w.kept w.held w.clock
        (put-other i j (w.received i ∪ names) w.received apart) (put-other i j (put_at from (w.told i from ∪ names) (w.told i)) w.told apart) refl refl refl (others j apart within)

    pub own-taken : IsOwnPart m config issued w v i (came_in (Some (record { number = number; from = Replica from; to = Replica i; what = GossipOf names }))) (take_line w i names ∷ []) (gossip_given i from state gossip (from == i))
    own-taken = subst (λ (t : Bool). IsOwnPart m config issued w v i (came_in (Some (record { number = number; from = Replica from; to = Replica i; what = GossipOf names }))) (take_line w i names ∷ []) (gossip_given i from state gossip t)) (sym other) (record {
      lines = λ k. Take (count_is k) ∷ [];
      shared = shared_taken;
      mid = mid_taken;
      others = others_stay;
    })

  -- ---- gossip is sent

  module _ (to : ℕ) (within : to < config.replicas) (apart : i ≢ to) (heard : HasHeard config w i to) where
    abbrev sent : SentMessage Op
    sent = record { number = next_number w; from = Replica i; to = Replica to; what = GossipOf (w.received i) }

    next_is : next_number w ≡ length v.posted + 1
    next_is = let n = shared.count in omega arith

    other : (i == to) ≡ false
    other = never (i == to) (λ e. apart (eqb-true i to e))

    abbrev theirs : List ℕ
    theirs = get_or state.table to []

    abbrev logs : SpotSet
    logs s = logged config w i s && not (w.told i to s)

    row : IsCounted (w.told i to) theirs
    row = subst (λ (t : Bool). IsCounted (cond t (w.received i) (w.told i to)) theirs) (never (to == i) (λ e. apart (sym (eqb-true to i e)))) (noted.rows.counted to within)

    -- what passes one test and not both passes the other
    left-out_both : (a b : Bool) → (a && not b) ≡ false → (a ≡ false) ⊎ (b ≡ true)
    left-out_both true true e = inr refl
    left-out_both true false e = absurd (true≢false e)
    left-out_both false b e = inl refl

    lacking : (s : Spot) → (logged config w i s ≡ false) ⊎ (w.told i to s ≡ true) → w.received i s ≡ true → w.received to s ≡ true
    lacking s (inl out) e = heard.known s (unlogged-known config w i s e out)
    lacking s (inr told) e = heard.told s told

    ack-lacking : (a : LogAck) → w.received i a.spot ≡ true → (is_acked config w i a ≡ false) ⊎ (w.told i to a.spot ≡ true) → w.received to a.spot ≡ true
    ack-lacking a e (inl out) = heard.known a.spot (and-left (known_everywhere config w i a.spot) _ (unacked-spent config w i a e out))
    ack-lacking a e (inr told) = heard.told a.spot told

    log_sent : IsLogOf w.accepted logs (new_updates theirs state.updates)
    log_sent = record {
      each = each-map _ _ (new_updates theirs state.updates) (λ u h. new u h.0.0 h.0.1 h.0.2 h.1) (filter-each (IsUpdateOf w.accepted (logged config w i)) (λ u. is_new theirs u.spot) state.updates ok.log.each);
      all = each-from _ w.accepted (λ a member e. found a (each-at _ a w.accepted ok.log.all member (and-left (logged config w i a.spot) _ e)) (and-right (logged config w i a.spot) _ e));
      ascending = ascending-filter (λ u. is_new theirs u.spot) state.updates ok.log.ascending;
    }
      where
        new-is : (u : LogUpdate Op) (a : Acceptance Op) → StandsFor w.accepted u a → is_new theirs u.spot ≡ not (w.told i to u.spot)
        new-is u a s = new-spot (w.told i to) theirs row u.spot (subst (λ (k : Spot). 0 < k.number) (sym s.spot) (each-at _ a w.accepted shared.sound.numbered s.among))

        new : (u : LogUpdate Op) (a : Acceptance Op) → StandsFor w.accepted u a → logged config w i a.spot ≡ true → is_new theirs u.spot ≡ true → IsUpdateOf w.accepted logs u
        new u a s e lacks = (a, s, and-intro (logged config w i a.spot) _ e (ap (λ x. not (w.told i to x)) (sym s.spot) ∙ sym (new-is u a s) ∙ lacks))

        found : (a : Acceptance Op) → HasUpdateAt a.spot state.updates → not (w.told i to a.spot) ≡ true → HasUpdateAt a.spot (new_updates theirs state.updates)
        found a u lacks =
            let of = each-at _ u.0 state.updates ok.log.each u.1 in
            (u.0, among-filter (λ x. is_new theirs x.spot) u.0 state.updates u.1 (new-is u.0 of.0 of.1 ∙ ap (λ x. not (w.told i to x)) u.2 ∙ lacks), u.2)

    pub own-sent : IsOwnPart m config issued w v i (alone (Some (Replica i))) (SendLine (next_number w) (Replica i) (Replica to) GossipSent ∷ []) (record { state = state; acts = Send (Replica to) (GossipMessage (gossip_of to state)) ∷ [] })
    own-sent = record {
      lines = λ k. SendLine (next_is k) (Replica i) (Replica to) GossipSent ∷ [];
      shared = message-sent m config issued w v.fronts v.posted shared sent (posting (Replica i) (Replica to) (GossipMessage (gossip_of to state))) next_is
          (record {
            from = refl;
            to = refl;
            way = other;
            there = within;
            what = same_gossip (w.received i) (gossip_of to state) (record {
              logs = logs;
              counted = ok.counted;
              exist = shared.exist i;
              log = log_sent;
              within = λ s e. and-left (w.received i s) _ (and-left (logged config w i s) _ e);
              elsewhere = λ s e out. lacking s (left-out_both (logged config w i s) (w.told i to s) out) e;
              ack_logs = λ a. is_acked config w i a && not (w.told i to a.spot);
              acks_are = ap (new_acks theirs) noted.acks_are ∙ filter-acks (is_acked config w i) (λ a. is_new theirs a.spot) w.acks (apart-noted w shared.apart)
                  ∙ acks-same _ _ w.acks (each-from _ w.acks (λ a member. ap (λ t. is_acked config w i a && t) (new-spot (w.told i to) theirs row a.spot (each-at _ a.spot (item_spots w) shared.numbered (noted-item w a member)))));
              acks_within = each-from _ w.acks (λ a member e. and-left (w.received i a.spot) _ (and-left (is_acked config w i a) _ e));
              acks_elsewhere = each-from _ w.acks (λ a member e out. ack-lacking a e (left-out_both (is_acked config w i a) (w.told i to a.spot) out));
              parts = ok.still.parts;
            });
          }) (here, received-spread w (λ a member. shared.own a.spot (accepted-item w a member)) i);
      mid = unchanged-mid m config (record w { messages = sent ∷ w.messages }) i state shared.sound ok noted;
      others = others;
    }
