-- A stamp is the join of the stamps of the acceptances that its set names.
use Rattle.std.proofs.Common.{◌≡◌, ℕ, zero, suc, ◌<◌, ◌≤◌, max, Bool, true, false, cond, ◌&&◌, ◌==◌, ◌⊎◌, inl, inr, find, List, [], ◌∷◌, Option, Some, None, is_some, refl, sym, ap, ◌∙◌, subst, arith, true≢false, eqb-true, eq-eqb}
use Rattle.std.specs.List.{slice_get}
use Rattle.lr_base.specs.Meaning.{Meaning}
use Rattle.lr_base.specs.Orders.{IsAmong}
use Rattle.lr_base.specs.Replicas.{ReplicaState}
use Rattle.lr_base.specs.Rules.{stamp_of}
use Rattle.lr_base.specs.Stamps.{part, stamp_le}
use Rattle.lr_base.specs.declared.acts.Posted.{Posted}
use Rattle.lr_base.specs.declared.messages.Call.{Call}
use Rattle.lr_base.specs.declared.messages.LogAck.{LogAck}
use Rattle.lr_base.specs.declared.messages.LogUpdate.{LogUpdate}
use Rattle.lr_base.specs.declared.messages.Message.{Message}
use Rattle.lr_base.specs.declared.names.Actor.{Actor}
use Rattle.lr_base.specs.declared.names.Actor.TheVariants.{Client, Replica}
use Rattle.lr_base.specs.declared.names.Config.{Config}
use Rattle.lr_base.specs.declared.names.Spot.{Spot}
use Rattle.lr_graph.specs.Central.{CarriesStamp, HasStamps, IsCentral, IsHeldIn, IsUpdateIn, StandsForSet, greatest, joined, IsCallIn, IsOpenIn, IsMessageIn}
use Rattle.lr_graph.specs.Closed.{Each, HasApartSpots, HasOlderCauses, IsSetOf, IsSound, causes}
use Rattle.lr_graph.specs.After.{received_at}
use Rattle.lr_graph.specs.Graph.{Acceptance, Carried, Facts, LabelledCall, SentMessage, is_within, ready}
use Rattle.lr_graph.specs.Names.{Names, spot_at}
use Rattle.lr_graph.specs.Runs.{RunState}
use Rattle.lr_graph.specs.Sets.{SpotSet, nothing, same_spot}
use Rattle.lr_graph.proofs.Stamps.Central.{below-set, stamp_le-within}
use Rattle.lr_graph.proofs.Replicas.Ending.{ready-set}
use Rattle.lr_graph.proofs.Lists.Members.{each-at, each-from, each-map}
use Rattle.lr_graph.proofs.Sets.ReadySets.{causes-accepted, self-below, update-stamp}
use Rattle.lr_graph.proofs.Related.Relation.{at_actor, HasNoted, IsReplicaAt, IsSame, SameCarried, SameHeld, SameList, SameMessage, SameOption, calls_in, same_ack, same_answer, same_done, same_gossip, same_query, same_update, SameCall}
use Rattle.lr_graph.proofs.Related.Ties.{IsUpdateOf}
use Rattle.lr_graph.proofs.Lists.Tests.{and-intro, and-left, and-right, decided, never, never-false, not-false, same_spot-is, same_spot-self}
use Rattle.lr_graph.specs.Slow.{value_in}
use Rattle.lr_graph.specs.Pruned.{is_acked, is_left, logged, told_by}
use Rattle.lr_graph.proofs.Logs.Acks.{acks-among, among-acks}
use Rattle.lr_graph.proofs.Pruning.Spent.{known-left}
use Rattle.lr_graph.proofs.Pruning.Tables.{kept-known}

module _ {Op : Type 0} where
  -- the greatest number at a place is above each of the set's there
  greatest-above : (l : List (Acceptance Op)) (x : SpotSet) (place : ℕ) (a : Acceptance Op) → IsAmong a l → x a.spot ≡ true → a.spot.place ≡ place → a.spot.number ≤ greatest l x place
  greatest-above [] x place a member here there = absurd member
  greatest-above (b ∷ l) x place a (inl e) here there =
      let test : (x b.spot && (b.spot.place == place)) ≡ true = ap (λ (c : Acceptance Op). x c.spot && (c.spot.place == place)) (sym e) ∙ and-intro (x a.spot) _ here (eq-eqb a.spot.place place there) in
      let same : a.spot.number ≡ b.spot.number = ap (λ (c : Acceptance Op). c.spot.number) e in
      let is : greatest (b ∷ l) x place ≡ max b.spot.number (greatest l x place) = ap (λ t. cond t (max b.spot.number (greatest l x place)) (greatest l x place)) test in
      omega arith
  greatest-above (b ∷ l) x place a (inr member) here there = at_head (x b.spot && (b.spot.place == place)) (greatest-above l x place a member here there)
    where
      at_head : (t : Bool) → a.spot.number ≤ greatest l x place → a.spot.number ≤ cond t (max b.spot.number (greatest l x place)) (greatest l x place)
      at_head true h = omega arith
      at_head false h = h

  -- it is that of an acceptance, if it isn't 0
  greatest-is : (l : List (Acceptance Op)) (x : SpotSet) (place : ℕ) → 0 < greatest l x place → (a : Acceptance Op) × IsAmong a l × (x a.spot ≡ true) × (a.spot.place ≡ place) × (greatest l x place ≡ a.spot.number)
  greatest-is [] x place some = absurd (omega arith)
  greatest-is (b ∷ l) x place some = at_head (x b.spot && (b.spot.place == place)) refl some (greatest-is l x place)
    where
      at_head : (t : Bool) → (x b.spot && (b.spot.place == place)) ≡ t → 0 < cond t (max b.spot.number (greatest l x place)) (greatest l x place)
          → (0 < greatest l x place → (a : Acceptance Op) × IsAmong a l × (x a.spot ≡ true) × (a.spot.place ≡ place) × (greatest l x place ≡ a.spot.number))
          → (a : Acceptance Op) × IsAmong a (b ∷ l) × (x a.spot ≡ true) × (a.spot.place ≡ place) × (cond t (max b.spot.number (greatest l x place)) (greatest l x place) ≡ a.spot.number)
      at_head false q some rest = let a = rest some in (a.0, inr a.1, a.2, a.3, a.4)
      at_head true q some rest = by_more (Rattle.lr_graph.proofs.Lists.Tests.le-or-lt b.spot.number (greatest l x place))
        where
          by_more : (greatest l x place ≤ b.spot.number) ⊎ (b.spot.number < greatest l x place) → (a : Acceptance Op) × IsAmong a (b ∷ l) × (x a.spot ≡ true) × (a.spot.place ≡ place) × (max b.spot.number (greatest l x place) ≡ a.spot.number)
          by_more (inl le) = (b, inl refl, and-left (x b.spot) _ q, eqb-true b.spot.place place (and-right (x b.spot) _ q), omega arith)
          by_more (inr lt) = let a = rest (omega arith) in let e = a.4 in (a.0, inr a.1, a.2, a.3, omega arith)

  joined-above : (all l : List (Acceptance Op)) (x : SpotSet) (place : ℕ) (a : Acceptance Op) → IsAmong a l → x a.spot ≡ true → greatest all a.below place ≤ joined all l x place
  joined-above all [] x place a member here = absurd member
  joined-above all (b ∷ l) x place a (inl e) here =
      let test : x b.spot ≡ true = ap (λ (c : Acceptance Op). x c.spot) (sym e) ∙ here in
      let same : greatest all a.below place ≡ greatest all b.below place = ap (λ (c : Acceptance Op). greatest all c.below place) e in
      let is : joined all (b ∷ l) x place ≡ max (greatest all b.below place) (joined all l x place) = ap (λ t. cond t (max (greatest all b.below place) (joined all l x place)) (joined all l x place)) test in
      omega arith
  joined-above all (b ∷ l) x place a (inr member) here = at_head (x b.spot) (joined-above all l x place a member here)
    where
      at_head : (t : Bool) → greatest all a.below place ≤ joined all l x place → greatest all a.below place ≤ cond t (max (greatest all b.below place) (joined all l x place)) (joined all l x place)
      at_head true h = omega arith
      at_head false h = h

  joined-least : (all l : List (Acceptance Op)) (x : SpotSet) (place n : ℕ) → ((a : Acceptance Op) → IsAmong a l → x a.spot ≡ true → greatest all a.below place ≤ n) → joined all l x place ≤ n
  joined-least all [] x place n h = omega arith
  joined-least all (b ∷ l) x place n h = at_head (x b.spot) refl (joined-least all l x place n (λ a member. h a (inr member)))
    where
      at_head : (t : Bool) → x b.spot ≡ t → joined all l x place ≤ n → cond t (max (greatest all b.below place) (joined all l x place)) (joined all l x place) ≤ n
      at_head true e rest = let own = h b (inl refl) e in omega arith
      at_head false e rest = rest

  pub names-joined : (l : List (Acceptance Op)) → IsSound l → (s : List ℕ) (x : SpotSet) → Names s x → IsSetOf l x → (place : ℕ) → part s place ≡ joined l l x place
  names-joined l sound s x names set place =
      let up = at_most (part s place) refl in
      let down = joined-least l l x place (part s place) (λ a member here. of_member a member here (greatest l a.below place) refl) in
      omega arith
    where
      at_most : (n : ℕ) → part s place ≡ n → part s place ≤ joined l l x place
      at_most zero e = omega arith
      at_most (suc n) e =
          let here : x (spot_at place (part s place)) ≡ true = names.reached place (omega arith) in
          let a = set.exist _ here in
          let own = greatest-above l a.0.below place a.0 a.1 (self-below l sound.older a.0 a.1) (ap (λ (k : Spot). k.place) a.2) in
          let number : a.0.spot.number ≡ part s place = ap (λ (k : Spot). k.number) a.2 in
          let more = joined-above l l x place a.0 a.1 (ap x a.2 ∙ here) in
          omega arith

      of_member : (a : Acceptance Op) → IsAmong a l → x a.spot ≡ true → (n : ℕ) → greatest l a.below place ≡ n → greatest l a.below place ≤ part s place
      of_member a member here zero e = omega arith
      of_member a member here (suc n) e =
          let c = greatest-is l a.below place (omega arith) in
          let in_x : x c.0.spot ≡ true = each-at _ c.0 l (each-at _ a l set.closed member here) c.1 c.2 in
          let most : c.0.spot.number ≤ part s c.0.spot.place = names.above c.0.spot in_x in
          let same : part s c.0.spot.place ≡ part s place = ap (part s) c.3 in
          let is = c.4 in
          omega arith

  -- of two acceptances not each is a cause of the other
  one-way : (l : List (Acceptance Op)) → HasApartSpots l → HasOlderCauses l → (a b : Acceptance Op) → IsAmong a l → IsAmong b l → causes a b.spot ≡ true → causes b a.spot ≡ true → ⊥
  one-way [] apart older a b in_a in_b f g = absurd in_a
  one-way (x ∷ l) apart older a b (inl p) (inl q) f g =
      true≢false (sym (same_spot-self a.spot) ∙ ap (same_spot a.spot) (ap (λ (c : Acceptance Op). c.spot) (p ∙ sym q)) ∙ not-false (same_spot a.spot b.spot) (and-right (b.below a.spot) _ g))
  one-way (x ∷ l) apart older a b (inl p) (inr q) f g =
      let made = causes-accepted l older.2 b q a.spot g in
      true≢false (sym (same_spot-self a.spot) ∙ ap (λ s. same_spot s a.spot) (sym made.2) ∙ ap (λ (c : Acceptance Op). same_spot made.0.spot c.spot) p ∙ each-at _ made.0 l apart.0 made.1)
  one-way (x ∷ l) apart older a b (inr p) (inl q) f g =
      let made = causes-accepted l older.2 a p b.spot f in
      true≢false (sym (same_spot-self b.spot) ∙ ap (λ s. same_spot s b.spot) (sym made.2) ∙ ap (λ (c : Acceptance Op). same_spot made.0.spot c.spot) q ∙ each-at _ made.0 l apart.0 made.1)
  one-way (x ∷ l) apart older a b (inr p) (inr q) f g = one-way l apart.1 older.2 a b p q f g

  -- the causes of an acceptance come with their own
  causes-set : (l : List (Acceptance Op)) → IsSound l → (a : Acceptance Op) → IsAmong a l → IsSetOf l (causes a)
  causes-set l sound a member = record {
    exist = causes-accepted l sound.older a member;
    closed = each-from _ l (λ b in_b here. each-from _ l (λ c in_c below.
        and-intro (a.below c.spot) _ (each-at _ c l (each-at _ b l (each-at _ a l sound.closed member) in_b (and-left (a.below b.spot) _ here)) in_c below)
        (apart b in_b here c below (decided (same_spot c.spot a.spot)))));
  }
    where
      apart : (b : Acceptance Op) → IsAmong b l → causes a b.spot ≡ true → (c : Acceptance Op) → b.below c.spot ≡ true → (same_spot c.spot a.spot ≡ true) ⊎ (same_spot c.spot a.spot ≡ false) → Rattle.std.proofs.Common.not (same_spot c.spot a.spot) ≡ true
      apart b in_b here c below (inr e) = ap Rattle.std.proofs.Common.not e
      apart b in_b here c below (inl e) =
          let at_a : b.below a.spot ≡ true = ap b.below (sym (same_spot-is c.spot a.spot e)) ∙ below in
          let other : same_spot a.spot b.spot ≡ false = Rattle.lr_graph.proofs.Lists.Tests.same_spot-sym a.spot b.spot ∙ not-false (same_spot b.spot a.spot) (and-right (a.below b.spot) _ here) in
          absurd (one-way l sound.apart sound.older a b member in_b here (and-intro (b.below a.spot) _ at_a (ap Rattle.std.proofs.Common.not other)))

module _ {Value Op : Type 0} (m : Meaning Value Op) (config : Config) (w : Facts Op) (v : RunState Value Op) (same : IsSame m config w v) where
  stands : (s : List ℕ) (x : SpotSet) → Names s x → IsSetOf w.accepted x → StandsForSet config w v s x
  stands s x names set = record {
    set = set;
    join = names-joined w.accepted same.shared.sound s x names set;
    within = λ i inside replica there. of_replica i inside replica there;
  }
    where
      some-is : {X : Type 0} (a b : X) → Some a ≡ Some b → a ≡ b
      some-is a b e = cc

      of_replica : (i : ℕ) → i < config.replicas → (replica : ReplicaState Value Op) → slice_get v.replicas i ≡ Some replica → stamp_le s replica.causal.val_ts ≡ is_within w.accepted x (w.received i)
      of_replica i inside replica there =
          let tied = same.replicas i inside in
          let is : tied.1.replica ≡ replica = some-is tied.1.replica replica (sym tied.1.there ∙ there) in
          ap (λ (r : ReplicaState Value Op). stamp_le s r.causal.val_ts) (sym is) ∙ ap (λ state. stamp_le s state.val_ts) tied.1.state_is
          ∙ stamp_le-within w.accepted same.shared.sound (w.received i) tied.0.rep_ts tied.2.counted tied.0.val_ts tied.2.applied.names s x names set

  -- a logged update is that of its acceptance
  update-in : (u : LogUpdate Op) (g : SpotSet) → IsUpdateOf w.accepted g u → IsUpdateIn config w v u
  update-in u g h =
      let sound = same.shared.sound in
      record {
        of = h.0;
        among = h.1.among;
        spot = h.1.spot;
        cid = h.1.cid;
        op = h.1.op;
        prev = stands u.prev (causes h.0) h.1.prev (causes-set w.accepted sound h.0 h.1.among);
        stamp = stands (stamp_of u) h.0.below (update-stamp w.accepted sound u h.0 h.1) (below-set w.accepted sound h.0 h.1.among);
      }

  call-in : (c : LabelledCall Op) (d : Call Op) → SameCall w.accepted c d → IsCallIn config w v c d
  call-in c d call = record { cid = sym call.cid; op = sym call.op; label = stands d.prev c.label call.names call.set }

  -- and so has an open call
  open-in : (o : Option (LabelledCall Op)) (p : Option (Call Op)) → SameOption (SameCall w.accepted) o p → IsOpenIn config w v o p
  open-in None None h = tt
  open-in (Some c) (Some d) h = call-in c d h
  open-in None (Some d) h = h
  open-in (Some c) None h = h

  carries : (there : SpotSet) (x : Carried Op) (p : Message Op) → SameCarried m config w.accepted w.acks there same.issued (calls_in w) x p → CarriesStamp config w v there x p
  carries there x p (same_update c d t time call times by update) = (call-in c d call, sym times)
  carries there x p (same_query c d call by) = call-in c d call
  carries there x p (same_ack cid other t time cids times client) = (sym cids, sym times)
  carries there x p (same_done cid other names at stamp cids named set done) = (sym cids, done, stands stamp names named set)
  carries there x p (same_answer cid other names text stamp cids named set) = (sym cids, stands stamp names named set)
  carries there x p (same_gossip names g h) = record {
    counted = h.counted;
    updates = each-map (IsUpdateOf w.accepted h.logs) (λ u. IsUpdateIn config w v u × (names u.spot ≡ true)) g.updates (λ u of. (update-in u h.logs of, ap names of.1.spot ∙ h.within of.0.spot of.2)) h.log.each;
    lacking = each-from _ w.accepted (λ a member named out. each-at _ a w.accepted h.log.all member (never-false (h.logs a.spot) (λ e. true≢false (sym (h.elsewhere a.spot named e) ∙ out))));
    acks = each-from _ g.acks (λ a member. (let k = acks-among h.ack_logs w.acks a (subst (λ (xs : List LogAck). IsAmong a xs) h.acks_are member) in (k.0, each-at _ a w.acks h.acks_within k.0 k.1)));
    acks_lacking = each-from _ w.acks (λ a member named out. subst (λ (xs : List LogAck). IsAmong a xs) (sym h.acks_are)
        (among-acks h.ack_logs w.acks a member (never-false (h.ack_logs a) (λ e. true≢false (sym (each-at _ a w.acks h.acks_elsewhere member named e) ∙ out)))));
  }

  -- each held query has its counterpart
  held-in : (i : ℕ) (cs : List (LabelledCall Op)) (ds : List (Call Op)) → ((c : LabelledCall Op) → IsAmong c cs → IsAmong c (w.held i)) → SameList (SameHeld config.clients w.accepted) cs ds → Each (IsHeldIn config w v i) ds
  held-in i [] [] into all = tt
  held-in i [] (d ∷ ds) into all = absurd all
  held-in i (c ∷ cs) [] into all = absurd all
  held-in i (c ∷ cs) (d ∷ ds) into all = (
    record { of = c; among = into c (inl refl); call = call-in c d all.0.call },
    held-in i cs ds (λ x member. into x (inr member)) all.1,
  )

  carries_to : (to : Actor) (x : Carried Op) (p : Message Op) → SameCarried m config w.accepted w.acks (at_actor w.received to) same.issued (calls_in w) x p → CarriesStamp config w v (received_at w to) x p
  carries_to (Replica i) x p h = carries (w.received i) x p h
  carries_to (Client client) x p h = carries nothing x p h

  has-stamps : (i : ℕ) (replica : ReplicaState Value Op) → IsReplicaAt m config w.accepted (w.received i) (logged config w i) (is_left config w i) (w.kept i) (w.held i) replica.causal → HasNoted config.replicas w.acks (is_acked config w i) (w.clock i) (told_by w i) replica.causal → HasStamps config w v i replica
  has-stamps i replica ok noted = record {
    prefixes = ok.counted;
    clock = noted.clock_is;
    acks = noted.acks_are;
    value = stands replica.causal.val_ts (ready w.accepted (w.received i)) ok.applied.names (ready-set w.accepted same.shared.sound (w.received i));
    held = held-in i (w.held i) replica.causal.held (λ c member. member) ok.held_are;
    updates = each-map (IsUpdateOf w.accepted (logged config w i)) (IsUpdateIn config w v) replica.causal.updates (λ u h. update-in u (logged config w i) h) ok.log.each;
    by_call = ok.still.keys;
    executed = λ cid. ok.applied.table.known cid ∙ known-left config w i cid;
    kept = λ cid. kept-known config w i (w.kept i) replica.causal.calls ok.applied.table cid;
    known = λ cid known is. (let a = ok.applied.table.stamps cid known is in record {
      of = a.0;
      among = a.1;
      cid_is = a.3;
      spot = a.2;
      stamp = stands known.stamp a.0.below a.4 (below-set w.accepted same.shared.sound a.0 a.1);
    });
  }

  -- a replica's value is that after what is ready there
  pub same-value : (i : ℕ) → i < config.replicas → (replica : ReplicaState Value Op) → slice_get v.replicas i ≡ Some replica
      → replica.causal.value ≡ value_in m w i
  same-value i inside replica there =
      let tied = same.replicas i inside in
      let is : Some tied.1.replica ≡ Some replica = sym tied.1.there ∙ there in
      let one : tied.1.replica ≡ replica = cc in
      ap (λ (r : ReplicaState Value Op). r.causal.value) (sym one) ∙ ap (λ state. state.value) tied.1.state_is ∙ tied.2.applied.value_is

  pub same-central : IsCentral config w v
  same-central = record {
    sound = same.shared.sound;
    replicas = λ i inside. (let tied = same.replicas i inside in (
      tied.1.replica,
      tied.1.there,
      has-stamps i tied.1.replica (subst (λ state. IsReplicaAt m config w.accepted (w.received i) (logged config w i) (is_left config w i) (w.kept i) (w.held i) state) (sym tied.1.state_is) tied.2) (subst (λ state. HasNoted config.replicas w.acks (is_acked config w i) (w.clock i) (told_by w i) state) (sym tied.1.state_is) tied.3),
    ));
    fronts = λ client inside. (let f = same.shared.fronts_are client inside in (
      f.0,
      f.1,
      record {
        client_is = f.2.client_is;
        calls = sym f.2.calls;
        clock = sym f.2.clock;
        open_call = open-in (w.front client).open_call f.0.open_call f.2.open_call;
        answered = sym f.2.answered;
        label = stands f.0.label (w.front client).label f.2.names f.2.set;
      },
    ));
    count = same.shared.count;
    messages = λ n p there. by_found n p (find (λ y. y.number == n) w.messages) refl (subst (λ o. SameOption (SameMessage m config w.accepted w.acks w.received same.issued (calls_in w)) (find (λ y. y.number == n) w.messages) o) there (same.shared.messages n));
  }
    where
      by_found : (n : ℕ) (p : Posted Op) (o : Option (SentMessage Op)) → find (λ y. y.number == n) w.messages ≡ o → SameOption (SameMessage m config w.accepted w.acks w.received same.issued (calls_in w)) (find (λ y. y.number == n) w.messages) (Some p)
          → (x : SentMessage Op) × (find (λ y. y.number == n) w.messages ≡ Some x) × IsMessageIn config w v x p
      by_found n p o e h = go o e (subst (λ q. SameOption (SameMessage m config w.accepted w.acks w.received same.issued (calls_in w)) q (Some p)) e h)
        where
          go : (o : Option (SentMessage Op)) → find (λ y. y.number == n) w.messages ≡ o → SameOption (SameMessage m config w.accepted w.acks w.received same.issued (calls_in w)) o (Some p)
              → (x : SentMessage Op) × (find (λ y. y.number == n) w.messages ≡ Some x) × IsMessageIn config w v x p
          go None e h = absurd h
          go (Some x) e h = (x, e, record { from = sym h.from; to = sym h.to; what = carries_to x.to x.what p.message h.what })
