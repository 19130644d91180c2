-- What replicas told one another stays so, whatever happens.
use Rattle.std.proofs.Common.{◌≡◌, ◌<◌, ℕ, true, false, ◌&&◌, ◌||◌, ◌⊎◌, inl, inr, List, ◌∷◌, refl, sym, ap, ◌∙◌, subst, true≢false}
use Rattle.lr_base.specs.Ascending.{same_cid}
use Rattle.lr_base.specs.Orders.{IsAmong}
use Rattle.lr_base.specs.declared.messages.LogAck.{LogAck}
use Rattle.lr_base.specs.declared.names.Actor.{Actor}
use Rattle.lr_base.specs.declared.names.Actor.TheVariants.{Client, Replica}
use Rattle.lr_base.specs.declared.names.Cid.{Cid}
use Rattle.lr_base.specs.declared.names.Config.{Config}
use Rattle.lr_base.specs.declared.names.Spot.{Spot}
use Rattle.lr_graph.specs.Closed.{Each, IsAccepted, IsSound}
use Rattle.lr_graph.specs.After.{takes}
use Rattle.lr_graph.specs.Graph.{Acceptance, AckCopy, AnswerReply, Blank, Carried, DoneReply, Facts, FrontFacts, GossipOf, Kept, LabelledCall, QueryCopy, SentMessage, UpdateCopy, has_ack, has_call}
use Rattle.lr_graph.specs.Sets.{SpotSet, put_at, ◌∪◌}
use Rattle.lr_graph.specs.Spread.{IsGossipSpread, IsSpread, IsSpreadBy, has_item}
use Rattle.lr_graph.proofs.Lists.Members.{among-list_any, each-at, each-from, each-map, list_any-among}
use Rattle.lr_graph.proofs.Lists.Tests.{and-intro, and-left, and-right, never, or-cases, or-left, or-right, same_cid-is, same_cid-self}
use Rattle.lr_graph.proofs.Sets.PutAt.{put-each, put-same}
use Rattle.lr_graph.proofs.Sets.ReadySets.{below-accepted}
use Rattle.lr_graph.proofs.Sets.Values.{has_call-holds, holds-has_call}

-- an acknowledgement of a call is in a set just where the set has one
pub has_ack-holds : (acks : List LogAck) (x : SpotSet) (cid : Cid) → has_ack acks x cid ≡ true → (a : LogAck) × IsAmong a acks × (x a.spot ≡ true) × (a.cid ≡ cid)
has_ack-holds acks x cid e =
    let a = list_any-among (λ (a : LogAck). x a.spot && same_cid cid a.cid) acks e in
    (a.0, a.1, and-left (x a.0.spot) _ a.2, sym (same_cid-is cid a.0.cid (and-right (x a.0.spot) _ a.2)))

pub holds-has_ack : (acks : List LogAck) (x : SpotSet) (cid : Cid) (a : LogAck) → IsAmong a acks → x a.spot ≡ true → a.cid ≡ cid → has_ack acks x cid ≡ true
holds-has_ack acks x cid a member here is =
    among-list_any (λ (b : LogAck). x b.spot && same_cid cid b.cid) a acks member (and-intro (x a.spot) _ here (ap (same_cid cid) is ∙ same_cid-self cid))

module _ {Op : Type 0} (w : Facts Op) where
  -- a wider set has no fewer items of a call
  pub item-wider : (x y : SpotSet) (cid : Cid) → ((s : Spot) → x s ≡ true → y s ≡ true) → has_item w x cid ≡ true → has_item w y cid ≡ true
  item-wider x y cid into h = elim (or-cases (has_call w.accepted x cid) _ h) [
    | inl e ↦ let a = has_call-holds w.accepted x cid e in or-left _ _ (holds-has_call w.accepted y cid a.0 a.1 (into a.0.spot a.2) a.3)
    | inr e ↦ let a = has_ack-holds w.acks x cid e in or-right (has_call w.accepted y cid) _ (holds-has_ack w.acks y cid a.0 a.1 (into a.0.spot a.2) a.3)
  ]

  -- two sets that a replica told make one
  pub either-spread : (k : ℕ) (x y : SpotSet) → IsSpreadBy w k x → IsSpreadBy w k y → IsSpreadBy w k (x ∪ y)
  either-spread k x y f g = record {
    within = λ s here. elim (or-cases (x s) _ here) [ inl a ↦ f.within s a | inr b ↦ g.within s b ];
    causes = each-from _ w.accepted (λ a in_a here. elim (or-cases (x a.spot) _ here) [
      | inl h ↦ each-map _ _ w.accepted (λ b rest made below. or-left _ _ (rest made below)) (each-at _ a w.accepted f.causes in_a h)
      | inr h ↦ each-map _ _ w.accepted (λ b rest made below. or-right (x b.spot) _ (rest made below)) (each-at _ a w.accepted g.causes in_a h)
    ]);
    calls = λ cid has. elim (parted cid has) [
      | inl h ↦ each-map _ _ w.accepted (λ b rest made is. or-left _ _ (rest made is)) (f.calls cid h)
      | inr h ↦ each-map _ _ w.accepted (λ b rest made is. or-right (x b.spot) _ (rest made is)) (g.calls cid h)
    ];
  }
    where
      parted : (cid : Cid) → has_item w (x ∪ y) cid ≡ true → (has_item w x cid ≡ true) ⊎ (has_item w y cid ≡ true)
      parted cid has = elim (or-cases (has_call w.accepted (x ∪ y) cid) _ has) [
        | inl e ↦ let a = has_call-holds w.accepted (x ∪ y) cid e in elim (or-cases (x a.0.spot) _ a.2) [
          | inl h ↦ inl (or-left _ _ (holds-has_call w.accepted x cid a.0 a.1 h a.3))
          | inr h ↦ inr (or-left _ _ (holds-has_call w.accepted y cid a.0 a.1 h a.3))
        ]
        | inr e ↦ let a = has_ack-holds w.acks (x ∪ y) cid e in elim (or-cases (x a.0.spot) _ a.2) [
          | inl h ↦ inl (or-right (has_call w.accepted x cid) _ (holds-has_ack w.acks x cid a.0 a.1 h a.3))
          | inr h ↦ inr (or-right (has_call w.accepted y cid) _ (holds-has_ack w.acks y cid a.0 a.1 h a.3))
        ]
      ]

  -- what a replica received it may tell: it has all that was made at its place
  pub received-spread : ((a : Acceptance Op) → IsAmong a w.accepted → w.received a.spot.place a.spot ≡ true) → (k : ℕ) → IsSpreadBy w k (w.received k)
  received-spread own k = record {
    within = λ s here. here;
    causes = each-from _ w.accepted (λ a in_a here. each-from _ w.accepted (λ b in_b made below. made_here b in_b made));
    calls = λ cid has. each-from _ w.accepted (λ b in_b made is. made_here b in_b made);
  }
    where
      made_here : (b : Acceptance Op) → IsAmong b w.accepted → b.spot.place ≡ k → w.received k b.spot ≡ true
      made_here b member made = ap (λ n. w.received n b.spot) (sym made) ∙ own b member

-- what was sent stays so where what each replica told does
sent-lifted : {Op : Type 0} (config : Config) (w now : Facts Op) → ((k : ℕ) (x : SpotSet) → IsSpreadBy w k x → IsSpreadBy now k x) → (from : Actor) (what : Carried Op)
    → IsGossipSpread config w from what → IsGossipSpread config now from what
sent-lifted config w now lift (Client c) what h = tt
sent-lifted config w now lift (Replica k) (UpdateCopy call time) h = tt
sent-lifted config w now lift (Replica k) (QueryCopy call) h = tt
sent-lifted config w now lift (Replica k) (AckCopy cid time) h = tt
sent-lifted config w now lift (Replica k) (DoneReply cid names) h = tt
sent-lifted config w now lift (Replica k) (AnswerReply cid names) h = tt
sent-lifted config w now lift (Replica k) (GossipOf names) h = (h.0, lift k names h.1)
sent-lifted config w now lift (Replica k) Blank h = tt

-- what replicas told one another stays so where what each told does, and no less is received
pub spread-lifted : {Op : Type 0} (config : Config) (w now : Facts Op) → ((k : ℕ) (x : SpotSet) → IsSpreadBy w k x → IsSpreadBy now k x) → now.told ≡ w.told → now.messages ≡ w.messages
    → ((i : ℕ) (s : Spot) → w.received i s ≡ true → now.received i s ≡ true) → IsSpread config w → IsSpread config now
spread-lifted config w now lift told messages grows h = record {
  told = λ i k less. subst (λ (t : ℕ → ℕ → SpotSet). IsSpreadBy now k (t i k)) (sym told) (lift k (w.told i k) (h.told i k less));
  taken = λ i k s e. grows i s (h.taken i k s (ap (λ (t : ℕ → ℕ → SpotSet). t i k s) (sym told) ∙ e));
  sent = subst (λ (xs : List (SentMessage _)). Each (λ x. IsGossipSpread config now x.from x.what) xs) (sym messages) (each-map _ _ w.messages (λ x. sent-lifted config w now lift x.from x.what) h.sent);
}

-- nothing of it goes by front ends, by what replicas keep and hold, or by clocks
pub spread-beside : {Op : Type 0} (config : Config) (w : Facts Op) (front : ℕ → FrontFacts Op) (kept : ℕ → List Kept) (held : ℕ → List (LabelledCall Op)) (clock : ℕ → ℕ)
    → IsSpread config w → IsSpread config (record w { front = front; kept = kept; held = held; clock = clock })
spread-beside config w front kept held clock h =
    spread-lifted config w (record w { front = front; kept = kept; held = held; clock = clock }) (λ k x f. record { within = f.within; causes = f.causes; calls = f.calls }) refl refl (λ i s e. e) h

-- a message is sent, with what its sender told if it is gossip
pub spread-sent : {Op : Type 0} (config : Config) (w : Facts Op) (x : SentMessage Op) → IsGossipSpread config w x.from x.what → IsSpread config w → IsSpread config (record w { messages = x ∷ w.messages })
spread-sent config w x new h = record {
  told = λ i k less. lift k (w.told i k) (h.told i k less);
  taken = h.taken;
  sent = (sent-lifted config w (record w { messages = x ∷ w.messages }) lift x.from x.what new, each-map _ _ w.messages (λ y. sent-lifted config w (record w { messages = x ∷ w.messages }) lift y.from y.what) h.sent);
}
  where
    lift : (k : ℕ) (y : SpotSet) → IsSpreadBy w k y → IsSpreadBy (record w { messages = x ∷ w.messages }) k y
    lift k y f = record { within = f.within; causes = f.causes; calls = f.calls }

-- where more is received, what was told stays so
pub spread-grown : {Op : Type 0} (w : Facts Op) (received : ℕ → SpotSet) → ((j : ℕ) (s : Spot) → w.received j s ≡ true → received j s ≡ true)
    → (k : ℕ) (x : SpotSet) → IsSpreadBy w k x → IsSpreadBy (record w { received = received }) k x
spread-grown w received grows k x h = record { within = λ s here. grows k s (h.within s here); causes = h.causes; calls = h.calls }

-- with one more acceptance, of a call of which its replica had received no item
module _ {Op : Type 0} (w : Facts Op) (a : Acceptance Op) (sound : IsSound w.accepted) (fresh : IsAccepted w.accepted a.spot → ⊥)
    (out : (j : ℕ) → w.received j a.spot ≡ false) (first : has_item w (w.received a.spot.place) a.cid ≡ false) where
  pub spread-accepted : (k : ℕ) (x : SpotSet) → IsSpreadBy w k x → IsSpreadBy (record w { accepted = a ∷ w.accepted }) k x
  spread-accepted k x h = record {
    within = h.within;
    causes = (
      (λ e. absurd (true≢false (sym e ∙ lacks))),
      each-from _ w.accepted (λ b in_b here. (
        (λ made below. absurd (fresh (below-accepted w.accepted sound b in_b a.spot below))),
        each-at _ b w.accepted h.causes in_b here,
      )),
    );
    calls = λ cid has. (
      (λ made is. absurd (true≢false (sym (ap (λ n. has_item w (w.received n) a.cid) made ∙ ap (has_item w (w.received k)) is ∙ item-wider w x (w.received k) cid h.within (old cid has)) ∙ first))),
      h.calls cid (old cid has),
    );
  }
    where
      lacks : x a.spot ≡ false
      lacks = never (x a.spot) (λ e. true≢false (sym (h.within a.spot e) ∙ out k))

      old : (cid : Cid) → ((x a.spot && same_cid cid a.cid || has_call w.accepted x cid) || has_ack w.acks x cid) ≡ true → has_item w x cid ≡ true
      old cid has = ap (λ t. (t && same_cid cid a.cid || has_call w.accepted x cid) || has_ack w.acks x cid) (sym lacks) ∙ has

-- with one more acknowledgement
module _ {Op : Type 0} (w : Facts Op) (a : LogAck) (out : (j : ℕ) → w.received j a.spot ≡ false) where
  pub spread-noted : (k : ℕ) (x : SpotSet) → IsSpreadBy w k x → IsSpreadBy (record w { acks = a ∷ w.acks }) k x
  spread-noted k x h = record {
    within = h.within;
    causes = h.causes;
    calls = λ cid has. h.calls cid (ap (λ t. has_call w.accepted x cid || (t && same_cid cid a.cid || has_ack w.acks x cid)) (sym lacks) ∙ has);
  }
    where
      lacks : x a.spot ≡ false
      lacks = never (x a.spot) (λ e. true≢false (sym (h.within a.spot e) ∙ out k))

-- gossip is taken: its receiver was told what it names
module _ {Op : Type 0} (config : Config) (w : Facts Op) (from i : ℕ) (names : SpotSet) where
  abbrev after_it : Facts Op
  after_it = takes w (Replica from) i names

  abbrev heard : ℕ → SpotSet
  heard = put_at from (w.told i from ∪ names) (w.told i)

  grows : (j : ℕ) (s : Spot) → w.received j s ≡ true → after_it.received j s ≡ true
  grows j s e = put-each (λ j (r : SpotSet). w.received j s ≡ true → r s ≡ true) i (w.received i ∪ names) w.received (λ h. or-left (w.received i s) _ h) (λ j h. h) j e

  lift : (k : ℕ) (x : SpotSet) → IsSpreadBy w k x → IsSpreadBy after_it k x
  lift k x h = record { within = λ s here. grows k s (h.within s here); causes = h.causes; calls = h.calls }

  pub spread-taken : IsSpreadBy w from names → IsSpread config w → IsSpread config after_it
  spread-taken new h = record {
    told = put-each (λ j (row : ℕ → SpotSet). (k : ℕ) → k < config.replicas → IsSpreadBy after_it k (row k)) i heard w.told
        (put-each (λ k (x : SpotSet). k < config.replicas → IsSpreadBy after_it k x) from (w.told i from ∪ names) (w.told i)
        (λ less. lift from (w.told i from ∪ names) (either-spread w from (w.told i from) names (h.told i from less) new)) (λ k less. lift k (w.told i k) (h.told i k less)))
        (λ j k less. lift k (w.told j k) (h.told j k less));
    taken = put-each (λ j (row : ℕ → SpotSet). (k : ℕ) (s : Spot) → row k s ≡ true → after_it.received j s ≡ true) i heard w.told
        (put-each (λ k (x : SpotSet). (s : Spot) → x s ≡ true → after_it.received i s ≡ true) from (w.told i from ∪ names) (w.told i)
        (λ s e. elim (or-cases (w.told i from s) _ e) [ inl told ↦ grows i s (h.taken i from s told) | inr named ↦ here_now s named ]) (λ k s e. grows i s (h.taken i k s e)))
        (λ j k s e. grows j s (h.taken j k s e));
    sent = each-map _ _ w.messages (λ x. sent-lifted config w after_it lift x.from x.what) h.sent;
  }
    where
      here_now : (s : Spot) → names s ≡ true → after_it.received i s ≡ true
      here_now s e = ap (λ (r : SpotSet). r s) (put-same i (w.received i ∪ names) w.received) ∙ or-right (w.received i s) _ e
