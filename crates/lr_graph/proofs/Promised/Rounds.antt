-- Where each replica's gossip reaches each other, all have received all, and no query is held.
use Rattle.std.proofs.Common.{◌≡◌, ◌≢◌, ℕ, suc, ◌<◌, ◌==◌, Bool, true, false, cond, not, ◌&&◌, ◌||◌, filter, find, ◌⊎◌}
use Rattle.std.proofs.Common.{inl, inr, List, [], ◌∷◌, ◌++◌, Option, Some, None, refl, sym, ap, ◌∙◌, subst}
use Rattle.std.proofs.Common.{true≢false}
use Rattle.std.proofs.lemmas.List.Folds.{list_all-append}
use Rattle.std.specs.List.{list_all}
use Rattle.lr_base.specs.Meaning.{Encoding, Lawful, Meaning}
use Rattle.lr_base.specs.Orders.{IsAmong}
use Rattle.lr_base.specs.declared.events.Event.{Event}
use Rattle.lr_base.specs.declared.events.Event.TheVariants.{Deliver, Gossip as GossipEvent}
use Rattle.lr_base.specs.declared.events.Outcome.TheVariants.{Send}
use Rattle.lr_base.specs.declared.events.Sent.TheVariants.{Gossip}
use Rattle.lr_base.specs.declared.events.Step.{Step}
use Rattle.lr_base.specs.declared.lr_service.Kind.{Kind}
use Rattle.lr_base.specs.declared.names.Actor.{Actor}
use Rattle.lr_base.specs.declared.names.Actor.TheVariants.{Replica}
use Rattle.lr_base.specs.declared.names.Config.{Config}
use Rattle.lr_graph.specs.After.{after, lines_read, stepping}
use Rattle.lr_graph.specs.Central.{facts_after}
use Rattle.lr_graph.specs.Closed.{Each}
use Rattle.lr_graph.specs.Graph.{Acceptance, Facts, GossipOf, LabelledCall, SentMessage, first_facts, is_within}
use Rattle.lr_graph.specs.Legal.{IsLegal, LegalFrom, answer_line, answers, delivery_lines, next_number, outcomes_of, IsLegalStep}
use Rattle.lr_graph.specs.Promises.{◌⊆◌, HasGossiped, HasReceivedAll, IsRound, facts_of}
use Rattle.lr_graph.specs.Runs.{RunState, first_run}
use Rattle.lr_graph.specs.Sets.{SpotSet, ◌∪◌}
use Rattle.lr_graph.proofs.Logs.Items.{accepted-item}
use Rattle.lr_graph.proofs.Lists.Members.{among-right, each-at, each-from, each-map, filter-each}
use Rattle.lr_graph.proofs.Lists.Tests.{equal-or-not, not-false, or-right}
use Rattle.lr_graph.proofs.Promised.Changes.{Extends, IsNumbered, extends-more, found-among}
use Rattle.lr_graph.proofs.Promised.Points.{IsPoint, any-point, facts-parts, first-point, later-point}
use Rattle.lr_graph.proofs.Promised.Points.{legal-parts, step-point}
use Rattle.lr_graph.proofs.Promised.Walk.{after-ended, own_read}
use Rattle.lr_graph.proofs.Replicas.Stepping.{put-same}
use Rattle.lr_graph.proofs.Sets.ReadySets.{holds-within}
use Rattle.lr_graph.proofs.Handled.{receiving, came_in}

and-false : (a : Bool) → (a && false) ≡ false
and-false true = refl
and-false false = refl

-- ---- held queries wait

module _ {Op : Type 0} where
  -- at a replica no held query's label is received
  abbrev pub Waits : Facts Op → ℕ → Type 0
  Waits w i = Each (λ call. is_within w.accepted call.label (w.received i) ≡ false) (w.held i)

  waits-more : (l more : List (Acceptance Op)) → Extends more l → (x r : SpotSet) → is_within l x r ≡ false
      → is_within more x r ≡ false
  waits-more l more new x r e =
      let test = λ (a : Acceptance Op). not (x a.spot) || r a.spot in
      ap (λ k. is_within k x r) new.1 ∙ list_all-append test new.0 l ∙ ap (λ t. list_all test new.0 && t) e
      ∙ and-false _

  -- the gossip that one replica sends to another
  abbrev pub gossip_in : Facts Op → ℕ → ℕ → SentMessage Op
  gossip_in w from to = record {
    number = next_number w;
    from = Replica from;
    to = Replica to;
    what = GossipOf (w.received from);
  }

-- ---- steps

module _ {Value Op : Type 0} (m : Meaning Value Op) (config : Config) where
  -- answers send no gossip
  no-gossip : (w : Facts Op) (number i n : ℕ) (from to : Actor) (calls : List (LabelledCall Op))
      → IsAmong (Send n from to Gossip) (answers m w number i calls) → ⊥
  no-gossip w number i n from to [] among = among
  no-gossip w number i n from to (call ∷ calls) among =
      by_test (is_within w.accepted call.label (w.received i)) among (no-gossip w (suc number) i n from to calls)
      (no-gossip w number i n from to calls)
    where
      apart : Send n from to Gossip ≡ answer_line m w number i call → ⊥
      apart e = cc

      by_test : (t : Bool)
          → IsAmong (Send n from to Gossip)
          (cond t (answer_line m w number i call ∷ answers m w (suc number) i calls) (answers m w number i calls))
          → (IsAmong (Send n from to Gossip) (answers m w (suc number) i calls) → ⊥)
          → (IsAmong (Send n from to Gossip) (answers m w number i calls) → ⊥) → ⊥
      by_test true (inl e) sent none = apart e
      by_test true (inr among) sent none = sent among
      by_test false among sent none = none among

  module _ (w : Facts Op) (step : Step Op) (legal : step.outcomes ≡ outcomes_of m config w step.event) where
    -- a replica's step answers what need not wait
    waits-ended : (i : ℕ) → stepping w step.event ≡ Some i → Waits (after m config w step) i
    waits-ended i at =
        let last = after-ended m config w step legal i at in
        let mid = own_read m config w step.event in
        let stays = λ (call : LabelledCall Op). not (is_within mid.accepted call.label (mid.received i)) in
        let all = each-from (λ c. Unit {0}) (mid.held i) (λ c in_held. tt) in
        subst (λ (u : Facts Op). Waits u i) (sym last.1)
        (subst (λ cs. Each (λ call. is_within mid.accepted call.label (mid.received i) ≡ false) cs)
        (sym (put-same i (filter stays (mid.held i)) mid.held))
        (each-map _ _ (filter stays (mid.held i)) (λ c k. not-false _ k.1)
        (filter-each (λ c. Unit {0}) stays (mid.held i) all)))

    module _ (from to : ℕ) where
      -- the gossip that a replica sends has the next number
      gossip-number : (number : ℕ) → step.event ≡ GossipEvent from to
          → IsAmong (Send number (Replica from) (Replica to) Gossip) step.outcomes → number ≡ next_number w
      gossip-number number event sent = by_line (subst (IsAmong _) (legal ∙ ap (outcomes_of m config w) event) sent)
        where
          by_line : IsAmong (Send number (Replica from) (Replica to) Gossip)
              (outcomes_of m config w (GossipEvent from to))
              → number ≡ next_number w
          by_line (inl e) = cc
          by_line (inr among) =
              let mid = own_read m config w (GossipEvent from to) in
              absurd (no-gossip mid (next_number mid) from number (Replica from) (Replica to) (mid.held from) among)

      -- what the sender received stands in a message
      gossip-sent : step.event ≡ GossipEvent from to
          → Extends (after m config w step).messages (gossip_in w from to ∷ w.messages)
      gossip-sent event =
          let last = after-ended m config w step legal from (ap (stepping w) event) in
          let own = λ (event : Event Op). (own_read m config w event).messages in
          (last.0, ap (λ (u : Facts Op). u.messages) last.1 ∙ ap (λ (event : Event Op). last.0 ++ own event) event)

      -- who takes it received that too
      gossip-taken : (sender : Facts Op) (number : ℕ) → step.event ≡ Deliver number
          → find (λ y. y.number == number) w.messages ≡ Some (gossip_in sender from to)
          → (after m config w step).received to ≡ (w.received to ∪ sender.received from)
      gossip-taken sender number event found =
          let last = after-ended m config w step legal to (ap (stepping w) event ∙ ap receiving found) in
          ap (λ (u : Facts Op). u.received to) last.1
          ∙ ap (λ (event : Event Op). (own_read m config w event).received to) event
          ∙ ap (λ o. (lines_read m config (came_in o) w (delivery_lines m config w number o)).received to) found
          ∙ put-same to (w.received to ∪ sender.received from) w.received

-- ---- histories

module _ {Value Op : Type 0} (m : Meaning Value Op) {e : Encoding Value} (kind_of : Op → Kind) (lawful : Lawful m e kind_of)
    (config : Config) where
  waits-step : (w : Facts Op) (v : RunState Value Op) → IsPoint m config w v → (step : Step Op)
      → IsLegalStep m config w step → ((i : ℕ) → Waits w i) → (i : ℕ) → Waits (after m config w step) i
  waits-step w v p step legal waits j = by_actor (stepping w step.event) refl
    where
      elsewhere : (stepping w step.event ≡ Some j → ⊥) → Waits (after m config w step) j
      elsewhere apart =
          let next = (step-point m kind_of lawful config w v p step legal).2 in
          let stays = λ (c : LabelledCall Op) (e : is_within w.accepted c.label (w.received j) ≡ false).
          waits-more w.accepted (after m config w step).accepted next.later.accepted c.label _
          (ap (is_within w.accepted c.label) (next.others j apart).0 ∙ e) in
          subst (λ cs. Each (λ c. is_within (after m config w step).accepted c.label ((after m config w step).received j) ≡ false) cs)
          (sym (next.others j apart).1) (each-map _ _ (w.held j) stays (waits j))

      none_some : (i : ℕ) → ◌≡◌ {A = Option ℕ} None (Some i) → ⊥
      none_some i e = cc

      some_is : (i k : ℕ) → Some i ≡ Some k → i ≡ k
      some_is i k e = cc

      by_actor : (o : Option ℕ) → stepping w step.event ≡ o → Waits (after m config w step) j
      by_actor None at = elsewhere (λ e. none_some j (sym at ∙ e))
      by_actor (Some i) at = by_place (equal-or-not j i)
        where
          by_place : (j ≡ i) ⊎ (j ≢ i) → Waits (after m config w step) j
          by_place (inl is) = subst (Waits (after m config w step)) (sym is) (waits-ended m config w step legal.outcomes i at)
          by_place (inr apart) = elsewhere (λ e. apart (some_is j i (sym e ∙ at)))

  waits-later : (steps : List (Step Op)) (w : Facts Op) (v : RunState Value Op) → IsPoint m config w v
      → LegalFrom m config w steps → ((i : ℕ) → Waits w i) → (i : ℕ)
      → Waits (facts_after m config w steps) i
  waits-later [] w v p legal waits = waits
  waits-later (step ∷ steps) w v p legal waits =
      let one = step-point m kind_of lawful config w v p step legal.0 in
      waits-later steps (after m config w step) one.0 one.1 legal.1 (waits-step w v p step legal.0 waits)

  -- ---- gossip that is sent and delivered

  module _ (w : Facts Op) (v : RunState Value Op) (p : IsPoint m config w v) where
    -- what was received where gossip was sent is received where it was delivered
    spreads : (first between last : List (Step Op)) (sending delivering : Step Op)
        → LegalFrom m config w (first ++ sending ∷ between ++ delivering ∷ last) → (from to number : ℕ)
        → sending.event ≡ GossipEvent from to
        → IsAmong (Send number (Replica from) (Replica to) Gossip) sending.outcomes
        → delivering.event ≡ Deliver number
        → w.received from ⊆ (facts_after m config w (first ++ sending ∷ between ++ delivering ∷ last)).received to
    spreads first between last sending delivering legal from to number event sent delivered s here =
        let start : List (Step Op) = first ++ sending ∷ between in
        let legal1 = legal-parts m config start (delivering ∷ last) w legal in
        let legal0 = legal-parts m config first (sending ∷ between) w legal1.0 in
        let w1 = facts_after m config w first in
        let a = later-point m kind_of lawful config first w v p legal0.0 in
        let b = step-point m kind_of lawful config w1 a.0 a.1 sending legal0.1.0 in
        let c = later-point m kind_of lawful config between (after m config w1 sending) b.0 b.1
        legal0.1.1 in
        let w3 = facts_after m config (after m config w1 sending) between in
        let same : facts_after m config w start ≡ w3 = facts-parts m config first (sending ∷ between) w in
        let legal3 = subst (λ (u : Facts Op). LegalFrom m config u (delivering ∷ last)) same legal1.1 in
        let d = step-point m kind_of lawful config w3 c.0 c.1 delivering legal3.0 in
        let e = later-point m kind_of lawful config last (after m config w3 delivering) d.0 d.1
        legal3.1 in
        let sends = gossip-sent m config w1 sending legal0.1.0.outcomes from to event in
        let x = gossip_in w1 from to in
        let messages = extends-more (x ∷ w1.messages) (after m config w1 sending).messages w3.messages sends c.2.messages in
        let named = gossip-number m config w1 sending legal0.1.0.outcomes from to number event sent in
        let found = ap (λ n. find (λ (y : SentMessage Op). y.number == n) w3.messages) named
        ∙ ap (find (λ (y : SentMessage Op). y.number == next_number w1)) messages.1
        ∙ found-among x _ (subst IsNumbered messages.1 c.1.keeps.numbered)
        (among-right x messages.0 (x ∷ w1.messages) (inl refl)) in
        let taken = gossip-taken m config w3 delivering legal3.0.outcomes from to w1 number delivered found in
        let end : facts_after m config w (start ++ delivering ∷ last) ≡ facts_after m config (after m config w3 delivering) last =
        facts-parts m config start (delivering ∷ last) w ∙ ap (λ (u : Facts Op). facts_after m config u (delivering ∷ last)) same in
        ap (λ (u : Facts Op). u.received to s) end
        ∙ e.2.received to s (ap (λ (r : SpotSet). r s) taken ∙ or-right _ _ (a.2.received from s here))

    gossip-spreads : (steps : List (Step Op)) → LegalFrom m config w steps → (from to : ℕ)
        → HasGossiped steps from to → w.received from ⊆ (facts_after m config w steps).received to
    gossip-spreads steps legal from to g s here =
        ap (λ (steps : List (Step Op)). (facts_after m config w steps).received to s) g.steps_are
        ∙ spreads g.first g.between g.last g.sending g.delivering
        (subst (LegalFrom m config w) g.steps_are legal) from to g.number g.event g.sent g.delivered s here

  -- ---- a round

  module _ (before round : List (Step Op))
      (legal : IsLegal m config (before ++ round)) (whole : IsRound config round)
      (quiet : (facts_of m config (before ++ round)).accepted ≡ (facts_of m config before).accepted) (i : ℕ)
      (here : i < config.replicas) where
    abbrev last : Facts Op
    last = facts_of m config (before ++ round)

    pub all-received : HasReceivedAll last i
    all-received =
        let parts = legal-parts m config before round first_facts legal in
        let w = facts_of m config before in
        let at = any-point m kind_of lawful config before parts.0 in
        let now = later-point m kind_of lawful config round w at.0 at.1 parts.1 in
        subst (λ (l : List (Acceptance Op)). Each (λ a. last.received i a.spot ≡ true) l) (sym quiet)
        (each-from _ w.accepted (λ a member.
        let own = at.1.same.shared.own a.spot (accepted-item w a member) in
        let place = (each-at _ a w.accepted at.1.same.shared.each member).place in
        ap (λ (u : Facts Op). u.received i a.spot) (facts-parts m config before round first_facts)
        ∙ (elim (equal-or-not i a.spot.place) [
          | inl is ↦ now.2.received i a.spot (ap (λ j. w.received j a.spot) is ∙ own)
          | inr apart ↦ gossip-spreads w at.0 at.1 round parts.1 a.spot.place i
              (whole a.spot.place i place here (λ e. apart (sym e))) a.spot own
        ])))

    pub none-held : last.held i ≡ []
    none-held =
        by_list (last.held i) (waits-later (before ++ round) first_facts (first_run m config)
        (first-point m kind_of lawful config) legal (λ j. tt) i)
      where
        by_list : (calls : List (LabelledCall Op))
            → Each (λ call. is_within last.accepted call.label (last.received i) ≡ false) calls → calls ≡ []
        by_list [] wait = refl
        by_list (call ∷ calls) wait =
            let inside = each-map _ _ last.accepted (λ a e here. e) all-received in
            absurd (true≢false (sym (holds-within last.accepted call.label (last.received i) inside) ∙ wait.0))
