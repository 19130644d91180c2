-- What left a replica stays away, whatever a legal history goes on with.
use Rattle.std.proofs.Common.{◌≡◌, ◌<◌, ℕ, Bool, true, false, cond, not, ◌==◌, ◌⊎◌, inl, inr, List, [], ◌∷◌, ◌++◌}
use Rattle.std.proofs.Common.{Option, Some, None, is_some, refl, sym, ap, ◌∙◌, subst, true≢false}
use Rattle.lr_base.specs.Config.{is_late}
use Rattle.lr_base.specs.Kinds.{has_rules}
use Rattle.lr_base.specs.Meaning.{Encoding, Lawful, Meaning}
use Rattle.lr_base.specs.Orders.{IsAmong}
use Rattle.lr_base.specs.declared.events.Step.{Step}
use Rattle.lr_base.specs.declared.lr_service.Kind.{Kind}
use Rattle.lr_base.specs.declared.messages.LogAck.{LogAck}
use Rattle.lr_base.specs.declared.names.Actor.TheVariants.{Replica}
use Rattle.lr_base.specs.declared.names.Cid.{Cid}
use Rattle.lr_base.specs.declared.names.Config.{Config}
use Rattle.lr_base.specs.declared.names.Spot.{Spot}
use Rattle.lr_graph.specs.After.{after}
use Rattle.lr_graph.specs.Central.{facts_after}
use Rattle.lr_graph.specs.Closed.{Each, IsClosed, IsSound}
use Rattle.lr_graph.specs.Graph.{Acceptance, Facts, LabelledCall, UpdateCopy, first_facts, has_ack, has_call}
use Rattle.lr_graph.specs.Graph.{least_spot, ready}
use Rattle.lr_graph.specs.Legal.{IsLegal, LegalFrom, copy_lines, kept_at, message_lines, noted_at, taken_at, update_lines}
use Rattle.lr_graph.specs.Once.{AcceptsOnce, BeginsRefused, IsRefusedAt}
use Rattle.lr_graph.specs.Promises.{facts_of}
use Rattle.lr_graph.specs.Pruned.{is_acked, is_done, is_known, is_left, is_ready, is_spent, known_everywhere, logged}
use Rattle.lr_graph.specs.Pruned.{logs_call}
use Rattle.lr_graph.specs.Runs.{RunState, first_run}
use Rattle.lr_graph.specs.Sets.{SpotSet}
use Rattle.lr_graph.specs.Spread.{IsSpread, has_item}
use Rattle.lr_graph.specs.Timed.{WasSent}
use Rattle.lr_graph.proofs.Lists.Members.{each-at, each-from}
use Rattle.lr_graph.proofs.Lists.Tests.{and-intro, and-left, and-right, never, never-false, not-false, or-left, or-right}
use Rattle.lr_graph.proofs.Promised.Points.{IsPoint, any-point, facts-parts, first-point, legal-parts, step-point}
use Rattle.lr_graph.proofs.Pruning.Growing.{Grows, copy-new, grows-more, grows-self, item-later, step-grows}
use Rattle.lr_graph.proofs.Pruning.Known.{all-have, each-told, known-ready, known-received, left-known, left-over}
use Rattle.lr_graph.proofs.Pruning.Known.{left-received, told-spread, unlogged-call}
use Rattle.lr_graph.proofs.Pruning.Later.{known-later, unlogged-later}
use Rattle.lr_graph.proofs.Pruning.Spent.{late-later, spent-unlogged, unacked-spent, unlogged-known}
use Rattle.lr_graph.proofs.Pruning.Spreading.{has_ack-holds, holds-has_ack}
use Rattle.lr_graph.proofs.Related.Relation.{IsSame}
use Rattle.lr_graph.proofs.Replicas.OwnParts.{item-own, item-places}
use Rattle.lr_graph.proofs.Sets.ReadySets.{apart-same, below-accepted, ready-closed, ready-greatest, ready-holds, ready-received}
use Rattle.lr_graph.proofs.Sets.Values.{has_call-holds, holds-has_call}

-- ---- from facts to later ones

module _ {Op : Type 0} (config : Config) (w next : Facts Op) (g : Grows w next) where
  -- what is known everywhere goes on to be
  pub known-on : (i : ℕ) (s : Spot) → known_everywhere config w i s ≡ true → known_everywhere config next i s ≡ true
  known-on i = known-later config w next i (λ k s. by_own i k s (k == i))
    where
      by_own : (i k : ℕ) (s : Spot) (t : Bool) → cond t (w.received i) (w.told i k) s ≡ true
          → cond t (next.received i) (next.told i k) s ≡ true
      by_own i k s true e = g.received i s e
      by_own i k s false e = g.told i k s e

  -- what is known everywhere isn't logged
  known-unlogged : (i : ℕ) (s : Spot) → known_everywhere config w i s ≡ true → logged config next i s ≡ true → ⊥
  known-unlogged i s known logs =
      true≢false (sym (known-on i s known) ∙ not-false _ (and-right (next.received i s) _ logs))

  pub unlogged-on : (i : ℕ) (s : Spot) → w.received i s ≡ true → logged config w i s ≡ false → logged config next i s ≡ false
  unlogged-on i s here out = never _ (known-unlogged i s (unlogged-known config w i s here out))

  -- a call of which each replica has received an item, and of which each acceptance is known everywhere at a replica
  module _ (places : Each (λ a. a.spot.place < config.replicas) next.accepted) (i : ℕ) (cid : Cid)
      (everywhere : (k : ℕ) → k < config.replicas → has_item w (w.received k) cid ≡ true)
      (known : (b : Acceptance Op) → IsAmong b w.accepted → b.cid ≡ cid → known_everywhere config w i b.spot ≡ true) where
    -- it is accepted nowhere from now on
    pub none-new : (b : Acceptance Op) → IsAmong b next.accepted → b.cid ≡ cid → IsAmong b w.accepted
    none-new b member is = by_new (g.new b member)
      where
        by_new : IsAmong b w.accepted ⊎ (has_item w (w.received b.spot.place) b.cid ≡ false) → IsAmong b w.accepted
        by_new (inl old) = old
        by_new (inr none) = absurd (true≢false (sym (everywhere b.spot.place (each-at _ b next.accepted places member))
            ∙ ap (has_item w (w.received b.spot.place)) (sym is) ∙ none))

    -- and logged at that replica no more
    pub none-logged : not (logs_call config w i cid) ≡ true → not (logs_call config next i cid) ≡ true
    none-logged none = unlogged-later config w next i cid
        (λ b member is logs. absurd (known-unlogged i b.spot (known b (none-new b member is) is) logs)) none

-- ---- legal histories

module _ {Value Op : Type 0} (m : Meaning Value Op) {e : Encoding Value} (kind_of : Op → Kind) (lawful : Lawful m e kind_of)
    (config : Config) where
  legal-grows : (steps : List (Step Op)) (w : Facts Op) (v : RunState Value Op) → IsPoint m config w v → LegalFrom m config w steps
      → Grows w (facts_after m config w steps)
  legal-grows [] w v p legal = grows-self w
  legal-grows (step ∷ steps) w v p legal =
      let next = after m config w step in
      let one = step-point m kind_of lawful config w v p step legal.0 in
      grows-more w next _ (step-grows m config w v p.same p.timed step legal.0.outcomes) (legal-grows steps next one.0 one.1 legal.1)

  pub law-once : (steps : List (Step Op)) → IsLegal m config steps → AcceptsOnce (facts_of m config steps).accepted
  law-once steps legal =
      (legal-grows steps first_facts (first_run m config) (first-point m kind_of lawful config) legal).once
      (λ a b in_a in_b at is. absurd in_a)

  -- ---- what holds after a legal history

  module _ (steps : List (Step Op)) (legal : IsLegal m config steps) where
    abbrev w : Facts Op
    w = facts_of m config steps

    point : (v : RunState Value Op) × IsPoint m config w v
    point = any-point m kind_of lawful config steps legal

    same : IsSame m config w point.0
    same = point.1.same

    pub law-spread : IsSpread config w
    law-spread = same.shared.spread

    pub law-places : Each (λ a. a.spot.place < config.replicas) w.accepted
    law-places = item-places m config same.issued w point.0 same.shared

    own : (a : Acceptance Op) → IsAmong a w.accepted → w.received a.spot.place a.spot ≡ true
    own = item-own m config same.issued w point.0 same.shared

    pub law-told : (i : ℕ) → i < config.replicas → (s : Spot) → known_everywhere config w i s ≡ true → w.received i s ≡ true
    law-told i inside = known-received config w same.shared.sound law-places own law-spread i inside

    pub law-ready : (i : ℕ) → i < config.replicas
        → Each (λ a. known_everywhere config w i a.spot ≡ true → ready w.accepted (w.received i) a.spot ≡ true) w.accepted
    law-ready i inside = each-from _ w.accepted (λ a member known.
        known-ready config w same.shared.sound law-places own law-spread i a member (law-told i inside a.spot known) known)

    -- a copy of a call of which an item was received is refused
    pub law-refused : (i : ℕ) → i < config.replicas → (call : LabelledCall Op) (time : ℕ) → WasSent w.messages (UpdateCopy call time)
        → has_item w (w.received i) call.cid ≡ true → IsRefusedAt config w i call.cid time
    law-refused i inside call time sent has = by_tests (is_late time config.delta (w.clock i)) refl (kept_at config w i call.cid) refl
        (noted_at config w i call.cid) refl
      where
        by_tests : (late : Bool) → is_late time config.delta (w.clock i) ≡ late → (kept : Option Spot) → kept_at config w i call.cid ≡ kept
            → (noted : Option Spot) → noted_at config w i call.cid ≡ noted
            → (late ≡ true) ⊎ (is_some (taken_at config w i call.cid kept) ≡ true) ⊎ (is_some noted ≡ true)
        by_tests true e kept f noted g = inl refl
        by_tests false e (Some s) f noted g = inr (inl refl)
        by_tests false e None f (Some s) g = inr (inr refl)
        by_tests false e None f None g = inr (inl (by_least (least_spot w.accepted (logged config w i) call.cid) refl))
          where
            by_least : (o : Option Spot) → least_spot w.accepted (logged config w i) call.cid ≡ o → is_some o ≡ true
            by_least (Some s) h = refl
            by_least None h = absurd (true≢false (sym has ∙ copy-new m config w point.0 same point.1.timed i inside call time sent e f h g))

    module _ (i : ℕ) (inside : i < config.replicas) where
      -- of a call that left
      pub law-over : (cid : Cid) → is_left config w i cid ≡ true
          → Each (λ b. b.cid ≡ cid → (w.received i b.spot ≡ true) × (known_everywhere config w i b.spot ≡ true) × (ready w.accepted (w.received i) b.spot ≡ true)) w.accepted
      law-over cid gone = left-over config w same.shared.sound law-places own law-spread i inside cid gone

      left-everywhere : (cid : Cid) → is_left config w i cid ≡ true → (k : ℕ) → k < config.replicas → has_item w (w.received k) cid ≡ true
      left-everywhere cid gone k less =
          or-left _ _ (left-received config w same.shared.sound law-places own law-spread i inside cid gone k less)

      left-all : (cid : Cid) → is_left config w i cid ≡ true → (b : Acceptance Op) → IsAmong b w.accepted → b.cid ≡ cid
          → known_everywhere config w i b.spot ≡ true
      left-all cid gone b member is = (each-at _ b w.accepted (law-over cid gone) member is).1

      -- of an acknowledgement that is spent
      spent-known : (a : LogAck) → is_spent config w i a ≡ true → known_everywhere config w i a.spot ≡ true
      spent-known a spent = and-left (known_everywhere config w i a.spot) _ spent

      spent-everywhere : (a : LogAck) → IsAmong a w.acks → is_spent config w i a ≡ true → (k : ℕ) → k < config.replicas
          → has_item w (w.received k) a.cid ≡ true
      spent-everywhere a member spent k less =
          or-right (has_call w.accepted (w.received k) a.cid) _ (holds-has_ack w.acks (w.received k) a.cid a member
          ((told-spread config w same.shared.sound law-places own law-spread i k less).within a.spot
          (each-told config w same.shared.sound law-places own law-spread i a.spot (spent-known a spent) k less)) refl)

      spent-all : (a : LogAck) → IsAmong a w.acks → is_spent config w i a ≡ true → (b : Acceptance Op) → IsAmong b w.accepted → b.cid ≡ a.cid
          → known_everywhere config w i b.spot ≡ true
      spent-all a member spent b in_b is =
          unlogged-call config w same.shared.sound law-places own law-spread i inside a.cid (spent-unlogged config w i a spent) b in_b is
          (each-at _ b w.accepted ((all-have config w same.shared.sound law-places own law-spread i inside).acks a member (spent-known a spent)) in_b is)

  -- ---- a legal history that goes on

  module _ (steps later : List (Step Op)) (legal : IsLegal m config (steps ++ later)) where
    abbrev before : Facts Op
    before = facts_of m config steps

    abbrev now : Facts Op
    now = facts_of m config (steps ++ later)

    was_legal : IsLegal m config steps
    was_legal = (legal-parts m config steps later first_facts legal).0

    pub grows : Grows before now
    grows =
        let at = any-point m kind_of lawful config steps was_legal in
        subst (Grows before) (sym (facts-parts m config steps later first_facts))
        (legal-grows later before at.0 at.1 (legal-parts m config steps later first_facts legal).1)

    places : Each (λ a. a.spot.place < config.replicas) now.accepted
    places = law-places (steps ++ later) legal

    -- where a replica had received an item of a call it accepts the call no more, and refuses each copy
    pub law-accepted : (i : ℕ) (cid : Cid) → has_item before (before.received i) cid ≡ true
        → Each (λ a. a.cid ≡ cid → a.spot.place ≡ i → IsAmong a before.accepted) now.accepted
    law-accepted i cid has = each-from _ now.accepted (λ a member is at. by_new a is at (grows.new a member))
      where
        by_new : (a : Acceptance Op) → a.cid ≡ cid → a.spot.place ≡ i
            → IsAmong a before.accepted ⊎ (has_item before (before.received a.spot.place) a.cid ≡ false) → IsAmong a before.accepted
        by_new a is at (inl old) = old
        by_new a is at (inr none) = absurd (true≢false (sym has ∙ ap (λ n. has_item before (before.received n) cid) (sym at)
            ∙ ap (has_item before (before.received a.spot.place)) (sym is) ∙ none))

    -- a call that is ready stays ready
    pub law-is_ready : (i : ℕ) (cid : Cid) → is_ready before i cid ≡ true → is_ready now i cid ≡ true
    law-is_ready i cid is_there =
        let a = has_call-holds before.accepted x cid is_there in
        let known = ready-greatest now.accepted (now.received i) x
        (each-from _ now.accepted (λ b member here. grows.received i b.spot (ready-received before.accepted (before.received i) b.spot here))) closed in
        let member = grows.accepted a.0 a.1 in
        holds-has_call now.accepted (ready now.accepted (now.received i)) cid a.0 member (each-at _ a.0 now.accepted known member a.2) a.3
      where
        x : SpotSet
        x = ready before.accepted (before.received i)

        old_sound : IsSound before.accepted
        old_sound = (any-point m kind_of lawful config steps was_legal).1.same.shared.sound

        new_sound : IsSound now.accepted
        new_sound = (any-point m kind_of lawful config (steps ++ later) legal).1.same.shared.sound

        -- what was ready was accepted then
        was : (a : Acceptance Op) → IsAmong a now.accepted → x a.spot ≡ true → IsAmong a before.accepted
        was a member here =
            let b = ready-holds before.accepted (before.received i) a.spot here in
            subst (λ (c : Acceptance Op). IsAmong c before.accepted)
            (apart-same now.accepted new_sound.apart b.0 a (grows.accepted b.0 b.1) member (sym b.2)) b.1

        closed : IsClosed now.accepted x
        closed = each-from _ now.accepted (λ a member here. each-from _ now.accepted (λ b in_b below.
            let old = was a member here in
            let of = below-accepted before.accepted old_sound a old b.spot below in
            ap x (sym of.2) ∙ each-at _ of.0 before.accepted
            (each-at _ a before.accepted (ready-closed before.accepted (before.received i) old_sound) old here) of.1
            (ap a.below of.2 ∙ below)))

    pub law-refuses : (i : ℕ) → i < config.replicas → (call : LabelledCall Op) (time : ℕ)
        → has_item before (before.received i) call.cid ≡ true → WasSent now.messages (UpdateCopy call time)
        → IsRefusedAt config now i call.cid time
    law-refuses i inside call time has sent =
        law-refused (steps ++ later) legal i inside call time sent (item-later before now grows i call.cid has)

    module _ (i : ℕ) (inside : i < config.replicas) where
      -- no acceptance of a call that left comes about
      pub law-none_new : (cid : Cid) → is_left config before i cid ≡ true → Each (λ b. b.cid ≡ cid → IsAmong b before.accepted) now.accepted
      law-none_new cid gone = each-from _ now.accepted (λ b member is.
          none-new config before now grows places i cid (left-everywhere steps was_legal i inside cid gone) (left-all steps was_legal i inside cid gone) b member is)

      -- what left goes on to be left
      pub law-stays : (cid : Cid) → is_left config before i cid ≡ true → is_left config now i cid ≡ true
      law-stays cid gone =
          let at = any-point m kind_of lawful config steps was_legal in
          let shared = at.1.same.shared in
          let a = left-known config before shared.sound (law-places steps was_legal) (item-own m config at.1.same.issued before at.0 shared) shared.spread i inside cid gone in
          let done = and-right (is_ready before i cid) _ gone in
          let ack = has_ack-holds before.acks (before.received i) cid (and-left (has_ack before.acks (before.received i) cid) _ done) in
          and-intro (is_ready now i cid) _
          (holds-has_call now.accepted (ready now.accepted (now.received i)) cid a.0 (grows.accepted a.0 a.1)
          (each-at _ a.0 now.accepted (law-ready (steps ++ later) legal i inside) (grows.accepted a.0 a.1) (known-on config before now grows i a.0.spot a.3)) a.2)
          (and-intro (has_ack now.acks (now.received i) cid) _
          (holds-has_ack now.acks (now.received i) cid ack.0 (grows.acks ack.0 ack.1) (grows.received i ack.0.spot ack.2) ack.3)
          (none-logged config before now grows places i cid (left-everywhere steps was_legal i inside cid gone) (left-all steps was_legal i inside cid gone)
          (and-right (has_ack before.acks (before.received i) cid) _ done)))

      pub law-calls : (cid : Cid) → is_ready before i cid ≡ true → is_known config before i cid ≡ false → is_known config now i cid ≡ false
      law-calls cid is_there out = never _ (λ known.
          true≢false (sym (and-right (is_ready now i cid) _ (law-stays cid gone)) ∙ not-false _ (and-right (is_ready now i cid) _ known)))
        where
          gone : is_left config before i cid ≡ true
          gone = and-intro (is_ready before i cid) _ is_there (never-false (is_done config before i cid) (λ undone.
              true≢false (sym (and-intro (is_ready before i cid) _ is_there (ap not undone)) ∙ out)))

      -- what left the log stays away
      pub law-acks : Each (λ a. before.received i a.spot ≡ true → is_acked config before i a ≡ false → is_acked config now i a ≡ false) before.acks
      law-acks = each-from _ before.acks (λ a member here out.
          let spent = unacked-spent config before i a here out in
          never _ (λ acked. true≢false (sym (spent-now a member spent) ∙ not-false _ (and-right (now.received i a.spot) _ acked))))
        where
          spent-now : (a : LogAck) → IsAmong a before.acks → is_spent config before i a ≡ true → is_spent config now i a ≡ true
          spent-now a member spent =
              and-intro (known_everywhere config now i a.spot) _ (known-on config before now grows i a.spot (spent-known steps was_legal i inside a spent))
              (and-intro (is_late a.time config.delta (now.clock i)) _
              (late-later a.time config.delta (before.clock i) (now.clock i) (grows.clocks i)
              (and-left (is_late a.time config.delta (before.clock i)) _ (and-right (known_everywhere config before i a.spot) _ spent)))
              (none-logged config before now grows places i a.cid (spent-everywhere steps was_legal i inside a member spent) (spent-all steps was_legal i inside a member spent)
              (spent-unlogged config before i a spent)))

-- ---- the lines of a copy that is refused

refused-when : {Op : Type 0} (config : Config) (w : Facts Op) (i : ℕ) (cid : Cid) (time : ℕ) (late : Bool) (taken noted : Option Spot)
    → (late ≡ true) ⊎ (is_some taken ≡ true) ⊎ (is_some noted ≡ true) → BeginsRefused (update_lines config w i cid time late taken noted)
refused-when config w i cid time true taken noted why = tt
refused-when config w i cid time false (Some s) noted why = tt
refused-when config w i cid time false None (Some s) why = tt
refused-when config w i cid time false None None (inl e) = absurd (true≢false (sym e))
refused-when config w i cid time false None None (inr (inl e)) = absurd (true≢false (sym e))
refused-when config w i cid time false None None (inr (inr e)) = absurd (true≢false (sym e))

pub refused-lines : {Value Op : Type 0} (m : Meaning Value Op) (config : Config) (w : Facts Op) (i : ℕ) (call : LabelledCall Op) (time : ℕ)
    → has_rules (m.kind call.op) ≡ true → IsRefusedAt config w i call.cid time
    → BeginsRefused (message_lines m config w (Replica i) (UpdateCopy call time))
refused-lines m config w i call time rules refused =
    subst (λ (t : Bool). BeginsRefused (copy_lines config w i call time t)) (sym rules)
    (refused-when config w i call.cid time _ _ _ refused)
