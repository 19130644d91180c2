-- What is made by the rules is a legal history.
use Rattle.std.proofs.Common.{◌≡◌, ◌≢◌, ℕ, Bool, true, false, cond, zero, suc, ◌+◌, ◌<◌, ◌⊎◌, inl, inr, nat_lt, List, [], ◌∷◌, ◌++◌, length, map, replicate, get_or, Option, Some, None, refl, sym, ap, ◌∙◌, subst, arith, true≢false, leb-true, ◌==◌, true, not, eqb-true, lt-ltb}
use Rattle.std.specs.List.{slice_get}
use Rattle.std.proofs.lemmas.List.{get_or-replicate, length-append, length-replicate}
use Rattle.lr_base.specs.Fronts.{new_front}
use Rattle.lr_base.specs.Events.{IsEventOf}
use Rattle.lr_base.specs.Meaning.{Encoding, Lawful, Meaning}
use Rattle.lr_base.specs.Replicas.{first_replica}
use Rattle.lr_base.specs.Rules.{first_state}
use Rattle.lr_base.specs.Stamps.{part}
use Rattle.lr_base.specs.declared.events.Event.{Event}
use Rattle.lr_base.specs.declared.events.Event.TheVariants.{Call, Resend, Ack as AckEvent, Deliver, Tick, Gossip as GossipEvent, Show}
use Rattle.lr_base.specs.declared.events.Outcome.{Outcome}
use Rattle.lr_base.specs.declared.events.Step.{Step}
use Rattle.lr_base.specs.declared.lr_service.Kind.{Kind}
use Rattle.lr_base.specs.declared.messages.Known.{Known}
use Rattle.lr_base.specs.declared.names.Config.{Config}
use Rattle.lr_graph.specs.After.{after}
use Rattle.lr_graph.specs.Central.{facts_after}
use Rattle.lr_graph.specs.Closed.{Each, IsSetOf}
use Rattle.lr_graph.specs.Graph.{Facts, first_facts}
use Rattle.lr_graph.specs.Legal.{IsLegal, LegalFrom, IsLegalStep, is_event_in}
use Rattle.lr_graph.specs.Names.{IsCounted, Names}
use Rattle.lr_graph.specs.Made.{IsMade, IsMadeFrom, made_step}
use Rattle.lr_graph.specs.Runs.{RunState, first_fronts, first_replicas, first_run, message_at, run_after, steps_from, stepped}
use Rattle.lr_graph.specs.Sets.{SpotSet, nothing}
use Rattle.lr_graph.specs.Spread.{IsSpread}
use Rattle.lr_graph.specs.Timed.{IsTimed}
use Rattle.lr_graph.specs.Pruned.{is_left, logged, told_by}
use Rattle.lr_graph.proofs.Timed.Keeping.{changes-timed, first-timed}
use Rattle.lr_graph.proofs.Timed.Steps.{step-changes}
use Rattle.lr_graph.proofs.Events.EachEvent.{same-step, legal-step}
use Rattle.lr_graph.proofs.Lists.Places.{slice-before, slice-behind}
use Rattle.lr_graph.proofs.Related.Relation.{HasTold, IsReplicaAt, IsSame, SameMessage, SameOption}
use Rattle.lr_graph.proofs.Lists.Tests.{and-left, and-right, equal-or-not, never, and-intro}
use Rattle.lr_graph.proofs.Histories.Updates.{CallsFine, Holds, step-fine}
use Rattle.lr_base.specs.Kinds.{has_rules}

-- ---- before any event

part-zeros : (parts place : ℕ) → part (replicate parts 0) place ≡ 0
part-zeros zero place = refl
part-zeros (suc parts) zero = refl
part-zeros (suc parts) (suc place) = part-zeros parts place

length-zeros : (parts : ℕ) → length {A = ℕ} (replicate parts 0) ≡ parts
length-zeros zero = refl
length-zeros (suc parts) = ap suc (length-zeros parts)

names-nothing : (parts : ℕ) → Names (replicate parts 0) nothing
names-nothing parts = record {
  above = λ s e. absurd (true≢false (sym e));
  reached = λ place some. (let z = part-zeros parts place in absurd (omega arith));
}

counted-nothing : (parts : ℕ) → IsCounted nothing (replicate parts 0)
counted-nothing parts s = sym (never _ (λ e.
    let least = leb-true 1 s.number (and-left (nat_lt 0 s.number) _ e) in
    let most = leb-true s.number _ (and-right (nat_lt 0 s.number) _ e) in
    let z = part-zeros parts s.place in
    absurd (omega arith)))

module _ {Value Op : Type 0} (m : Meaning Value Op) (config : Config) where
  length-replicas : (k : ℕ) → length (first_replicas m config k) ≡ k
  length-replicas zero = refl
  length-replicas (suc k) = length-append (first_replicas m config k) (first_replica m config k ∷ []) ∙ (let rest = length-replicas k in omega arith)

  replica-there : (k i : ℕ) → i < k → slice_get (first_replicas m config k) i ≡ Some (first_replica m config i)
  replica-there zero i within = absurd (omega arith)
  replica-there (suc k) i within = by_place (equal-or-not i k) (replica-there k i)
    where
      by_place : (i ≡ k) ⊎ (i ≢ k) → (i < k → slice_get (first_replicas m config k) i ≡ Some (first_replica m config i)) → slice_get (first_replicas m config k ++ first_replica m config k ∷ []) i ≡ Some (first_replica m config i)
      by_place (inl e) rest =
          ap (slice_get (first_replicas m config k ++ first_replica m config k ∷ [])) (e ∙ sym (length-replicas k)) ∙ slice-behind (first_replicas m config k) (first_replica m config k)
          ∙ ap (λ j. Some (first_replica m config j)) (sym e)
      by_place (inr apart) rest =
          slice-before (first_replicas m config k) (first_replica m config k) i (let n = length-replicas k in omega arith) ∙ rest (omega arith)

  length-fronts : (k : ℕ) → length (first_fronts {Op = Op} config k) ≡ k
  length-fronts zero = refl
  length-fronts (suc k) = length-append (first_fronts config k) (new_front config k ∷ []) ∙ (let rest = length-fronts k in omega arith)

  front-there : (k i : ℕ) → i < k → slice_get (first_fronts {Op = Op} config k) i ≡ Some (new_front config i)
  front-there zero i within = absurd (omega arith)
  front-there (suc k) i within = by_place (equal-or-not i k) (front-there k i)
    where
      by_place : (i ≡ k) ⊎ (i ≢ k) → (i < k → slice_get (first_fronts {Op = Op} config k) i ≡ Some (new_front config i)) → slice_get (first_fronts {Op = Op} config k ++ new_front config k ∷ []) i ≡ Some (new_front config i)
      by_place (inl e) rest =
          ap (slice_get (first_fronts config k ++ new_front config k ∷ [])) (e ∙ sym (length-fronts k)) ∙ slice-behind (first_fronts config k) (new_front config k)
          ∙ ap (λ j. Some (new_front config j)) (sym e)
      by_place (inr apart) rest =
          slice-before (first_fronts config k) (new_front config k) i (let n = length-fronts k in omega arith) ∙ rest (omega arith)

  none_sent : (n : ℕ) → message_at {Op = Op} [] n ≡ None
  none_sent zero = refl
  none_sent (suc k) = Rattle.std.proofs.lemmas.Option.slice_get_past [] k (omega arith)

  empty-set : IsSetOf {Op = Op} [] nothing
  empty-set = record { exist = λ s e. absurd (true≢false (sym e)); closed = tt }

  first-replica-at : (i : ℕ) → IsReplicaAt {Op = Op} m config [] nothing (logged {Op = Op} config first_facts i) (is_left {Op = Op} config first_facts i) [] [] (first_state m config.replicas (config.replicas + 1))
  first-replica-at i = record {
    counted = counted-nothing (config.replicas + 1);
    log = record { each = tt; all = tt; ascending = tt };
    covered = tt;
    within = λ s e. e;
    over = tt;
    kept_are = λ cid e. absurd (true≢false (sym e));
    applied = record {
      names = names-nothing (config.replicas + 1);
      value_is = refl;
      table = record { spots = λ cid stays. refl; known = λ cid. refl; were = λ cid e. absurd (true≢false (sym e)); stamps = λ cid k e. absurd (none_some k e) };
    };
    still = record { imm = part-zeros (config.replicas + 1); parts = length-zeros (config.replicas + 1); keys = tt };
    held_are = tt;
  }
    where
      none_some : (k : Known) → ◌≡◌ {A = Option Known} None (Some k) → ⊥
      none_some k e = cc

  -- nothing was told yet
  first-spread : IsSpread {Op = Op} config first_facts
  first-spread = record {
    told = λ i k less. record { within = λ s e. absurd (true≢false (sym e)); causes = tt; calls = λ cid e. tt };
    taken = λ i k s e. absurd (true≢false (sym e));
    sent = tt;
  }

  first-told : (i : ℕ) → HasTold config.replicas (told_by {Op = Op} first_facts i) (first_state m config.replicas (config.replicas + 1))
  first-told i = record {
    rows = length-replicate config.replicas (replicate (config.replicas + 1) 0);
    counted = λ k less. subst (λ (x : SpotSet). IsCounted x (get_or (replicate config.replicas (replicate (config.replicas + 1) 0)) k [])) (none (k == i))
        (subst (λ (row : List ℕ). IsCounted nothing row) (sym (get_or-replicate config.replicas k (replicate (config.replicas + 1) 0) [] less)) (counted-nothing (config.replicas + 1)));
  }
    where
      none : (t : Bool) → nothing ≡ cond t nothing nothing
      none true = refl
      none false = refl

  pub first-same : IsSame m config first_facts (first_run m config)
  first-same = record {
    issued = λ cid. None;
    shared = record {
      sound = record { apart = tt; closed = tt; older = tt; numbered = tt };
      each = tt;
      apart = tt;
      numbered = tt;
      own = λ s member. absurd member;
      exist = λ i s e. absurd (true≢false (sym e));
      spread = first-spread;
      fronts_are = λ client within. (
        new_front config client,
        front-there config.clients client within,
        record {
          client_is = refl;
          calls = refl;
          clock = refl;
          open_call = tt;
          own_call = tt;
          answered = refl;
          own_answered = tt;
          names = names-nothing (config.replicas + 1);
          set = empty-set;
        },
      );
      opened = λ client. tt;
      count = refl;
      messages = λ n. subst (λ o. SameOption (SameMessage m config [] [] (λ i. nothing) (λ cid. None) (λ client. 0)) None o) (sym (none_sent n)) tt;
    };
    replicas = λ i within. (
      first_state m config.replicas (config.replicas + 1),
      record { replica = first_replica m config i; there = replica-there config.replicas i within; setting = refl; number = refl; state_is = refl },
      first-replica-at i,
      record { clock_is = refl; acks_are = refl; rows = first-told i },
    );
  }

-- ---- the law

module _ {Value Op : Type 0} (m : Meaning Value Op) {e : Encoding Value} (kind_of : Op → Kind) (lawful : Lawful m e kind_of) (config : Config) where
  -- kinds that have rules in a run
  abbrev HasRules : Op → Type 0
  HasRules op = has_rules (m.kind op) ≡ true

  -- an event of a run is one of its histories
  event-in : (event : Event Op) → IsEventOf m config event → is_event_in m config event ≡ true
  event-in (Call client replica reading op) fits =
      and-intro _ _ (lt-ltb client config.clients fits.0.0) (and-intro _ _ (lt-ltb replica config.replicas fits.0.1) fits.1)
  event-in (Resend client replica reading) fits = and-intro _ _ (lt-ltb client config.clients fits.0.0) (lt-ltb replica config.replicas fits.0.1)
  event-in (AckEvent client replica reading) fits = and-intro _ _ (lt-ltb client config.clients fits.0.0) (lt-ltb replica config.replicas fits.0.1)
  event-in (Tick replica reading) fits = lt-ltb replica config.replicas fits.0
  event-in (Deliver message) fits = refl
  event-in (GossipEvent from to) fits =
      and-intro _ _ (lt-ltb from config.replicas fits.0.0) (and-intro _ _ (lt-ltb to config.replicas fits.0.1)
      (ap not (never (from == to) (λ e. fits.0.2 (eqb-true from to e)))))
  event-in (Show replica) fits = lt-ltb replica config.replicas fits.0

  -- an event of a run calls what has rules
  calls-rules : (event : Event Op) → IsEventOf m config event → CallsFine m HasRules event
  calls-rules (Call client replica reading op) fits = λ update. fits.0.2
  calls-rules (Resend client replica reading) fits = tt
  calls-rules (AckEvent client replica reading) fits = tt
  calls-rules (Tick replica reading) fits = tt
  calls-rules (Deliver message) fits = tt
  calls-rules (GossipEvent from to) fits = tt
  calls-rules (Show replica) fits = tt

  -- what is made from a run is legal after the facts that belong to it, and the facts and the run after it belong together
  made-same : (steps : List (Step Op)) (w : Facts Op) (v run : RunState Value Op) → IsMadeFrom m config v steps run → Holds m.kind HasRules w → IsTimed w → IsSame m config w v → LegalFrom m config w steps × IsSame m config (facts_after m config w steps) run
  made-same [] w v run made plain timed same = (tt, subst (IsSame m config w) made same)
  made-same (step ∷ steps) w v run made plain timed same =
      let one = same-step m kind_of lawful config w v same timed plain step.event made.0 in
      let lines = made.1 ∙ one.lines in
      let next = step-fine m HasRules config w step (calls-rules step.event made.0) lines plain in
      let rest = made-same steps (after m config w step) (stepped m v step.event).run run made.2 next (changes-timed w (after m config w step) timed (step-changes m config w timed step lines))
      (subst (λ (lines : List Outcome). IsSame m config (after m config w (record { event = step.event; outcomes = lines })) (stepped m v step.event).run) (sym lines) one.same) in
      ((record { event = event-in step.event made.0; outcomes = lines }, rest.0), rest.1)

  -- what is made is legal
  pub made-legal : (steps : List (Step Op)) (run : RunState Value Op) → IsMade m config steps run → IsLegal m config steps
  made-legal steps run made = (made-same steps first_facts (first_run m config) run made (record { accepted = tt; messages = tt; opened = λ client. tt }) first-timed (first-same m config)).0

  -- the run after what is made and the facts of its history belong together
  pub same-after : (steps : List (Step Op)) (run : RunState Value Op) → IsMade m config steps run → IsSame m config (facts_after m config first_facts steps) run
  same-after steps run made = (made-same steps first_facts (first_run m config) run made (record { accepted = tt; messages = tt; opened = λ client. tt }) first-timed (first-same m config)).1

-- ---- legal histories

module _ {Value Op : Type 0} (m : Meaning Value Op) {e : Encoding Value} (kind_of : Op → Kind) (lawful : Lawful m e kind_of) (config : Config) where
  -- after a legal step some run has the facts
  pub step-same : (w : Facts Op) (v : RunState Value Op) → IsSame m config w v → IsTimed w → (step : Step Op) → IsLegalStep m config w step
      → (u : RunState Value Op) × IsSame m config (after m config w step) u
  step-same w v same timed step legal =
      let one = legal-step m kind_of lawful config w v same timed step.event legal.event in
      (one.0, subst (λ (lines : List Outcome). IsSame m config (after m config w (record { event = step.event; outcomes = lines })) one.0) (sym legal.outcomes) one.1)

  steps-same : (steps : List (Step Op)) (w : Facts Op) (v : RunState Value Op) → IsSame m config w v → IsTimed w → LegalFrom m config w steps
      → (u : RunState Value Op) × IsSame m config (facts_after m config w steps) u
  steps-same [] w v same timed legal = (v, same)
  steps-same (step ∷ steps) w v same timed legal =
      let one = step-same w v same timed step legal.0 in
      steps-same steps (after m config w step) one.0 one.1 (changes-timed w (after m config w step) timed (step-changes m config w timed step legal.0.outcomes)) legal.1

  -- and after a legal history
  pub legal-same : (steps : List (Step Op)) → IsLegal m config steps → (u : RunState Value Op) × IsSame m config (facts_after m config first_facts steps) u
  legal-same steps legal = steps-same steps first_facts (first_run m config) (first-same m config) first-timed legal

-- ---- what is made

module _ {Value Op : Type 0} (m : Meaning Value Op) (config : Config) where
  -- the steps that events make are made
  pub steps-made : (events : List (Event Op)) (v : RunState Value Op) → Each (IsEventOf m config) events → IsMadeFrom m config v (steps_from m v events) (run_after m v events)
  steps-made [] v fit = refl
  steps-made (event ∷ events) v fit = (fit.0, refl, steps-made events (stepped m v event).run fit.1)

  -- an event makes one step more
  pub made-more : (steps : List (Step Op)) (v run : RunState Value Op) (event : Event Op) → IsMadeFrom m config v steps run → IsEventOf m config event → IsMadeFrom m config v (steps ++ made_step m run event ∷ []) (stepped m run event).run
  made-more [] v run event made fits =
      (fits, ap (λ (v : RunState Value Op). (stepped m v event).outcomes) (sym made), ap (λ (v : RunState Value Op). (stepped m v event).run) made)
  made-more (step ∷ steps) v run event made fits = (made.0, made.1, made-more steps (stepped m v step.event).run run event made.2 fits)

-- ---- which events a history has

pub history-events : {Value Op : Type 0} (m : Meaning Value Op) (v : RunState Value Op) (events : List (Event Op)) → map (λ step. step.event) (steps_from m v events) ≡ events
history-events m v [] = refl
history-events m v (event ∷ events) = ap (λ (rest : List (Event _)). event ∷ rest) (history-events m (stepped m v event).run events)

-- the outcomes of each event are determined
pub one-history : {Value Op : Type 0} (m : Meaning Value Op) (config : Config) (one other : List (Step Op)) (w : Facts Op) → LegalFrom m config w one → LegalFrom m config w other
    → map (λ step. step.event) one ≡ map (λ step. step.event) other → one ≡ other
one-history m config [] [] w f g e = refl
one-history m config [] (t ∷ other) w f g e = absurd (empty e)
  where
    empty : [] ≡ t.event ∷ map (λ step. step.event) other → ⊥
    empty e = cc
one-history m config (s ∷ one) [] w f g e = absurd (empty e)
  where
    empty : s.event ∷ map (λ step. step.event) one ≡ [] → ⊥
    empty e = cc
one-history {Value} {Op} m config (s ∷ one) (t ∷ other) w f g e =
    let events : s.event ≡ t.event = cc in
    let rest : map (λ (step : Step Op). step.event) one ≡ map (λ (step : Step Op). step.event) other = cc in
    let outcomes : s.outcomes ≡ t.outcomes = f.0.outcomes ∙ ap (Rattle.lr_graph.specs.Legal.outcomes_of m config w) events ∙ sym g.0.outcomes in
    let same : s ≡ t = λ i. record { event = events i; outcomes = outcomes i } in
    λ i. same i ∷ one-history m config one other (after m config w s) f.1 (subst (λ (step : Step Op). LegalFrom m config (after m config w step) other) (sym same) g.1) rest i
