-- How it is found by computing that a history is legal, and that one isn't.
use Rattle.std.proofs.Common.{◌≡◌, ◌∙◌, ℕ, Bool, true, false, ◌&&◌, List, [], ◌∷◌, ◌++◌, ap, refl}
use Rattle.std.proofs.Common.{map, subst, sym}
use Rattle.std.specs.Prelude.{flat_map}
use Rattle.std.specs.Cmp.Lexicographic.{slice_cmp}
use Rattle.std.specs.Ordering.{eq_by_cmp, nat_cmp}
use Rattle.std.proofs.lemmas.Cmp.{eq_by_cmp_equiv, nat_list_cmp_total}
use Rattle.lr_base.specs.Meaning.{Meaning}
use Rattle.lr_base.specs.declared.events.Event.{Event}
use Rattle.lr_base.specs.declared.events.Outcome.{Outcome}
use Rattle.lr_base.specs.declared.events.Outcome.TheVariants.{Send, Accept, Note, Hold, Take, Got, Stale}
use Rattle.lr_base.specs.declared.events.Outcome.TheVariants.{ClockAt, NoMessage, Refuse, State}
use Rattle.lr_base.specs.declared.events.Refusal.{Refusal}
use Rattle.lr_base.specs.declared.events.Refusal.TheVariants.{Late, Again, Noted, Unfinished}
use Rattle.lr_base.specs.declared.events.Sent.{Sent}
use Rattle.lr_base.specs.declared.events.Sent.TheVariants.{Update, Query, Ack, Done, Answer, Gossip}
use Rattle.lr_base.specs.declared.events.Step.{Step}
use Rattle.lr_base.specs.declared.names.Actor.{Actor}
use Rattle.lr_base.specs.declared.names.Actor.TheVariants.{Client, Replica}
use Rattle.lr_base.specs.declared.names.Cid.{Cid}
use Rattle.lr_base.specs.declared.names.Config.{Config}
use Rattle.lr_base.specs.declared.names.Spot.{Spot}
use Rattle.lr_graph.specs.After.{after}
use Rattle.lr_graph.specs.Graph.{Facts, first_facts}
use Rattle.lr_graph.specs.Legal.{IsLegal, LegalFrom, is_event_in, outcomes_of}

module _ {V Op : Type 0} (m : Meaning V Op) (config : Config) where
  -- an event with just the outcomes that it may have
  abbrev made_of : Facts Op → Event Op → Step Op
  made_of w event = record { event = event; outcomes = outcomes_of m config w event }

  -- these events, each with such outcomes
  abbrev made_from : Facts Op → List (Event Op) → List (Step Op)
  made_from w [] = []
  made_from w (event ∷ events) = made_of w event ∷ made_from (after m config w (made_of w event)) events

  -- whether these are events of the run
  abbrev all_in : List (Event Op) → Bool
  all_in [] = true
  all_in (event ∷ events) = is_event_in m config event && all_in events

  made-legal : (w : Facts Op) (events : List (Event Op)) → all_in events ≡ true
      → LegalFrom m config w (made_from w events)
  made-legal w [] own = tt
  made-legal w (event ∷ events) own =
      let both = parts (is_event_in m config event) (all_in events) own in
      (record { event = both.0; outcomes = refl }, made-legal (after m config w (made_of w event)) events both.1)
    where
      parts : (a b : Bool) → (a && b) ≡ true → (a ≡ true) × (b ≡ true)
      parts true b e = (refl, e)
      parts false b e = let none : false ≡ true = e in cc

  -- what is made of its events, which are all of the run, is legal
  pub found-legal : (steps : List (Step Op)) → all_in (map (λ step. step.event) steps) ≡ true
      → steps ≡ made_from first_facts (map (λ step. step.event) steps) → IsLegal m config steps
  found-legal steps own same = subst (LegalFrom m config first_facts) (sym same) (made-legal first_facts _ own)

-- the numbers of a call, of a spot, of an actor, of what is sent, of a refusal, and of an outcome
abbrev of_cid : Cid → List ℕ
of_cid cid = cid.client ∷ cid.seq ∷ []

abbrev of_spot : Spot → List ℕ
of_spot spot = spot.place ∷ spot.number ∷ []

abbrev of_actor : Actor → ℕ
of_actor (Client client) = client
of_actor (Replica replica) = replica

abbrev of_sent : Sent → List ℕ
of_sent (Update cid time) = of_cid cid ++ time ∷ []
of_sent (Query cid) = of_cid cid
of_sent (Ack cid time) = of_cid cid ++ time ∷ []
of_sent (Done cid spot) = of_cid cid ++ of_spot spot
of_sent (Answer cid text) = of_cid cid ++ text
of_sent Gossip = []

abbrev of_refusal : Refusal → List ℕ
of_refusal (Late time clock) = time ∷ clock ∷ []
of_refusal (Again spot) = of_spot spot
of_refusal (Noted spot) = of_spot spot
of_refusal (Unfinished cid) = of_cid cid
of_refusal _ = []

abbrev of_outcome : Outcome → List ℕ
of_outcome (Send number from to what) = number ∷ of_actor from ∷ of_actor to ∷ of_sent what
of_outcome (Accept spot cid) = of_spot spot ++ of_cid cid
of_outcome (Note spot cid) = of_spot spot ++ of_cid cid
of_outcome (Hold cid) = of_cid cid
of_outcome (Take count) = count ∷ []
of_outcome (Got cid) = of_cid cid
of_outcome (Stale cid) = of_cid cid
of_outcome (ClockAt reading) = reading ∷ []
of_outcome (NoMessage message) = message ∷ []
of_outcome (Refuse why) = of_refusal why
of_outcome (State line) = line.clock ∷ line.received ++ flat_map of_spot line.log ++ flat_map of_spot line.acks
    ++ flat_map of_cid line.calls ++ flat_map of_cid line.held

abbrev same_numbers : List Outcome → List Outcome → Bool
same_numbers xs ys = eq_by_cmp (slice_cmp nat_cmp) (flat_map of_outcome xs) (flat_map of_outcome ys)

module _ {V Op : Type 0} (m : Meaning V Op) (config : Config) where
  -- whether each step's outcomes have the numbers of those that its event may have
  abbrev passes_from : Facts Op → List (Step Op) → Bool
  passes_from w [] = true
  passes_from w (step ∷ steps) =
      same_numbers step.outcomes (outcomes_of m config w step.event) && passes_from (after m config w step) steps

  legal-passes : (w : Facts Op) (steps : List (Step Op)) → LegalFrom m config w steps → passes_from w steps ≡ true
  legal-passes w [] legal = refl
  legal-passes w (step ∷ steps) legal =
      let own : same_numbers step.outcomes (outcomes_of m config w step.event) ≡ true
      = ap (same_numbers step.outcomes) (sym legal.0.outcomes)
      ∙ (eq_by_cmp_equiv nat_list_cmp_total).refl (flat_map of_outcome step.outcomes) in
      ap (λ b. b && passes_from (after m config w step) steps) own ∙ legal-passes (after m config w step) steps legal.1

  -- what doesn't pass isn't legal
  pub refuted : (steps : List (Step Op)) → passes_from first_facts steps ≡ false → IsLegal m config steps → ⊥
  refuted steps fails legal =
      let both : true ≡ false = sym (legal-passes first_facts steps legal) ∙ fails in
      cc
