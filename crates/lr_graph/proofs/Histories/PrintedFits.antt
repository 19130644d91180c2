-- What is printed of a legal history fits: each number in 64 bits, and each answer on its line.
use Rattle.std.proofs.Common.{◌≡◌, ◌^◌, ℕ, suc, ◌+◌, ◌<◌, ◌≤◌, Bool, true, false, cond}
use Rattle.std.proofs.Common.{not, ◌⊎◌, inl, inr, List, [], ◌∷◌, ◌++◌, length, filter, Option, Some, None}
use Rattle.std.proofs.Common.{refl, sym, subst, arith}
use Rattle.std.specs.List.{All}
use Rattle.std.proofs.lemmas.List.Elements.{All-from_recursion}
use Rattle.lr_base.specs.Config.{IsValid}
use Rattle.lr_base.specs.Meaning.{Encoding, Lawful, Meaning}
use Rattle.lr_base.specs.declared.events.Event.{Event}
use Rattle.lr_base.specs.declared.events.Outcome.{Outcome}
use Rattle.lr_base.specs.declared.events.Step.{Step}
use Rattle.lr_base.specs.declared.lr_service.Kind.{Kind}
use Rattle.lr_base.specs.declared.names.Config.{Config}
use Rattle.lr_graph.specs.After.{Handling, after, delivery_of, end_read, event_read, handling, lines_read}
use Rattle.lr_graph.specs.After.{step_ended, stepping}
use Rattle.lr_graph.specs.Closed.{Each}
use Rattle.lr_graph.specs.Fitting.{EventNumberFits, HasNoFeed, HistoryFits, NumberFits, OutcomeFits}
use Rattle.lr_graph.specs.Fitting.{SpotFits}
use Rattle.lr_graph.specs.Graph.{Facts, LabelledCall, SentMessage}
use Rattle.lr_graph.specs.Graph.{first_facts, is_within, ready}
use Rattle.lr_graph.specs.Legal.{IsLegal, LegalFrom, answer_line, answers, answers_at}
use Rattle.lr_graph.specs.Legal.{is_event_in, next_number, outcomes_of}
use Rattle.lr_graph.specs.Legal.{own_lines}
use Rattle.lr_graph.specs.Sets.{put_at}
use Rattle.lr_graph.proofs.Histories.Amounts.{IfThere, amount, amount-empty, amount-more, amount-past, amount-put}
use Rattle.lr_graph.proofs.Histories.Amounts.{keep_new-each}
use Rattle.lr_graph.proofs.Histories.Fitting.{CallFits, FactsFit, Grows, IsUpTo, MessageFits}
use Rattle.lr_graph.proofs.Histories.Fitting.{accepts_of, lines-grow, no-feed, posts_of, total}
use Rattle.lr_graph.proofs.Histories.Printable.{IsOp, answers-fine, calls-ops}
use Rattle.lr_graph.proofs.Histories.Updates.{AnswersFine, Holds, own-fine, step-fine}
use Rattle.lr_graph.proofs.Lists.Members.{each-append, each-map, filter-each}
use Rattle.lr_graph.proofs.Lists.Tests.{le-or-lt}
use Rattle.lr_graph.proofs.Promised.Changes.{put-each}
use Rattle.lr_graph.proofs.Promised.Walk.{after-parts, answers-send, own_read}
use Rattle.lr_graph.proofs.Histories.OwnFits.{OwnFits, begins, came-fits, own-fits, stepping-fits}

-- ---- the end of a step

module _ {Value Op : Type 0} (m : Meaning Value Op) (w : Facts Op) (i : ℕ) where
  -- the queries that are held on
  abbrev waiting : List (LabelledCall Op) → List (LabelledCall Op)
  waiting calls = filter (λ call. not (is_within w.accepted call.label (w.received i))) calls

  -- each held query is answered or held on
  answers-count : (number : ℕ) (calls : List (LabelledCall Op))
      → total posts_of (answers m w number i calls) + length (waiting calls) ≡ length calls
  answers-count number [] = refl
  answers-count number (call ∷ calls) =
      by_test (is_within w.accepted call.label (w.received i)) (answers-count (suc number) calls) (answers-count number calls)
    where
      by_test : (t : Bool) → total posts_of (answers m w (suc number) i calls) + length (waiting calls) ≡ length calls
          → total posts_of (answers m w number i calls) + length (waiting calls) ≡ length calls
          → total posts_of (cond t (answer_line m w number i call ∷ answers m w (suc number) i calls)
          (answers m w number i calls))
          + length (cond (not t) (call ∷ waiting calls) (waiting calls)) ≡ length (call ∷ calls)
      by_test true more same = omega arith
      by_test false more same = omega arith

  answers-fit : AnswersFine m HasNoFeed w → NumberFits i → (number : ℕ) (calls : List (LabelledCall Op))
      → number + length calls ≤ 2 ^ 64 → Each CallFits calls → Each OutcomeFits (answers m w number i calls)
  answers-fit fine here number [] few fits = tt
  answers-fit fine here number (call ∷ calls) few fits =
      by_test (is_within w.accepted call.label (w.received i))
      (answers-fit fine here (suc number) calls (omega arith) fits.1)
      (answers-fit fine here number calls (omega arith) fits.1)
    where
      by_test : (t : Bool) → Each OutcomeFits (answers m w (suc number) i calls)
          → Each OutcomeFits (answers m w number i calls)
          → Each OutcomeFits (cond t (answer_line m w number i call ∷ answers m w (suc number) i calls)
          (answers m w number i calls))
      by_test true more same = ((omega arith, here, fits.0.0, (fits.0, fine i call.op)), more)
      by_test false more same = same

-- facts that fit, after so many steps
record IsFine {Op : Type 0} (steps : ℕ) (w : Facts Op) : Type 0 where
  fit : FactsFit w
  up : IsUpTo steps w

module _ {Value Op : Type 0} (m : Meaning Value Op) (config : Config) (steps : ℕ) (few : NumberFits steps)
    (w : Facts Op) (f : IsFine steps w) (fine : AnswersFine m HasNoFeed w) where
  -- the held queries that are answered, and the others, have room
  room : (i : ℕ) → next_number w + length (w.held i) ≤ 2 ^ 64
  room i = let most = f.up.load (suc i) in omega arith

  answers_at-fit : (o : Option ℕ) → IfThere NumberFits o → Each OutcomeFits (answers_at m w o)
  answers_at-fit None here = tt
  answers_at-fit (Some i) here = answers-fit m w i fine here (next_number w) (w.held i) (room i) (f.fit.held i)

  -- at the end of a replica's step, behind its answers
  end-fine : (i : ℕ) (messages : List (SentMessage Op)) → Each MessageFits messages
      → length messages + length (waiting m w i (w.held i)) ≤ length w.messages + length (w.held i)
      → IsFine steps (end_read (record w { messages = messages }) i)
  end-fine i messages fits less = record {
    fit = record {
      spots = f.fit.spots;
      calls = f.fit.calls;
      acks = f.fit.acks;
      messages = fits;
      clocks = f.fit.clocks;
      held = put-each (λ j calls. Each CallFits calls) i (waiting m w i (w.held i)) w.held
          (each-map _ CallFits _ (λ call both. both.0) (filter-each CallFits _ (w.held i) (f.fit.held i))) f.fit.held;
      kept = put-each (λ j kept. Each (λ k. SpotFits k.spot) kept) i _ w.kept
          (keep_new-each SpotFits w.accepted (ready w.accepted (w.received i)) w.accepted (w.kept i) f.fit.spots
          (f.fit.kept i)) f.fit.kept;
      fronts = f.fit.fronts;
    };
    up = record { accepted = f.up.accepted; load = λ n. by_place n (le-or-lt n (suc i)); calls = f.up.calls };
  }
    where
      by_place : (n : ℕ) → (suc i ≤ n) ⊎ (n < suc i)
          → length messages + amount n (put_at i (waiting m w i (w.held i)) w.held) ≤ steps
      by_place n (inl within) =
          let put = amount-put n i (waiting m w i (w.held i)) w.held within in
          let most = f.up.load n in
          omega arith
      by_place n (inr past) =
          let put = amount-past n i (waiting m w i (w.held i)) w.held (omega arith) in
          let more = amount-more n i w.held (omega arith) in
          let most = f.up.load (suc i) in
          omega arith

  ended-fine : (x : Handling Op) → IfThere MessageFits x.came → (o : Option ℕ) → IfThere NumberFits o
      → IsFine steps (step_ended m config o (lines_read m config x w (answers_at m w o)))
  ended-fine x came None here = f
  ended-fine x came (Some i) here =
      let lines = answers m w (next_number w) i (w.held i) in
      let sent = answers-send m config w i x (next_number w) (w.held i) w.messages in
      let read = lines-grow m config x w lines came (answers_at-fit (Some i) here) f.fit in
      let grows = subst (λ (u : Facts Op). Grows (total accepts_of lines) (total posts_of lines) w u) sent.1 read in
      let count = answers-count m w i (next_number w) (w.held i) in
      let more = grows.load 0 in
      subst (λ (u : Facts Op). IsFine steps (end_read u i)) (sym sent.1)
      (end-fine i (sent.0 ++ w.messages) grows.fit.messages (omega arith))

-- ---- steps

module _ {Value Op : Type 0} (m : Meaning Value Op) {e : Encoding Value} (kind_of : Op → Kind)
    (lawful : Lawful m e kind_of) (config : Config) (valid : IsValid config) where
  -- no answer that a replica would give holds a line feed
  feedless : (w : Facts Op) → Holds m.kind (IsOp m) w → AnswersFine m HasNoFeed w
  feedless w ops i op = no-feed _ (answers-fine m kind_of lawful w ops i op)

  module _ (steps : ℕ) (few : NumberFits (suc steps)) (w : Facts Op) (f : IsFine steps w) (ops : Holds m.kind (IsOp m) w)
      (event : Event Op) (is : is_event_in m config event ≡ true) (brings : EventNumberFits event) where
    own : OwnFits (own_lines m config w event)
    own = own-fits m config steps few w f.fit f.up (feedless w ops) valid event is brings

    came : IfThere MessageFits (delivery_of w event)
    came = came-fits m config steps few w f.fit f.up (feedless w ops) event

    stepping_fits : IfThere NumberFits (stepping w event)
    stepping_fits = stepping-fits m config steps few w f.fit f.up (feedless w ops) valid event is

    -- behind the event's own lines
    mid-fine : IsFine (suc steps) (own_read m config w event)
    mid-fine =
        let start = begins m config steps few w f.fit f.up (feedless w ops) valid event is brings in
        let lines = own_lines m config w event in
        let grows = lines-grow m config (handling w event) (event_read w event) lines came own.fits start.fit in
        let accepts = own.accepts in
        let posts = own.posts in
        record {
          fit = grows.fit;
          up = record {
            accepted = (let a = grows.accepted in let b = start.accepted in omega arith);
            load = λ n. (let a = grows.load n in let b = start.loaded n in omega arith);
            calls = λ client. (let a = grows.calls client in let b = start.calls client in omega arith);
          };
        }

    mid-feedless : AnswersFine m HasNoFeed (own_read m config w event)
    mid-feedless = feedless _ (own-fine m (IsOp m) config w event (calls-ops m config event is) ops)

    event-fits : Each OutcomeFits (outcomes_of m config w event)
    event-fits =
        each-append OutcomeFits (own_lines m config w event) _ own.fits
        (answers_at-fit m config (suc steps) few _ mid-fine mid-feedless (stepping w event) stepping_fits)

    event-fine : IsFine (suc steps) (step_ended m config (stepping w event) (lines_read m config (handling w event)
        (own_read m config w event) (answers_at m (own_read m config w event) (stepping w event))))
    event-fine =
        ended-fine m config (suc steps) few _ mid-fine mid-feedless (handling w event) came (stepping w event)
        stepping_fits

  from-fits : (steps : ℕ) (w : Facts Op) → IsFine steps w → Holds m.kind (IsOp m) w → (later : List (Step Op))
      → LegalFrom m config w later → NumberFits (steps + length later) → Each (λ step. EventNumberFits step.event) later
      → Each (λ step. All OutcomeFits step.outcomes) later
  from-fits steps w f ops [] legal few brings = tt
  from-fits steps w f ops (step ∷ later) legal few brings =
      let here : NumberFits (suc steps) = omega arith in
      let lines = event-fits steps here w f ops step.event legal.0.event brings.0 in
      let next = event-fine steps here w f ops step.event legal.0.event brings.0 in
      let after_is = after-parts m config w step legal.0.outcomes in
      let calls = calls-ops m config step.event legal.0.event in (
        All-from_recursion OutcomeFits step.outcomes
            (subst (λ (l : List Outcome). Each OutcomeFits l) (sym legal.0.outcomes) lines),
        from-fits (suc steps) (after m config w step) (subst (λ (u : Facts Op). IsFine (suc steps) u) (sym after_is) next)
            (step-fine m (IsOp m) config w step calls legal.0.outcomes ops) later legal.1 (omega arith) brings.1,
      )

  pub printed-fits : (steps : List (Step Op)) → IsLegal m config steps → HistoryFits steps
      → Each (λ step. All OutcomeFits step.outcomes) steps
  printed-fits steps legal fits =
      let few = fits.0 in
      from-fits 0 first_facts first (record { accepted = tt; messages = tt; opened = λ client. tt }) steps legal (omega arith) fits.1
    where
      first : IsFine {Op = Op} 0 first_facts
      first = record {
        fit = record {
          spots = tt;
          calls = tt;
          acks = tt;
          messages = tt;
          clocks = λ i. omega arith;
          held = λ i. tt;
          kept = λ i. tt;
          fronts = λ client. (omega arith, tt, tt);
        };
        up = record { accepted = omega arith; load = λ n. (let none = amount-empty (LabelledCall Op) n in omega arith); calls = λ client. omega arith };
      }
