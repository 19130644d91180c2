-- Facts without what replicas hold and keep change by themselves.
use Rattle.std.proofs.Common.{◌≡◌, ℕ, ◌+◌, ◌<◌, List, [], ◌∷◌, ◌++◌, Option, Some, None, length, take, take-suc, get_or, add-one, refl, sym, ap, ◌∙◌}
use Rattle.lr_base.specs.declared.events.Event.{Event}
use Rattle.lr_base.specs.declared.events.Event.TheVariants.{Call, Resend, Ack as AckEvent, Deliver, Tick, Gossip as GossipEvent, Show}
use Rattle.lr_base.specs.declared.events.Outcome.{Outcome}
use Rattle.lr_base.specs.declared.events.Outcome.TheVariants.{Send, Accept, Note, Hold, Take, Got, Stale, ClockAt, NoMessage, Refuse, State}
use Rattle.lr_base.specs.declared.events.Sent.{Sent}
use Rattle.lr_base.specs.declared.events.Sent.TheVariants.{Update, Query, Ack, Done, Answer, Gossip}
use Rattle.lr_base.specs.declared.events.Step.{Step}
use Rattle.lr_base.specs.declared.names.Actor.{Actor}
use Rattle.lr_base.specs.declared.names.Actor.TheVariants.{Client, Replica}
use Rattle.lr_base.specs.declared.names.Spot.{Spot}
use Rattle.lr_graph.specs.After.{at_replica, clock_set, note_read, replica_in}
use Rattle.lr_graph.specs.After.{accept_read, after, carried, event_read, got_read, hold_read, line_read, lines_read, step_ended, stepping, take_read, Handling, handling, with_message, with_sender}
use Rattle.lr_graph.specs.Central.{facts_after}
use Rattle.lr_graph.specs.Graph.{Carried, Facts, SentMessage, UpdateCopy, QueryCopy, AckCopy, DoneReply, AnswerReply, GossipOf}
use Rattle.lr_graph.specs.Told.{bare}
use Rattle.lr_base.specs.Meaning.{Meaning}
use Rattle.lr_base.specs.declared.names.Config.{Config}

module _ {Op : Type 0} where
  bare-carried : (w : Facts Op) (from : Actor) (what : Sent) → carried (bare w) from what ≡ carried w from what
  bare-carried w (Replica i) (Update cid time) = refl
  bare-carried w (Client c) (Update cid time) = refl
  bare-carried w (Replica i) (Query cid) = refl
  bare-carried w (Client c) (Query cid) = refl
  bare-carried w (Replica i) (Ack cid time) = refl
  bare-carried w (Client c) (Ack cid time) = refl
  bare-carried w (Replica i) (Done cid spot) = refl
  bare-carried w (Client c) (Done cid spot) = refl
  bare-carried w (Replica i) (Answer cid text) = refl
  bare-carried w (Client c) (Answer cid text) = refl
  bare-carried w (Replica i) Gossip = refl
  bare-carried w (Client c) Gossip = refl

  bare-accept : (w : Facts Op) (spot : Spot) (to : Actor) (what : Carried Op) → bare (accept_read (bare w) spot to what) ≡ bare (accept_read w spot to what)
  bare-accept w spot (Replica i) (UpdateCopy call time) = refl
  bare-accept w spot _ _ = refl

  bare-note : (w : Facts Op) (spot : Spot) (to : Actor) (what : Carried Op) → bare (note_read (bare w) spot to what) ≡ bare (note_read w spot to what)
  bare-note w spot (Replica i) (AckCopy cid time) = refl
  bare-note w spot _ _ = refl

  bare-hold : (w : Facts Op) (to : Actor) (what : Carried Op) → bare (hold_read (bare w) to what) ≡ bare (hold_read w to what)
  bare-hold w (Replica i) (QueryCopy call) = refl
  bare-hold w _ _ = refl

  bare-take : (w : Facts Op) (from to : Actor) (what : Carried Op) → bare (take_read (bare w) from to what) ≡ bare (take_read w from to what)
  bare-take w from (Replica i) (GossipOf names) = refl
  bare-take w from _ _ = refl

  -- gossip that comes changes them alike, where some came
  bare-taken : (w : Facts Op) (o : Option (SentMessage Op)) → bare (with_sender (bare w) o (take_read (bare w))) ≡ bare (with_sender w o (take_read w))
  bare-taken w None = refl
  bare-taken w (Some x) = bare-take w x.from x.to x.what

  bare-got : (w : Facts Op) (to : Actor) (what : Carried Op) → bare (got_read (bare w) to what) ≡ bare (got_read w to what)
  bare-got w (Client c) (DoneReply cid names) = refl
  bare-got w (Client c) (AnswerReply cid names) = refl
  bare-got w _ _ = refl

  -- what comes changes them alike, where it came
  bare-came : (w : Facts Op) (read : Facts Op → Actor → Carried Op → Facts Op)
      → ((to : Actor) (what : Carried Op) → bare (read (bare w) to what) ≡ bare (read w to what))
      → (o : Option (SentMessage Op)) → bare (with_message (bare w) o (read (bare w))) ≡ bare (with_message w o (read w))
  bare-came w read alike None = refl
  bare-came w read alike (Some x) = alike x.to x.what

module _ {Value Op : Type 0} (m : Meaning Value Op) (config : Config) where
  -- a line changes them alike
  bare-line : (x : Handling Op) (w : Facts Op) (line : Outcome) → bare (line_read m config x (bare w) line) ≡ bare (line_read m config x w line)
  bare-line x w (Send number from to what) = ap (λ (load : Carried Op). bare (record w { messages = record { number = number; from = from; to = to; what = load } ∷ w.messages })) (bare-carried w from what)
  bare-line x w (Accept spot cid) = bare-came w (λ v. accept_read v spot) (bare-accept w spot) x.came
  bare-line x w (Note spot cid) = bare-came w (λ v. note_read v spot) (bare-note w spot) x.came
  bare-line x w (Hold cid) = bare-came w hold_read (bare-hold w) x.came
  bare-line x w (Take count) = bare-taken w x.came
  bare-line x w (Got cid) = bare-came w got_read (bare-got w) x.came
  bare-line x w (Stale cid) = refl
  bare-line x w (ClockAt reading) = bare-clock (replica_in x.actor)
    where
      bare-clock : (o : Option ℕ) → bare (at_replica (bare w) o (λ i. clock_set (bare w) i reading)) ≡ bare (at_replica w o (λ i. clock_set w i reading))
      bare-clock None = refl
      bare-clock (Some i) = refl
  bare-line x w (NoMessage message) = refl
  bare-line x w (Refuse why) = refl
  bare-line x w (State line) = refl

  -- and so do several
  bare-lines : (x : Handling Op) (w : Facts Op) (lines : List Outcome) → bare (lines_read m config x (bare w) lines) ≡ bare (lines_read m config x w lines)
  bare-lines x w [] = refl
  bare-lines x w (line ∷ lines) =
      sym (bare-lines x (line_read m config x (bare w) line) lines) ∙ ap (λ v. bare (lines_read m config x v lines)) (bare-line x w line) ∙ bare-lines x (line_read m config x w line) lines

  lines-append : (x : Handling Op) (w : Facts Op) (lines : List Outcome) (line : Outcome) → lines_read m config x w (lines ++ line ∷ []) ≡ line_read m config x (lines_read m config x w lines) line
  lines-append x w [] line = refl
  lines-append x w (first ∷ lines) line = lines-append x (line_read m config x w first) lines line

  -- one more line is read
  pub line-more : (x : Handling Op) (w before new : Facts Op) (lines : List Outcome) (k : ℕ) (line : Outcome) → k < length lines → line ≡ get_or lines k line
      → before ≡ bare (lines_read m config x w (take k lines)) → new ≡ bare (line_read m config x before line) → new ≡ bare (lines_read m config x w (take (k + 1) lines))
  line-more x w before new lines k line within is so_far read =
      rw (add-one k, take-suc lines k line within, ← is, lines-append x w (take k lines) line)
      (read ∙ ap (λ v. bare (line_read m config x v line)) so_far ∙ bare-line x (lines_read m config x w (take k lines)) line)

  bare-ended : (o : Option ℕ) (w : Facts Op) → bare (step_ended m config o w) ≡ bare w
  bare-ended None w = refl
  bare-ended (Some i) w = refl

module _ {Op : Type 0} where
  bare-event : (w : Facts Op) (event : Event Op) → bare (event_read (bare w) event) ≡ bare (event_read w event)
  bare-event w (Call client replica reading op) = refl
  bare-event w (Resend client replica reading) = refl
  bare-event w (AckEvent client replica reading) = refl
  bare-event w (Deliver message) = refl
  bare-event w (Tick replica reading) = refl
  bare-event w (GossipEvent from to) = refl
  bare-event w (Show replica) = refl

  bare-handling : (w : Facts Op) (event : Event Op) → handling (bare w) event ≡ handling w event
  bare-handling w (Call client replica reading op) = refl
  bare-handling w (Resend client replica reading) = refl
  bare-handling w (AckEvent client replica reading) = refl
  bare-handling w (Deliver message) = refl
  bare-handling w (Tick replica reading) = refl
  bare-handling w (GossipEvent from to) = refl
  bare-handling w (Show replica) = refl

module _ {Value Op : Type 0} (m : Meaning Value Op) (config : Config) where
  -- a step changes them by its event and its lines
  pub bare-step : (w : Facts Op) (step : Step Op) → bare (after m config w step) ≡ bare (lines_read m config (handling w step.event) (event_read w step.event) step.outcomes)
  bare-step w step = bare-ended m config (stepping w step.event) (lines_read m config (handling w step.event) (event_read w step.event) step.outcomes)

  bare-after : (w : Facts Op) (step : Step Op) → bare (after m config (bare w) step) ≡ bare (after m config w step)
  bare-after w step =
      bare-step (bare w) step
      ∙ ap (λ x. bare (lines_read m config x (event_read (bare w) step.event) step.outcomes)) (bare-handling w step.event)
      ∙ sym (bare-lines m config (handling w step.event) (event_read (bare w) step.event) step.outcomes)
      ∙ ap (λ v. bare (lines_read m config (handling w step.event) v step.outcomes)) (bare-event w step.event)
      ∙ bare-lines m config (handling w step.event) (event_read w step.event) step.outcomes
      ∙ sym (bare-step w step)

  facts-append : (w : Facts Op) (steps : List (Step Op)) (step : Step Op) → facts_after m config w (steps ++ step ∷ []) ≡ after m config (facts_after m config w steps) step
  facts-append w [] step = refl
  facts-append w (first ∷ steps) step = facts-append (after m config w first) steps step

  -- one more step is read
  pub step-more : (w before new : Facts Op) (steps : List (Step Op)) (k : ℕ) (step : Step Op) → k < length steps → step ≡ get_or steps k step
      → before ≡ bare (facts_after m config w (take k steps)) → new ≡ bare (after m config before step) → new ≡ bare (facts_after m config w (take (k + 1) steps))
  step-more w before new steps k step within is so_far read =
      rw (add-one k, take-suc steps k step within, ← is, facts-append w (take k steps) step)
      (read ∙ ap (λ v. bare (after m config v step)) so_far ∙ bare-after (facts_after m config w (take k steps)) step)
