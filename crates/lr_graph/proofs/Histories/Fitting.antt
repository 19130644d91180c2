-- Facts whose numbers fit, and that they go on to fit with each line that does.
use Rattle.std.proofs.Common.{◌≡◌, ◌≢◌, ℕ, ◌+◌, ◌≤◌, leb-true, ◌==◌, Bool, true, false, cond, find, List, [], ◌∷◌, ◌++◌}
use Rattle.std.proofs.Common.{length, Option, Some, None, arith}
use Rattle.std.proofs.lemmas.List.Elements.{All-from_recursion}
use Rattle.lr_base.specs.Meaning.{Meaning, is_printable}
use Rattle.lr_base.specs.declared.events.Outcome.{Outcome}
use Rattle.lr_base.specs.declared.events.Outcome.TheVariants.{Send, Accept, Note, Hold, Take, Got, Stale, ClockAt}
use Rattle.lr_base.specs.declared.events.Outcome.TheVariants.{NoMessage, Refuse, State}
use Rattle.lr_base.specs.declared.events.Sent.{Sent}
use Rattle.lr_base.specs.declared.events.Sent.TheVariants.{Update, Query, Ack, Done, Answer, Gossip}
use Rattle.lr_base.specs.declared.names.Actor.{Actor}
use Rattle.lr_base.specs.declared.names.Actor.TheVariants.{Client, Replica}
use Rattle.lr_base.specs.declared.names.Config.{Config}
use Rattle.lr_base.specs.declared.names.Cid.{Cid}
use Rattle.lr_base.specs.declared.names.Spot.{Spot}
use Rattle.lr_graph.specs.After.{Handling, accept_read, carried, copy_of, got_read, hold_read, line_read, lines_read}
use Rattle.lr_graph.specs.After.{at_replica, clock_set, note_read, replica_in, replied, take_read, takes_reply}
use Rattle.lr_graph.specs.After.{with_front, with_message, with_sender}
use Rattle.lr_graph.specs.Closed.{Each}
use Rattle.lr_graph.specs.Fitting.{ActorFits, CidFits, HasNoFeed, NumberFits, OutcomeFits, SentFits, SpotFits}
use Rattle.lr_graph.specs.Graph.{Carried, Facts, FrontFacts, LabelledCall, SentMessage}
use Rattle.lr_graph.specs.Graph.{UpdateCopy, QueryCopy, AckCopy, DoneReply, AnswerReply, GossipOf, Blank}
use Rattle.lr_graph.specs.Sets.{SpotSet}
use Rattle.lr_graph.proofs.Histories.Amounts.{IfThere, amount, amount-one}
use Rattle.lr_graph.proofs.Lists.Members.{each-append, each-map, list_all-each}
use Rattle.lr_graph.proofs.Lists.Tests.{and-left}
use Rattle.lr_graph.proofs.Promised.Changes.{put-each}

-- ---- what fits

-- a printable text holds no line feed
pub no-feed : (text : List ℕ) → is_printable text ≡ true → HasNoFeed text
no-feed text printable =
    All-from_recursion (λ byte. byte ≢ 10) text
    (each-map _ (λ byte. byte ≢ 10) text (λ byte both feed. above byte (leb-true 32 byte (and-left _ _ both)) feed)
    (list_all-each _ text printable))
  where
    above : (byte : ℕ) → 32 ≤ byte → byte ≡ 10 → ⊥
    above byte least feed = omega arith

module _ {Op : Type 0} where
  -- a call's numbers fit
  abbrev pub CallFits : LabelledCall Op → Type 0
  CallFits call = CidFits call.cid

  -- the numbers that a message carries fit
  abbrev pub CarriedFits : Carried Op → Type 0
  CarriedFits (UpdateCopy call time) = CidFits call.cid × NumberFits time
  CarriedFits (QueryCopy call) = CidFits call.cid
  CarriedFits (AckCopy cid time) = CidFits cid × NumberFits time
  CarriedFits (DoneReply cid names) = CidFits cid
  CarriedFits (AnswerReply cid names) = CidFits cid
  CarriedFits (GossipOf names) = Unit {0}
  CarriedFits Blank = Unit {0}

  -- and that of its receiver
  abbrev pub MessageFits : SentMessage Op → Type 0
  MessageFits x = ActorFits x.to × CarriedFits x.what

  -- a front end's clock, its open call and its last answered update fit
  abbrev pub FrontFits : FrontFacts Op → Type 0
  FrontFits front = NumberFits front.clock × IfThere CallFits front.open_call × IfThere CidFits front.answered

  -- all numbers fit that lines are made of
  pub record FactsFit (w : Facts Op) : Type 0 where
    pub spots : Each (λ a. SpotFits a.spot) w.accepted
    pub calls : Each (λ a. CidFits a.cid) w.accepted
    pub acks : Each (λ a. SpotFits a.spot) w.acks
    pub messages : Each MessageFits w.messages
    pub clocks : (i : ℕ) → NumberFits (w.clock i)
    pub held : (i : ℕ) → Each CallFits (w.held i)
    pub kept : (i : ℕ) → Each (λ k. SpotFits k.spot) (w.kept i)
    pub fronts : (client : ℕ) → FrontFits (w.front client)

  -- a found message fits
  pub found-fits : (number : ℕ) (messages : List (SentMessage Op)) → Each MessageFits messages
      → IfThere MessageFits (find (λ x. x.number == number) messages)
  found-fits number [] each = tt
  found-fits number (x ∷ messages) each = at_head (x.number == number) (found-fits number messages each.1)
    where
      at_head : (t : Bool) → IfThere MessageFits (find (λ x. x.number == number) messages)
          → IfThere MessageFits (cond t (Some x) (find (λ x. x.number == number) messages))
      at_head true rest = each.0
      at_head false rest = rest

  -- ---- how much there is

  -- how many messages there are, and queries that the first so many replicas hold
  abbrev pub load : ℕ → Facts Op → ℕ
  load n w = length w.messages + amount n w.held

  -- after so many steps there are at the most so many items, messages and held queries, and calls of a client
  pub record IsUpTo (steps : ℕ) (w : Facts Op) : Type 0 where
    pub accepted : length w.accepted + length w.acks ≤ steps
    pub load : (n : ℕ) → load n w ≤ steps
    pub calls : (client : ℕ) → (w.front client).calls ≤ steps

  -- facts that fit come next, with no more than so many new items, and new messages or held queries
  pub record Grows (accepts posts : ℕ) (w next : Facts Op) : Type 0 where
    pub accepted : length next.accepted + length next.acks ≤ accepts + (length w.accepted + length w.acks)
    pub load : (n : ℕ) → load n next ≤ posts + load n w
    pub calls : (client : ℕ) → (next.front client).calls ≤ (w.front client).calls
    pub fit : FactsFit next

  -- what fits, one thing after another
  pub fit-by : {w : Facts Op} → Each (λ a. SpotFits a.spot) w.accepted → Each (λ a. CidFits a.cid) w.accepted
      → Each (λ a. SpotFits a.spot) w.acks → Each MessageFits w.messages → ((i : ℕ) → NumberFits (w.clock i))
      → ((i : ℕ) → Each CallFits (w.held i)) → ((i : ℕ) → Each (λ k. SpotFits k.spot) (w.kept i))
      → ((client : ℕ) → FrontFits (w.front client)) → FactsFit w
  fit-by spots calls acks messages clocks held kept fronts = record {
    spots = spots;
    calls = calls;
    acks = acks;
    messages = messages;
    clocks = clocks;
    held = held;
    kept = kept;
    fronts = fronts;
  }

  -- the same facts are no more than is allowed
  grows-same : (accepts posts : ℕ) (w : Facts Op) → FactsFit w → Grows accepts posts w w
  grows-same accepts posts w h = record {
    accepted = omega arith;
    load = λ n. omega arith;
    calls = λ client. omega arith;
    fit = h;
  }

  -- another front end that fits
  pub front-fits : (w : Facts Op) (client : ℕ) (f : FrontFacts Op) → FrontFits f → FactsFit w
      → FactsFit (with_front w client f)
  front-fits w client f fits h =
      fit-by h.spots h.calls h.acks h.messages h.clocks h.held h.kept
      (put-each (λ j g. FrontFits g) client f w.front fits h.fronts)

-- how many items a line tells of
abbrev pub accepts_of : Outcome → ℕ
accepts_of (Accept spot cid) = 1
accepts_of (Note spot cid) = 1
accepts_of _ = 0

-- how many messages or held queries a line tells of
abbrev pub posts_of : Outcome → ℕ
posts_of (Send number from to what) = 1
posts_of (Hold cid) = 1
posts_of _ = 0

-- what lines tell of together
abbrev pub total : (Outcome → ℕ) → List Outcome → ℕ
total count [] = 0
total count (line ∷ lines) = count line + total count lines

-- ---- one line

module _ {Value Op : Type 0} (m : Meaning Value Op) (config : Config) where
  accept-grows : (w : Facts Op) (spot : Spot) (to : Actor) (what : Carried Op) → SpotFits spot → CarriedFits what
      → FactsFit w → Grows 1 0 w (accept_read w spot to what)
  accept-grows w spot (Replica i) (UpdateCopy call time) fits carries h = record {
    accepted = omega arith;
    load = λ n. omega arith;
    calls = λ client. omega arith;
    fit = fit-by (fits, h.spots) (carries.0, h.calls) h.acks h.messages h.clocks h.held h.kept h.fronts;
  }
  accept-grows w spot _ _ fits carries h = grows-same 1 0 w h

  hold-grows : (w : Facts Op) (to : Actor) (what : Carried Op) → CarriedFits what → FactsFit w
      → Grows 0 1 w (hold_read w to what)
  hold-grows w (Replica i) (QueryCopy call) carries h = record {
    accepted = omega arith;
    load = λ n. (let one = amount-one n i call w.held in omega arith);
    calls = λ client. omega arith;
    fit = fit-by h.spots h.calls h.acks h.messages h.clocks
        (put-each (λ j calls. Each CallFits calls) i (w.held i ++ call ∷ []) w.held
        (each-append CallFits (w.held i) (call ∷ []) (h.held i) (carries, tt)) h.held) h.kept h.fronts;
  }
  hold-grows w _ _ carries h = grows-same 0 1 w h

  note-grows : (w : Facts Op) (spot : Spot) (to : Actor) (what : Carried Op) → SpotFits spot → FactsFit w
      → Grows 1 0 w (note_read w spot to what)
  note-grows w spot (Replica i) (AckCopy cid time) fits h = record {
    accepted = omega arith;
    load = λ n. omega arith;
    calls = λ client. omega arith;
    fit = fit-by h.spots h.calls (fits, h.acks) h.messages h.clocks h.held h.kept h.fronts;
  }
  note-grows w spot _ _ fits h = grows-same 1 0 w h

  -- a replica has read its clock
  clock-grows : (w : Facts Op) (reading : ℕ) → NumberFits reading → FactsFit w → (o : Option ℕ)
      → Grows 0 0 w (at_replica w o (λ i. clock_set w i reading))
  clock-grows w reading fits h None = grows-same 0 0 w h
  clock-grows w reading fits h (Some i) = record {
    accepted = omega arith;
    load = λ n. omega arith;
    calls = λ client. omega arith;
    fit = fit-by h.spots h.calls h.acks h.messages
        (put-each (λ j clock. NumberFits clock) i reading w.clock fits h.clocks) h.held h.kept h.fronts;
  }

  take-grows : (w : Facts Op) (from to : Actor) (what : Carried Op) → FactsFit w → Grows 0 0 w (take_read w from to what)
  take-grows w from (Replica i) (GossipOf names) h = record {
    accepted = omega arith;
    load = λ n. omega arith;
    calls = λ client. omega arith;
    fit = fit-by h.spots h.calls h.acks h.messages h.clocks h.held h.kept h.fronts;
  }
  take-grows w from _ _ h = grows-same 0 0 w h

  -- a front end takes a reply
  taken-grows : (w : Facts Op) (client : ℕ) (names : SpotSet) (answered : Option Cid) → IfThere CidFits answered
      → FactsFit w → Grows 0 0 w (takes_reply w client names answered)
  taken-grows w client names answered is h =
      let new : FrontFacts Op = replied names answered (w.front client) in
      record {
        accepted = omega arith;
        load = λ n. omega arith;
        calls = put-each (λ j f. f.calls ≤ (w.front j).calls) client new w.front (omega arith) (λ j. omega arith);
        fit = front-fits w client new ((h.fronts client).0, tt, is) h;
      }

  got-grows : (w : Facts Op) (to : Actor) (what : Carried Op) → CarriedFits what → FactsFit w
      → Grows 0 0 w (got_read w to what)
  got-grows w (Client c) (DoneReply cid names) carries h = taken-grows w c names (Some cid) carries h
  got-grows w (Client c) (AnswerReply cid names) carries h =
      taken-grows w c names (w.front c).answered (h.fronts c).2 h
  got-grows w _ _ carries h = grows-same 0 0 w h

  -- what is sent now fits, where the line does that tells of it
  carried-fits : (w : Facts Op) (from : Actor) (what : Sent) → SentFits what → FactsFit w
      → CarriedFits (carried w from what)
  carried-fits w from (Update cid time) fits h =
      opened (w.front cid.client).open_call (h.fronts cid.client).1
    where
      opened : (o : Option (LabelledCall Op)) → IfThere CallFits o
          → CarriedFits (copy_of o (λ call. UpdateCopy call time))
      opened None is = tt
      opened (Some call) is = (is, fits.1)
  carried-fits w from (Query cid) fits h = opened (w.front cid.client).open_call (h.fronts cid.client).1
    where
      opened : (o : Option (LabelledCall Op)) → IfThere CallFits o → CarriedFits (copy_of o QueryCopy)
      opened None is = tt
      opened (Some call) is = is
  carried-fits w from (Ack cid time) fits h = fits
  carried-fits w from (Done cid spot) fits h = fits.0
  carried-fits w from (Answer cid text) fits h = fits.0
  carried-fits w from Gossip fits h = tt

  -- what comes, if something came
  came-grows : (accepts posts : ℕ) (w : Facts Op) (read : Actor → Carried Op → Facts Op) → FactsFit w
      → ((to : Actor) (what : Carried Op) → CarriedFits what → Grows accepts posts w (read to what))
      → (o : Option (SentMessage Op)) → IfThere MessageFits o → Grows accepts posts w (with_message w o read)
  came-grows accepts posts w read h grows None came = grows-same accepts posts w h
  came-grows accepts posts w read h grows (Some x) came = grows x.to x.what came.1

  line-grows : (x : Handling Op) (w : Facts Op) (line : Outcome) → IfThere MessageFits x.came → OutcomeFits line
      → FactsFit w → Grows (accepts_of line) (posts_of line) w (line_read m config x w line)
  line-grows x w (Send number from to what) came fits h = record {
    accepted = omega arith;
    load = λ n. omega arith;
    calls = λ client. omega arith;
    fit = fit-by h.spots h.calls h.acks ((fits.2, carried-fits w from what fits.3 h), h.messages) h.clocks h.held h.kept
        h.fronts;
  }
  line-grows x w (Accept spot cid) came fits h =
      came-grows 1 0 w (accept_read w spot) h (λ to what carries. accept-grows w spot to what fits.0 carries h) x.came
      came
  line-grows x w (Note spot cid) came fits h =
      came-grows 1 0 w (note_read w spot) h (λ to what carries. note-grows w spot to what fits.0 h) x.came came
  line-grows x w (Hold cid) came fits h =
      came-grows 0 1 w (hold_read w) h (λ to what carries. hold-grows w to what carries h) x.came came
  line-grows x w (Take count) came fits h =
      read x.came
    where
      read : (o : Option (SentMessage Op)) → Grows 0 0 w (with_sender w o (take_read w))
      read None = grows-same 0 0 w h
      read (Some y) = take-grows w y.from y.to y.what h
  line-grows x w (Got cid) came fits h =
      came-grows 0 0 w (got_read w) h (λ to what carries. got-grows w to what carries h) x.came came
  line-grows x w (Stale cid) came fits h = grows-same 0 0 w h
  line-grows x w (ClockAt reading) came fits h = clock-grows w reading fits h (replica_in x.actor)
  line-grows x w (NoMessage message) came fits h = grows-same 0 0 w h
  line-grows x w (Refuse why) came fits h = grows-same 0 0 w h
  line-grows x w (State line) came fits h = grows-same 0 0 w h

  -- several lines
  pub lines-grow : (x : Handling Op) (w : Facts Op) (lines : List Outcome) → IfThere MessageFits x.came
      → Each OutcomeFits lines → FactsFit w
      → Grows (total accepts_of lines) (total posts_of lines) w (lines_read m config x w lines)
  lines-grow x w [] came fits h = grows-same 0 0 w h
  lines-grow x w (line ∷ lines) came fits h =
      let one = line-grows x w line came fits.0 h in
      let more = lines-grow x (line_read m config x w line) lines came fits.1 one.fit in
      record {
        accepted = (let a = one.accepted in let b = more.accepted in omega arith);
        load = λ n. (let a = one.load n in let b = more.load n in omega arith);
        calls = λ client. (let a = one.calls client in let b = more.calls client in omega arith);
        fit = more.fit;
      }
