-- What holds of each update that a legal history calls holds of each that it accepts; and what it accepts are updates.
use Rattle.std.proofs.Common.{◌≡◌, ◌^◌, ℕ, suc, max, Bool, true, false, cond, ◌==◌, List, [], ◌∷◌, Option, Some, None, map, refl, sym, ap, ◌∙◌, subst, eq-eqb}
use Rattle.std.specs.List.{find}
use Rattle.lr_base.specs.Ascending.{same_cid}
use Rattle.lr_base.specs.Kinds.{IsUpdate, is_query, has_rules}
use Rattle.lr_base.specs.Meaning.{Meaning}
use Rattle.lr_base.specs.declared.events.Event.{Event}
use Rattle.lr_base.specs.declared.events.Event.TheVariants.{Call, Resend, Ack as AckEvent, Deliver, Tick, Gossip as GossipEvent, Show}
use Rattle.lr_base.specs.declared.events.Outcome.{Outcome}
use Rattle.lr_base.specs.declared.events.Outcome.TheVariants.{Send, Accept, Note, Hold, Take, Got, Stale, ClockAt, NoMessage, Refuse, State}
use Rattle.lr_base.specs.declared.events.Sent.{Sent}
use Rattle.lr_base.specs.declared.events.Sent.TheVariants.{Update, Query, Ack, Done, Answer, Gossip}
use Rattle.lr_base.specs.declared.events.Step.{Step}
use Rattle.lr_base.specs.declared.lr_service.Kind.{Kind}
use Rattle.lr_base.specs.declared.names.Actor.{Actor}
use Rattle.lr_base.specs.declared.names.Actor.TheVariants.{Client, Replica}
use Rattle.lr_base.specs.declared.names.Cid.{Cid}
use Rattle.lr_base.specs.declared.names.Config.{Config}
use Rattle.lr_base.specs.declared.names.Spot.{Spot}
use Rattle.lr_graph.specs.After.{at_replica, clock_read, clock_set, note_read, replica_in, replied, with_front}
use Rattle.lr_graph.specs.After.{accept_read, after, call_read, carried, copy_of, delivery_of, event_read, got_read, hold_read, line_read, lines_read, next_call, step_ended, stepping, take_read, handling, Handling, with_message, with_sender}
use Rattle.lr_graph.specs.Central.{facts_after}
use Rattle.lr_graph.specs.Closed.{Each}
use Rattle.lr_graph.specs.Graph.{Acceptance, Carried, Facts, FrontFacts, LabelledCall, SentMessage, UpdateCopy, QueryCopy, AckCopy, DoneReply, AnswerReply, GossipOf, Blank, first_facts, is_within, ready, value}
use Rattle.lr_graph.specs.Legal.{IsLegal, LegalFrom, accept_lines, ack_lines, acknowledge_lines, answer_line, answers, answers_at, call_lines, delivery_lines, message_lines, outcomes_of, own_lines, query_lines, reply_line, resend_lines, update_lines, copy_lines}
use Rattle.lr_graph.specs.Sets.{put_at}
use Rattle.lr_graph.specs.Told.{acceptance_of, bare, gathered_facts}
use Rattle.lr_graph.specs.declared.facts.items.AcceptedUpdate.{AcceptedUpdate}
use Rattle.lr_graph.specs.declared.facts.items.Gathered.{Gathered}
use Rattle.lr_graph.proofs.Lists.Members.{each-from}
use Rattle.lr_graph.proofs.Replicas.Stepping.{lines_read-append}
use Rattle.lr_graph.proofs.Handled.{alone}
use Rattle.lr_graph.proofs.Promised.Changes.{put-each}

-- a line that sends no copy of an update, and no answer but one of which A holds
abbrev pub IsOther : (List ℕ → Type 0) → Outcome → Type 0
IsOther A (Send number from to (Update cid time)) = ⊥
IsOther A (Send number from to (Query cid)) = Unit {0}
IsOther A (Send number from to (Ack cid time)) = Unit {0}
IsOther A (Send number from to (Done cid spot)) = Unit {0}
IsOther A (Send number from to (Answer cid text)) = A text
IsOther A (Send number from to Gossip) = Unit {0}
IsOther A (Accept spot cid) = Unit {0}
IsOther A (Note spot cid) = Unit {0}
IsOther A (Hold cid) = Unit {0}
IsOther A (Take count) = Unit {0}
IsOther A (Got cid) = Unit {0}
IsOther A (Stale cid) = Unit {0}
IsOther A (ClockAt reading) = Unit {0}
IsOther A (NoMessage message) = Unit {0}
IsOther A (Refuse why) = Unit {0}
IsOther A (State line) = Unit {0}

-- what holds of every text
abbrev IsAny : List ℕ → Type 0
IsAny text = Unit {0}

put_at-same : {X : Type 0} (i : ℕ) (x : X) (table : ℕ → X) → put_at i x table i ≡ x
put_at-same i x table = ap (λ t. cond t x (table i)) (eq-eqb i i refl)

module _ {Op : Type 0} (P : Op → Type 0) where
  -- P holds of the operation that a copy of an update carries
  abbrev pub IsFine : Carried Op → Type 0
  IsFine (UpdateCopy call time) = P call.op
  IsFine (QueryCopy call) = Unit {0}
  IsFine (AckCopy cid time) = Unit {0}
  IsFine (DoneReply cid names) = Unit {0}
  IsFine (AnswerReply cid names) = Unit {0}
  IsFine (GossipOf names) = Unit {0}
  IsFine Blank = Unit {0}

  -- and so of the message that came, if one did
  abbrev pub CameFine : Option (SentMessage Op) → Type 0
  CameFine None = Unit {0}
  CameFine (Some x) = IsFine x.what

  pub found-fine : (number : ℕ) (messages : List (SentMessage Op)) → Each (λ x. IsFine x.what) messages → CameFine (find (λ x. x.number == number) messages)
  found-fine number [] each = tt
  found-fine number (x ∷ messages) each = split (x.number == number) (found-fine number messages each.1)
    where
      split : (t : Bool) → CameFine (find (λ x. x.number == number) messages) → CameFine (cond t (Some x) (find (λ x. x.number == number) messages))
      split true rest = each.0
      split false rest = rest

  query-fine : (o : Option (LabelledCall Op)) → IsFine (copy_of o QueryCopy)
  query-fine None = tt
  query-fine (Some call) = tt

module _ {Op : Type 0} (kind : Op → Kind) (P : Op → Type 0) where
  -- an open call is its client's, and P holds of its operation, if it is an update
  abbrev pub IsOpenFine : ℕ → Option (LabelledCall Op) → Type 0
  IsOpenFine client None = Unit {0}
  IsOpenFine client (Some call) = (call.cid.client ≡ client) × (IsUpdate (kind call.op) → P call.op)

  -- P holds of each operation that was accepted, sent as an update's, or is open as one
  pub record Holds (w : Facts Op) : Type 0 where
    pub accepted : Each (λ a. P a.op) w.accepted
    pub messages : Each (λ x. IsFine P x.what) w.messages
    pub opened : (client : ℕ) → IsOpenFine client (w.front client).open_call

-- the rules of what is carried are those of a kind that has some, if it is an update
abbrev pub IsPlain : {Value Op : Type 0} → Meaning Value Op → Carried Op → Type 0
IsPlain m what = IsFine (λ op. has_rules (m.kind op) ≡ true) what

-- ---- lines

module _ {Value Op : Type 0} (m : Meaning Value Op) (config : Config) (P : Op → Type 0) where
  sent-fine : (w : Facts Op) (number : ℕ) (from to : Actor) (what : Sent) → IsFine P (carried w from what) → Holds m.kind P w → (x : Handling Op) → Holds m.kind P (line_read m config x w (Send number from to what))
  sent-fine w number from to what fine h x = record { accepted = h.accepted; messages = (fine, h.messages); opened = h.opened }

  accept-fine : (w : Facts Op) (spot : Spot) (to : Actor) (what : Carried Op) → IsFine P what → Holds m.kind P w → Holds m.kind P (accept_read w spot to what)
  accept-fine w spot (Client c) what fine h = h
  accept-fine w spot (Replica i) (UpdateCopy call time) fine h = record { accepted = (fine, h.accepted); messages = h.messages; opened = h.opened }
  accept-fine w spot (Replica i) (QueryCopy call) fine h = h
  accept-fine w spot (Replica i) (AckCopy cid time) fine h = h
  accept-fine w spot (Replica i) (DoneReply cid names) fine h = h
  accept-fine w spot (Replica i) (AnswerReply cid names) fine h = h
  accept-fine w spot (Replica i) (GossipOf names) fine h = h
  accept-fine w spot (Replica i) Blank fine h = h

  note-fine : (w : Facts Op) (spot : Spot) (to : Actor) (what : Carried Op) → Holds m.kind P w → Holds m.kind P (note_read w spot to what)
  note-fine w spot (Client c) what h = h
  note-fine w spot (Replica i) (UpdateCopy call time) h = h
  note-fine w spot (Replica i) (QueryCopy call) h = h
  note-fine w spot (Replica i) (AckCopy cid time) h = record { accepted = h.accepted; messages = h.messages; opened = h.opened }
  note-fine w spot (Replica i) (DoneReply cid names) h = h
  note-fine w spot (Replica i) (AnswerReply cid names) h = h
  note-fine w spot (Replica i) (GossipOf names) h = h
  note-fine w spot (Replica i) Blank h = h

  hold-fine : (w : Facts Op) (to : Actor) (what : Carried Op) → Holds m.kind P w → Holds m.kind P (hold_read w to what)
  hold-fine w (Client c) what h = h
  hold-fine w (Replica i) (UpdateCopy call time) h = h
  hold-fine w (Replica i) (QueryCopy call) h = record { accepted = h.accepted; messages = h.messages; opened = h.opened }
  hold-fine w (Replica i) (AckCopy cid time) h = h
  hold-fine w (Replica i) (DoneReply cid names) h = h
  hold-fine w (Replica i) (AnswerReply cid names) h = h
  hold-fine w (Replica i) (GossipOf names) h = h
  hold-fine w (Replica i) Blank h = h

  take-fine : (w : Facts Op) (from to : Actor) (what : Carried Op) → Holds m.kind P w → Holds m.kind P (take_read w from to what)
  take-fine w from (Client c) what h = h
  take-fine w from (Replica i) (UpdateCopy call time) h = h
  take-fine w from (Replica i) (QueryCopy call) h = h
  take-fine w from (Replica i) (AckCopy cid time) h = h
  take-fine w from (Replica i) (DoneReply cid names) h = h
  take-fine w from (Replica i) (AnswerReply cid names) h = h
  take-fine w from (Replica i) (GossipOf names) h = record { accepted = h.accepted; messages = h.messages; opened = h.opened }
  take-fine w from (Replica i) Blank h = h

  got-fine : (w : Facts Op) (to : Actor) (what : Carried Op) → Holds m.kind P w → Holds m.kind P (got_read w to what)
  got-fine w (Replica i) what h = h
  got-fine w (Client c) (UpdateCopy call time) h = h
  got-fine w (Client c) (QueryCopy call) h = h
  got-fine w (Client c) (AckCopy cid time) h = h
  got-fine w (Client c) (DoneReply cid names) h = record { accepted = h.accepted; messages = h.messages; opened = put-each (λ client f. IsOpenFine m.kind P client f.open_call) c (replied names _ (w.front c)) w.front tt h.opened }
  got-fine w (Client c) (AnswerReply cid names) h = record { accepted = h.accepted; messages = h.messages; opened = put-each (λ client f. IsOpenFine m.kind P client f.open_call) c (replied names _ (w.front c)) w.front tt h.opened }
  got-fine w (Client c) (GossipOf names) h = h
  got-fine w (Client c) Blank h = h

  -- what comes leaves it so, where it came
  came-read : (w : Facts Op) (read : Actor → Carried Op → Facts Op) → ((to : Actor) (what : Carried Op) → IsFine P what → Holds m.kind P w → Holds m.kind P (read to what))
      → (o : Option (SentMessage Op)) → CameFine P o → Holds m.kind P w → Holds m.kind P (with_message w o read)
  came-read w read fine None came h = h
  came-read w read fine (Some x) came h = fine x.to x.what came h

  line-fine : (A : List ℕ → Type 0) (x : Handling Op) (w : Facts Op) (line : Outcome) → CameFine P x.came → IsOther A line → Holds m.kind P w → Holds m.kind P (line_read m config x w line)
  line-fine A x w (Send number from to (Update cid time)) came other h = absurd other
  line-fine A x w (Send number from to (Query cid)) came other h = sent-fine w number from to (Query cid) (query-fine P (w.front cid.client).open_call) h x
  line-fine A x w (Send number from to (Ack cid time)) came other h = sent-fine w number from to (Ack cid time) tt h x
  line-fine A x w (Send number from to (Done cid spot)) came other h = sent-fine w number from to (Done cid spot) tt h x
  line-fine A x w (Send number from to (Answer cid text)) came other h = sent-fine w number from to (Answer cid text) tt h x
  line-fine A x w (Send number from to Gossip) came other h = sent-fine w number from to Gossip tt h x
  line-fine A x w (Accept spot cid) came other h = came-read w (accept_read w spot) (accept-fine w spot) x.came came h
  line-fine A x w (Note spot cid) came other h = came-read w (note_read w spot) (λ to what fine k. note-fine w spot to what k) x.came came h
  line-fine A x w (Hold cid) came other h = came-read w (hold_read w) (λ to what fine k. hold-fine w to what k) x.came came h
  line-fine A x w (Take count) came other h = read x.came
    where
      read : (o : Option (SentMessage Op)) → Holds m.kind P (with_sender w o (take_read w))
      read None = h
      read (Some y) = take-fine w y.from y.to y.what h
  line-fine A x w (Got cid) came other h = came-read w (got_read w) (λ to what fine k. got-fine w to what k) x.came came h
  line-fine A x w (Stale cid) came other h = h
  line-fine A x w (ClockAt reading) came other h = read (replica_in x.actor)
    where
      read : (o : Option ℕ) → Holds m.kind P (at_replica w o (λ i. clock_set w i reading))
      read None = h
      read (Some i) = record { accepted = h.accepted; messages = h.messages; opened = h.opened }
  line-fine A x w (NoMessage message) came other h = h
  line-fine A x w (Refuse why) came other h = h
  line-fine A x w (State line) came other h = h

  lines-fine : (A : List ℕ → Type 0) (x : Handling Op) (w : Facts Op) (lines : List Outcome) → CameFine P x.came → Each (IsOther A) lines → Holds m.kind P w → Holds m.kind P (lines_read m config x w lines)
  lines-fine A x w [] came other h = h
  lines-fine A x w (line ∷ lines) came other h = lines-fine A x (line_read m config x w line) lines came other.1 (line-fine A x w line came other.0 h)

-- ---- what is printed

module _ {Value Op : Type 0} (m : Meaning Value Op) (A : List ℕ → Type 0) where
  -- A holds of what each replica would answer now
  abbrev pub AnswersFine : Facts Op → Type 0
  AnswersFine w = (i : ℕ) (op : Op) → A (m.read (value m w.accepted (ready w.accepted (w.received i))) op)

  accept-other : (w : Facts Op) (i : ℕ) (cid : Cid) (room left : Bool) → Each (IsOther A) (accept_lines w i cid room left)
  accept-other w i cid false left = (tt, tt)
  accept-other w i cid true false = (tt, tt)
  accept-other w i cid true true = (tt, (tt, tt))

  update-other : (config : Config) (w : Facts Op) (i : ℕ) (cid : Cid) (time : ℕ) (late : Bool) (taken noted : Option Spot) → Each (IsOther A) (update_lines config w i cid time late taken noted)
  update-other config w i cid time true taken noted = (tt, tt)
  update-other config w i cid time false (Some spot) noted = (tt, (tt, tt))
  update-other config w i cid time false None (Some spot) = (tt, tt)
  update-other config w i cid time false None None = accept-other w i cid _ _

  copy-other : (config : Config) (w : Facts Op) (i : ℕ) (call : LabelledCall Op) (time : ℕ) (rules : Bool) → Each (IsOther A) (copy_lines config w i call time rules)
  copy-other config w i call time false = tt
  copy-other config w i call time true = update-other config w i call.cid time _ _ _

  ack-other : (w : Facts Op) (i : ℕ) (cid : Cid) (noted : Option Spot) (room left : Bool) → Each (IsOther A) (ack_lines w i cid noted room left)
  ack-other w i cid (Some spot) room left = (tt, tt)
  ack-other w i cid None false left = (tt, tt)
  ack-other w i cid None true false = (tt, tt)
  ack-other w i cid None true true = (tt, tt)

  query-other : (w : Facts Op) → AnswersFine w → (i : ℕ) (call : LabelledCall Op) (covered room : Bool) → Each (IsOther A) (query_lines m w i call covered room)
  query-other w fine i call true room = (fine i call.op, tt)
  query-other w fine i call false true = (tt, tt)
  query-other w fine i call false false = (tt, tt)

  reply-other : (o : Option (LabelledCall Op)) (cid : Cid) → IsOther A (reply_line o cid)
  reply-other None cid = tt
  reply-other (Some call) cid = split (same_cid call.cid cid)
    where
      split : (t : Bool) → IsOther A (cond t (Got cid) (Stale cid))
      split true = tt
      split false = tt

  message-other : (config : Config) (w : Facts Op) → AnswersFine w → (to : Actor) (what : Carried Op) → Each (IsOther A) (message_lines m config w to what)
  message-other config w fine (Replica i) (UpdateCopy call time) = copy-other config w i call time _
  message-other config w fine (Replica i) (QueryCopy call) = query-other w fine i call _ _
  message-other config w fine (Replica i) (AckCopy cid time) = ack-other w i cid _ _ _
  message-other config w fine (Replica i) (DoneReply cid names) = tt
  message-other config w fine (Replica i) (AnswerReply cid names) = tt
  message-other config w fine (Replica i) (GossipOf names) = (tt, tt)
  message-other config w fine (Replica i) Blank = tt
  message-other config w fine (Client c) (UpdateCopy call time) = tt
  message-other config w fine (Client c) (QueryCopy call) = tt
  message-other config w fine (Client c) (AckCopy cid time) = tt
  message-other config w fine (Client c) (DoneReply cid names) = (reply-other (w.front c).open_call cid, tt)
  message-other config w fine (Client c) (AnswerReply cid names) = (reply-other (w.front c).open_call cid, tt)
  message-other config w fine (Client c) (GossipOf names) = tt
  message-other config w fine (Client c) Blank = tt

  pub delivery-other : (config : Config) (w : Facts Op) → AnswersFine w → (number : ℕ) (o : Option (SentMessage Op)) → Each (IsOther A) (delivery_lines m config w number o)
  delivery-other config w fine number None = (tt, tt)
  delivery-other config w fine number (Some x) = message-other config w fine x.to x.what

  answers-other : (w : Facts Op) → AnswersFine w → (number i : ℕ) (calls : List (LabelledCall Op)) → Each (IsOther A) (answers m w number i calls)
  answers-other w fine number i [] = tt
  answers-other w fine number i (call ∷ calls) = split (is_within w.accepted call.label (w.received i)) (answers-other w fine (suc number) i calls) (answers-other w fine number i calls)
    where
      split : (t : Bool) → Each (IsOther A) (answers m w (suc number) i calls) → Each (IsOther A) (answers m w number i calls)
          → Each (IsOther A) (cond t (answer_line m w number i call ∷ answers m w (suc number) i calls) (answers m w number i calls))
      split true more same = (fine i call.op, more)
      split false more same = same

  pub answers_at-other : (w : Facts Op) → AnswersFine w → (o : Option ℕ) → Each (IsOther A) (answers_at m w o)
  answers_at-other w fine None = tt
  answers_at-other w fine (Some i) = answers-other w fine _ i (w.held i)

-- ---- steps

module _ {Value Op : Type 0} (m : Meaning Value Op) (P : Op → Type 0) where
  -- P holds of an update's operation that an event calls
  abbrev pub CallsFine : Event Op → Type 0
  CallsFine (Call client replica reading op) = IsUpdate (m.kind op) → P op
  CallsFine (Resend client replica reading) = Unit {0}
  CallsFine (AckEvent client replica reading) = Unit {0}
  CallsFine (Deliver message) = Unit {0}
  CallsFine (Tick replica reading) = Unit {0}
  CallsFine (GossipEvent from to) = Unit {0}
  CallsFine (Show replica) = Unit {0}

  -- a clock reading changes no call
  read-fine : (w : Facts Op) (client reading : ℕ) → Holds m.kind P w → Holds m.kind P (with_front w client (clock_read reading (w.front client)))
  read-fine w client reading h = record {
    accepted = h.accepted;
    messages = h.messages;
    opened = put-each (λ j f. IsOpenFine m.kind P j f.open_call) client (clock_read reading (w.front client)) w.front (h.opened client) h.opened;
  }

  -- an open call is sent again as an update's only where its operation is one
  resend-fine : (config : Config) (w : Facts Op) (client replica clock : ℕ) (o : Option (LabelledCall Op)) → (w.front client).open_call ≡ o → Holds m.kind P w
      → Holds m.kind P (lines_read m config (alone (Some (Client client))) w (resend_lines m w client replica clock o))
  resend-fine config w client replica clock None is h = h
  resend-fine config w client replica clock (Some call) is h = record { accepted = h.accepted; messages = (copy (is_query (m.kind call.op)) refl, h.messages); opened = h.opened }
    where
      fine : IsOpenFine m.kind P client (Some call)
      fine = subst (IsOpenFine m.kind P client) is (h.opened client)

      copy : (t : Bool) → is_query (m.kind call.op) ≡ t → IsFine P (carried w (Client client) (cond t (Query call.cid) (Update call.cid clock)))
      copy true e = query-fine P _
      copy false e = subst (λ (o : Option (LabelledCall Op)). IsFine P (copy_of o (λ c. UpdateCopy c clock))) (sym (ap (λ j. (w.front j).open_call) fine.0 ∙ is)) (fine.1 e)

  acknowledge-fine : (config : Config) (w : Facts Op) (client replica clock : ℕ) (o : Option Cid) → Holds m.kind P w
      → Holds m.kind P (lines_read m config (alone (Some (Client client))) w (acknowledge_lines w client replica clock o))
  acknowledge-fine config w client replica clock None h = h
  acknowledge-fine config w client replica clock (Some cid) h = record { accepted = h.accepted; messages = (tt, h.messages); opened = h.opened }

  -- a call is sent as an update's only where its operation is one
  call-fine : (config : Config) (w : Facts Op) (client replica reading clock : ℕ) (op : Op) (o : Option (LabelledCall Op)) (worn : Bool) → (IsUpdate (m.kind op) → P op) → Holds m.kind P w
      → Holds m.kind P (lines_read m config (alone (Some (Client client))) (record w { front = put_at client (call_read client reading op (w.front client) o worn) w.front }) (call_lines m w client replica clock op o worn))
  call-fine config w client replica reading clock op (Some call) worn fine h = read-fine w client reading h
  call-fine config w client replica reading clock op None true fine h = read-fine w client reading h
  call-fine config w client replica reading clock op None false fine h = record {
    accepted = h.accepted;
    messages = (copy (is_query (m.kind op)) refl, h.messages);
    opened = put-each (λ j f. IsOpenFine m.kind P j f.open_call) client (call_read client reading op (w.front client) None false) w.front (refl, fine) h.opened;
  }
    where
      copy : (t : Bool) → is_query (m.kind op) ≡ t
          → IsFine P (carried (record w { front = put_at client (call_read client reading op (w.front client) None false) w.front }) (Client client) (cond t (Query (next_call client (w.front client) op).cid) (Update (next_call client (w.front client) op).cid clock)))
      copy true e = query-fine P _
      copy false e = subst (λ (f : FrontFacts Op). IsFine P (copy_of f.open_call (λ call. UpdateCopy call clock))) (sym (put_at-same client (call_read client reading op (w.front client) None false) w.front)) (fine e)

  -- the message that an event delivers was sent before
  came-fine : (w : Facts Op) (event : Event Op) → Holds m.kind P w → CameFine P (delivery_of w event)
  came-fine w (Call client replica reading op) h = tt
  came-fine w (Resend client replica reading) h = tt
  came-fine w (AckEvent client replica reading) h = tt
  came-fine w (Tick replica reading) h = tt
  came-fine w (Deliver message) h = found-fine P message w.messages h.messages
  came-fine w (GossipEvent from to) h = tt
  came-fine w (Show replica) h = tt

  -- P holds on after the lines of the event itself
  pub own-fine : (config : Config) (w : Facts Op) (event : Event Op) → CallsFine event → Holds m.kind P w → Holds m.kind P (lines_read m config (handling w event) (event_read w event) (own_lines m config w event))
  own-fine config w (Call client replica reading op) fine h = call-fine config w client replica reading _ op (w.front client).open_call ((w.front client).calls == 2 ^ 62) fine h
  own-fine config w (Resend client replica reading) fine h =
      let now = with_front w client (clock_read reading (w.front client)) in
      resend-fine config now client replica (max (w.front client).clock reading) (w.front client).open_call (ap (λ (f : FrontFacts Op). f.open_call) (put_at-same client (clock_read reading (w.front client)) w.front)) (read-fine w client reading h)
  own-fine config w (AckEvent client replica reading) fine h =
      let now = with_front w client (clock_read reading (w.front client)) in
      acknowledge-fine config now client replica (max (w.front client).clock reading) (w.front client).answered (read-fine w client reading h)
  own-fine config w (Tick replica reading) fine h = record { accepted = h.accepted; messages = h.messages; opened = h.opened }
  own-fine config w (Deliver message) fine h =
      lines-fine m config P IsAny (handling w (Deliver message)) w (own_lines m config w (Deliver message)) (came-fine w (Deliver message) h)
      (delivery-other m IsAny config w (λ i op. tt) message (delivery_of w (Deliver message))) h
  own-fine config w (GossipEvent from to) fine h = lines-fine m config P IsAny (handling w (GossipEvent from to)) w (own_lines m config w (GossipEvent from to)) tt (tt, tt) h
  own-fine config w (Show replica) fine h = lines-fine m config P IsAny (handling w (Show replica)) w (own_lines m config w (Show replica)) tt (tt, tt) h

  -- after all lines of the event
  event-fine : (config : Config) (w : Facts Op) (event : Event Op) → CallsFine event → Holds m.kind P w → Holds m.kind P (lines_read m config (handling w event) (event_read w event) (outcomes_of m config w event))
  event-fine config w event fine h =
      let own = own_lines m config w event in
      let mid = lines_read m config (handling w event) (event_read w event) own in
      let last = answers_at m mid (stepping w event) in
      subst (λ (v : Facts Op). Holds m.kind P v) (sym (lines_read-append m config (handling w event) (event_read w event) own last))
      (lines-fine m config P IsAny (handling w event) mid last (came-fine w event h) (answers_at-other m IsAny mid (λ i op. tt) (stepping w event)) (own-fine config w event fine h))

  ended-fine : (config : Config) (o : Option ℕ) (w : Facts Op) → Holds m.kind P w → Holds m.kind P (step_ended m config o w)
  ended-fine config None w h = h
  ended-fine config (Some i) w h = record { accepted = h.accepted; messages = h.messages; opened = h.opened }

  -- and after the whole step
  pub step-fine : (config : Config) (w : Facts Op) (step : Step Op) → CallsFine step.event → step.outcomes ≡ outcomes_of m config w step.event → Holds m.kind P w → Holds m.kind P (after m config w step)
  step-fine config w step fine legal h =
      ended-fine config (stepping w step.event) _ (subst (λ (lines : List Outcome). Holds m.kind P (lines_read m config (handling w step.event) (event_read w step.event) lines)) (sym legal) (event-fine config w step.event fine h))

  legal-fine : (config : Config) (w : Facts Op) (steps : List (Step Op)) → Each (λ step. CallsFine step.event) steps → LegalFrom m config w steps → Holds m.kind P w → Holds m.kind P (facts_after m config w steps)
  legal-fine config w [] fine legal h = h
  legal-fine config w (step ∷ steps) fine legal h = legal-fine config (after m config w step) steps fine.1 legal.1 (step-fine config w step fine.0 legal.0.outcomes h)

-- ---- accepted updates

module _ {Value Op : Type 0} (m : Meaning Value Op) where
  -- of an update that is called it holds that it is one
  calls-updates : (event : Event Op) → CallsFine m (λ op. IsUpdate (m.kind op)) event
  calls-updates (Call client replica reading op) = λ is. is
  calls-updates (Resend client replica reading) = tt
  calls-updates (AckEvent client replica reading) = tt
  calls-updates (Deliver message) = tt
  calls-updates (Tick replica reading) = tt
  calls-updates (GossipEvent from to) = tt
  calls-updates (Show replica) = tt

  each-told : (kind_of : Op → Kind) → ((op : Op) → m.kind op ≡ kind_of op) → (accepted : List (AcceptedUpdate Op)) → Each (λ a. IsUpdate (m.kind a.op)) (map acceptance_of accepted) → Each (λ a. IsUpdate (kind_of a.op)) accepted
  each-told kind_of kinds [] each = tt
  each-told kind_of kinds (a ∷ accepted) each = (ap is_query (sym (kinds a.op)) ∙ each.0, each-told kind_of kinds accepted each.1)

  -- what is told to be accepted after a legal history are updates
  pub told-updates : (kind_of : Op → Kind) → ((op : Op) → m.kind op ≡ kind_of op) → (config : Config) (steps : List (Step Op)) (g : Gathered Op) → IsLegal m config steps → gathered_facts g ≡ bare (facts_after m config first_facts steps) → Each (λ a. IsUpdate (kind_of a.op)) g.accepted
  told-updates kind_of kinds config steps g legal is =
      each-told kind_of kinds g.accepted
      (subst (λ (accepted : List (Acceptance Op)). Each (λ a. IsUpdate (m.kind a.op)) accepted) (sym (ap (λ (w : Facts Op). w.accepted) is))
      (legal-fine m (λ op. IsUpdate (m.kind op)) config first_facts steps (each-from _ steps (λ step member. calls-updates step.event)) legal (record { accepted = tt; messages = tt; opened = λ client. tt })).accepted)
