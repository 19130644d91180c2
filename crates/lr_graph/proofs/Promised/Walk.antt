-- What a legal step changes, and what goes on to hold.
use Rattle.std.proofs.Common.{◌≡◌, ◌^◌, ℕ, suc, max, Bool, true, false, cond, ◌==◌, not, filter, find, inl}
use Rattle.std.proofs.Common.{List, [], ◌∷◌, ◌++◌, length, Option, Some, None, refl, sym, ap, ◌∙◌, subst, arith}
use Rattle.std.proofs.lemmas.List.{append_assoc}
use Rattle.lr_base.specs.Ascending.{same_cid}
use Rattle.lr_base.specs.Kinds.{is_query, has_rules}
use Rattle.lr_base.specs.Meaning.{Meaning}
use Rattle.lr_base.specs.declared.events.Event.{Event}
use Rattle.lr_base.specs.declared.events.Event.TheVariants.{Call, Resend, Ack as AckEvent, Deliver, Tick, Gossip as GossipEvent, Show}
use Rattle.lr_base.specs.declared.events.Outcome.{Outcome}
use Rattle.lr_base.specs.declared.events.Outcome.TheVariants.{Got, Send, Stale}
use Rattle.lr_base.specs.declared.events.Sent.TheVariants.{Update, Query, Ack, Done, Answer, Gossip}
use Rattle.lr_base.specs.declared.events.Step.{Step}
use Rattle.lr_base.specs.declared.names.Actor.{Actor}
use Rattle.lr_base.specs.declared.names.Actor.TheVariants.{Client, Replica}
use Rattle.lr_base.specs.declared.names.Cid.{Cid}
use Rattle.lr_base.specs.declared.names.Config.{Config}
use Rattle.lr_base.specs.declared.names.Spot.{Spot}
use Rattle.lr_graph.specs.After.{clock_read, with_front}
use Rattle.lr_graph.specs.After.{accepts, after, call_read, end_read, event_read, line_read, lines_read, Handling, handling}
use Rattle.lr_graph.specs.After.{got_read, replied, step_ended, stepping, takes_reply}
use Rattle.lr_graph.specs.Closed.{Each, HasApartSpots}
use Rattle.lr_graph.specs.Graph.{Acceptance, Carried, Facts, FrontFacts, LabelledCall, SentMessage}
use Rattle.lr_graph.specs.Graph.{UpdateCopy, QueryCopy, AckCopy, DoneReply, AnswerReply, GossipOf, Blank}
use Rattle.lr_graph.specs.Graph.{below_of, is_within, ready}
use Rattle.lr_graph.specs.Legal.{accept_lines, ack_lines, acknowledge_lines, answer_line, answers, answers_at, call_lines, copy_line, delivery_lines, copy_lines}
use Rattle.lr_graph.specs.Legal.{message_lines, next_number, next_spot, outcomes_of, own_lines, query_lines, reply_line, resend_lines}
use Rattle.lr_graph.specs.Legal.{taken_at, update_lines}
use Rattle.lr_graph.specs.Runs.{RunState}
use Rattle.lr_graph.specs.Sets.{SpotSet, put_at, only, ◌∪◌}
use Rattle.lr_graph.specs.Timed.{WasSent}
use Rattle.lr_graph.specs.Legal.{kept_at}
use Rattle.lr_graph.proofs.Promised.Again.{IsDone, sent-there, taken-again}
use Rattle.lr_graph.proofs.Lists.Members.{each-append, each-at, each-map, filter-each, find-some}
use Rattle.lr_graph.proofs.Lists.Tests.{or-left, same_spot-self}
use Rattle.lr_graph.proofs.Promised.Changes.{IsFine, IsHeldFine, IsNext, Keeps, Rule, opened-more}
use Rattle.lr_graph.proofs.Promised.Changes.{query-fine, update-fine}
use Rattle.lr_graph.proofs.Promised.Changes.{next-accepted, next-front, next-holding, next-more, next-same, next-sent}
use Rattle.lr_graph.proofs.Promised.Changes.{next-clock, next-noted, next-taken}
use Rattle.lr_graph.proofs.Related.Relation.{IsSame, IsThere, calls_in}
use Rattle.lr_graph.proofs.Replicas.Own.{below_of-is}
use Rattle.lr_graph.proofs.Replicas.Stepping.{lines_read-append}
use Rattle.lr_graph.proofs.Handled.{alone, came_in, receiving}

-- ---- the end of a replica's step

module _ {Value Op : Type 0} (m : Meaning Value Op) (config : Config) (w : Facts Op) (i : ℕ) (x : Handling Op) where
  -- answers only send
  abbrev pub Sends : List (SentMessage Op) → List Outcome → Type 0
  Sends messages lines =
      (new : List (SentMessage Op))
      × (lines_read m config x (record w { messages = messages }) lines ≡ record w { messages = new ++ messages })

  pub answers-send : (number : ℕ) (calls : List (LabelledCall Op)) (messages : List (SentMessage Op))
      → Sends messages (answers m w number i calls)
  answers-send number [] messages = ([], refl)
  answers-send number (call ∷ calls) messages =
      by_test (is_within w.accepted call.label (w.received i)) (λ more. answers-send (suc number) calls more)
      (answers-send number calls messages)
    where
      by_test : (t : Bool) → ((more : List (SentMessage Op)) → Sends more (answers m w (suc number) i calls))
          → Sends messages (answers m w number i calls)
          → Sends messages (cond t (answer_line m w number i call ∷ answers m w (suc number) i calls)
          (answers m w number i calls))
      by_test false sent none = none
      by_test true sent none =
          let one : SentMessage Op = record {
            number = number;
            from = Replica i;
            to = Client call.cid.client;
            what = AnswerReply call.cid (ready w.accepted (w.received i));
          } in
          let rest = sent (one ∷ messages) in (
            rest.0 ++ one ∷ [],
            rest.1
                ∙ ap (λ l. record w { messages = l }) (sym (append_assoc rest.0 (one ∷ []) messages)),
          )

module _ {Value Op : Type 0} (m : Meaning Value Op) (config : Config) (w : Facts Op) where
  -- the facts after the lines of the event itself
  abbrev pub own_read : Event Op → Facts Op
  own_read event = lines_read m config (handling w event) (event_read w event) (own_lines m config w event)

  module _ (step : Step Op) (legal : step.outcomes ≡ outcomes_of m config w step.event) where
    pub after-parts : after m config w step ≡ step_ended m config (stepping w step.event) (lines_read m config (handling w step.event)
        (own_read step.event) (answers_at m (own_read step.event) (stepping w step.event)))
    after-parts =
        let x = handling w step.event in
        let start = event_read w step.event in
        ap (λ (lines : List Outcome). step_ended m config (stepping w step.event) (lines_read m config x start lines)) legal
        ∙ ap (step_ended m config (stepping w step.event)) (lines_read-append m config x start (own_lines m config w step.event) _)

    -- behind its own part a step of a replica only sends, and then ends
    pub after-ended : (i : ℕ) → stepping w step.event ≡ Some i → (new : List (SentMessage Op))
        × (after m config w step ≡ end_read
        (record (own_read step.event) { messages = new ++ (own_read step.event).messages }) i)
    after-ended i e =
        let mid = own_read step.event in
        let x = handling w step.event in
        let sent = answers-send m config mid i x (next_number mid) (mid.held i) mid.messages in (
          sent.0,
          after-parts ∙ ap (λ o. step_ended m config o (lines_read m config x mid (answers_at m mid o))) e
              ∙ ap (λ (u : Facts Op). end_read u i) sent.1,
        )

-- ---- a rule goes on to hold

module _ {Value Op : Type 0} (m : Meaning Value Op) (config : Config) (R : Rule) where
  -- facts that come next
  abbrev pub Next : Option ℕ → Facts Op → Facts Op → Type 0
  Next at w next = IsNext R at w next

  -- where a label is received, the rule holds of what is ready too
  abbrev pub IsAnswered : List (Acceptance Op) → Type 0
  IsAnswered l =
      (n : ℕ → ℕ) (cid : Cid) (x r : SpotSet) → R.of n cid x → is_within l x r ≡ true → R.of n cid (ready l r)

  -- the rule holds of a front end's next call
  abbrev pub IsOpened : Facts Op → Type 0
  IsOpened w = (n : ℕ → ℕ) (client : ℕ) (cid : Cid) → cid.client ≡ client → cid.seq ≡ suc (calls_in w client)
      → n client ≡ suc (calls_in w client) → R.of n cid (w.front client).label × R.of_open client cid

  -- ---- a front end sends again, or acknowledges

  copy-next : (w : Facts Op) (client replica clock : ℕ) (call : LabelledCall Op) → Keeps R w
      → Next None w (lines_read m config (alone (Some (Client client))) w (copy_line m w client replica clock call ∷ []))
  copy-next w client replica clock call k = sent (is_query (m.kind call.op))
    where
      sent : (t : Bool) → Next None w (line_read m config (alone (Some (Client client))) w
          (Send (next_number w) (Client client) (Replica replica) (cond t (Query call.cid) (Update call.cid clock))))
      sent true = next-sent R None w k (Client client) (Replica replica) (Query call.cid)
          (query-fine (R.of (calls_in w)) R.of_open w.accepted call.cid.client (w.front call.cid.client).open_call
          (k.opened call.cid.client))
      sent false = next-sent R None w k (Client client) (Replica replica) (Update call.cid clock)
          (update-fine (R.of (calls_in w)) R.of_open w.accepted call.cid.client clock
          (w.front call.cid.client).open_call (k.opened call.cid.client))

  resend-next : (w : Facts Op) (client replica clock : ℕ) (o : Option (LabelledCall Op)) → Keeps R w
      → Next None w (lines_read m config (alone (Some (Client client))) w (resend_lines m w client replica clock o))
  resend-next w client replica clock None k = next-same R None w k
  resend-next w client replica clock (Some call) k = copy-next w client replica clock call k

  acknowledge-next : (w : Facts Op) (client replica clock : ℕ) (o : Option Cid) → Keeps R w
      → Next None w (lines_read m config (alone (Some (Client client))) w (acknowledge_lines w client replica clock o))
  acknowledge-next w client replica clock None k = next-same R None w k
  acknowledge-next w client replica clock (Some cid) k =
      next-sent R None w k (Client client) (Replica replica) (Ack cid clock) tt

  module _ (w : Facts Op) (h : Keeps R w) where
    -- ---- a message comes

    again-next : (i : ℕ) (x : SentMessage Op) (call : LabelledCall Op) (time : ℕ) (spot : Spot) (noted : Option Spot) → HasApartSpots w.accepted
        → IsDone w.accepted call.cid spot
        → Next (Some i) w (lines_read m config (came_in (Some x)) w (update_lines config w i call.cid time false (Some spot) noted))
    again-next i x call time spot noted apart a =
        next-sent R (Some i) w h (Replica i) (Client call.cid.client) (Done call.cid spot)
        (a.0, a.1, a.2, sym (ap (below_of w.accepted) (sym a.3) ∙ below_of-is w.accepted apart a.0 a.1))

    module _ (i number : ℕ) (from : Actor) (call : LabelledCall Op) (fine : R.of (calls_in w) call.cid call.label) where
      abbrev message : Carried Op → SentMessage Op
      message what = record { number = number; from = from; to = Replica i; what = what }

      accepted-next : (time : ℕ) (room left : Bool)
          → Next (Some i) w (lines_read m config (came_in (Some (message (UpdateCopy call time)))) w (accept_lines w i call.cid room left))
      accepted-next time false left = next-same R (Some i) w h
      accepted-next time true false = next-same R (Some i) w h
      accepted-next time true true =
          let spot = next_spot w i in
          let a : Acceptance Op =
          record { spot = spot; cid = call.cid; op = call.op; below = call.label ∪ only spot } in
          next-more R (Some i) w (accepts w i spot call) _ (next-accepted R i w h spot call fine) (λ k.
          next-sent R (Some i) (accepts w i spot call) k (Replica i) (Client call.cid.client) (Done call.cid spot)
          (a, inl refl, refl, sym (ap (λ t. cond t a.below (below_of w.accepted spot)) (same_spot-self spot))))

      query-next : (within room : Bool) → IsAnswered w.accepted → WasSent w.messages (QueryCopy call)
          → is_within w.accepted call.label (w.received i) ≡ within
          → Next (Some i) w (lines_read m config (came_in (Some (message (QueryCopy call)))) w (query_lines m w i call within room))
      query-next true room answered sent e =
          next-sent R (Some i) w h (Replica i) (Client call.cid.client) (Answer call.cid [])
          (answered (calls_in w) call.cid call.label (w.received i) fine e)
      query-next false true answered sent e =
          next-holding R i w h (w.held i ++ call ∷ []) w.kept
          (each-append (IsHeldFine R w) (w.held i) (call ∷ []) (h.held i) ((fine, sent), tt))
      query-next false false answered sent e = next-same R (Some i) w h

    -- a front end takes the reply, or it is stale
    reply-next : (client : ℕ) (cid : Cid) (names : SpotSet) (answered : Option Cid) (o : Option (LabelledCall Op))
        → (x : SentMessage Op) → got_read w x.to x.what ≡ takes_reply w client names answered
        → Next None w (lines_read m config (came_in (Some x)) w (reply_line o cid ∷ []))
    reply-next client cid names answered None x is = next-same R None w h
    reply-next client cid names answered (Some call) x is = by_test (same_cid call.cid cid)
      where
        taken : FrontFacts Op
        taken = replied names answered (w.front client)

        by_test : (t : Bool) → Next None w (lines_read m config (came_in (Some x)) w (cond t (Got cid) (Stale cid) ∷ []))
        by_test false = next-same R None w h
        by_test true =
            subst (Next None w) (sym is)
            (next-front R None w h client taken (λ s e. or-left _ _ e) (omega arith) (λ n up e. tt))

    module _ (v : RunState Value Op) (same : IsSame m config w v) (answered : IsAnswered w.accepted) where
      message-next : (number : ℕ) (from to : Actor) (what : Carried Op) → IsThere config to
          → IsFine (R.of (calls_in w)) w.accepted what → WasSent w.messages what
          → Next (receiving (Some (record { number = number; from = from; to = to; what = what }))) w
          (lines_read m config (came_in (Some (record { number = number; from = from; to = to; what = what }))) w
          (message_lines m config w to what))
      message-next number from (Replica i) (UpdateCopy call time) here fine sent = by_rules (has_rules (m.kind call.op))
        where
          by_spot : (late : Bool) (o noted : Option Spot)
              → taken_at config w i call.cid (kept_at config w i call.cid) ≡ o
              → Next (Some i) w
              (lines_read m config (came_in (Some (message i number from call fine (UpdateCopy call time)))) w
              (update_lines config w i call.cid time late o noted))
          by_spot true o noted e = next-same R (Some i) w h
          by_spot false None None e = accepted-next i number from call fine time _ _
          by_spot false None (Some spot) e = next-same R (Some i) w h
          by_spot false (Some spot) noted e =
              again-next i (message i number from call fine (UpdateCopy call time)) call time spot noted
              same.shared.sound.apart (taken-again m config w v same i here call.cid spot e)

          by_rules : (rules : Bool) → Next (Some i) w
              (lines_read m config (came_in (Some (message i number from call fine (UpdateCopy call time)))) w
              (copy_lines config w i call time rules))
          by_rules false = next-same R (Some i) w h
          by_rules true = by_spot _ (taken_at config w i call.cid (kept_at config w i call.cid)) _ refl
      message-next number from (Replica i) (QueryCopy call) here fine sent =
          query-next i number from call fine _ _ answered sent refl
      message-next number from (Replica i) (AckCopy cid time) here fine sent = by_spot _ _ _
        where
          by_spot : (noted : Option Spot) (room left : Bool) → Next (Some i) w
              (lines_read m config (came_in (Some (record { number = number; from = from; to = Replica i; what = AckCopy cid time }))) w
              (ack_lines w i cid noted room left))
          by_spot (Some spot) room left = next-same R (Some i) w h
          by_spot None false left = next-same R (Some i) w h
          by_spot None true false = next-same R (Some i) w h
          by_spot None true true = next-noted R i w h (next_spot w i) cid time
      message-next number from (Replica i) (DoneReply cid names) here fine sent = next-same R (Some i) w h
      message-next number from (Replica i) (AnswerReply cid names) here fine sent = next-same R (Some i) w h
      message-next number from (Replica i) (GossipOf names) here fine sent = next-taken R i w h from names
      message-next number from (Replica i) Blank here fine sent = next-same R (Some i) w h
      message-next number from (Client c) (UpdateCopy call time) here fine sent = next-same R None w h
      message-next number from (Client c) (QueryCopy call) here fine sent = next-same R None w h
      message-next number from (Client c) (AckCopy cid time) here fine sent = next-same R None w h
      message-next number from (Client c) (DoneReply cid names) here fine sent =
          reply-next c cid names (Some cid) (w.front c).open_call
          (record { number = number; from = from; to = Client c; what = DoneReply cid names }) refl
      message-next number from (Client c) (AnswerReply cid names) here fine sent =
          reply-next c cid names (w.front c).answered (w.front c).open_call
          (record { number = number; from = from; to = Client c; what = AnswerReply cid names }) refl
      message-next number from (Client c) (GossipOf names) here fine sent = next-same R None w h
      message-next number from (Client c) Blank here fine sent = next-same R None w h

      delivery-next : (n : ℕ) (o : Option (SentMessage Op)) → find (λ x. x.number == n) w.messages ≡ o
          → Next (receiving o) w (lines_read m config (came_in o) w (delivery_lines m config w n o))
      delivery-next n None e = next-same R None w h
      delivery-next n (Some x) e =
          let found = find-some (λ x. x.number == n) w.messages x e in
          let fine = each-at (λ x. IsFine (R.of (calls_in w)) w.accepted x.what) x w.messages h.messages found.0 in
          message-next x.number x.from x.to x.what (sent-there m config w v same n x e) fine (x, found.0, refl)

    -- ---- a client calls

    clock-next : (client clock : ℕ)
        → Next None w (record w { front = put_at client (record (w.front client) { clock = clock }) w.front })
    clock-next client clock =
        next-front R None w h client (record (w.front client) { clock = clock }) (λ s e. e) (omega arith) (λ n up e.
        opened-more (R.of (calls_in w)) (R.of n) (R.counts (calls_in w) n up) R.of_open client
        (w.front client).open_call (h.opened client))

    call-next : IsOpened w → (client replica reading clock : ℕ) (op : Op) (o : Option (LabelledCall Op)) (worn : Bool)
        → Next None w (lines_read m config (alone (Some (Client client)))
        (record w { front = put_at client (call_read client reading op (w.front client) o worn) w.front })
        (call_lines m w client replica clock op o worn))
    call-next opens client replica reading clock op (Some call) worn = clock-next client
        (max (w.front client).clock reading)
    call-next opens client replica reading clock op None true = clock-next client (max (w.front client).clock reading)
    call-next opens client replica reading clock op None false =
        next-more R None w next _ (next-front R None w h client new (λ s e. e) (omega arith)
        (λ n up e. opens n client cid refl refl e)) (sent (is_query (m.kind op)))
      where
        new : FrontFacts Op
        new = call_read client reading op (w.front client) None false

        next : Facts Op
        next = record w { front = put_at client new w.front }

        cid : Cid
        cid = record { client = client; seq = suc (calls_in w client) }

        sent : (t : Bool) → Keeps R next → Next None next
            (line_read m config (alone (Some (Client client))) next
            (Send (next_number w) (Client client) (Replica replica) (cond t (Query cid) (Update cid clock))))
        sent true k =
            next-sent R None next k (Client client) (Replica replica) (Query cid)
            (query-fine (R.of (calls_in next)) R.of_open w.accepted client (next.front client).open_call
            (k.opened client))
        sent false k =
            next-sent R None next k (Client client) (Replica replica) (Update cid clock)
            (update-fine (R.of (calls_in next)) R.of_open w.accepted client clock (next.front client).open_call
            (k.opened client))

    -- ---- any event's own part

    pub own-next : (v : RunState Value Op) → IsSame m config w v → IsAnswered w.accepted → IsOpened w
        → (event : Event Op)
        → Next (stepping w event) w (own_read m config w event)
    own-next v same answered opens (Call client replica reading op) =
        call-next opens client replica reading _ op (w.front client).open_call ((w.front client).calls == 2 ^ 62)
    own-next v same answered opens (Resend client replica reading) =
        let now = with_front w client (clock_read reading (w.front client)) in
        next-more R None w now _ (clock-next client (max (w.front client).clock reading)) (λ k.
        resend-next now client replica (max (w.front client).clock reading) (w.front client).open_call k)
    own-next v same answered opens (AckEvent client replica reading) =
        let now = with_front w client (clock_read reading (w.front client)) in
        next-more R None w now _ (clock-next client (max (w.front client).clock reading)) (λ k.
        acknowledge-next now client replica (max (w.front client).clock reading) (w.front client).answered k)
    own-next v same answered opens (Tick i reading) = next-clock R (Some i) w h i (max (w.clock i) reading)
    own-next v same answered opens (Deliver n) = delivery-next v same answered n _ refl
    own-next v same answered opens (GossipEvent from to) = next-sent R (Some from) w h (Replica from)
        (Replica to) Gossip tt
    own-next v same answered opens (Show i) = next-same R None w h

  -- ---- the end of a step

  ended-next : (i : ℕ) (w : Facts Op) → Keeps R w → Next (Some i) w (end_read w i)
  ended-next i w h =
      let waits = λ (call : LabelledCall Op). not (is_within w.accepted call.label (w.received i)) in
      next-holding R i w h (filter waits (w.held i)) (end_read w i).kept
      (each-map _ _ (filter waits (w.held i)) (λ c k. k.0) (filter-each (IsHeldFine R w) waits (w.held i) (h.held i)))

  module _ (w : Facts Op) (i : ℕ) (x : Handling Op) (answered : IsAnswered w.accepted) where
    abbrev now : List (SentMessage Op) → Facts Op
    now messages = record w { messages = messages }

    answers-next : (calls : List (LabelledCall Op)) → Each (λ c. R.of (calls_in w) c.cid c.label) calls
        → (messages : List (SentMessage Op)) → Keeps R (now messages)
        → Next (Some i) (now messages) (lines_read m config x (now messages) (answers m w (suc (length messages)) i calls))
    answers-next [] fine messages k = next-same R (Some i) (now messages) k
    answers-next (call ∷ calls) fine messages k =
        by_test (is_within w.accepted call.label (w.received i)) refl
        (λ more. answers-next calls fine.1 more) (answers-next calls fine.1 messages k)
      where
        by_test : (t : Bool) → is_within w.accepted call.label (w.received i) ≡ t
            → ((more : List (SentMessage Op)) → Keeps R (now more)
            → Next (Some i) (now more) (lines_read m config x (now more) (answers m w (suc (length more)) i calls)))
            → Next (Some i) (now messages) (lines_read m config x (now messages) (answers m w (suc (length messages)) i calls))
            → Next (Some i) (now messages) (lines_read m config x (now messages)
            (cond t (answer_line m w (suc (length messages)) i call ∷ answers m w (suc (suc (length messages))) i calls)
            (answers m w (suc (length messages)) i calls)))
        by_test false e sent none = none
        by_test true e sent none =
            next-more R (Some i) (now messages) _ _
            (next-sent R (Some i) (now messages) k (Replica i) (Client call.cid.client) (Answer call.cid [])
            (answered (calls_in w) call.cid call.label (w.received i) fine.0 e)) (sent _)

  -- ---- a whole step

  pub step-next : (w : Facts Op) (v : RunState Value Op) → Keeps R w → IsSame m config w v → IsAnswered w.accepted
      → IsOpened w → (step : Step Op) → step.outcomes ≡ outcomes_of m config w step.event
      → IsAnswered (after m config w step).accepted → Next (stepping w step.event) w (after m config w step)
  step-next w v h same answered opens step legal last =
      let is = after-parts m config w step legal in
      let own = own-next w h v same answered opens step.event in
      subst (Next (stepping w step.event) w) (sym is)
      (by_actor (stepping w step.event) (own_read m config w step.event) (handling w step.event) own
      (subst (λ (u : Facts Op). IsAnswered u.accepted) is last))
    where
      by_actor : (o : Option ℕ) (mid : Facts Op) (x : Handling Op) → Next o w mid
          → IsAnswered (step_ended m config o (lines_read m config x mid (answers_at m mid o))).accepted
          → Next o w (step_ended m config o (lines_read m config x mid (answers_at m mid o)))
      by_actor None mid x one last = one
      by_actor (Some i) mid x one last =
          let sent = answers-send m config mid i x (next_number mid) (mid.held i) mid.messages in
          let answered = subst IsAnswered (ap (λ (u : Facts Op). u.accepted) sent.1) last in
          next-more R (Some i) w mid _ one (λ k.
          next-more R (Some i) mid _ _ (answers-next mid i x answered (mid.held i)
          (each-map _ _ (mid.held i) (λ c f. f.0) (k.held i)) mid.messages k)
          (ended-next i (lines_read m config x mid (answers m mid (next_number mid) i (mid.held i)))))
