-- To be believed: which outcomes an event may have, and which histories are legal.
use Rattle.std.specs.Prelude.{◌≡◌, ◌^◌, ℕ, suc, ◌==◌, nat_lt, max, Bool, true, false, ◌&&◌, not, if◌then◌else◌}
use Rattle.std.specs.Prelude.{List, [], ◌∷◌, ◌++◌, filter, find, length, map, Option, Some, None}
use Rattle.std.specs.Option.{option_map}
use Rattle.lr_base.specs.Ascending.{same_cid}
use Rattle.lr_base.specs.Config.{is_late}
use Rattle.lr_base.specs.Kinds.{has_rules, is_query}
use Rattle.lr_base.specs.Meaning.{Meaning}
use Rattle.lr_base.specs.declared.events.Event.{Event}
use Rattle.lr_base.specs.declared.events.Event.TheVariants.{Call, Resend, Ack as AckEvent, Deliver, Tick}
use Rattle.lr_base.specs.declared.events.Event.TheVariants.{Gossip as GossipEvent, Show}
use Rattle.lr_base.specs.declared.events.Outcome.{Outcome}
use Rattle.lr_base.specs.declared.events.Outcome.TheVariants.{Send, Accept, Note, Hold, Take, Got, Stale}
use Rattle.lr_base.specs.declared.events.Outcome.TheVariants.{ClockAt, NoMessage, Refuse, State}
use Rattle.lr_base.specs.declared.events.Refusal.TheVariants.{Again, FullLog, FullHeld, Idle, Late, Nothing, Noted}
use Rattle.lr_base.specs.declared.events.Refusal.TheVariants.{Settled, Unfinished, Worn}
use Rattle.lr_base.specs.declared.events.Sent.TheVariants.{Update, Query, Ack, Done, Answer, Gossip}
use Rattle.lr_base.specs.declared.events.StateLine.{StateLine}
use Rattle.lr_base.specs.declared.events.Step.{Step}
use Rattle.lr_base.specs.declared.names.Actor.{Actor}
use Rattle.lr_base.specs.declared.names.Actor.TheVariants.{Client, Replica}
use Rattle.lr_base.specs.declared.names.Cid.{Cid}
use Rattle.lr_base.specs.declared.names.Config.{Config}
use Rattle.lr_base.specs.declared.names.Spot.{Spot}
use Rattle.lr_graph.specs.After.{after, delivery_of, event_read, handling, lines_read, next_call, stepping}
use Rattle.lr_graph.specs.Graph.{Carried, Facts, LabelledCall, SentMessage, first_facts}
use Rattle.lr_graph.specs.Graph.{UpdateCopy, QueryCopy, AckCopy, DoneReply, AnswerReply, GossipOf}
use Rattle.lr_graph.specs.Graph.{calls_of, counts, is_within, item_spots, kept_spot, least_spot, made}
use Rattle.lr_graph.specs.Graph.{ready, size_of, spots_of, value}
use Rattle.lr_graph.specs.Pruned.{acked, is_known, log_size, logged}
use Rattle.lr_graph.specs.Sets.{SpotSet}

-- the number of the next message
-- for example: 3 after two messages
abbrev pub next_number : {Op : Type 0} → Facts Op → ℕ
next_number w = suc (length w.messages)

-- whether a replica may log one more item
-- for example: true of 511 items, false of 512
abbrev pub has_room : {Op : Type 0} → Config → Facts Op → ℕ → Bool
has_room config w i = nat_lt (log_size config w i) 512

-- whether a replica's place has a number left
-- for example: true of `r0` after the addition
abbrev pub has_number : {Op : Type 0} → Facts Op → ℕ → Bool
has_number w i = nat_lt (made (item_spots w) i) (2 ^ 62)

-- the next spot of a replica's place, which an update or an acknowledgement takes
-- for example: `0:2` of `r0` after the addition
abbrev pub next_spot : {Op : Type 0} → Facts Op → ℕ → Spot
next_spot w i = record { place = i; number = suc (made (item_spots w) i) }

-- where a replica logs an acknowledgement of a call
-- for example: `0:2` of `0.1`
abbrev pub noted_at : {Op : Type 0} → Config → Facts Op → ℕ → Cid → Option Spot
noted_at config w i cid = option_map (λ a. a.spot) (find (λ a. same_cid a.cid cid) (acked config w i))

-- the spot that a replica keeps of a call that it still knows
-- for example: `0:1` of `0.1`
abbrev pub kept_at : {Op : Type 0} → Config → Facts Op → ℕ → Cid → Option Spot
kept_at config w i cid = if is_known config w i cid then kept_spot (w.kept i) cid else None

-- where a replica took a call before: at the spot that it keeps of the call, or else the least one that it logs
-- for example: `0:1` for a second copy of `0.1`
abbrev pub taken_at : {Op : Type 0} → Config → Facts Op → ℕ → Cid → Option Spot → Option Spot
taken_at config w i cid (Some spot) = Some spot
taken_at config w i cid None = least_spot w.accepted (logged config w i) cid

-- a copy of a call goes out: of a query without a time, of an update with its front end's clock
-- for example: `send 1 c0 r0 update 0.1 at 5`
abbrev pub copy_line : {Value Op : Type 0} → Meaning Value Op → Facts Op → ℕ → ℕ → ℕ → LabelledCall Op → Outcome
copy_line m w client replica clock call =
    let what = if is_query (m.kind call.op) then Query call.cid else Update call.cid clock in
    Send (next_number w) (Client client) (Replica replica) what

-- a call is sent where none is open and a number is left
-- for example: `send 1 c0 r0 update 0.1 at 5`; `refuse open 0.1`
abbrev pub call_lines : {Value Op : Type 0} → Meaning Value Op → Facts Op → ℕ → ℕ → ℕ → Op
    → Option (LabelledCall Op) → Bool → List Outcome
call_lines m w client replica clock op (Some call) worn = Refuse (Unfinished call.cid) ∷ []
call_lines m w client replica clock op None true = Refuse Worn ∷ []
call_lines m w client replica clock op None false =
    copy_line m w client replica clock (next_call client (w.front client) op) ∷ []

-- an open call is sent again
-- for example: `send 2 c0 r1 update 0.1 at 6`; `refuse idle`
abbrev pub resend_lines : {Value Op : Type 0} → Meaning Value Op → Facts Op → ℕ → ℕ → ℕ → Option (LabelledCall Op)
    → List Outcome
resend_lines m w client replica clock None = Refuse Idle ∷ []
resend_lines m w client replica clock (Some call) = copy_line m w client replica clock call ∷ []

-- the last answered update is acknowledged
-- for example: `send 4 c0 r0 ack 0.1 at 7`; `refuse nothing`
abbrev pub acknowledge_lines : {Op : Type 0} → Facts Op → ℕ → ℕ → ℕ → Option Cid → List Outcome
acknowledge_lines w client replica clock None = Refuse Nothing ∷ []
acknowledge_lines w client replica clock (Some cid) =
    Send (next_number w) (Client client) (Replica replica) (Ack cid clock) ∷ []

-- the reply to an update
-- for example: `send 2 r0 c0 done 0.1 as 0:1`
abbrev pub done_line : {Op : Type 0} → Facts Op → ℕ → Cid → Spot → Outcome
done_line w i cid spot = Send (next_number w) (Replica i) (Client cid.client) (Done cid spot)

-- a new update is refused where the log is full or the place's numbers are used up,
-- and else takes the place's next spot
-- for example: `accept 0:1 0.1` and its reply
abbrev pub accept_lines : {Op : Type 0} → Facts Op → ℕ → Cid → Bool → Bool → List Outcome
accept_lines w i cid false number = Refuse FullLog ∷ []
accept_lines w i cid true false = Refuse Worn ∷ []
accept_lines w i cid true true = Accept (next_spot w i) cid ∷ done_line w i cid (next_spot w i) ∷ []

-- an update that is late is refused, one that was taken before is replied to again, and one that was acknowledged is
-- refused
-- for example: a second copy of `0.1` is refused with `0:1`, and replied to
abbrev pub update_lines : {Op : Type 0} → Config → Facts Op → ℕ → Cid → ℕ → Bool → Option Spot → Option Spot
    → List Outcome
update_lines config w i cid time true taken noted = Refuse (Late time (w.clock i)) ∷ []
update_lines config w i cid time false (Some spot) noted = Refuse (Again spot) ∷ done_line w i cid spot ∷ []
update_lines config w i cid time false None (Some spot) = Refuse Settled ∷ []
update_lines config w i cid time false None None = accept_lines w i cid (has_room config w i) (has_number w i)

-- an acknowledgement is refused where one of its call is logged, the log is full or the place's numbers are used up,
-- and else takes the place's next spot
-- for example: `note 0:2 0.1`; `refuse noted 0:2` when it comes again
abbrev pub ack_lines : {Op : Type 0} → Facts Op → ℕ → Cid → Option Spot → Bool → Bool → List Outcome
ack_lines w i cid (Some spot) room number = Refuse (Noted spot) ∷ []
ack_lines w i cid None false number = Refuse FullLog ∷ []
ack_lines w i cid None true false = Refuse Worn ∷ []
ack_lines w i cid None true true = Note (next_spot w i) cid ∷ []

-- the answer to a query: what the service reads after just what is ready
-- for example: the answer 3 to `0.2`
abbrev pub answer_line : {Value Op : Type 0} → Meaning Value Op → Facts Op → ℕ → ℕ → LabelledCall Op → Outcome
answer_line m w number i call =
    let after = value m w.accepted (ready w.accepted (w.received i)) in
    Send number (Replica i) (Client call.cid.client) (Answer call.cid (m.read after call.op))

-- a query is answered where all that its label names is received, and else held while there is room
-- for example: `hold 0.2` where `0:1` isn't received
abbrev pub query_lines : {Value Op : Type 0} → Meaning Value Op → Facts Op → ℕ → LabelledCall Op → Bool → Bool
    → List Outcome
query_lines m w i call true room = answer_line m w (next_number w) i call ∷ []
query_lines m w i call false true = Hold call.cid ∷ []
query_lines m w i call false false = Refuse FullHeld ∷ []

-- a reply is taken by the call that is open, if it is that call's
-- for example: `got 0.1`; `stale 0.1` when it comes again
abbrev pub reply_line : {Op : Type 0} → Option (LabelledCall Op) → Cid → Outcome
reply_line None cid = Stale cid
reply_line (Some call) cid = if same_cid call.cid cid then Got cid else Stale cid

-- gossip is taken: so many of the items that it carries weren't received before
-- for example: `take 1`, and `take 0` when it comes again
abbrev pub take_line : {Op : Type 0} → Facts Op → ℕ → SpotSet → Outcome
take_line w i names = Take (size_of (item_spots w) (λ spot. names spot && not (w.received i spot)))

-- a copy of an update comes to a replica: a causal one is taken, and one of another kind has no rule there
abbrev pub copy_lines : {Op : Type 0} → Config → Facts Op → ℕ → LabelledCall Op → ℕ → Bool → List Outcome
copy_lines config w i call time false = []
copy_lines config w i call time true =
    let taken = taken_at config w i call.cid (kept_at config w i call.cid) in
    let late = is_late time config.delta (w.clock i) in
    update_lines config w i call.cid time late taken (noted_at config w i call.cid)

-- a message comes to an actor: what has no rule there changes nothing
-- for example: a reply at a replica
abbrev pub message_lines : {Value Op : Type 0} → Meaning Value Op → Config → Facts Op → Actor → Carried Op
    → List Outcome
message_lines m config w (Replica i) (UpdateCopy call time) =
    copy_lines config w i call time (has_rules (m.kind call.op))
message_lines m config w (Replica i) (QueryCopy call) =
    query_lines m w i call (is_within w.accepted call.label (w.received i)) (nat_lt (length (w.held i)) 1024)
message_lines m config w (Replica i) (AckCopy cid time) =
    ack_lines w i cid (noted_at config w i cid) (has_room config w i) (has_number w i)
message_lines m config w (Replica i) (GossipOf names) = take_line w i names ∷ []
message_lines m config w (Client client) (DoneReply cid names) = reply_line (w.front client).open_call cid ∷ []
message_lines m config w (Client client) (AnswerReply cid names) = reply_line (w.front client).open_call cid ∷ []
message_lines m config w _ _ = []

-- a message is delivered, where one of this number was sent
-- for example: `none 7` after two messages
abbrev pub delivery_lines : {Value Op : Type 0} → Meaning Value Op → Config → Facts Op → ℕ
    → Option (SentMessage Op) → List Outcome
delivery_lines m config w number None = NoMessage number ∷ []
delivery_lines m config w number (Some x) = message_lines m config w x.to x.what

-- what is printed of a replica
-- for example: `[1, 0]`, no log, the call `0.1`
abbrev pub replica_line : {Op : Type 0} → Config → Facts Op → ℕ → StateLine
replica_line config w i = record {
  replica = i;
  view = 0;
  clock = w.clock i;
  received = counts (item_spots w) (w.received i) (suc config.replicas);
  log = spots_of w.accepted (logged config w i);
  acks = map (λ a. a.spot) (acked config w i);
  calls = filter (is_known config w i) (calls_of w.accepted (ready w.accepted (w.received i)));
  held = map (λ call. call.cid) (w.held i);
  marks = [];
}

-- what an event itself does
-- for example: `send 4 r0 r1 gossip`
abbrev pub own_lines : {Value Op : Type 0} → Meaning Value Op → Config → Facts Op → Event Op → List Outcome
own_lines m config w (Call client replica reading op) =
    let front = w.front client in
    call_lines m w client replica (max front.clock reading) op front.open_call (front.calls == 2 ^ 62)
own_lines m config w (Resend client replica reading) =
    let front = w.front client in
    resend_lines m w client replica (max front.clock reading) front.open_call
own_lines m config w (AckEvent client replica reading) =
    let front = w.front client in
    acknowledge_lines w client replica (max front.clock reading) front.answered
own_lines m config w (Tick replica reading) = ClockAt (max (w.clock replica) reading) ∷ []
own_lines m config w (Deliver message) = delivery_lines m config w message (delivery_of w (Deliver message))
own_lines m config w (GossipEvent from to) = Send (next_number w) (Replica from) (Replica to) Gossip ∷ []
own_lines m config w (Show replica) = State (replica_line config w replica) ∷ []

-- each held query whose label is now received is answered, in the order of arrival
-- for example: `0.2` once `0:1` is received
abbrev pub answers : {Value Op : Type 0} → Meaning Value Op → Facts Op → ℕ → ℕ → List (LabelledCall Op) → List Outcome
answers m w number i [] = []
answers m w number i (call ∷ calls) =
    if is_within w.accepted call.label (w.received i)
    then answer_line m w number i call ∷ answers m w (suc number) i calls
    else answers m w number i calls

-- the held queries that are answered at the end of a step of this replica, if it is a replica's
-- for example: none after `show 0`
abbrev pub answers_at : {Value Op : Type 0} → Meaning Value Op → Facts Op → Option ℕ → List Outcome
answers_at m w None = []
answers_at m w (Some i) = answers m w (next_number w) i (w.held i)

-- the only outcomes that an event may have
-- for example: `got 0.1` for `deliver 2`
abbrev pub outcomes_of : {Value Op : Type 0} → Meaning Value Op → Config → Facts Op → Event Op → List Outcome
outcomes_of m config w event =
    let own = own_lines m config w event in
    own ++ answers_at m (lines_read m config (handling w event) (event_read w event) own) (stepping w event)

-- whether an event is one of the run: the client and the replicas that it names are there, gossip goes to another
-- replica, and what is called is an operation of the service
abbrev pub is_event_in : {Value Op : Type 0} → Meaning Value Op → Config → Event Op → Bool
is_event_in m config (Call client replica reading op) =
    nat_lt client config.clients && (nat_lt replica config.replicas && m.is_op op)
is_event_in m config (Resend client replica reading) = nat_lt client config.clients && nat_lt replica config.replicas
is_event_in m config (AckEvent client replica reading) =
    nat_lt client config.clients && nat_lt replica config.replicas
is_event_in m config (Deliver message) = true
is_event_in m config (Tick replica reading) = nat_lt replica config.replicas
is_event_in m config (GossipEvent from to) =
    nat_lt from config.replicas && (nat_lt to config.replicas && not (from == to))
is_event_in m config (Show replica) = nat_lt replica config.replicas

-- a step is legal after these facts: its event is one of the run, and its outcomes are just those that this may have
pub record IsLegalStep {Value Op : Type 0} (m : Meaning Value Op) (config : Config) (w : Facts Op)
    (step : Step Op) : Type 0 where
  pub event : is_event_in m config step.event ≡ true
  pub outcomes : step.outcomes ≡ outcomes_of m config w step.event

-- each step is legal after the steps before it
-- for example: no step at all
abbrev pub LegalFrom : {Value Op : Type 0} → Meaning Value Op → Config → Facts Op → List (Step Op) → Type 0
LegalFrom m config w [] = Unit {0}
LegalFrom m config w (step ∷ steps) =
    IsLegalStep m config w step × LegalFrom m config (after m config w step) steps

-- a legal history
-- for example: `add_and_read` with `got 0.1` and the answer 3
abbrev pub IsLegal : {Value Op : Type 0} → Meaning Value Op → Config → List (Step Op) → Type 0
IsLegal m config steps = LegalFrom m config first_facts steps
