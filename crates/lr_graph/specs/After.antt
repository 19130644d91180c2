-- To be believed: how the facts of a history change: by each event, and by each line that is printed of it.
use Rattle.std.specs.Prelude.{ℕ, suc, ◌^◌, ◌==◌, max, Bool, true, false, not, Option, Some, None}
use Rattle.std.specs.Prelude.{List, [], ◌∷◌, ◌++◌, filter, find}
use Rattle.lr_base.specs.Meaning.{Meaning}
use Rattle.lr_base.specs.declared.events.Event.{Event}
use Rattle.lr_base.specs.declared.events.Event.TheVariants.{Call, Resend, Ack as AckEvent, Deliver, Tick}
use Rattle.lr_base.specs.declared.events.Event.TheVariants.{Gossip as GossipEvent, Show}
use Rattle.lr_base.specs.declared.events.Outcome.{Outcome}
use Rattle.lr_base.specs.declared.events.Outcome.TheVariants.{Send, Accept, Note, Hold, Take, Got, Stale}
use Rattle.lr_base.specs.declared.events.Outcome.TheVariants.{ClockAt, NoMessage, Refuse, State}
use Rattle.lr_base.specs.declared.events.Sent.{Sent}
use Rattle.lr_base.specs.declared.events.Sent.TheVariants.{Update, Query, Ack, Done, Answer, Gossip}
use Rattle.lr_base.specs.declared.events.Step.{Step}
use Rattle.lr_base.specs.declared.names.Actor.{Actor}
use Rattle.lr_base.specs.declared.names.Actor.TheVariants.{Client, Replica}
use Rattle.lr_base.specs.declared.names.Cid.{Cid}
use Rattle.lr_base.specs.declared.names.Config.{Config}
use Rattle.lr_base.specs.declared.names.Spot.{Spot}
use Rattle.lr_graph.specs.Graph.{Carried, Facts, FrontFacts, LabelledCall, SentMessage}
use Rattle.lr_graph.specs.Graph.{UpdateCopy, QueryCopy, AckCopy, DoneReply, AnswerReply, GossipOf, Blank}
use Rattle.lr_graph.specs.Graph.{below_of, is_within, keep_new, ready}
use Rattle.lr_graph.specs.Sets.{SpotSet, nothing, only, put_at, ◌∪◌}

-- the next call of a front end, with the label that it has
-- for example: `0.2` after one call
abbrev pub next_call : {Op : Type 0} → ℕ → FrontFacts Op → Op → LabelledCall Op
next_call client front op = record {
  cid = record { client = client; seq = suc front.calls };
  op = op;
  label = front.label;
}

-- a front end after a clock reading
-- for example: clock 5 and the reading 3 give 5
abbrev pub clock_read : {Op : Type 0} → ℕ → FrontFacts Op → FrontFacts Op
clock_read reading front = record front { clock = max front.clock reading }

-- a call's reading counts in any case, and the call opens where none is open and a number is left
-- for example: reading 5: clock 5, and `0.1` is open
abbrev pub call_read : {Op : Type 0} → ℕ → ℕ → Op → FrontFacts Op → Option (LabelledCall Op) → Bool → FrontFacts Op
call_read client reading op front (Some call) worn = clock_read reading front
call_read client reading op front None true = clock_read reading front
call_read client reading op front None false = record (clock_read reading front) {
  calls = suc front.calls;
  open_call = Some (next_call client front op);
}

-- the facts with this front end in its client's place
-- for example: `0.1` is open at client 0
abbrev pub with_front : {Op : Type 0} → Facts Op → ℕ → FrontFacts Op → Facts Op
with_front w client front = record w { front = put_at client front w.front }

-- the facts after an event, before its lines are read: a call is made, and each reading given to a front end counts
-- for example: `0.1` is open before its `send` line is read
abbrev pub event_read : {Op : Type 0} → Facts Op → Event Op → Facts Op
event_read w (Call client replica reading op) =
    let front = w.front client in
    let next = call_read client reading op front front.open_call (front.calls == 2 ^ 62) in
    with_front w client next
event_read w (Resend client replica reading) = with_front w client (clock_read reading (w.front client))
event_read w (AckEvent client replica reading) = with_front w client (clock_read reading (w.front client))
event_read w (Deliver message) = w
event_read w (Tick replica reading) = w
event_read w (GossipEvent from to) = w
event_read w (Show replica) = w

-- the message that an event delivers
-- for example: of `deliver 1`, the copy of `0.1`; of `show 0`, none
abbrev pub delivery_of : {Op : Type 0} → Facts Op → Event Op → Option (SentMessage Op)
delivery_of w (Call client replica reading op) = None
delivery_of w (Resend client replica reading) = None
delivery_of w (AckEvent client replica reading) = None
delivery_of w (Deliver message) = find (λ x. x.number == message) w.messages
delivery_of w (Tick replica reading) = None
delivery_of w (GossipEvent from to) = None
delivery_of w (Show replica) = None

-- the replica that an actor is
-- for example: 0 of `r0`; none of `c0`
abbrev pub replica_of : Actor → Option ℕ
replica_of (Replica i) = Some i
replica_of (Client client) = None

-- the replica among actors, if there is an actor and it is one
abbrev pub replica_in : Option Actor → Option ℕ
replica_in None = None
replica_in (Some actor) = replica_of actor

-- whom a message comes to, if one came
abbrev pub receiver : {Op : Type 0} → Option (SentMessage Op) → Option Actor
receiver None = None
receiver (Some x) = Some x.to

-- the actor whose step an event is, if there is one: a show is nobody's, nor is a delivery of nothing
abbrev pub acting : {Op : Type 0} → Facts Op → Event Op → Option Actor
acting w (Call client replica reading op) = Some (Client client)
acting w (Resend client replica reading) = Some (Client client)
acting w (AckEvent client replica reading) = Some (Client client)
acting w (Deliver message) = receiver (delivery_of w (Deliver message))
acting w (Tick replica reading) = Some (Replica replica)
acting w (GossipEvent from to) = Some (Replica from)
acting w (Show replica) = None

-- the replica that an event is a step of, if it is a replica's
-- for example: 0 of `deliver 1` and of `gossip 0 1`; none of `deliver 2` and of `show 0`
abbrev pub stepping : {Op : Type 0} → Facts Op → Event Op → Option ℕ
stepping w event = replica_in (acting w event)

-- whose step it is, and the message that came in it, where there are such
pub record Handling (Op : Type 0) : Type 0 where
  pub actor : Option Actor
  pub came : Option (SentMessage Op)

-- an event is handled by the actor whose step it is, with the message that it delivers
abbrev pub handling : {Op : Type 0} → Facts Op → Event Op → Handling Op
handling w event = record { actor = acting w event; came = delivery_of w event }

-- the causes of a causal update: what its label names
-- for example: nothing for `0.1`
abbrev pub causes_of : {Op : Type 0} → LabelledCall Op → SpotSet
causes_of call = call.label

-- what is sent of an open call
abbrev pub copy_of : {Op : Type 0} → Option (LabelledCall Op) → (LabelledCall Op → Carried Op) → Carried Op
copy_of None copy = Blank
copy_of (Some call) copy = copy call

-- what is ready at an actor: nothing at a front end
-- for example: `0:1` at `r0` after the addition
abbrev pub ready_at : {Op : Type 0} → Facts Op → Actor → SpotSet
ready_at w (Replica i) = ready w.accepted (w.received i)
ready_at w (Client client) = nothing

-- what is received at an actor: nothing at a front end
-- for example: `0:1` at `r0` after the addition
abbrev pub received_at : {Op : Type 0} → Facts Op → Actor → SpotSet
received_at w (Replica i) = w.received i
received_at w (Client client) = nothing

-- what a message carries that is sent now: its client's open call, an acknowledged call, what a reply stands for, or
-- what a replica received
-- for example: `done 0.1 as 0:1` carries what is below `0:1`
abbrev pub carried : {Op : Type 0} → Facts Op → Actor → Sent → Carried Op
carried w from (Update cid time) = copy_of (w.front cid.client).open_call (λ call. UpdateCopy call time)
carried w from (Query cid) = copy_of (w.front cid.client).open_call QueryCopy
carried w from (Ack cid time) = AckCopy cid time
carried w from (Done cid spot) = DoneReply cid (below_of w.accepted spot)
carried w from (Answer cid text) = AnswerReply cid (ready_at w from)
carried w from Gossip = GossipOf (received_at w from)

-- a replica accepts a call: it receives the new acceptance
-- for example: after `accept 0:1 0.1`, `r0` received `0:1`
abbrev pub accepts : {Op : Type 0} → Facts Op → ℕ → Spot → LabelledCall Op → Facts Op
accepts w i spot call = record w {
  accepted = record { spot = spot; cid = call.cid; op = call.op; below = causes_of call ∪ only spot } ∷ w.accepted;
  received = put_at i (w.received i ∪ only spot) w.received;
}

-- a front end after the reply to its open call: its label names what the reply stands for, and this is the last
-- answered update then
-- for example: after `got 0.1` the label names `0:1`
abbrev pub replied : {Op : Type 0} → SpotSet → Option Cid → FrontFacts Op → FrontFacts Op
replied names answered front =
    record front { label = front.label ∪ names; open_call = None; answered = answered }

-- a client takes the reply to its open call
-- for example: after `got 0.1` no call of client 0 is open
abbrev pub takes_reply : {Op : Type 0} → Facts Op → ℕ → SpotSet → Option Cid → Facts Op
takes_reply w client names answered =
    with_front w client (replied names answered (w.front client))

-- the facts after `accept`: a replica that an update came to accepts its call
-- for example: `accept 0:1 0.1`
abbrev pub accept_read : {Op : Type 0} → Facts Op → Spot → Actor → Carried Op → Facts Op
accept_read w spot (Replica i) (UpdateCopy call time) = accepts w i spot call
accept_read w spot _ _ = w

-- a replica notes an acknowledgement: it receives the new item
-- for example: after `note 0:2 0.1`, `r0` received `0:2`
abbrev pub notes : {Op : Type 0} → Facts Op → ℕ → Spot → Cid → ℕ → Facts Op
notes w i spot cid time = record w {
  acks = record { spot = spot; cid = cid; time = time } ∷ w.acks;
  received = put_at i (w.received i ∪ only spot) w.received;
}

-- the facts after `note`: a replica that an acknowledgement came to notes it
-- for example: `note 0:2 0.1`
abbrev pub note_read : {Op : Type 0} → Facts Op → Spot → Actor → Carried Op → Facts Op
note_read w spot (Replica i) (AckCopy cid time) = notes w i spot cid time
note_read w spot _ _ = w

-- the facts after `hold`: a replica that a query came to holds it behind the others
-- for example: `hold 0.2`
abbrev pub hold_read : {Op : Type 0} → Facts Op → Actor → Carried Op → Facts Op
hold_read w (Replica i) (QueryCopy call) = record w { held = put_at i (w.held i ++ call ∷ []) w.held }
hold_read w _ _ = w

-- the facts after `got`: a front end that a reply came to takes it; that to an update is of the last answered one
-- for example: `got 0.1`
abbrev pub got_read : {Op : Type 0} → Facts Op → Actor → Carried Op → Facts Op
got_read w (Client client) (DoneReply cid names) = takes_reply w client names (Some cid)
got_read w (Client client) (AnswerReply cid names) = takes_reply w client names (w.front client).answered
got_read w _ _ = w

-- what a replica was told, once its sender told it this
-- for example: `0:1` by `r0` at `r1`, where gossip of `r0` carried it
abbrev pub told_more : Actor → ℕ → SpotSet → (ℕ → ℕ → SpotSet) → ℕ → ℕ → SpotSet
told_more (Replica k) i names told = put_at i (put_at k (told i k ∪ names) (told i)) told
told_more (Client client) i names told = told

-- a replica takes gossip: it receives what this names, and was told it by its sender
-- for example: after `take 1`, `r1` received `0:1`
abbrev pub takes : {Op : Type 0} → Facts Op → Actor → ℕ → SpotSet → Facts Op
takes w from i names = record w {
  received = put_at i (w.received i ∪ names) w.received;
  told = told_more from i names w.told;
}

-- the facts after `take`: a replica that gossip came to takes it
-- for example: `take 1`
abbrev pub take_read : {Op : Type 0} → Facts Op → Actor → Actor → Carried Op → Facts Op
take_read w from (Replica i) (GossipOf names) = takes w from i names
take_read w from _ _ = w

-- the facts where a message came, if one did: what it changes goes by its receiver and what it carries
abbrev pub with_message : {Op : Type 0} → Facts Op → Option (SentMessage Op)
    → (Actor → Carried Op → Facts Op) → Facts Op
with_message w None change = w
with_message w (Some x) change = change x.to x.what

-- and where it goes by its sender too
abbrev pub with_sender : {Op : Type 0} → Facts Op → Option (SentMessage Op)
    → (Actor → Actor → Carried Op → Facts Op) → Facts Op
with_sender w None change = w
with_sender w (Some x) change = change x.from x.to x.what

-- a replica has read its clock
-- for example: `clock 5`
abbrev pub clock_set : {Op : Type 0} → Facts Op → ℕ → ℕ → Facts Op
clock_set w i reading = record w { clock = put_at i reading w.clock }

-- the facts where it is a replica's step
abbrev pub at_replica : {Op : Type 0} → Facts Op → Option ℕ → (ℕ → Facts Op) → Facts Op
at_replica w None change = w
at_replica w (Some i) change = change i

-- the facts after a line of such a step: all but these seven change nothing
-- for example: `stale 0.1` changes nothing
abbrev pub line_read : {Value Op : Type 0} → Meaning Value Op → Config → Handling Op → Facts Op → Outcome → Facts Op
line_read m config x w (Send number from to what) =
    record w { messages = record { number = number; from = from; to = to; what = carried w from what } ∷ w.messages }
line_read m config x w (Accept spot cid) = with_message w x.came (accept_read w spot)
line_read m config x w (Note spot cid) = with_message w x.came (note_read w spot)
line_read m config x w (Hold cid) = with_message w x.came (hold_read w)
line_read m config x w (Take count) = with_sender w x.came (take_read w)
line_read m config x w (Got cid) = with_message w x.came (got_read w)
line_read m config x w (Stale cid) = w
line_read m config x w (ClockAt reading) = at_replica w (replica_in x.actor) (λ i. clock_set w i reading)
line_read m config x w (NoMessage message) = w
line_read m config x w (Refuse why) = w
line_read m config x w (State line) = w

-- the facts after several lines
abbrev pub lines_read : {Value Op : Type 0} → Meaning Value Op → Config → Handling Op → Facts Op → List Outcome
    → Facts Op
lines_read m config x w [] = w
lines_read m config x w (line ∷ lines) = lines_read m config x (line_read m config x w line) lines

-- at the end of a replica's step its answered queries are held no more, and it keeps a spot of each call that got ready
-- for example: `r0` keeps `0:1` of `0.1`
abbrev pub end_read : {Op : Type 0} → Facts Op → ℕ → Facts Op
end_read w i = record w {
  held = put_at i (filter (λ call. not (is_within w.accepted call.label (w.received i))) (w.held i)) w.held;
  kept = put_at i (keep_new w.accepted (ready w.accepted (w.received i)) w.accepted (w.kept i)) w.kept;
}

-- the facts at the end of a step of this replica, if it is a replica's
-- for example: a call's step ends with nothing more
abbrev pub step_ended : {Value Op : Type 0} → Meaning Value Op → Config → Option ℕ → Facts Op → Facts Op
step_ended m config None w = w
step_ended m config (Some i) w = end_read w i

-- the facts after a step
abbrev pub after : {Value Op : Type 0} → Meaning Value Op → Config → Facts Op → Step Op → Facts Op
after m config w step =
    let now = lines_read m config (handling w step.event) (event_read w step.event) step.outcomes in
    step_ended m config (stepping w step.event) now
