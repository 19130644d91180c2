-- Which facts of a history a program's lists tell.
use Rattle.std.specs.Prelude.{ℕ, ◌^◌, Bool, ◌&&◌, min, map, List, [], Option, Some, None}
use Rattle.std.specs.List.{list_any}
use Rattle.std.specs.Option.{option_map}
use Rattle.lr_base.specs.declared.names.Spot.{Spot}
use Rattle.lr_graph.specs.After.{Handling}
use Rattle.lr_graph.specs.Graph.{Acceptance, Carried, Facts, FrontFacts, LabelledCall, SentMessage, is_within}
use Rattle.lr_graph.specs.Graph.{UpdateCopy, QueryCopy, AckCopy, DoneReply, AnswerReply, GossipOf, Blank}
use Rattle.lr_graph.specs.Sets.{SpotSet, nothing, same_spot}
use Rattle.lr_graph.specs.Tables.{entry_at}
use Rattle.lr_graph.specs.declared.facts.entry.Entry.{Entry}
use Rattle.lr_graph.specs.declared.facts.items.AcceptedUpdate.{AcceptedUpdate}
use Rattle.lr_graph.specs.declared.facts.items.CallCopy.{CallCopy}
use Rattle.lr_graph.specs.declared.facts.items.FrontNow.{FrontNow}
use Rattle.lr_graph.specs.declared.facts.items.Gathered.{Gathered}
use Rattle.lr_graph.specs.declared.facts.items.Handled.{Handled}
use Rattle.lr_graph.specs.declared.facts.items.Load.{Load}
use Rattle.lr_graph.specs.declared.facts.items.Load.TheVariants.{Update, Query, Ack, Done, Answer, Gossip, Nothing}
use Rattle.lr_graph.specs.declared.facts.items.SentCopy.{SentCopy}

-- the set of the spots of a list
-- for example: of `[0:1]`, the set of `0:1` alone
abbrev pub set_of : List Spot → SpotSet
set_of list spot = list_any (same_spot spot) list

-- the acceptance that is told
abbrev pub acceptance_of : {Op : Type 0} → AcceptedUpdate Op → Acceptance Op
acceptance_of a = record { spot = a.spot; cid = a.cid; op = a.op; below = set_of a.below }

-- the call that is told
abbrev pub call_of : {Op : Type 0} → CallCopy Op → LabelledCall Op
call_of call = record { cid = call.cid; op = call.op; label = set_of call.label }

-- what a told message carries
abbrev pub load_of : {Op : Type 0} → Load Op → Carried Op
load_of (Update call time) = UpdateCopy (call_of call) time
load_of (Query call) = QueryCopy (call_of call)
load_of (Ack cid time) = AckCopy cid time
load_of (Done cid names) = DoneReply cid (set_of names)
load_of (Answer cid names) = AnswerReply cid (set_of names)
load_of (Gossip names) = GossipOf (set_of names)
load_of Nothing = Blank

-- the message that is told
abbrev pub sent_message_of : {Op : Type 0} → SentCopy Op → SentMessage Op
sent_message_of x = record { number = x.number; from = x.from; to = x.to; what = load_of x.load }

-- the step that is told: whose it is, and the message that came in it
abbrev pub handling_of : {Op : Type 0} → Handled Op → Handling Op
handling_of x = record { actor = x.actor; came = option_map sent_message_of x.came }

-- the front end that is told: its calls are counted no further than to their most
abbrev pub front_of : {Op : Type 0} → FrontNow Op → FrontFacts Op
front_of front = record {
  label = set_of front.label;
  calls = min front.calls (2 ^ 62);
  clock = front.clock;
  open_call = option_map call_of front.open_call;
  answered = front.answered;
}

-- the set that is told, or nothing
abbrev pub set_or_nothing : Option (List Spot) → SpotSet
set_or_nothing None = nothing
set_or_nothing (Some list) = set_of list

-- a front end that made no call
abbrev pub first_front : {Op : Type 0} → FrontFacts Op
first_front = record { label = nothing; calls = 0; clock = 0; open_call = None; answered = None }

-- the front end that is told, or one that made no call
abbrev pub front_or_first : {Op : Type 0} → Option (FrontNow Op) → FrontFacts Op
front_or_first None = first_front
front_or_first (Some front) = front_of front

-- what is told of each replica
-- for example: at `r0` the set of `0:1`, at `r1` nothing
abbrev pub received_in : List (Entry (List Spot)) → ℕ → SpotSet
received_in entries i = set_or_nothing (entry_at entries i)

-- what is told of each front end
abbrev pub fronts_in : {Op : Type 0} → List (Entry (FrontNow Op)) → ℕ → FrontFacts Op
fronts_in entries client = front_or_first (entry_at entries client)

-- facts without acknowledgements, clocks, what replicas told one another, and what they hold and keep
abbrev pub bare : {Op : Type 0} → Facts Op → Facts Op
bare w = record w { acks = []; told = λ i k. nothing; kept = λ i. []; held = λ i. []; clock = λ i. 0 }

-- the facts that are gathered: all but acknowledgements, clocks, what replicas told one another, and what they hold and
-- keep
abbrev pub gathered_facts : {Op : Type 0} → Gathered Op → Facts Op
gathered_facts g = record {
  accepted = map acceptance_of g.accepted;
  acks = [];
  messages = map sent_message_of g.messages;
  received = received_in g.received;
  told = λ i k. nothing;
  kept = λ i. [];
  held = λ i. [];
  clock = λ i. 0;
  front = fronts_in g.fronts;
}

-- whether an acceptance is received with all its causes
-- for example: true of `0:1` at `r0`
abbrev pub is_ready_among : {Op : Type 0} → List (Acceptance Op) → SpotSet → Acceptance Op → Bool
is_ready_among accepted received a = received a.spot && is_within accepted a.below received
