-- Which outcomes fit on a printed line: their numbers fit in 64 bits, and no answer holds a line feed.
-- The contracts of `what_is_printed_fits` and `printed_tells_histories_apart` cite these.
use Rattle.std.specs.Prelude.{◌≢◌, ℕ, ◌<◌, ◌^◌, List, length}
use Rattle.std.specs.List.{All}
use Rattle.lr_base.specs.declared.events.Event.{Event}
use Rattle.lr_base.specs.declared.events.Event.TheVariants.{Call, Resend, Ack as AckEvent, Deliver, Tick}
use Rattle.lr_base.specs.declared.events.Event.TheVariants.{Gossip as GossipEvent, Show}
use Rattle.lr_base.specs.declared.events.Outcome.{Outcome}
use Rattle.lr_base.specs.declared.events.Outcome.TheVariants.{Send, Accept, Note, Hold, Take, Got, Stale, ClockAt}
use Rattle.lr_base.specs.declared.events.Outcome.TheVariants.{NoMessage, Refuse, State}
use Rattle.lr_base.specs.declared.events.Refusal.{Refusal}
use Rattle.lr_base.specs.declared.events.Refusal.TheVariants.{Late, Again, Settled, Noted}
use Rattle.lr_base.specs.declared.events.Refusal.TheVariants.{FullLog, FullHeld, Worn, Unfinished}
use Rattle.lr_base.specs.declared.events.Refusal.TheVariants.{Idle, Nothing}
use Rattle.lr_base.specs.declared.events.Sent.{Sent}
use Rattle.lr_base.specs.declared.events.Sent.TheVariants.{Update, Query, Ack, Done, Answer, Gossip}
use Rattle.lr_base.specs.declared.events.StateLine.{StateLine}
use Rattle.lr_base.specs.declared.events.Step.{Step}
use Rattle.lr_base.specs.declared.names.Actor.{Actor}
use Rattle.lr_base.specs.declared.names.Actor.TheVariants.{Client, Replica}
use Rattle.lr_base.specs.declared.names.Cid.{Cid}
use Rattle.lr_base.specs.declared.names.Spot.{Spot}
use Rattle.lr_graph.specs.Closed.{Each}

-- a number fits in 64 bits
abbrev pub NumberFits : ℕ → Type 0
NumberFits number = number < 2 ^ 64

-- a call's two numbers fit
-- for example: `0.1`
abbrev pub CidFits : Cid → Type 0
CidFits cid = NumberFits cid.client × NumberFits cid.seq

-- a spot's two numbers fit
-- for example: `0:1`
abbrev pub SpotFits : Spot → Type 0
SpotFits spot = NumberFits spot.place × NumberFits spot.number

-- a mark's two numbers fit
-- for example: `0/4`
abbrev pub MarkFits : ℕ × ℕ → Type 0
MarkFits mark = NumberFits mark.0 × NumberFits mark.1

-- a client's or a replica's number fits
-- for example: `c0`
abbrev pub ActorFits : Actor → Type 0
ActorFits (Client number) = NumberFits number
ActorFits (Replica number) = NumberFits number

-- no byte is a line feed
-- for example: `3`
abbrev pub HasNoFeed : List ℕ → Type 0
HasNoFeed text = All (λ byte. byte ≢ 10) text

-- the numbers of a message fit, and the text of an answer holds no line feed
-- for example: `done 0.1 as 0:1`
abbrev pub SentFits : Sent → Type 0
SentFits (Update cid time) = CidFits cid × NumberFits time
SentFits (Query cid) = CidFits cid
SentFits (Ack cid time) = CidFits cid × NumberFits time
SentFits (Done cid spot) = CidFits cid × SpotFits spot
SentFits (Answer cid text) = CidFits cid × HasNoFeed text
SentFits Gossip = Unit

-- the numbers in the reason why nothing was done fit
-- for example: `open 0.2`
abbrev pub RefusalFits : Refusal → Type 0
RefusalFits (Late time clock) = NumberFits time × NumberFits clock
RefusalFits (Again spot) = SpotFits spot
RefusalFits Settled = Unit
RefusalFits (Noted spot) = SpotFits spot
RefusalFits FullLog = Unit
RefusalFits FullHeld = Unit
RefusalFits Worn = Unit
RefusalFits (Unfinished cid) = CidFits cid
RefusalFits Idle = Unit
RefusalFits Nothing = Unit

-- all numbers of a state fit
pub record StateFits (line : StateLine) : Type 0 where
  pub replica : NumberFits line.replica
  pub view : NumberFits line.view
  pub clock : NumberFits line.clock
  pub received : All NumberFits line.received
  pub log : All SpotFits line.log
  pub acks : All SpotFits line.acks
  pub calls : All CidFits line.calls
  pub held : All CidFits line.held
  pub marks : All MarkFits line.marks

-- all numbers of an outcome fit, and the text of an answer holds no line feed
-- for example: `got 0.1`
abbrev pub OutcomeFits : Outcome → Type 0
OutcomeFits (Send number from to what) = NumberFits number × ActorFits from × ActorFits to × SentFits what
OutcomeFits (Accept spot cid) = SpotFits spot × CidFits cid
OutcomeFits (Note spot cid) = SpotFits spot × CidFits cid
OutcomeFits (Hold cid) = CidFits cid
OutcomeFits (Take count) = NumberFits count
OutcomeFits (Got cid) = CidFits cid
OutcomeFits (Stale cid) = CidFits cid
OutcomeFits (ClockAt reading) = NumberFits reading
OutcomeFits (NoMessage message) = NumberFits message
OutcomeFits (Refuse why) = RefusalFits why
OutcomeFits (State line) = StateFits line

-- the number that an event brings from outside fits: a clock's reading, or the number of a message
-- for example: `deliver 7`
abbrev pub EventNumberFits : {Op : Type 0} → Event Op → Type 0
EventNumberFits (Call client replica reading op) = NumberFits reading
EventNumberFits (Resend client replica reading) = NumberFits reading
EventNumberFits (AckEvent client replica reading) = NumberFits reading
EventNumberFits (Deliver message) = NumberFits message
EventNumberFits (Tick replica reading) = NumberFits reading
EventNumberFits (GossipEvent from to) = Unit
EventNumberFits (Show replica) = Unit

-- a history's own numbers fit: how many steps it has, and what its events bring
-- for example: `add_and_read` with `got 0.1` and the answer 3
abbrev pub HistoryFits : {Op : Type 0} → List (Step Op) → Type 0
HistoryFits steps = NumberFits (length steps) × Each (λ step. EventNumberFits step.event) steps
