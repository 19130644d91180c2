-- What contracts see of a front end, and what it does.
-- A client's side of calls and replies: for each event the state after it, and what is said and sent.
use Rattle.std.specs.Prelude.{◌+◌, ◌==◌, ℕ, max, Bool, true, false, if◌then◌else◌}
use Rattle.std.specs.Prelude.{List, [], ◌∷◌, replicate, Option, Some, None}
use Rattle.lr_base.specs.Ascending.{same_cid}
use Rattle.lr_base.specs.Limits.{last_number}
use Rattle.lr_base.specs.Stamps.{Stamp, join}
use Rattle.lr_base.specs.declared.acts.Act.{Act}
use Rattle.lr_base.specs.declared.acts.Act.TheVariants.{Say, Send}
use Rattle.lr_base.specs.declared.events.Outcome.TheVariants.{Got, Stale, Refuse}
use Rattle.lr_base.specs.declared.events.Refusal.TheVariants.{Worn, Unfinished, Idle, Nothing}
use Rattle.lr_base.specs.declared.lr_service.Kind.{Kind}
use Rattle.lr_base.specs.declared.lr_service.Kind.TheVariants.{Query as AQuery}
use Rattle.lr_base.specs.declared.names.Actor.{Actor}
use Rattle.lr_base.specs.declared.names.Actor.TheVariants.{Replica}
use Rattle.lr_base.specs.declared.names.Cid.{Cid}
use Rattle.lr_base.specs.declared.names.Config.{Config}
use Rattle.lr_base.specs.declared.messages.Call.{Call}
use Rattle.lr_base.specs.declared.messages.Message.{Message}
use Rattle.lr_base.specs.declared.messages.Message.TheVariants.{Update, Query, Ack, Done, Answer, Gossip}

-- how many replicas there are, a client's number, its clock, the label of its calls, how many it made, the call that
-- is open, and the last update that was answered
-- for example: 1 replica, client 0, clock 5, `[0, 0]`, 1, `0.1`, none
pub record FrontState (Op : Type 0) : Type 0 where
  pub replicas : ℕ
  pub client : ℕ
  pub clock : ℕ
  pub label : Stamp
  pub calls : ℕ
  pub open_call : Option (Call Op)
  pub answered : Option Cid

-- a front end that has made no call
-- for example: client 0, clock 0, `[0, 0]`, 0, none, none
abbrev pub new_front : {Op : Type 0} → Config → ℕ → FrontState Op
new_front config client = record {
  replicas = config.replicas;
  client = client;
  clock = 0;
  label = replicate (config.replicas + 1) 0;
  calls = 0;
  open_call = None;
  answered = None;
}

-- what comes to a front end: what its client asks for, through a replica and at a clock reading, and a message
pub data FrontEvent (Op : Type 0) : Type 0 where
  -- an operation is called
  -- for example: `call 0 0 5 add x 3`
  CallTo : (replica reading : ℕ) (op : Op) → FrontEvent Op
  -- the open call is sent again
  -- for example: `resend 0 1 6`
  ResendTo : (replica reading : ℕ) → FrontEvent Op
  -- the last answered update is acknowledged
  -- for example: `ack 0 0 7`
  AckTo : (replica reading : ℕ) → FrontEvent Op
  -- a message comes
  -- for example: `deliver 2`
  TakeMessage : (message : Message Op) → FrontEvent Op

-- a front end after a clock reading
-- for example: clock 5 and the reading 3 give 5
abbrev pub clock_read : {Op : Type 0} → ℕ → FrontState Op → FrontState Op
clock_read reading front = record front { clock = max front.clock reading }

-- the call that comes next, with the label that the front end has
-- for example: `0.2`
abbrev pub call_of : {Op : Type 0} → FrontState Op → Op → Call Op
call_of front op =
    record { cid = record { client = front.client; seq = front.calls + 1 }; prev = front.label; op = op }

-- the message of a call: a query goes without a time, an update with this one
-- for example: `update 0.1 at 5`
abbrev pub message_of : {Op : Type 0} → Kind → ℕ → Call Op → Message Op
message_of AQuery time call = Query call
message_of _ time call = Update call time

-- a front end that is called: its call opens if none is open and its numbers aren't used up
-- for example: `0.1` is open after event 1 of `first.script`
abbrev pub after_call : {Op : Type 0} → Op → FrontState Op → Option (Call Op) → Bool → FrontState Op
after_call op front (Some call) worn = front
after_call op front None true = front
after_call op front None false = record front { calls = front.calls + 1; open_call = Some (call_of front op) }

-- what a front end does that is called: it sends the call
-- for example: event 1 of `first.script`; `refuse open 0.1` while `0.1` is open
abbrev pub call_acts : {Op : Type 0} → Kind → Actor → Op → FrontState Op → Option (Call Op) → Bool → List (Act Op)
call_acts kind to op front (Some call) worn = Say (Refuse (Unfinished call.cid)) ∷ []
call_acts kind to op front None true = Say (Refuse Worn) ∷ []
call_acts kind to op front None false = Send to (message_of kind front.clock (call_of front op)) ∷ []

-- what a front end does that sends its open call again: an update's copy has the present clock
-- for example: `refuse idle` where none is open
abbrev pub resend_acts : {Op : Type 0} → (Op → Kind) → Actor → FrontState Op → Option (Call Op) → List (Act Op)
resend_acts kind_of to front None = Say (Refuse Idle) ∷ []
resend_acts kind_of to front (Some call) = Send to (message_of (kind_of call.op) front.clock call) ∷ []

-- what a front end does that acknowledges its last answered update
-- for example: `refuse nothing` where none was answered
abbrev pub ack_acts : {Op : Type 0} → Actor → FrontState Op → Option Cid → List (Act Op)
ack_acts to front None = Say (Refuse Nothing) ∷ []
ack_acts to front (Some cid) = Send to (Ack cid front.clock) ∷ []

-- whether this call is open
-- for example: `0.1` after its call
abbrev pub is_open : {Op : Type 0} → Option (Call Op) → Cid → Bool
is_open None cid = false
is_open (Some call) cid = same_cid call.cid cid

-- a front end after the reply to a call: that to the open call joins its stamp to the label and ends the call, and
-- this is then the last answered update
-- for example: label `[1, 0]` after the reply of `0:1`
abbrev pub reply_taken : {Op : Type 0} → Cid → Stamp → Option Cid → FrontState Op → FrontState Op
reply_taken cid stamp answered front =
    if is_open front.open_call cid
    then record front { label = join front.label stamp; open_call = None; answered = answered }
    else front

-- what a front end says of the reply to a call, which is open or not
-- for example: `got 0.1`; `stale 0.1`
abbrev pub reply_acts : {Op : Type 0} → Cid → Bool → List (Act Op)
reply_acts cid true = Say (Got cid) ∷ []
reply_acts cid false = Say (Stale cid) ∷ []

-- a front end after a message, where just replies have a rule
-- for example: of gossip, the same
abbrev pub after_message : {Op : Type 0} → Message Op → FrontState Op → FrontState Op
after_message (Done cid spot stamp) front = reply_taken cid stamp (Some cid) front
after_message (Answer cid text stamp) front = reply_taken cid stamp front.answered front
after_message (Update call time) front = front
after_message (Query call) front = front
after_message (Ack cid time) front = front
after_message (Gossip gossip) front = front

-- what a front end does with a message
-- for example: event 3 of `first.script`; of gossip, nothing
abbrev pub message_acts : {Op : Type 0} → Message Op → FrontState Op → List (Act Op)
message_acts (Done cid spot stamp) front = reply_acts cid (is_open front.open_call cid)
message_acts (Answer cid text stamp) front = reply_acts cid (is_open front.open_call cid)
message_acts (Update call time) front = []
message_acts (Query call) front = []
message_acts (Ack cid time) front = []
message_acts (Gossip gossip) front = []

-- a front end after an event: a reading counts in any case
-- for example: a refused call at 7 sets the clock from 5 to 7
abbrev pub front_next : {Op : Type 0} → FrontEvent Op → FrontState Op → FrontState Op
front_next (CallTo replica reading op) front =
    after_call op (clock_read reading front) front.open_call (front.calls == last_number)
front_next (ResendTo replica reading) front = clock_read reading front
front_next (AckTo replica reading) front = clock_read reading front
front_next (TakeMessage message) front = after_message message front

-- what a front end does with an event
-- for example: `send 1 c0 r0 update 0.1 at 5`
abbrev pub front_acts : {Op : Type 0} → (Op → Kind) → FrontEvent Op → FrontState Op → List (Act Op)
front_acts kind_of (CallTo replica reading op) front =
    let now = clock_read reading front in
    call_acts (kind_of op) (Replica replica) op now front.open_call (front.calls == last_number)
front_acts kind_of (ResendTo replica reading) front =
    resend_acts kind_of (Replica replica) (clock_read reading front) front.open_call
front_acts kind_of (AckTo replica reading) front = ack_acts (Replica replica) (clock_read reading front) front.answered
front_acts kind_of (TakeMessage message) front = message_acts message front
