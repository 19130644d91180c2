-- Replies that come to a front end, and what a front end has after many events.
-- In the examples client 0 of one replica makes the call `0.1` at 5, and the reply with the stamp `[1, 0]` comes.
use Rattle.std.specs.Prelude.{◌≡◌, ◌+◌, ◌++◌, ℕ, Bool, true, false, if◌then◌else◌, List, [], ◌∷◌, fold, length}
use Rattle.lr_base.specs.Fronts.{FrontEvent, FrontState, front_next, is_open, new_front}
use Rattle.lr_base.specs.Fronts.FrontEvent.{CallTo, ResendTo, AckTo, TakeMessage}
use Rattle.lr_base.specs.Stamps.{Stamp}
use Rattle.lr_base.specs.declared.messages.Message.{Message}
use Rattle.lr_base.specs.declared.messages.Message.TheVariants.{Update, Query, Ack, Done, Answer, Gossip}
use Rattle.lr_base.specs.declared.names.Cid.{Cid}
use Rattle.lr_base.specs.declared.names.Config.{Config}
use Rattle.lr_front.specs.declared.front.Taken.{Taken}
use Rattle.lr_front.specs.declared.front.Taken.TheVariants.{Got, Stale}

-- a stamp has a part for each of the front end's replicas, and one for the order
-- for example: `[1, 0]` for 1 replica
abbrev pub IsStampOf : {Op : Type 0} → FrontState Op → Stamp → Type 0
IsStampOf front stamp = length stamp ≡ front.replicas + 1

-- a message is a reply, with a stamp of as many parts as the front end's label
-- for example: `done 0.1 as 0:1`
abbrev pub IsReplyTo : {Op : Type 0} → FrontState Op → Message Op → Type 0
IsReplyTo front (Done cid spot stamp) = IsStampOf front stamp
IsReplyTo front (Answer cid text stamp) = IsStampOf front stamp
IsReplyTo front (Update call time) = ⊥
IsReplyTo front (Query call) = ⊥
IsReplyTo front (Ack cid time) = ⊥
IsReplyTo front (Gossip gossip) = ⊥

-- what becomes of the reply to a call, which is open or not
-- for example: `0.1` is got while it is open
abbrev pub taken_as : Cid → Bool → Taken
taken_as cid true = Got cid
taken_as cid false = Stale cid

-- a front end after these events, the first one first
-- for example: clock 5 after `call 0 0 5 add x 3`
abbrev pub front_after : {Op : Type 0} → Config → ℕ → List (FrontEvent Op) → FrontState Op
front_after config client events = fold (λ front event. front_next event front) (new_front config client) events

-- the stamp of a reply to a call, where that is the one that is open
-- for example: `[1, 0]` while `0.1` is open; none afterwards
abbrev pub stamp_if_open : {Op : Type 0} → FrontState Op → Cid → Stamp → List Stamp
stamp_if_open front cid stamp = if is_open front.open_call cid then stamp ∷ [] else []

-- the stamp of a message, where that is a reply to the open call
-- for example: `[1, 0]` of `done 0.1 as 0:1`; none of gossip
abbrev pub stamp_in_message : {Op : Type 0} → FrontState Op → Message Op → List Stamp
stamp_in_message front (Done cid spot stamp) = stamp_if_open front cid stamp
stamp_in_message front (Answer cid text stamp) = stamp_if_open front cid stamp
stamp_in_message front (Update call time) = []
stamp_in_message front (Query call) = []
stamp_in_message front (Ack cid time) = []
stamp_in_message front (Gossip gossip) = []

-- the stamp that comes with an event, where that is a reply to the open call
-- for example: none of `call 0 0 5 add x 3`
abbrev pub stamp_got : {Op : Type 0} → FrontState Op → FrontEvent Op → List Stamp
stamp_got front (CallTo replica reading op) = []
stamp_got front (ResendTo replica reading) = []
stamp_got front (AckTo replica reading) = []
stamp_got front (TakeMessage message) = stamp_in_message front message

-- the stamps of the replies that were taken, each while its call was open
-- for example: `[1, 0]` once, when the reply comes twice
abbrev pub stamps_got : {Op : Type 0} → FrontState Op → List (FrontEvent Op) → List Stamp
stamps_got front [] = []
stamps_got front (event ∷ later) = stamp_got front event ++ stamps_got (front_next event front) later

-- the clock readings that came with these events, refused or not
-- for example: 5 of `call 0 0 5 add x 3`, and none of its reply
abbrev pub readings : {Op : Type 0} → List (FrontEvent Op) → List ℕ
readings [] = []
readings (CallTo replica reading op ∷ later) = reading ∷ readings later
readings (ResendTo replica reading ∷ later) = reading ∷ readings later
readings (AckTo replica reading ∷ later) = reading ∷ readings later
readings (TakeMessage message ∷ later) = readings later
