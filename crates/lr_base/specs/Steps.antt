-- What a replica does with a message, as a function of its state.
-- Each step has the message's own part and one end.
use Rattle.std.specs.Prelude.{ℕ, ◌+◌, ◌==◌, Bool, true, false, not, nat_lt, if◌then◌else◌, List, [], ◌∷◌, ◌++◌}
use Rattle.std.specs.Prelude.{filter, find, length, max, Option, Some, None}
use Rattle.lr_base.specs.Ascending.{same_cid}
use Rattle.lr_base.specs.Limits.{held_room, last_number, log_room}
use Rattle.lr_base.specs.Meaning.{Meaning}
use Rattle.lr_base.specs.Rules.{CausalState, accepted, ack_of, applied, fresh_of, gossip_of, gossip_taken, held_more}
use Rattle.lr_base.specs.Rules.{new_count, noted, pruned, stamp_of, ticked, update_of_call}
use Rattle.lr_base.specs.Stamps.{Stamp, part, stamp_le}
use Rattle.lr_base.specs.declared.events.Outcome.TheVariants.{Accept, ClockAt, Hold, Note, Refuse, Take}
use Rattle.lr_base.specs.declared.events.Refusal.{Refusal}
use Rattle.lr_base.specs.declared.events.Refusal.TheVariants.{Late as IsLate, Again as WasTaken, Settled as IsSettled}
use Rattle.lr_base.specs.declared.events.Refusal.TheVariants.{FullLog, FullHeld, Noted, Worn}
use Rattle.lr_base.specs.declared.messages.Call.{Call}
use Rattle.lr_base.specs.declared.messages.Fresh.{Fresh}
use Rattle.lr_base.specs.declared.messages.Fresh.TheVariants.{New, Late, Again, Settled}
use Rattle.lr_base.specs.declared.messages.Gossip.{Gossip}
use Rattle.lr_base.specs.declared.messages.LogAck.{LogAck}
use Rattle.lr_base.specs.declared.messages.Message.{Message}
use Rattle.lr_base.specs.declared.messages.Message.TheVariants.{Update, Query, Ack, Done, Answer}
use Rattle.lr_base.specs.declared.messages.Message.TheVariants.{Gossip as GossipMessage}
use Rattle.lr_base.specs.declared.names.Actor.{Actor}
use Rattle.lr_base.specs.declared.names.Actor.TheVariants.{Client, Replica}
use Rattle.lr_base.specs.declared.names.Cid.{Cid}
use Rattle.lr_base.specs.declared.names.Config.{Config}
use Rattle.lr_base.specs.declared.names.Spot.{Spot}
use Rattle.lr_base.specs.declared.acts.Act.{Act}
use Rattle.lr_base.specs.declared.acts.Act.TheVariants.{Say, Send}
use Rattle.lr_base.specs.declared.acts.NodeEvent.{NodeEvent}
use Rattle.lr_base.specs.declared.acts.NodeEvent.TheVariants.{Take as TakeMessage, Tick, Gossip as TellGossip}

-- a replica's state after a step, and what it does in it
-- for example: the same state, and no act
pub record Ending (Value Op : Type 0) : Type 0 where
  pub state : CausalState Value Op
  pub acts : List (Act Op)

-- the reply to an update, which goes to the client of its call
-- for example: `done 0.1 as 0:1`, to `c0`
abbrev pub done_act : {Op : Type 0} → Cid → Spot → Stamp → Act Op
done_act cid spot stamp = Send (Client cid.client) (Done cid spot stamp)

-- the reply to a query: what the service answers, and what it was read after
-- for example: `answer 0.2 3`, to `c0`
abbrev pub answer_act : {Value Op : Type 0} → Meaning Value Op → CausalState Value Op → Call Op → Act Op
answer_act m state call = Send (Client call.cid.client) (Answer call.cid (m.read state.value call.op) state.val_ts)

-- each held query whose label is now applied is answered, in the order of arrival
-- for example: `answer 0.2 3` once `0:1` is applied
abbrev pub held_acts : {Value Op : Type 0} → Meaning Value Op → CausalState Value Op → List (Call Op) → List (Act Op)
held_acts m state [] = []
held_acts m state (call ∷ calls) =
    if stamp_le call.prev state.val_ts
    then answer_act m state call ∷ held_acts m state calls
    else held_acts m state calls

-- answered queries are held no more
-- for example: `0.2` leaves
abbrev pub still_held : {Value Op : Type 0} → CausalState Value Op → CausalState Value Op
still_held state = record state { held = filter (λ call. not (stamp_le call.prev state.val_ts)) state.held }

-- the end of each step: what is ready is applied, then held queries are answered, then what is known everywhere leaves
-- for example: `add x 3` is applied, and a lone replica's log is empty
abbrev pub ended : {Value Op : Type 0} → Meaning Value Op → ℕ → CausalState Value Op → List (Act Op) → Ending Value Op
ended m delta state own =
    let now = applied m state in
    record { state = pruned delta (still_held now); acts = own ++ held_acts m now now.held }

-- nothing is done of its own, and this is why
-- for example: the same state, and the line `refuse worn`
abbrev pub refusing : {Value Op : Type 0} → CausalState Value Op → Refusal → Ending Value Op
refusing state why = record { state = state; acts = Say (Refuse why) ∷ [] }

-- whether one more item may be logged
-- for example: true of 511, false of 512
abbrev pub has_room : {Value Op : Type 0} → CausalState Value Op → Bool
has_room state = nat_lt (length state.updates + length state.acks) log_room

-- whether this replica may still number an update
-- for example: true of `[1, 0]`
abbrev pub has_number : {Value Op : Type 0} → ℕ → CausalState Value Op → Bool
has_number me state = nat_lt (part state.rep_ts me) last_number

-- a new call is refused without room or a number, and else accepted
-- for example: `accept 0:1 0.1`, and its reply
abbrev pub call_taken : {Value Op : Type 0} → ℕ → CausalState Value Op → Call Op → Bool → Bool → Ending Value Op
call_taken me state call false number = refusing state FullLog
call_taken me state call true false = refusing state Worn
call_taken me state call true true =
    let u = update_of_call me state call in
    record {
      state = accepted me state call;
      acts = Say (Accept u.spot call.cid) ∷ done_act call.cid u.spot (stamp_of u) ∷ [];
    }

-- an update, after its first checks: one that was taken before is replied to again
-- for example: a second copy of `0.1`: `refuse again 0:1`, and its reply
abbrev pub update_taken : {Value Op : Type 0} → ℕ → CausalState Value Op → Call Op → Fresh → Ending Value Op
update_taken me state call New = call_taken me state call (has_room state) (has_number me state)
update_taken me state call (Late time clock) = refusing state (IsLate time clock)
update_taken me state call (Again spot stamp) = record {
  state = state;
  acts = Say (Refuse (WasTaken spot)) ∷ done_act call.cid spot stamp ∷ [];
}
update_taken me state call Settled = refusing state IsSettled

-- a query that can't be answered yet is held while there is room
-- for example: `hold 0.2`
abbrev pub query_held : {Value Op : Type 0} → CausalState Value Op → Call Op → Bool → Ending Value Op
query_held state call false = refusing state FullHeld
query_held state call true = record { state = held_more state call; acts = Say (Hold call.cid) ∷ [] }

-- a query is answered where all that its label names is applied
-- for example: `answer 0.2 3`
abbrev pub query_taken : {Value Op : Type 0} → Meaning Value Op → CausalState Value Op → Call Op → Bool
    → Ending Value Op
query_taken m state call true = record { state = state; acts = answer_act m state call ∷ [] }
query_taken m state call false = query_held state call (nat_lt (length state.held) held_room)

-- an acknowledgement is noted where none of its call is logged, with room and a number
-- for example: `note 0:2 0.1`; `refuse noted 0:2` when it comes again
abbrev pub ack_taken : {Value Op : Type 0} → ℕ → CausalState Value Op → Cid → ℕ → Option LogAck → Bool → Bool
    → Ending Value Op
ack_taken me state cid time (Some ack) room number = refusing state (Noted ack.spot)
ack_taken me state cid time None false number = refusing state FullLog
ack_taken me state cid time None true false = refusing state Worn
ack_taken me state cid time None true true =
    record { state = noted me state cid time; acts = Say (Note (ack_of me state cid time).spot cid) ∷ [] }

-- nothing is done
abbrev pub idle : {Value Op : Type 0} → CausalState Value Op → Ending Value Op
idle state = record { state = state; acts = [] }

-- gossip is taken, if it comes from another replica
-- for example: `take 1`
abbrev pub gossip_given : {Value Op : Type 0} → ℕ → ℕ → CausalState Value Op → Gossip Op → Bool → Ending Value Op
gossip_given me from state gossip true = idle state
gossip_given me from state gossip false =
    record { state = gossip_taken me from state gossip; acts = Say (Take (new_count state gossip)) ∷ [] }

-- what a message itself does at a replica: replies have no rule there, nor has what comes from where it can't
-- for example: of a reply: nothing
abbrev pub own_taken : {Value Op : Type 0} → Meaning Value Op → Config → ℕ → CausalState Value Op → Actor
    → Message Op → Ending Value Op
own_taken m config me state (Client client) (Update call time) =
    update_taken me state call (fresh_of config.delta state call.cid time)
own_taken m config me state (Client client) (Query call) = query_taken m state call (stamp_le call.prev state.val_ts)
own_taken m config me state (Client client) (Ack cid time) =
    let logged = find (λ ack. same_cid ack.cid cid) state.acks in
    ack_taken me state cid time logged (has_room state) (has_number me state)
own_taken m config me state (Replica from) (GossipMessage gossip) = gossip_given me from state gossip (from == me)
own_taken m config me state _ _ = idle state

-- what a replica does with a message, to the end of the step
-- for example: event 2 of `first.script`
abbrev pub taken : {Value Op : Type 0} → Meaning Value Op → Config → ℕ → CausalState Value Op → Actor → Message Op
    → Ending Value Op
taken m config me state from message =
    let own = own_taken m config me state from message in
    ended m config.delta own.state own.acts

-- a replica sends gossip to another, to the end of the step
-- for example: `send 4 r0 r1 gossip`
abbrev pub gossiped : {Value Op : Type 0} → Meaning Value Op → ℕ → ℕ → CausalState Value Op → Ending Value Op
gossiped m delta to state = ended m delta state (Send (Replica to) (GossipMessage (gossip_of to state)) ∷ [])

-- a replica reads its clock, to the end of the step
-- for example: `clock 5`
abbrev pub clock_set : {Value Op : Type 0} → Meaning Value Op → ℕ → ℕ → CausalState Value Op → Ending Value Op
clock_set m delta reading state =
    ended m delta (ticked reading state) (Say (ClockAt (max state.clock reading)) ∷ [])

-- what a replica of this number does with what comes to it, to the end of the step
-- for example: `taken` of a message
abbrev pub did : {Value Op : Type 0} → Meaning Value Op → Config → ℕ → CausalState Value Op → NodeEvent Op
    → Ending Value Op
did m config me state (TakeMessage from message) = taken m config me state from message
did m config me state (Tick reading) = clock_set m config.delta reading state
did m config me state (TellGossip to) = gossiped m config.delta to state
