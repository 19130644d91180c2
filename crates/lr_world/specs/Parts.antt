-- What a part of a step has done, and what a task of a replica comes to. A task is to take a message, to read the
-- clock, or to tell another replica.
use Rattle.std.specs.Prelude.{◌≡◌, ◌<◌, ◌+◌, ◌++◌, ℕ, max, true, [], ◌∷◌}
use Rattle.lr_base.specs.Fronts.{FrontEvent, FrontState, CallTo, ResendTo, AckTo, TakeMessage, front_acts, front_next}
use Rattle.lr_base.specs.Meaning.{Meaning}
use Rattle.lr_base.specs.Replicas.{ReplicaState}
use Rattle.lr_base.specs.Rules.{CausalState, applied, gossip_of, pruned, ticked}
use Rattle.lr_base.specs.Steps.{Ending, ended, held_acts, own_taken, still_held}
use Rattle.lr_base.specs.declared.acts.Act.TheVariants.{Say, Send}
use Rattle.lr_base.specs.declared.events.Outcome.TheVariants.{ClockAt}
use Rattle.lr_base.specs.declared.lr_service.Kind.{Kind}
use Rattle.lr_base.specs.declared.messages.Message.TheVariants.{Gossip as GossipMessage}
use Rattle.lr_base.specs.declared.names.Actor.{Actor}
use Rattle.lr_base.specs.declared.names.Actor.TheVariants.{Client, Replica}
use Rattle.lr_base.specs.declared.names.Config.{Config}
use Rattle.lr_causal.specs.Causal.{AllStamps}
use Rattle.lr_world.specs.Outboxes.{Outboxed, after_acts}
use Rattle.lr_world.specs.Shapes.{IsShaped, is_actor, stamps_in}
use Rattle.lr_world.specs.declared.front_task.FrontTask.{FrontTask}
use Rattle.lr_world.specs.declared.front_task.FrontTask.TheVariants.{Call, Resend, Acknowledge, Take as TakeIt}
use Rattle.lr_world.specs.declared.task.Task.{Task}
use Rattle.lr_world.specs.declared.task.Task.TheVariants.{Take, Read, Tell}

-- a part of a replica's step ended so: this is its state, and what it did stands in the outbox behind what stood there
-- for example: after the update: `0:1` is logged, and its line and its reply are in the outbox
pub record HasDone {Value Op : Type 0} (end : Ending Value Op) (state : CausalState Value Op)
    (before now : Outboxed Op) : Type 0 where
  pub state_is : state ≡ end.state
  pub acts_are : now ≡ after_acts before end.acts

-- a front end did what its rules say of an event
-- for example: no call is open, and `got 0.1`
pub record HasFrontDone {Op : Type 0} (kind_of : Op → Kind) (event : FrontEvent Op) (was front : FrontState Op)
    (before now : Outboxed Op) : Type 0 where
  pub front_is : front ≡ front_next event was
  pub acts_are : now ≡ after_acts before (front_acts kind_of event was)

-- what a task itself does at a replica: a message is taken, the clock is read, or gossip is told
-- for example: `own_taken`; `clock 5`; `send 4 r0 r1 gossip`
abbrev pub own_of : {Value Op : Type 0} → Meaning Value Op → ReplicaState Value Op → Task Op → Ending Value Op
own_of m r (Take from message) = own_taken m r.config r.me r.causal from message.now
own_of m r (Read reading) =
    record { state = ticked reading r.causal; acts = Say (ClockAt (max r.causal.clock reading)) ∷ [] }
own_of m r (Tell to) =
    record { state = r.causal; acts = Send (Replica to) (GossipMessage (gossip_of to r.causal)) ∷ [] }

-- what a task comes to, to the end of the step
-- for example: `taken`; `gossiped`
abbrev pub end_of : {Value Op : Type 0} → Meaning Value Op → ReplicaState Value Op → Task Op → Ending Value Op
end_of m r task = let own = own_of m r task in ended m r.config.delta own.state own.acts

-- what comes to a front end by a task
-- for example: `call 0 0 5 add x 3`
abbrev pub event_of : {Op : Type 0} → FrontTask Op → FrontEvent Op
event_of (Call replica reading op) = CallTo replica reading op.now
event_of (Resend replica reading) = ResendTo replica reading
event_of (Acknowledge replica reading) = AckTo replica reading
event_of (TakeIt message) = TakeMessage message.now

-- a task of a front end in a run of so many replicas: each stamp of its message has a part for each place
-- for example: `[1, 0]` with one replica
abbrev pub IsFrontTask : {Op : Type 0} → ℕ → FrontTask Op → Type 0
IsFrontTask replicas (TakeIt message) = AllStamps (replicas + 1) (stamps_in message.now)
IsFrontTask replicas _ = Unit {0}

-- the replica that a task names is one of the run's
-- for example: `r0`
abbrev pub NamesReplica : {Op : Type 0} → Config → FrontTask Op → Type 0
NamesReplica config (Call replica reading op) = replica < config.replicas
NamesReplica config (Resend replica reading) = replica < config.replicas
NamesReplica config (Acknowledge replica reading) = replica < config.replicas
NamesReplica config (TakeIt message) = Unit {0}

-- what is ready is applied, and then held queries are answered
-- for example: x is 3
abbrev pub settled : {Value Op : Type 0} → Meaning Value Op → CausalState Value Op → Ending Value Op
settled m state = let now = applied m state in record { state = now; acts = held_acts m now now.held }

-- a task up to what can't fail
-- for example: x is 3, and `0:1` is still logged
abbrev pub begun : {Value Op : Type 0} → Meaning Value Op → ReplicaState Value Op → Task Op → Ending Value Op
begun m r task =
    let own = own_of m r task in
    let end = settled m own.state in
    record { state = end.state; acts = own.acts ++ end.acts }

-- a step's end that can't fail: answered queries are held no more, and what is known everywhere leaves
-- for example: a lone replica's log is empty
abbrev pub finished : {Value Op : Type 0} → ℕ → CausalState Value Op → CausalState Value Op
finished delta state = pruned delta (still_held state)

-- a task of this run: its message has its shape and a sender that there is, it reads the clock, or it tells a replica
-- that there is
abbrev pub IsTask : {Op : Type 0} → (Op → Kind) → Config → Task Op → Type 0
IsTask kind_of config (Take from message) = (is_actor config from ≡ true) × IsShaped kind_of config message.now
IsTask kind_of config (Read reading) = Unit {0}
IsTask kind_of config (Tell to) = to < config.replicas

-- a message of a replica may tell more of what that replica has received, and a client's nothing
-- for example: row 1 of gossip of `r1`, the own row of an update of `c0`
abbrev pub row_of : ℕ → Actor → ℕ
row_of me (Client client) = me
row_of me (Replica from) = from

-- of what this replica was heard to have received a task may tell more
-- for example: replica 1, of gossip of `r1`
abbrev pub heard_in : {Op : Type 0} → ℕ → Task Op → ℕ
heard_in me (Take from message) = row_of me from
heard_in me (Read reading) = me
heard_in me (Tell to) = me
