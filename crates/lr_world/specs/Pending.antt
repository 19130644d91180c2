-- Steps of a run that are made up to what can't fail.
-- They are then finished, or taken back.
use Rattle.std.specs.Prelude.{◌≡◌, ◌<◌, ◌++◌, ℕ, List, [], Option, Some, None, length, set, slice_get, take}
use Rattle.std.specs.Option.{ForSome}
use Rattle.lr_base.specs.Meaning.{Meaning}
use Rattle.lr_base.specs.Replicas.{ReplicaState}
use Rattle.lr_base.specs.declared.acts.Posted.{Posted}
use Rattle.lr_base.specs.declared.events.Outcome.{Outcome}
use Rattle.lr_base.specs.declared.names.Actor.TheVariants.{Replica}
use Rattle.lr_base.specs.declared.names.Config.{Config}
use Rattle.lr_base.specs.Fronts.{FrontState}
use Rattle.lr_base.specs.declared.acts.NodeEvent.TheVariants.{Tick, Gossip as TellGossip}
use Rattle.lr_causal.specs.Savepoint.{IsPointOf, IsSame, Saved}
use Rattle.lr_front.specs.Undoing.{Saved as FrontSaved, restored}
use Rattle.lr_graph.specs.Runs.{RunState, Stepped, given, replica_does, unchanged}
use Rattle.lr_world.specs.Outboxes.{Outboxed}
use Rattle.lr_world.specs.Parts.{finished}
use Rattle.lr_world.specs.Posts.{IsFrontPoint}
use Rattle.lr_world.specs.declared.pending.Acting.{Acting}
use Rattle.lr_world.specs.declared.pending.Acting.TheVariants.{Nobody, AtFront, AtReplica}
use Rattle.lr_world.specs.declared.pending.Order.{Order}
use Rattle.lr_world.specs.declared.pending.Order.TheVariants.{Take, Read, Tell}
use Rattle.lr_world.specs.declared.pending.Pending.{Pending}
use Rattle.lr_world.specs.declared.task.Task.{Task}
use Rattle.lr_world.specs.declared.task.Task.TheVariants.{Take as TakeTask, Read as ReadTask, Tell as TellTask}

-- who acts is one of the run's, and what is kept of a front end is of one of the run
-- for example: replica 0
abbrev pub IsActing : {Value Op : Type 0} → Config → Acting Value Op → Type 0
IsActing config Nobody = Unit {0}
IsActing config (AtFront client point) = (client < config.clients) × IsFrontPoint config client point
IsActing config (AtReplica me point) = me < config.replicas

-- a replica ends its step
abbrev pub replica_finished : {Value Op : Type 0} → RunState Value Op → ℕ → Option (ReplicaState Value Op)
    → RunState Value Op
replica_finished run me None = run
replica_finished run me (Some r) = record run {
  replicas = set run.replicas me (record r { causal = finished r.config.delta r.causal });
}

-- the run once the step is finished: a front end has nothing left to do
-- for example: of a call's step, the same
abbrev pub completed : {Value Op : Type 0} → Acting Value Op → RunState Value Op → RunState Value Op
completed Nobody run = run
completed (AtFront client point) run = run
completed (AtReplica me point) run = replica_finished run me (slice_get run.replicas me)

-- one of the front ends has made a step, and its savepoint gives back what it was
-- for example: front end 0, with `0.1` open
pub record HasActedAt {Op : Type 0} (client : ℕ) (point : FrontSaved Op)
    (before now : List (FrontState Op)) : Type 0 where
  pub was : FrontState Op
  pub is : FrontState Op
  pub at_place : slice_get before client ≡ Some was
  pub replaced : now ≡ set before client is
  pub undoes : restored point is ≡ was

-- the front ends are those of before, but for one that has made a step
-- for example: those of before, while a replica acts
abbrev pub HaveActed : {Value Op : Type 0} → Acting Value Op → List (FrontState Op) → List (FrontState Op) → Type 0
HaveActed Nobody before now = now ≡ before
HaveActed (AtFront client point) before now = HasActedAt client point before now
HaveActed (AtReplica me point) before now = now ≡ before

-- one of the replicas has begun a step, and its savepoint gives back what it was
-- for example: replica 0, with `add x 3` applied
pub record HasBegunAt {Value Op : Type 0} (me : ℕ) (point : Saved Value)
    (before now : List (ReplicaState Value Op)) : Type 0 where
  pub was : ReplicaState Value Op
  pub is : ReplicaState Value Op
  pub at_place : slice_get before me ≡ Some was
  pub replaced : now ≡ set before me is
  pub same : IsSame was is
  pub undoes : IsPointOf point is was.causal

-- the replicas are those of before, but for one that has begun a step
-- for example: those of before, while a front end acts
abbrev pub HaveBegun : {Value Op : Type 0} → Acting Value Op → List (ReplicaState Value Op)
    → List (ReplicaState Value Op) → Type 0
HaveBegun Nobody before now = now ≡ before
HaveBegun (AtFront client point) before now = now ≡ before
HaveBegun (AtReplica me point) before now = HasBegunAt me point before now

-- the actors are those of before, but for one that has begun a step
-- for example: replica 0, with `add x 3` applied
pub record HasChanged {Value Op : Type 0} (who : Acting Value Op) (before now : RunState Value Op) : Type 0 where
  pub fronts : HaveActed who before.fronts now.fronts
  pub replicas : HaveBegun who before.replicas now.replicas

-- from this run the step can be taken back, which gives the run before
-- for example: one message, and then two
pub record CanTakeBack {Value Op : Type 0} (pending : Pending Value Op) (before now : RunState Value Op) : Type 0 where
  pub sent : take pending.sent now.posted ≡ before.posted
  pub changed : HasChanged pending.who before now

-- a step is made up to what can't fail: finished it is this one, these are its lines, and it can be taken back
-- for example: event 2, before the log is emptied
pub record HasBegun {Value Op : Type 0} (config : Config) (made : Stepped Value Op) (before now : RunState Value Op)
    (lines : List Outcome) (pending : Pending Value Op) : Type 0 where
  pub acting : IsActing config pending.who
  pub finishes : completed pending.who now ≡ made.run
  pub printed : lines ≡ made.outcomes
  pub undoes : CanTakeBack pending before now

-- a message that was sent is given to a replica
abbrev pub message_given : {Value Op : Type 0} → Meaning Value Op → RunState Value Op → ℕ → Option (Posted Op)
    → Stepped Value Op
message_given m run me None = unchanged run []
message_given m run me (Some p) = given m run (Replica me) p.from p.message

-- what becomes of an order to a replica: it takes a message, reads its clock, or sends gossip
-- for example: that at index 0; `tick 0 5`; `gossip 0 1`
abbrev pub ordered : {Value Op : Type 0} → Meaning Value Op → RunState Value Op → ℕ → Order → Stepped Value Op
ordered m run me (Take at) = message_given m run me (slice_get run.posted at)
ordered m run me (Read reading) = replica_does m run me (Tick reading) (slice_get run.replicas me)
ordered m run me (Tell to) = replica_does m run me (TellGossip to) (slice_get run.replicas me)

-- an order that can be given: there is a message at the index
-- for example: index 0 of one message
abbrev pub IsWithin : {Op : Type 0} → List (Posted Op) → Order → Type 0
IsWithin posted (Take at) = at < length posted
IsWithin posted (Read reading) = Unit {0}
IsWithin posted (Tell to) = Unit {0}

-- an order of this run: a replica that is told is one of the run's
-- for example: `r1` of two
abbrev pub IsOrderOf : Config → Order → Type 0
IsOrderOf config (Take at) = Unit {0}
IsOrderOf config (Read reading) = Unit {0}
IsOrderOf config (Tell to) = to < config.replicas

-- the task of an order: the message at the index with its sender, the reading, or whom to tell
-- for example: the update from `c0`
abbrev pub IsTaskOf : {Op : Type 0} → List (Posted Op) → Order → Task Op → Type 0
IsTaskOf posted (Take at) (TakeTask from message) =
    ForSome (slice_get posted at) (λ p. (p.from ≡ from) × (p.message ≡ message.now))
IsTaskOf posted (Read reading) (ReadTask read) = read ≡ reading
IsTaskOf posted (Tell to) (TellTask told) = told ≡ to
IsTaskOf posted _ _ = ⊥

-- these messages of an actor are sent, and nothing else has changed
-- for example: the reply is message 2
pub record HasSent {Value Op : Type 0} (who : Acting Value Op) (out : Outboxed Op) (before now : RunState Value Op)
    (lines : List Outcome) (pending : Pending Value Op) : Type 0 where
  pub actor : pending.who ≡ who
  pub number : pending.sent ≡ length before.posted
  pub run : now ≡ record before { posted = before.posted ++ out.posts }
  pub printed : lines ≡ out.lines
