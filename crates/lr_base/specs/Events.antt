-- To be believed: which events are those of a run.
use Rattle.std.specs.Prelude.{◌≡◌, ◌<◌, ◌≢◌, true}
use Rattle.lr_base.specs.Kinds.{has_rules}
use Rattle.lr_base.specs.Meaning.{Meaning}
use Rattle.lr_base.specs.declared.events.Event.{Event}
use Rattle.lr_base.specs.declared.events.Event.TheVariants.{Call, Resend, Ack, Deliver, Tick, Gossip, Show}
use Rattle.lr_base.specs.declared.names.Config.{Config}

-- an event fits a run: it names a client and replicas that there are, gossip names two of them,
-- and runs have rules for the kind of what is called
abbrev pub FitsRun : {Value Op : Type 0} → Meaning Value Op → Config → Event Op → Type 0
FitsRun m config (Call client replica reading op) =
    (client < config.clients) × (replica < config.replicas) × (has_rules (m.kind op) ≡ true)
FitsRun m config (Resend client replica reading) = (client < config.clients) × (replica < config.replicas)
FitsRun m config (Ack client replica reading) = (client < config.clients) × (replica < config.replicas)
FitsRun m config (Deliver message) = Unit {0}
FitsRun m config (Tick replica reading) = replica < config.replicas
FitsRun m config (Gossip from to) = (from < config.replicas) × (to < config.replicas) × (from ≢ to)
FitsRun m config (Show replica) = replica < config.replicas

-- if an event is a call, then of an operation of the service
abbrev pub CallsOp : {Value Op : Type 0} → Meaning Value Op → Event Op → Type 0
CallsOp m (Call client replica reading op) = m.is_op op ≡ true
CallsOp m _ = Unit {0}

-- an event of a run fits it, and calls an operation of the service, if it is a call
abbrev pub IsEventOf : {Value Op : Type 0} → Meaning Value Op → Config → Event Op → Type 0
IsEventOf m config event = FitsRun m config event × CallsOp m event
