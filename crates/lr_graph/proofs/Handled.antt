-- Steps in which a message came, and steps in which none did.
use Rattle.std.proofs.Common.{ℕ, Option, None}
use Rattle.lr_base.specs.declared.names.Actor.{Actor}
use Rattle.lr_graph.specs.After.{Handling, receiver, replica_in}
use Rattle.lr_graph.specs.Graph.{SentMessage}

-- the step of the actor whom a message comes to, if one came
abbrev pub came_in : {Op : Type 0} → Option (SentMessage Op) → Handling Op
came_in o = record { actor = receiver o; came = o }

-- a step of an actor in which no message came
abbrev pub alone : {Op : Type 0} → Option Actor → Handling Op
alone actor = record { actor = actor; came = None }

-- the replica that a message comes to, if one came and it is a replica's
abbrev pub receiving : {Op : Type 0} → Option (SentMessage Op) → Option ℕ
receiving o = replica_in (receiver o)
