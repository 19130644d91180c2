-- What a replica keeps of its state, and of the queries that it holds.
use Rattle.std.specs.Prelude.{◌≡◌, ◌+◌, ◌<◌, ℕ, List, length, slice_get}
use Rattle.std.specs.Option.{ForSome}
use Rattle.lr_base.specs.Kinds.{IsQuery}
use Rattle.lr_base.specs.Logged.{AllKnown}
use Rattle.lr_base.specs.Replicas.{ReplicaState}
use Rattle.lr_base.specs.declared.lr_service.Kind.{Kind}
use Rattle.lr_base.specs.declared.messages.Call.{Call}
use Rattle.lr_base.specs.declared.names.Config.{Config}
use Rattle.lr_base.specs.Rules.{CausalState}
use Rattle.lr_base.specs.declared.messages.Gossip.{Gossip}
use Rattle.lr_causal.specs.Causal.{IsGossip}

-- a query of this run: its label has a part for each place, its client is one of the run's, and it only reads
-- for example: `0.2`, `read x`
pub record IsAsked {Op : Type 0} (kind_of : Op → Kind) (config : Config) (call : Call Op) : Type 0 where
  pub parts : length call.prev ≡ config.replicas + 1
  pub client : call.cid.client < config.clients
  pub query : IsQuery (kind_of call.op)

-- each of these is a query of this run
abbrev pub AllAsked : {Op : Type 0} → (Op → Kind) → Config → List (Call Op) → Type 0
AllAsked kind_of config calls = (k : ℕ) → ForSome (slice_get calls k) (IsAsked kind_of config)

-- all that a replica logs, as gossip
-- for example: `[1, 0, 0]`, and the update at `0:1`
abbrev pub all_told : {Value Op : Type 0} → CausalState Value Op → Gossip Op
all_told state = record { rep_ts = state.rep_ts; updates = state.updates; acks = state.acks }

-- a replica of its run: each stamp has a part for each place, all that it logs can be told, and each held query is one
-- of the run
-- for example: `first_replica`
pub record IsSound {Value Op : Type 0} (kind_of : Op → Kind) (r : ReplicaState Value Op) : Type 0 where
  pub own_place : r.me < r.config.replicas
  pub val_parts : length r.causal.val_ts ≡ r.config.replicas + 1
  pub imm_parts : length r.causal.imm_ts ≡ r.config.replicas + 1
  pub told : IsGossip kind_of (r.config.replicas + 1) (all_told r.causal)
  pub known : AllKnown (r.config.replicas + 1) r.causal.calls
  pub asked : AllAsked kind_of r.config r.causal.held
