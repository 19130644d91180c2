-- What contracts see of a replica in the simulator.
use Rattle.std.specs.Prelude.{◌≡◌, ℕ, ◌+◌, map, List, []}
use Rattle.std.specs.List.{slice_get}
use Rattle.std.specs.Option.{ForSome}
use Rattle.lr_base.specs.Meaning.{Meaning}
use Rattle.lr_base.specs.Rules.{CausalState, first_state}
use Rattle.lr_base.specs.declared.events.StateLine.{StateLine}
use Rattle.lr_base.specs.declared.names.Config.{Config}

-- what the run is set up with, which replica it is, and its state
-- for example: replica 0, `first_state`
pub record ReplicaState (Value Op : Type 0) : Type 0 where
  pub config : Config
  pub me : ℕ
  pub causal : CausalState Value Op

-- a replica at which nothing has happened
-- for example: `first_state` with two parts
abbrev pub first_replica : {Value Op : Type 0} → Meaning Value Op → Config → ℕ → ReplicaState Value Op
first_replica m config me = record {
  config = config;
  me = me;
  causal = first_state m config.replicas (config.replicas + 1);
}

-- a replica of this run, at its place
-- for example: replica 0 at place 0
pub record IsReplica {Value Op : Type 0} (config : Config) (place : ℕ) (replica : ReplicaState Value Op) : Type 0 where
  pub setting : replica.config ≡ config
  pub number : replica.me ≡ place

-- there is each replica at its place
abbrev pub AllReplicas : {Value Op : Type 0} → Config → List (ReplicaState Value Op) → Type 0
AllReplicas config replicas = (k : ℕ) → ForSome (slice_get replicas k) (IsReplica config k)

-- what is printed of a replica's state
-- for example: `state r0 view 0 clock 0 received 1.0 log - acks - calls 0.1 held - frozen -`
abbrev pub state_line_of : {Value Op : Type 0} → ReplicaState Value Op → StateLine
state_line_of replica = record {
  replica = replica.me;
  view = 0;
  clock = replica.causal.clock;
  received = replica.causal.rep_ts;
  log = map (λ u. u.spot) replica.causal.updates;
  acks = map (λ a. a.spot) replica.causal.acks;
  calls = map (λ e. e.0) replica.causal.calls;
  held = map (λ c. c.cid) replica.causal.held;
  marks = [];
}
