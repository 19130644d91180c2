-- What contracts see of a causal replica.
use Rattle.std.specs.Prelude.{ℕ}
use Rattle.lr_base.specs.declared.names.Config.{Config}
use Rattle.lr_base.specs.Replicas.{ReplicaState}
use Rattle.lr_base.specs.Rules.{CausalState}
use Rattle.lr_causal.specs.declared.causal.Causal.{Causal}

-- the replica's state, as the rules see it
-- for example: `first_state` of a new one
abbrev pub state_of : {S Op : Type 0} {g : _} {h : _} → Causal S Op g h → CausalState S Op
state_of c = record {
  clock = c.clock;
  rep_ts = c.table.own;
  val_ts = c.value.val_ts;
  value = c.value.value;
  updates = c.log.updates;
  acks = c.log.acks;
  calls = c.calls;
  table = c.table.rows;
  order_ts = c.order_ts;
  imm_ts = c.imm_ts;
  top = c.top;
  held = c.held.items;
}

-- what the run is set up with
-- for example: 1 replica, 1 client, a delta of 10
abbrev pub config_of : {S Op : Type 0} {g : _} {h : _} → Causal S Op g h → Config
config_of c = c.config

-- which replica it is
-- for example: replica 0
abbrev pub me_of : {S Op : Type 0} {g : _} {h : _} → Causal S Op g h → ℕ
me_of c = c.me

-- all three
-- for example: `first_replica` of a new one
abbrev pub replica_of : {S Op : Type 0} {g : _} {h : _} → Causal S Op g h → ReplicaState S Op
replica_of c = record { config = config_of c; me = me_of c; causal = state_of c }
