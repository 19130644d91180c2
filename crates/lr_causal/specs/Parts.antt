-- What of a replica's state is kept, and the state that is made of it.
use Rattle.std.specs.Prelude.{◌≡◌, ◌<◌, ◌+◌, ℕ, length, List, [], Option, None}
use Rattle.lr_base.specs.Config.{IsValid}
use Rattle.lr_base.specs.Logged.{AllAcksReceived, AllKnown, AllLogged, AllReceived}
use Rattle.lr_base.specs.Rules.{CausalState}
use Rattle.lr_base.specs.Stamps.{Stamp}
use Rattle.lr_base.specs.declared.lr_service.Kind.{Kind}
use Rattle.lr_base.specs.declared.messages.Known.{Known}
use Rattle.lr_base.specs.declared.names.Cid.{Cid}
use Rattle.lr_base.specs.declared.names.Config.{Config}
use Rattle.lr_log.specs.Items.{Items}
use Rattle.lr_log.specs.Tables.{Told}
use Rattle.lr_value.specs.Applied.{Applied, Memory}

-- the state of a clock, a table, a log, a value, executed calls, two stamps and a number, with no held query
-- for example: `first_state` of those of a replica at which nothing has happened
abbrev pub made_of : {Value Op : Type 0} → ℕ → Told → Items Op → Applied Value → List (Cid × Known) → Stamp → Stamp → ℕ
    → CausalState Value Op
made_of clock table log value calls order_ts imm_ts top = record {
  clock = clock;
  rep_ts = table.own;
  val_ts = value.val_ts;
  value = value.value;
  updates = log.updates;
  acks = log.acks;
  calls = calls;
  table = table.rows;
  order_ts = order_ts;
  imm_ts = imm_ts;
  top = top;
  held = [];
}

-- a state is one of this replica of a run that is set up so, by a table of this owner and a value that remembers this:
-- the replica's own table and no memory, as many rows as replicas, as many parts as its stamps have, and no item that
-- wasn't received
-- for example: `first_state` of 1 replica, the owner 0, no memory
pub record FitsTogether {Value Op : Type 0} (kind_of : Op → Kind) (config : Config) (me owner : ℕ)
    (memory : Option Memory) (state : CausalState Value Op) : Type 0 where
  pub valid : IsValid config
  pub own_place : me < config.replicas
  pub own_table : owner ≡ me
  pub forgotten : memory ≡ None
  pub rows : length state.table ≡ config.replicas
  pub val_parts : length state.val_ts ≡ config.replicas + 1
  pub order_parts : length state.order_ts ≡ config.replicas + 1
  pub imm_parts : length state.imm_ts ≡ config.replicas + 1
  pub logged : AllLogged kind_of (config.replicas + 1) state.updates
  pub updates_received : AllReceived state.rep_ts state.updates
  pub acks_received : AllAcksReceived state.rep_ts state.acks
  pub known : AllKnown (config.replicas + 1) state.calls
