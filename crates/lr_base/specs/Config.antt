-- To be believed: what a run is set up with, and when a time is late.
use Rattle.std.specs.Prelude.{◌+◌, ◌≤◌, ℕ, Bool, nat_lt}
use Rattle.lr_base.specs.Limits.{most_clients, most_replicas}
use Rattle.lr_base.specs.declared.names.Config.{Config}

-- there are some replicas and some clients, and no more than there may be
-- for example: 1 and 64; not 10 and 1
pub record IsValid (config : Config) : Type 0 where
  pub some_replica : 1 ≤ config.replicas
  pub most_replicas : config.replicas ≤ most_replicas
  pub some_client : 1 ≤ config.clients
  pub most_clients : config.clients ≤ most_clients

-- whether a time lies further back than the clock allows
-- for example: time 5, delta 10, clock 16; not at clock 15
abbrev pub is_late : ℕ → ℕ → ℕ → Bool
is_late time delta clock = nat_lt (time + delta) clock
