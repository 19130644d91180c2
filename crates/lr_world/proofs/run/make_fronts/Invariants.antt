use Rattle.std.proofs.Common.{◌≡◌, vec_len}
use Rattle.lr_world.specs.Posts.{AllFronts}
use Rattle.lr_graph.specs.Runs.{first_fronts}
use Rattle.lr_world.proofs.run.make_fronts.Given as goal

-- there is one for each client so far
abbrev pub invariant-loop-client : goal.invariant-loop-client
invariant-loop-client g l = record {
  each : vec_len l.fronts ≡ l.client;
  all : AllFronts l.config l.fronts.items;
  first : l.fronts.items ≡ first_fronts l.config l.client;
}
