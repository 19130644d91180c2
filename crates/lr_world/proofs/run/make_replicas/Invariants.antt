use Rattle.std.proofs.Common.{◌≡◌, vec_len}
use Rattle.lr_base.specs.Replicas.{AllReplicas}
use Rattle.lr_graph.specs.Runs.{first_replicas}
use Rattle.lr_world.proofs.run.make_replicas.Given as goal

-- there is one for each place so far
abbrev pub invariant-loop-me : goal.invariant-loop-me
invariant-loop-me g l = record {
  each : vec_len l.replicas ≡ l.me;
  all : AllReplicas l.config l.replicas.items;
  first : l.replicas.items ≡ first_replicas g.S.Service.meaning l.config l.me;
}
