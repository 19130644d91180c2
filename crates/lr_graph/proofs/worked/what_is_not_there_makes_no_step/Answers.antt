use Rattle.std.proofs.Common.{refl, sym, true≢false}
use Rattle.lr_graph.proofs.worked.what_is_not_there_makes_no_step.Goals as goal

pub returns-clause-client : goal.returns-clause-client
returns-clause-client c = (record { event = refl; outcomes = refl }, tt)

pub returns-clause-no_client : goal.returns-clause-no_client
returns-clause-no_client c legal = true≢false (sym legal.0.event)

pub returns-clause-replica : goal.returns-clause-replica
returns-clause-replica c = (record { event = refl; outcomes = refl }, tt)

pub returns-clause-no_replica : goal.returns-clause-no_replica
returns-clause-no_replica c legal = true≢false (sym legal.0.event)
