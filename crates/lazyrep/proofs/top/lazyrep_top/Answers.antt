use Rattle.lazyrep.proofs.Statuses.{status-told}
use Rattle.lazyrep.proofs.top.lazyrep_top.Goals as goal

pub returns-clause-sim : goal.returns-clause-sim
returns-clause-sim g c words =
    status-told g.W.Sink.seen c.args.out.now c.sim_command-end.new.out _ _ c.sim_command-end.result _
    c.sim_command-end.ensures.meant c.sim_command-end.ensures.complete c.tell_end.ensures
