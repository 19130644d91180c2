use Rattle.lr_graph.proofs.Pruning.Staying.{law-none_new, law-over, law-stays}
use Rattle.lr_graph.proofs.laws.a_call_that_left_is_over.Goals as goal

pub returns-clause-over : goal.returns-clause-over
returns-clause-over g c config steps i cid legal inside gone =
    law-over g.S.Service.meaning _ g.met.S.Service.lawful config steps legal i inside cid gone

pub returns-clause-away : goal.returns-clause-away
returns-clause-away g c config steps later i cid legal inside gone =
    law-stays g.S.Service.meaning _ g.met.S.Service.lawful config steps later legal i inside cid gone

pub returns-clause-none_new : goal.returns-clause-none_new
returns-clause-none_new g c config steps later i cid legal inside gone =
    law-none_new g.S.Service.meaning _ g.met.S.Service.lawful config steps later legal i inside cid gone
