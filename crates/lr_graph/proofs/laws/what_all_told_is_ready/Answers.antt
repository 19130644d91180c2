use Rattle.lr_graph.proofs.Pruning.Staying.{law-ready, law-told}
use Rattle.lr_graph.proofs.laws.what_all_told_is_ready.Goals as goal

pub returns-clause-received : goal.returns-clause-received
returns-clause-received g c config steps i spot legal inside known =
    law-told g.S.Service.meaning _ g.met.S.Service.lawful config steps legal i inside spot known

pub returns-clause-ready : goal.returns-clause-ready
returns-clause-ready g c config steps i legal inside =
    law-ready g.S.Service.meaning _ g.met.S.Service.lawful config steps legal i inside
