use Rattle.std.proofs.Common.{◌++◌}
use Rattle.lr_graph.proofs.Pruning.Staying.{grows, law-acks, law-calls, law-is_ready, unlogged-on}
use Rattle.lr_graph.specs.Promises.{facts_of}
use Rattle.lr_graph.proofs.laws.what_left_stays_away.Goals as goal

pub returns-clause-updates : goal.returns-clause-updates
returns-clause-updates g c config steps later i spot legal here out =
    let m = g.S.Service.meaning in
    unlogged-on config (facts_of m config steps) (facts_of m config (steps ++ later))
    (grows m _ g.met.S.Service.lawful config steps later legal) i spot here out

pub returns-clause-calls : goal.returns-clause-calls
returns-clause-calls g c config steps later i cid legal inside is_there out =
    law-calls g.S.Service.meaning _ g.met.S.Service.lawful config steps later legal i inside cid is_there out

pub returns-clause-acks : goal.returns-clause-acks
returns-clause-acks g c config steps later i legal inside =
    law-acks g.S.Service.meaning _ g.met.S.Service.lawful config steps later legal i inside

pub returns-clause-received : goal.returns-clause-received
returns-clause-received g c config steps later i spot legal here =
    (grows g.S.Service.meaning _ g.met.S.Service.lawful config steps later legal).received i spot here

pub returns-clause-ready : goal.returns-clause-ready
returns-clause-ready g c config steps later i cid legal is_there =
    law-is_ready g.S.Service.meaning _ g.met.S.Service.lawful config steps later legal i cid is_there
