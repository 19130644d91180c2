use Rattle.lr_graph.proofs.Histories.Orderings.{every-order, ready-order}
use Rattle.lr_graph.proofs.Promised.Alike.{ready-causes}
use Rattle.lr_graph.proofs.promises.causes_come_first.Goals as goal

pub returns-clause-ready : goal.returns-clause-ready
returns-clause-ready g c config steps legal i a member here =
    ready-causes g.S.Service.meaning _ g.met.S.Service.lawful config steps legal i a member here

pub returns-clause-order : goal.returns-clause-order
returns-clause-order g c config steps legal i =
    (ready-order g.S.Service.meaning _ g.met.S.Service.lawful config steps legal i).follows

pub returns-clause-value : goal.returns-clause-value
returns-clause-value g c config steps legal i =
    every-order g.S.Service.meaning _ g.met.S.Service.lawful config steps legal i _
    (ready-order g.S.Service.meaning _ g.met.S.Service.lawful config steps legal i)
