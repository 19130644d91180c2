use Rattle.std.proofs.Common.{ap}
use Rattle.lr_graph.specs.Graph.{value}
use Rattle.lr_graph.specs.Promises.{facts_of}
use Rattle.lr_graph.proofs.Promised.Alike.{ready-alike}
use Rattle.lr_graph.proofs.promises.replicas_converge.Goals as goal

pub returns-clause-ready : goal.returns-clause-ready
returns-clause-ready g c config steps i j alike = ready-alike (facts_of g.S.Service.meaning config steps) i j alike

pub returns-clause-value : goal.returns-clause-value
returns-clause-value g c config steps i j alike = ap (value g.S.Service.meaning (facts_of g.S.Service.meaning config steps).accepted)
    (ready-alike (facts_of g.S.Service.meaning config steps) i j alike)

pub returns-clause-answer : goal.returns-clause-answer
returns-clause-answer g c config steps i j op alike =
    ap (λ set. g.S.Service.meaning.read (value g.S.Service.meaning (facts_of g.S.Service.meaning config steps).accepted set) op)
    (ready-alike (facts_of g.S.Service.meaning config steps) i j alike)
