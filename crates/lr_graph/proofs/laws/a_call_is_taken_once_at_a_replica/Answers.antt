use Rattle.lr_graph.proofs.Pruning.Staying.{law-accepted, law-once, law-refuses, refused-lines}
use Rattle.lr_graph.proofs.laws.a_call_is_taken_once_at_a_replica.Goals as goal

pub returns-clause-refused : goal.returns-clause-refused
returns-clause-refused g c config steps later i call time legal inside has sent =
    law-refuses g.S.Service.meaning _ g.met.S.Service.lawful config steps later legal i inside call time has sent

pub returns-clause-lines : goal.returns-clause-lines
returns-clause-lines g c config w i call time rules refused =
    refused-lines g.S.Service.meaning config w i call time rules refused

pub returns-clause-accepted : goal.returns-clause-accepted
returns-clause-accepted g c config steps later i cid legal has =
    law-accepted g.S.Service.meaning _ g.met.S.Service.lawful config steps later legal i cid has

pub returns-clause-once : goal.returns-clause-once
returns-clause-once g c config steps legal = law-once g.S.Service.meaning _ g.met.S.Service.lawful config steps legal
