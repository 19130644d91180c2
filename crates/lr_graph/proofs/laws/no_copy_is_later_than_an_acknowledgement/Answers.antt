use Rattle.lr_graph.proofs.Timed.Along.{always-timed, noted-over, sent-over}
use Rattle.lr_graph.proofs.laws.no_copy_is_later_than_an_acknowledgement.Goals as goal

pub returns-clause-noted : goal.returns-clause-noted
returns-clause-noted g c config steps later legal = noted-over g.S.Service.meaning config steps later legal

pub returns-clause-sent : goal.returns-clause-sent
returns-clause-sent g c config steps later cid time legal sent =
    sent-over g.S.Service.meaning config steps later legal cid time sent

pub returns-clause-times : goal.returns-clause-times
returns-clause-times g c config steps legal = always-timed g.S.Service.meaning config steps legal
