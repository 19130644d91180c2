use Rattle.lr_graph.specs.Graph.{first_facts}
use Rattle.lr_graph.proofs.Histories.Law.{one-history}
use Rattle.lr_graph.proofs.laws.legal_histories_are_one.Goals as goal

pub returns : goal.returns
returns g c config one other first second same = one-history g.S.Service.meaning config one other first_facts first second same
