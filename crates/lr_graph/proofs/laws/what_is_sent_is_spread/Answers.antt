use Rattle.lr_graph.proofs.Pruning.Staying.{law-spread}
use Rattle.lr_graph.proofs.laws.what_is_sent_is_spread.Goals as goal

pub returns : goal.returns
returns g c config steps legal = law-spread g.S.Service.meaning _ g.met.S.Service.lawful config steps legal
