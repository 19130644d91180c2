use Rattle.lr_graph.proofs.Histories.Law.{made-legal}
use Rattle.lr_graph.proofs.laws.what_is_made_is_legal.Goals as goal

pub returns : goal.returns
returns g c config steps run made = made-legal g.S.Service.meaning _ g.met.S.Service.lawful config steps run made
