use Rattle.lr_graph.proofs.Histories.Orderings.{every-order, ready-order}
use Rattle.lr_graph.proofs.laws.every_order_gives_one_value.Goals as goal

pub returns-clause-value : goal.returns-clause-value
returns-clause-value g c config steps legal i order is = every-order g.S.Service.meaning _ g.met.S.Service.lawful config steps legal i order is

pub returns-clause-own : goal.returns-clause-own
returns-clause-own g c config steps legal i = ready-order g.S.Service.meaning _ g.met.S.Service.lawful config steps legal i
