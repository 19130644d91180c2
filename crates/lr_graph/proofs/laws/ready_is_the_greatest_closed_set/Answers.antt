use Rattle.lr_graph.proofs.Lists.Members.{each-from}
use Rattle.lr_graph.proofs.Sets.ReadySets.{ready-closed, ready-greatest, ready-received}
use Rattle.lr_graph.proofs.laws.ready_is_the_greatest_closed_set.Goals as goal

pub returns-clause-received : goal.returns-clause-received
returns-clause-received g c accepted received = each-from _ accepted (λ a member here. ready-received accepted received a.spot here)

pub returns-clause-closed : goal.returns-clause-closed
returns-clause-closed g c accepted received sound = ready-closed accepted received sound

pub returns-clause-greatest : goal.returns-clause-greatest
returns-clause-greatest g c accepted received set inside closed = ready-greatest accepted received set inside closed
