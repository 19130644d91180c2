use Rattle.std.proofs.lemmas.Result.{on_ok_weaker}
use Rattle.lr_graph.proofs.Told.Gathering.{told-received}
use Rattle.lr_graph.proofs.facts.items.Gathered.set_received.Goals as goal

pub returns : goal.returns
returns g c = rw (← c.from.ensures) (on_ok_weaker c.put.result (told-received c.args.self.now c.from.result c.args.spots c.put.new.self) c.put.ensures)
