use Rattle.std.proofs.lemmas.Result.{on_ok_weaker}
use Rattle.lr_graph.proofs.Told.Gathering.{told-front}
use Rattle.lr_graph.proofs.facts.items.Gathered.set_front.Goals as goal

pub returns : goal.returns
returns g c = on_ok_weaker c.put.result (told-front c.args.self.now c.args.client c.args.front c.put.new.self) c.put.ensures
