use Rattle.lr_log.proofs.Logs.{ordered-update}
use Rattle.lr_log.proofs.log.Log.add_update.Goals as goal

pub invariant_of-self-2 : goal.invariant_of-self-2
invariant_of-self-2 g c =
    ordered-update c.args.update c.args.self.now c.self.inside.updates c.insert.new.self c.self.inside.acks
    c.self.view_is c.requires.free
    c.self.invariant c.in_ok-insert.ensures.ok
