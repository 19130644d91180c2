use Rattle.lr_log.proofs.Logs.{ordered-ack}
use Rattle.lr_log.proofs.log.Log.add_ack.Goals as goal

pub invariant_of-self-2 : goal.invariant_of-self-2
invariant_of-self-2 g c =
    ordered-ack c.args.ack c.args.self.now c.self.inside.updates c.self.inside.acks c.insert.new.self c.self.view_is
    c.requires.free
    c.self.invariant c.in_ok-insert.ensures.ok
