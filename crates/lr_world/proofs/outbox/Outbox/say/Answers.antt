use Rattle.std.proofs.Common.{rules}
use Rattle.lr_world.specs.Outboxes.{after_act}
use Rattle.lr_world.proofs.outbox.Outbox.say.Goals as goal

pub returns : goal.returns
unfolding after_act
returns g c = search rules
