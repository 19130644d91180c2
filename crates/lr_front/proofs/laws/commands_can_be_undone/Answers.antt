use Rattle.lr_front.specs.FrontLaws.{undo-call, undo-reading}
use Rattle.lr_front.proofs.laws.commands_can_be_undone.Goals as goal

pub returns-clause-call : goal.returns-clause-call
returns-clause-call g c front replica reading op = undo-call front replica reading op

pub returns-clause-resend : goal.returns-clause-resend
returns-clause-resend g c front replica reading = undo-reading front reading

pub returns-clause-ack : goal.returns-clause-ack
returns-clause-ack g c front replica reading = undo-reading front reading
