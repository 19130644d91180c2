use Rattle.lr_base.specs.Fronts.FrontEvent.{ResendTo}
use Rattle.lr_world.proofs.FrontActs.{front-done, front-undone, resent}
use Rattle.lr_front.specs.Undoing.{saved}
use Rattle.lr_world.proofs.front_steps.on_resend.Goals as goal

pub returns-in-Ok-clause-did : goal.returns-in-Ok-clause-did
returns-in-Ok-clause-did g c =
    front-done g.O.Operation.kind_of (ResendTo c.args.replica c.args.reading) c.args.front.now c.resend.new.self c.send.result _ c.args.out.now c.send.new.self
    (c.in-Ok.ensures.state c.args.replica) (c.in-Ok.ensures.acts c.args.replica) c.send.ensures

pub returns-in-Ok-clause-undo : goal.returns-in-Ok-clause-undo
returns-in-Ok-clause-undo g c =
    front-undone g.O.Operation.kind_of (ResendTo c.args.replica c.args.reading) c.args.front.now c.resend.new.self (saved c.args.front.now) (c.in-Ok.ensures.state c.args.replica)
    (c.commands_can_be_undone.ensures.resend c.args.front.now c.args.replica c.args.reading)

pub returns-in-Err-Idle-clause-did : goal.returns-in-Err-Idle-clause-did
returns-in-Err-Idle-clause-did g c =
    let done = resent g.O.Operation.kind_of c.args.reading c.args.front.now c.resend.new.self c.in-Err-Idle.field-0-is c.in-Err-Idle.ensures in
    front-done g.O.Operation.kind_of (ResendTo c.args.replica c.args.reading) c.args.front.now c.resend.new.self c.say.result _ c.args.out.now c.say.new.self
    (done.state c.args.replica) (done.acts c.args.replica) c.say.ensures

pub returns-in-Err-Idle-clause-undo : goal.returns-in-Err-Idle-clause-undo
returns-in-Err-Idle-clause-undo g c =
    let done = resent g.O.Operation.kind_of c.args.reading c.args.front.now c.resend.new.self c.in-Err-Idle.field-0-is c.in-Err-Idle.ensures in
    front-undone g.O.Operation.kind_of (ResendTo c.args.replica c.args.reading) c.args.front.now c.resend.new.self (saved c.args.front.now) (done.state c.args.replica)
    (c.commands_can_be_undone.ensures.resend c.args.front.now c.args.replica c.args.reading)
