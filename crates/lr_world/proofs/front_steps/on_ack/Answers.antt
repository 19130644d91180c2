use Rattle.lr_base.specs.Fronts.FrontEvent.{AckTo}
use Rattle.lr_world.proofs.FrontActs.{acknowledged-nothing, front-done, front-undone}
use Rattle.lr_front.specs.Undoing.{saved}
use Rattle.lr_world.proofs.front_steps.on_ack.Goals as goal

pub returns-in-Ok-clause-did : goal.returns-in-Ok-clause-did
returns-in-Ok-clause-did g c =
    front-done g.O.Operation.kind_of (AckTo c.args.replica c.args.reading) c.args.front.now c.ack.new.self c.send.result _ c.args.out.now c.send.new.self
    (c.in-Ok.ensures.state c.args.replica) (c.in-Ok.ensures.acts c.args.replica) c.send.ensures

pub returns-in-Ok-clause-undo : goal.returns-in-Ok-clause-undo
returns-in-Ok-clause-undo g c =
    front-undone g.O.Operation.kind_of (AckTo c.args.replica c.args.reading) c.args.front.now c.ack.new.self (saved c.args.front.now) (c.in-Ok.ensures.state c.args.replica)
    (c.commands_can_be_undone.ensures.ack c.args.front.now c.args.replica c.args.reading)

pub returns-in-Err-Nothing-clause-did : goal.returns-in-Err-Nothing-clause-did
returns-in-Err-Nothing-clause-did g c =
    let nothing = acknowledged-nothing g.O.Operation.kind_of c.args.reading c.args.front.now c.ack.new.self c.in-Err-Nothing.field-0 c.in-Err-Nothing.ensures in
    front-done g.O.Operation.kind_of (AckTo c.args.replica c.args.reading) c.args.front.now c.ack.new.self c.say.result _ c.args.out.now c.say.new.self
    (nothing.state c.args.replica) (nothing.acts c.args.replica) c.say.ensures

pub returns-in-Err-Nothing-clause-undo : goal.returns-in-Err-Nothing-clause-undo
returns-in-Err-Nothing-clause-undo g c =
    let nothing = acknowledged-nothing g.O.Operation.kind_of c.args.reading c.args.front.now c.ack.new.self c.in-Err-Nothing.field-0 c.in-Err-Nothing.ensures in
    front-undone g.O.Operation.kind_of (AckTo c.args.replica c.args.reading) c.args.front.now c.ack.new.self (saved c.args.front.now) (nothing.state c.args.replica)
    (c.commands_can_be_undone.ensures.ack c.args.front.now c.args.replica c.args.reading)
