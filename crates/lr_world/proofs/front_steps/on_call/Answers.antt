use Rattle.lr_base.specs.Fronts.FrontEvent.{CallTo}
use Rattle.lr_world.proofs.FrontActs.{called, front-done, front-undone}
use Rattle.lr_front.specs.Undoing.{saved}
use Rattle.lr_world.proofs.front_steps.on_call.Goals as goal

pub returns-in-Ok-clause-did : goal.returns-in-Ok-clause-did
returns-in-Ok-clause-did g c =
    front-done g.S.Op.Operation.kind_of (CallTo c.args.replica c.args.reading c.args.op.now) c.args.front.now c.call.new.self c.send.result _ c.args.out.now c.send.new.self
    (c.in-Ok.ensures.state c.args.replica) (c.in-Ok.ensures.acts c.args.replica) c.send.ensures

pub returns-in-Ok-clause-undo : goal.returns-in-Ok-clause-undo
returns-in-Ok-clause-undo g c =
    front-undone g.S.Op.Operation.kind_of (CallTo c.args.replica c.args.reading c.args.op.now) c.args.front.now c.call.new.self (saved c.args.front.now) (c.in-Ok.ensures.state c.args.replica)
    (c.commands_can_be_undone.ensures.call c.args.front.now c.args.replica c.args.reading c.args.op.now)

pub returns-in-Err-Unfinished-clause-did : goal.returns-in-Err-Unfinished-clause-did
returns-in-Err-Unfinished-clause-did g c =
    let done = called g.S.Op.Operation.kind_of c.args.reading c.args.op.now c.args.front.now c.call.new.self c.in-Err-Unfinished.field-0-is c.in-Err-Unfinished.ensures in
    front-done g.S.Op.Operation.kind_of (CallTo c.args.replica c.args.reading c.args.op.now) c.args.front.now c.call.new.self c.say.result _ c.args.out.now c.say.new.self
    (done.state c.args.replica) (done.acts c.args.replica) c.say.ensures

pub returns-in-Err-Unfinished-clause-undo : goal.returns-in-Err-Unfinished-clause-undo
returns-in-Err-Unfinished-clause-undo g c =
    let done = called g.S.Op.Operation.kind_of c.args.reading c.args.op.now c.args.front.now c.call.new.self c.in-Err-Unfinished.field-0-is c.in-Err-Unfinished.ensures in
    front-undone g.S.Op.Operation.kind_of (CallTo c.args.replica c.args.reading c.args.op.now) c.args.front.now c.call.new.self (saved c.args.front.now) (done.state c.args.replica)
    (c.commands_can_be_undone.ensures.call c.args.front.now c.args.replica c.args.reading c.args.op.now)

pub returns-in-Err-Worn-clause-did : goal.returns-in-Err-Worn-clause-did
returns-in-Err-Worn-clause-did g c =
    let done = called g.S.Op.Operation.kind_of c.args.reading c.args.op.now c.args.front.now c.call.new.self c.in-Err-Worn.field-0-is c.in-Err-Worn.ensures in
    front-done g.S.Op.Operation.kind_of (CallTo c.args.replica c.args.reading c.args.op.now) c.args.front.now c.call.new.self c.say-in-Err-Worn.result _ c.args.out.now c.say-in-Err-Worn.new.self
    (done.state c.args.replica) (done.acts c.args.replica) c.say-in-Err-Worn.ensures

pub returns-in-Err-Worn-clause-undo : goal.returns-in-Err-Worn-clause-undo
returns-in-Err-Worn-clause-undo g c =
    let done = called g.S.Op.Operation.kind_of c.args.reading c.args.op.now c.args.front.now c.call.new.self c.in-Err-Worn.field-0-is c.in-Err-Worn.ensures in
    front-undone g.S.Op.Operation.kind_of (CallTo c.args.replica c.args.reading c.args.op.now) c.args.front.now c.call.new.self (saved c.args.front.now) (done.state c.args.replica)
    (c.commands_can_be_undone.ensures.call c.args.front.now c.args.replica c.args.reading c.args.op.now)
