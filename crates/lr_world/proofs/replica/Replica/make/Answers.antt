use Rattle.lr_world.proofs.replica.Replica.make.Goals as goal

pub returns-in_err-act-clause-point : goal.returns-in_err-act-clause-point
returns-in_err-act-clause-point g c before heard is = c.act.ensures.undo.points c.args.point.now before heard is

pub returns-clause-point : goal.returns-clause-point
returns-clause-point g c before heard is = c.settle.ensures.point before (c.act.ensures.undo.points c.args.point.now before heard is)
