use Rattle.std.proofs.Common.{refl}
use Rattle.lr_base.specs.OpLaws.{found-op, none-found}
use Rattle.svc_tally.specs.Tally.{tally}
use Rattle.svc_tally.specs.TallyLaw.{tally_lawful}
use Rattle.svc_tally.proofs.counts.TallyService.read_op.Goals as goal

pub returns-in-Some-clause-found : goal.returns-in-Some-clause-found
returns-in-Some-clause-found c =
    found-op tally tally_lawful c.args.text.now c.in-Some.op c.in-Some.ensures.written c.in-Some.ensures.real

pub returns-in-None-clause-refused : goal.returns-in-None-clause-refused
returns-in-None-clause-refused c err = none-found tally tally_lawful c.args.text.now (c.in-None.ensures.none refl)
