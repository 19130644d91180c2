use Rattle.lr_base.specs.OpLaws.{one-text}
use Rattle.lr_script.proofs.OneMeaning.{script_one, fault_one}
use Rattle.lr_script.proofs.ScriptRefusals.{refuted}
use Rattle.lr_script.proofs.laws.scripts_have_one_meaning.Goals as goal

pub returns-clause-script : goal.returns-clause-script
returns-clause-script g c = script_one g.S.Service.meaning g.met.S.Service.lawful.printable_text (one-text g.S.Service.meaning g.met.S.Service.lawful)

pub returns-clause-fault : goal.returns-clause-fault
returns-clause-fault g c = fault_one g.S.Service.meaning g.met.S.Service.lawful.printable_text

pub returns-clause-apart : goal.returns-clause-apart
returns-clause-apart g c = λ bytes header events line cause is fault. refuted g.S.Service.meaning g.met.S.Service.lawful.printable_text bytes line cause fault header events is
