use Rattle.lr_report.proofs.ScriptsFit.{script-fits}
use Rattle.lr_report.proofs.laws.histories_of_scripts_fit.Goals as goal

pub returns : goal.returns
returns g c = script-fits g.S.Service.meaning
