use Rattle.lr_script.proofs.FindingLines.{each_meaning}
use Rattle.lr_script.proofs.laws.every_input_has_a_meaning.Goals as goal

pub returns : goal.returns
returns g c = each_meaning g.S.Service.meaning g.met.S.Service.lawful
