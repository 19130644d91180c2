use Rattle.lr_script.proofs.Refusing.{refusal}
use Rattle.lr_script.proofs.laws.what_is_refused_means_nothing.Goals as goal

pub returns : goal.returns
returns g c = refusal g.S.Service.meaning g.met.S.Service.lawful.printable_text
