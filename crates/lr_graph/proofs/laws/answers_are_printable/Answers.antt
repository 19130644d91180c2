use Rattle.lr_graph.proofs.Histories.Printable.{answers-printable}
use Rattle.lr_graph.proofs.laws.answers_are_printable.Goals as goal

pub returns : goal.returns
returns g c config steps legal = answers-printable g.S.Service.meaning _ g.met.S.Service.lawful config steps legal
