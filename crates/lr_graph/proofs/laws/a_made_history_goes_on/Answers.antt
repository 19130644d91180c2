use Rattle.std.proofs.Common.{refl}
use Rattle.lr_graph.specs.Runs.{first_run}
use Rattle.lr_graph.proofs.Histories.Law.{made-more}
use Rattle.lr_graph.proofs.laws.a_made_history_goes_on.Goals as goal

pub returns-clause-first : goal.returns-clause-first
returns-clause-first g c config = refl

pub returns-clause-next : goal.returns-clause-next
returns-clause-next g c config steps run event made fits = made-more g.S.Service.meaning config steps (first_run g.S.Service.meaning config) run event made fits
