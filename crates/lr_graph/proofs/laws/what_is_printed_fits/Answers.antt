use Rattle.lr_graph.proofs.Histories.PrintedFits.{printed-fits}
use Rattle.lr_graph.proofs.laws.what_is_printed_fits.Goals as goal

pub returns : goal.returns
returns g c config steps valid legal fits =
    printed-fits g.S.Service.meaning _ g.met.S.Service.lawful config valid steps legal fits
