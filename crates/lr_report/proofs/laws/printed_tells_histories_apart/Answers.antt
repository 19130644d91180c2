use Rattle.lr_graph.specs.Graph.{first_facts}
use Rattle.lr_report.proofs.HistoriesApart.{histories_apart}
use Rattle.lr_report.proofs.LegalApart.{legal-tellable}
use Rattle.lr_report.proofs.laws.printed_tells_histories_apart.Goals as goal

pub returns-clause-legal : goal.returns-clause-legal
returns-clause-legal g c header a b valid legal other fits and_fits =
    let m = g.S.Service.meaning in
    let fit = c.what_is_printed_fits.ensures header.config in
    histories_apart m c.an_event_has_one_line.ensures.first header a b
    (legal-tellable m header.config valid first_facts a legal fits.1 (fit a valid legal fits))
    (legal-tellable m header.config valid first_facts b other and_fits.1 (fit b valid other and_fits))

pub returns-clause-tellable : goal.returns-clause-tellable
returns-clause-tellable g c = histories_apart g.S.Service.meaning c.an_event_has_one_line.ensures.first
