use Rattle.lr_graph.specs.Runs.{first_run, history_of, run_after}
use Rattle.lr_graph.proofs.Histories.Law.{history-events, made-legal, steps-made}
use Rattle.lr_graph.proofs.laws.runs_are_legal.Goals as goal

pub returns-clause-legal : goal.returns-clause-legal
returns-clause-legal g c config events fit =
    let first = first_run g.S.Service.meaning config in
    made-legal g.S.Service.meaning _ g.met.S.Service.lawful config (history_of g.S.Service.meaning config events) (run_after g.S.Service.meaning first events)
    (steps-made g.S.Service.meaning config events first fit)

pub returns-clause-events : goal.returns-clause-events
returns-clause-events g c config events = history-events g.S.Service.meaning (first_run g.S.Service.meaning config) events

pub returns-clause-made : goal.returns-clause-made
returns-clause-made g c config events fit = steps-made g.S.Service.meaning config events (first_run g.S.Service.meaning config) fit
