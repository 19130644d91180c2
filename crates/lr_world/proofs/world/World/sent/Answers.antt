use Rattle.std.proofs.Common.{◌∙◌, ap, length}
use Rattle.lr_graph.specs.Central.{facts_after}
use Rattle.lr_graph.specs.Graph.{first_facts}
use Rattle.lr_world.specs.Worlds.{run_of, setup_of}
use Rattle.lr_world.proofs.Histories.{sent-of}
use Rattle.lr_world.proofs.world.World.sent.Goals as goal

pub returns : goal.returns
returns g c =
    let it = c.self.inside in
    c.sent.ensures ∙ sent-of g.S.Service.meaning (setup_of it.run) c.stamps_stand_for_sets.ensures it.steps (run_of it.run) it.made
    ∙ ap (λ h. length (facts_after g.S.Service.meaning h.config first_facts h.steps).messages) c.self.view_is
