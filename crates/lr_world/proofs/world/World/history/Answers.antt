use Rattle.std.proofs.Common.{subst}
use Rattle.lr_graph.specs.Legal.{IsLegal}
use Rattle.lr_world.specs.Worlds.{run_of, setup_of}
use Rattle.lr_world.proofs.Histories.{legal-of}
use Rattle.lr_world.proofs.world.World.history.Goals as goal

pub returns-clause-legal : goal.returns-clause-legal
returns-clause-legal g c =
    let it = c.self.inside in
    subst (λ h. IsLegal g.S.Service.meaning h.config h.steps) c.self.view_is
    (legal-of g.S.Service.meaning (setup_of it.run) c.what_is_made_is_legal.ensures it.steps (run_of it.run) it.made)
