use Rattle.std.proofs.Common.{◌≡◌, ◌∙◌, [], List, ap, subst, sym}
use Rattle.lr_base.specs.declared.events.Step.{Step}
use Rattle.lr_graph.specs.Made.{IsMade}
use Rattle.lr_graph.specs.Runs.{RunState, first_run}
use Rattle.lr_world.specs.Worlds.{run_of, setup_of}
use Rattle.lr_world.proofs.world.World.new.Goals as goal

pub invariant_of-result : goal.invariant_of-result
invariant_of-result g c =
    let it = c.in_ok-run.run' in
    let m = g.S.Service.meaning in
    let run : run_of it ≡ first_run m (setup_of it) = c.in_ok-run.ensures.run ∙ ap (first_run m) (sym c.in_ok-run.ensures.setup) in
    let made : IsMade m (setup_of it) [] (run_of it) = subst (λ (r : RunState _ _). IsMade m (setup_of it) [] r) (sym run) (c.a_made_history_goes_on.ensures.first (setup_of it)) in
    (∣ subst (λ (steps : List (Step _)). IsMade m (setup_of it) steps (run_of it)) (sym c.new-2.ensures) made ∣₁, tt)
