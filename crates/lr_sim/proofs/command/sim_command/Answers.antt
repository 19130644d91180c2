use Rattle.std.proofs.Common.{subst, sym}
use Rattle.lr_outside.specs.Seen.{source_change}
use Rattle.lr_sim.specs.Ends.{HasReadInput}
use Rattle.lr_sim.proofs.Ending.{complete-from}
use Rattle.lr_sim.proofs.command.sim_command.Goals as goal

pub returns-clause-meant : goal.returns-clause-meant
returns-clause-meant g c =
    let source = source_change g.R.Source.seen c.args.input.now c.read_up_to.new.input in
    c.simulate.ensures source (subst (HasReadInput source) (sym c.as_slice.ensures) c.in-Ok.ensures.read)

pub returns-clause-complete : goal.returns-clause-complete
returns-clause-complete g c = complete-from _ _ _ (returns-clause-meant g c)
