use Rattle.std.proofs.Common.{◌∙◌, ap, subst, sym}
use Rattle.lr_base.specs.declared.names.Config.{Config}
use Rattle.lr_graph.specs.Legal.{IsLegal}
use Rattle.lr_world.specs.Worlds.{run_of, setup_of}
use Rattle.lr_world.proofs.Histories.{legal-of, made-more, made-same}
use Rattle.lr_world.proofs.world.World.step.Goals as goal

pub returns-in_err-pending-clause-legal : goal.returns-in_err-pending-clause-legal
returns-in_err-pending-clause-legal g c =
    let it = c.self.inside in
    let m = g.S.Service.meaning in
    subst (λ (config : Config). IsLegal m config it.steps) (sym c.begin.ensures.setup)
    (legal-of m (setup_of it.run) c.what_is_made_is_legal.ensures it.steps (run_of it.run) it.made)

pub invariant_of-self-inside-in-Ok : goal.invariant_of-self-inside-in-Ok
invariant_of-self-inside-in-Ok g c =
    let it = c.self.inside in
    let begun = c.in_ok-pending.ensures.made in (
      made-more g.S.Service.meaning (setup_of it.run) (setup_of c.finish.new.self) _ c.args.event.now it.steps
          c.note.new.steps (run_of it.run) (run_of c.finish.new.self) c.lines.result.now c.a_made_history_goes_on.ensures.next
          (c.finish.ensures.setup ∙ c.begin.ensures.setup) (ap (λ h. h.config) c.self.view_is) (c.requires, c.calls_own_op.ensures)
          (c.finish.ensures.run ∙ begun.finishes) (c.lines.ensures ∙ begun.printed) c.in-Ok.ensures.ok it.made,
      tt,
    )

pub invariant_of-self-inside-in-Err : goal.invariant_of-self-inside-in-Err
invariant_of-self-inside-in-Err g c =
    let it = c.self.inside in (
      made-same g.S.Service.meaning (setup_of it.run) (setup_of c.undo.new.self) it.steps c.note.new.steps (run_of it.run)
          (run_of c.undo.new.self) (c.undo.ensures.setup ∙ c.begin.ensures.setup)
          (c.undo.ensures.run (run_of it.run) c.in_ok-pending.ensures.made.undoes) c.in-Err.ensures.err it.made,
      tt,
    )

pub returns-in-Ok-clause-legal : goal.returns-in-Ok-clause-legal
returns-in-Ok-clause-legal g c =
    let it = c.self.inside in
    let begun = c.in_ok-pending.ensures.made in
    legal-of g.S.Service.meaning (setup_of c.finish.new.self) c.what_is_made_is_legal.ensures c.note.new.steps
    (run_of c.finish.new.self)
    (made-more g.S.Service.meaning (setup_of it.run) (setup_of c.finish.new.self) _ c.args.event.now it.steps
    c.note.new.steps (run_of it.run) (run_of c.finish.new.self) c.lines.result.now c.a_made_history_goes_on.ensures.next
    (c.finish.ensures.setup ∙ c.begin.ensures.setup) (ap (λ h. h.config) c.self.view_is) (c.requires, c.calls_own_op.ensures)
    (c.finish.ensures.run ∙ begun.finishes) (c.lines.ensures ∙ begun.printed) c.in-Ok.ensures.ok it.made)

pub returns-in-Err-clause-legal : goal.returns-in-Err-clause-legal
returns-in-Err-clause-legal g c =
    let it = c.self.inside in
    legal-of g.S.Service.meaning (setup_of c.undo.new.self) c.what_is_made_is_legal.ensures c.note.new.steps
    (run_of c.undo.new.self)
    (made-same g.S.Service.meaning (setup_of it.run) (setup_of c.undo.new.self) it.steps c.note.new.steps
    (run_of it.run) (run_of c.undo.new.self) (c.undo.ensures.setup ∙ c.begin.ensures.setup)
    (c.undo.ensures.run (run_of it.run) c.in_ok-pending.ensures.made.undoes) c.in-Err.ensures.err it.made)
