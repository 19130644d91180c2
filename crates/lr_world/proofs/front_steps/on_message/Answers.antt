use Rattle.std.proofs.Common.{ap, subst, sym, ◌∷◌, [], ◌∙◌}
use Rattle.lr_base.specs.Fronts.FrontEvent.{TakeMessage}
use Rattle.lr_base.specs.declared.acts.Act.TheVariants.{Say}
use Rattle.lr_front.specs.Done.{HasTaken}
use Rattle.lr_world.proofs.FrontActs.{front-done, is-reply}
use Rattle.lr_world.proofs.front_steps.on_message.Goals.{in-Got, in-Stale}
use Rattle.lr_world.proofs.front_steps.on_message.Goals as goal

pub take_off-requires-clause-reply : goal.take_off-requires-clause-reply
take_off-requires-clause-reply g c = is-reply c.args.front.now c.args.message.now c.requires.stamps c.in-Done.is

pub returns-after-take_off-clause-did : goal.returns-after-take_off-clause-did
returns-after-take_off-clause-did g c =
    let K = g.O.Operation.kind_of in
    elim c.match-take_off.branch [
      | in-Got w ↦
          let done = subst (HasTaken K c.args.message.now c.args.front.now c.take_off.new.self) w.in-Got.is c.take_off.ensures.taken in
          front-done K (TakeMessage c.args.message.now) c.args.front.now c.take_off.new.self c.say.result (Say c.match-take_off.line) c.args.out.now c.say.new.self
          (done.state 0) (done.acts 0 ∙ ap (λ line. Say line ∷ []) (sym w.line-is)) c.say.ensures
      | in-Stale w ↦
          let done = subst (HasTaken K c.args.message.now c.args.front.now c.take_off.new.self) w.in-Stale.is c.take_off.ensures.taken in
          front-done K (TakeMessage c.args.message.now) c.args.front.now c.take_off.new.self c.say.result (Say c.match-take_off.line) c.args.out.now c.say.new.self
          (done.state 0) (done.acts 0 ∙ ap (λ line. Say line ∷ []) (sym w.line-is)) c.say.ensures
    ]
