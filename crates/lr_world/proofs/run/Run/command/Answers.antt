use Rattle.std.proofs.Common.{◌∙◌, ap, lt-ltb, refl, subst, sym}
use Rattle.lr_base.specs.declared.names.Actor.TheVariants.{Client}
use Rattle.lr_world.proofs.Begun.{front-begun, has-acted, made-front, point-fits, posts-fitting}
use Rattle.lr_world.proofs.Reading.{front-put, front-read}
use Rattle.lr_world.proofs.RunLemmas.{map-ok}
use Rattle.lr_world.proofs.Shaped.{fitting-front, front-stays}
use Rattle.lr_world.specs.Outboxes.{opened}
use Rattle.lr_world.specs.Parts.{IsFrontTask, event_of}
use Rattle.lr_world.specs.Worlds.{lines_of, run_of}
use Rattle.lr_world.proofs.run.Run.command.Goals as goal

pub make-requires : goal.make-requires
make-requires g c =
    let it = c.args.self.now in
    let own = (front-read it c.args.client _ c.requires.client c.index_mut-front.ensures.value).0 in
    subst (λ n. IsFrontTask n c.args.task) (sym own.setting) c.requires.task.0

pub invariant_of-self-clause-all_fronts : goal.invariant_of-self-clause-all_fronts
invariant_of-self-clause-all_fronts g c =
    let it = c.args.self.now in
    let own = (front-read it c.args.client _ c.requires.client c.index_mut-front.ensures.value).0 in
    let fits = subst (λ n. IsFrontTask n c.args.task) (sym own.setting) c.requires.task.0 in
    front-put it c.args.client c.make.new.front
    (made-front g.S.Op.Operation.kind_of it.config c.args.client c.index_mut-front.result.now c.make.new.front
    (event_of c.args.task) c.open.new.self c.make.new.out c.make.result
    (front-stays g.S.Op.Operation.kind_of it.config c.args.client c.requires.client c.index_mut-front.result.now c.args.task fits own)
    own c.make.ensures.did c.make.ensures.err)

pub send-requires-clause-acting : goal.send-requires-clause-acting
send-requires-clause-acting g c =
    let it = c.args.self.now in
    let own = (front-read it c.args.client _ c.requires.client c.index_mut-front.ensures.value).0 in
    (c.requires.client, point-fits it.config c.args.client c.in_ok-point.point _ c.make.new.front c.in_ok-point.ensures.undo own)

pub send-requires-clause-posts : goal.send-requires-clause-posts
send-requires-clause-posts g c =
    let it = c.args.self.now in
    let own = (front-read it c.args.client _ c.requires.client c.index_mut-front.ensures.value).0 in
    posts-fitting g.S.Op.Operation.kind_of it.config (Client c.args.client) c.len.result _ c.open.new.self
    c.make.new.out c.open.ensures c.in_ok-point.ensures.did.acts_are
    (lt-ltb c.args.client it.config.clients c.requires.client)
    (fitting-front g.S.Op.Operation.kind_of it.config c.args.client c.requires.client c.index_mut-front.result.now c.args.task own c.requires.task.1)

pub send-requires-clause-begun : goal.send-requires-clause-begun
send-requires-clause-begun g c =
    let it = c.args.self.now in
    let there = (front-read it c.args.client _ c.requires.client c.index_mut-front.ensures.value).1 in (
      run_of it,
      record {
        fronts = has-acted (run_of it) c.args.client _ c.make.new.front c.in_ok-point.point there c.in_ok-point.ensures.undo;
        replicas = refl;
      },
    )

pub returns-clause-made : goal.returns-clause-made
returns-clause-made g c =
    let it = c.args.self.now in
    let next = c.send.new.self in
    let front = c.index_mut-front.result.now in
    let read = front-read it c.args.client front c.requires.client c.index_mut-front.ensures.value in
    map-ok c.send.result _ _
    (λ pending sent. front-begun g.S.Service.meaning g.S.Op.Operation.kind_of g.met.S.Service.lawful.kinds it.config (run_of it) (run_of next) c.args.client front c.make.new.front
    (event_of c.args.task) c.in_ok-point.point c.open.new.self c.make.new.out (lines_of next) pending read.1
    (c.open.ensures ∙ ap (opened (Client c.args.client)) (c.len.ensures ∙ it.posted.ok.0)) c.in_ok-point.ensures.did c.in_ok-point.ensures.undo
    (c.requires.client, point-fits it.config c.args.client c.in_ok-point.point front c.make.new.front c.in_ok-point.ensures.undo read.0) sent)
    c.send.ensures.ok

pub returns-clause-err : goal.returns-clause-err
returns-clause-err g c =
    let it = c.args.self.now in
    let there = (front-read it c.args.client _ c.requires.client c.index_mut-front.ensures.value).1 in
    c.send.ensures.err (run_of it)
    (record {
      fronts = has-acted (run_of it) c.args.client _ c.make.new.front c.in_ok-point.point there c.in_ok-point.ensures.undo;
      replicas = refl;
    })
