use Rattle.std.proofs.Common.{◌≡◌, ◌∙◌, ◌+◌, Some, ap, lt-ltb, refl, subst, sym}
use Rattle.std.specs.List.{slice_get}
use Rattle.lr_base.specs.Fronts.{TakeMessage}
use Rattle.lr_base.specs.declared.acts.Posted.{Posted}
use Rattle.lr_base.specs.declared.names.Actor.TheVariants.{Client}
use Rattle.lr_causal.specs.Causal.{AllStamps}
use Rattle.lr_graph.specs.Runs.{front_does}
use Rattle.lr_world.proofs.Begun.{front-begun, has-acted, made-front, point-fits, posts-fitting}
use Rattle.lr_world.proofs.Reading.{front-put, front-read}
use Rattle.lr_world.proofs.RunLemmas.{map-ok}
use Rattle.lr_world.proofs.Shaped.{after-take, fitting-message}
use Rattle.lr_world.specs.Outboxes.{opened}
use Rattle.lr_world.specs.Pending.{HasBegun}
use Rattle.lr_world.specs.Shapes.{stamps_in}
use Rattle.lr_world.specs.Worlds.{lines_of, run_of}
use Rattle.lr_world.proofs.run.Run.give.Goals as goal

pub make-requires : goal.make-requires
make-requires g c =
    let it = c.args.self.now in
    let found = ap (λ ps. slice_get ps c.args.at) (sym c.as_slice.ensures.value) ∙ c.message_at.ensures in
    let own = (front-read it c.args.client _ c.requires.client c.index_mut-front.ensures.value).0 in
    let stamps = subst (λ n. AllStamps (n + 1) (stamps_in c.message_at.result.now.message)) (sym own.setting)
    (it.all_posted c.args.at c.message_at.result.now found).sendable.shaped.stamps in
    stamps

pub invariant_of-self-clause-all_fronts : goal.invariant_of-self-clause-all_fronts
invariant_of-self-clause-all_fronts g c =
    let it = c.args.self.now in
    let found = ap (λ ps. slice_get ps c.args.at) (sym c.as_slice.ensures.value) ∙ c.message_at.ensures in
    let own = (front-read it c.args.client _ c.requires.client c.index_mut-front.ensures.value).0 in
    let stamps = subst (λ n. AllStamps (n + 1) (stamps_in c.message_at.result.now.message)) (sym own.setting)
    (it.all_posted c.args.at c.message_at.result.now found).sendable.shaped.stamps in
    front-put it c.args.client c.make.new.front
    (made-front g.S.Op.Operation.kind_of it.config c.args.client c.index_mut-front.result.now c.make.new.front
    (TakeMessage c.message_at.result.now.message) c.open.new.self c.make.new.out c.make.result
    (after-take g.S.Op.Operation.kind_of it.config c.args.client c.requires.client c.message_at.result.now.message c.index_mut-front.result.now stamps own)
    own c.make.ensures.did c.make.ensures.err)

pub send-requires-clause-acting : goal.send-requires-clause-acting
send-requires-clause-acting g c =
    let it = c.args.self.now in
    let own = (front-read it c.args.client _ c.requires.client c.index_mut-front.ensures.value).0 in
    (c.requires.client, point-fits it.config c.args.client c.in_ok-point.point _ c.make.new.front c.in_ok-point.ensures.undo own)

pub send-requires-clause-posts : goal.send-requires-clause-posts
send-requires-clause-posts g c =
    let it = c.args.self.now in
    let own = (front-read it c.args.client _ c.requires.client c.index_mut-front.ensures.value).0 in
    posts-fitting g.S.Op.Operation.kind_of it.config (Client c.args.client) c.len.result _ c.open.new.self
    c.make.new.out c.open.ensures c.in_ok-point.ensures.did.acts_are
    (lt-ltb c.args.client it.config.clients c.requires.client)
    (fitting-message g.S.Op.Operation.kind_of it.config c.args.client c.requires.client c.message_at.result.now.message c.index_mut-front.result.now)

pub send-requires-clause-begun : goal.send-requires-clause-begun
send-requires-clause-begun g c =
    let it = c.args.self.now in
    let there = (front-read it c.args.client _ c.requires.client c.index_mut-front.ensures.value).1 in (
      run_of it,
      record {
        fronts = has-acted (run_of it) c.args.client _ c.make.new.front c.in_ok-point.point there c.in_ok-point.ensures.undo;
        replicas = refl;
      },
    )

pub returns-clause-made : goal.returns-clause-made
returns-clause-made g c posted here =
    let it = c.args.self.now in
    let next = c.send.new.self in
    let front = c.index_mut-front.result.now in
    let read = front-read it c.args.client front c.requires.client c.index_mut-front.ensures.value in
    let found = ap (λ ps. slice_get ps c.args.at) (sym c.as_slice.ensures.value) ∙ c.message_at.ensures in
    let sent : Some c.message_at.result.now ≡ Some posted = sym found ∙ here in
    let same : c.message_at.result.now ≡ posted = cc in
    map-ok c.send.result _ _
    (λ pending sent. subst (λ (p : Posted _). HasBegun it.config (front_does g.S.Service.meaning (run_of it) c.args.client (TakeMessage p.message) (slice_get it.fronts.items c.args.client))
    (run_of it) (run_of next) (lines_of next) pending) same
    (front-begun g.S.Service.meaning g.S.Op.Operation.kind_of g.met.S.Service.lawful.kinds it.config (run_of it) (run_of next) c.args.client front c.make.new.front
    (TakeMessage c.message_at.result.now.message) c.in_ok-point.point c.open.new.self c.make.new.out (lines_of next) pending read.1
    (c.open.ensures ∙ ap (opened (Client c.args.client)) (c.len.ensures ∙ it.posted.ok.0)) c.in_ok-point.ensures.did c.in_ok-point.ensures.undo
    (c.requires.client, point-fits it.config c.args.client c.in_ok-point.point front c.make.new.front c.in_ok-point.ensures.undo read.0) sent))
    c.send.ensures.ok

pub returns-clause-err : goal.returns-clause-err
returns-clause-err g c =
    let it = c.args.self.now in
    let there = (front-read it c.args.client _ c.requires.client c.index_mut-front.ensures.value).1 in
    c.send.ensures.err (run_of it)
    (record {
      fronts = has-acted (run_of it) c.args.client _ c.make.new.front c.in_ok-point.point there c.in_ok-point.ensures.undo;
      replicas = refl;
    })
