use Rattle.std.proofs.Common.{◌∙◌, ap, lt-ltb, refl, subst, sym}
use Rattle.lr_base.specs.declared.names.Actor.TheVariants.{Replica}
use Rattle.lr_base.specs.declared.names.Config.{Config}
use Rattle.lr_graph.specs.Runs.{Stepped}
use Rattle.lr_world.proofs.Begun.{has-begun, ordered-task, posts-fitting, replica-begun, task-of}
use Rattle.lr_world.proofs.Fitting.{fitting-begun}
use Rattle.lr_world.proofs.Reading.{replica-put, replica-read}
use Rattle.lr_world.proofs.RunLemmas.{map-ok}
use Rattle.lr_world.specs.Outboxes.{opened}
use Rattle.lr_world.specs.Parts.{IsTask, begun}
use Rattle.lr_world.specs.Pending.{HasBegun, IsTaskOf}
use Rattle.lr_world.specs.Shapes.{AllFitting}
use Rattle.lr_world.specs.Worlds.{lines_of, run_of}
use Rattle.lr_world.proofs.run.Run.order.Goals as goal

pub begin-requires : goal.begin-requires
begin-requires g c =
    let it = c.args.self.now in
    let task = c.task_of-task.result in
    let old = (replica-read it c.args.me _ c.requires.me c.index_mut-replica.ensures.value).0 in
    let is : IsTaskOf it.posted.items c.args.order task =
    subst (λ ps. IsTaskOf ps c.args.order task) c.as_slice.ensures.value c.task_of-task.ensures in
    subst (λ (config : Config). IsTask g.S.Op.Operation.kind_of config task) (sym old.setting)
    (task-of g.S.Op.Operation.kind_of it.config it.posted.items c.args.order task it.all_posted c.requires.order
    c.requires.within is)

pub invariant_of-self : goal.invariant_of-self
invariant_of-self g c =
    let it = c.args.self.now in
    record {
      valid = it.valid;
      each_replica = it.each_replica;
      all_replicas =
          replica-put it c.args.me _ c.begin.new.self c.requires.me c.index_mut-replica.ensures.value c.begin.ensures.same;
      each_client = it.each_client;
      all_fronts = it.all_fronts;
      all_posted = it.all_posted;
    }

pub invariant_of-self-2 : goal.invariant_of-self-2
invariant_of-self-2 g c =
    let it = c.args.self.now in
    record {
      valid = it.valid;
      each_replica = it.each_replica;
      all_replicas =
          replica-put it c.args.me _ c.begin.new.self c.requires.me c.index_mut-replica.ensures.value c.begin.ensures.same;
      each_client = it.each_client;
      all_fronts = it.all_fronts;
      all_posted = it.all_posted;
    }

pub send-requires-clause-posts : goal.send-requires-clause-posts
send-requires-clause-posts g c =
    let it = c.args.self.now in
    let r = c.index_mut-replica.result.now in
    let task = c.task_of-task.result in
    let old = (replica-read it c.args.me r c.requires.me c.index_mut-replica.ensures.value).0 in
    let end = begun g.S.Service.meaning r task in
    let is : IsTaskOf it.posted.items c.args.order task =
    subst (λ ps. IsTaskOf ps c.args.order task) c.as_slice.ensures.value c.task_of-task.ensures in
    let fits : IsTask g.S.Op.Operation.kind_of r.config task =
    subst (λ (config : Config). IsTask g.S.Op.Operation.kind_of config task) (sym old.setting)
    (task-of g.S.Op.Operation.kind_of it.config it.posted.items c.args.order task it.all_posted c.requires.order
    c.requires.within is) in
    let sound : AllFitting g.S.Op.Operation.kind_of it.config end.acts =
    subst (λ (config : Config). AllFitting g.S.Op.Operation.kind_of config end.acts) old.setting
    (fitting-begun g.S.Op.Operation.kind_of g.S.Service.meaning r c.begin.new.self task c.keeps.ensures c.keeps-2.ensures
    c.begin.ensures.same.setting c.in_ok-point.ensures.did.state_is fits) in
    posts-fitting g.S.Op.Operation.kind_of it.config (Replica c.args.me) c.len.result end.acts c.open.new.self
    c.begin.new.out c.open.ensures c.in_ok-point.ensures.did.acts_are (lt-ltb c.args.me it.config.replicas c.requires.me)
    sound

pub send-requires-clause-begun : goal.send-requires-clause-begun
send-requires-clause-begun g c =
    let it = c.args.self.now in
    let r = c.index_mut-replica.result.now in
    let there = (replica-read it c.args.me r c.requires.me c.index_mut-replica.ensures.value).1 in (
      run_of it,
      record {
        fronts = refl;
        replicas = has-begun (run_of it) c.args.me r c.begin.new.self c.in_ok-point.point there c.in_ok-point.ensures.same
            c.in_ok-point.ensures.point;
      },
    )

pub returns-clause-made : goal.returns-clause-made
returns-clause-made g c =
    let it = c.args.self.now in
    let r = c.index_mut-replica.result.now in
    let m = g.S.Service.meaning in
    let next = c.send.new.self in
    let there = (replica-read it c.args.me r c.requires.me c.index_mut-replica.ensures.value).1 in
    let task : IsTaskOf it.posted.items c.args.order c.task_of-task.result =
    subst (λ ps. IsTaskOf ps c.args.order c.task_of-task.result) c.as_slice.ensures.value c.task_of-task.ensures in
    map-ok c.send.result _ _
    (λ pending sent. subst (λ (made : Stepped _ _). HasBegun it.config made (run_of it) (run_of next) (lines_of next) pending)
    (ordered-task m (run_of it) c.args.me r c.args.order c.task_of-task.result there c.requires.within task)
    (replica-begun m it.config (run_of it) (run_of next) c.args.me r c.begin.new.self c.task_of-task.result
    c.in_ok-point.point c.open.new.self c.begin.new.out (lines_of next) pending there
    (c.open.ensures ∙ ap (opened (Replica c.args.me)) (c.len.ensures ∙ it.posted.ok.0)) c.in_ok-point.ensures.did
    c.in_ok-point.ensures.same c.in_ok-point.ensures.point c.requires.me sent))
    c.send.ensures.ok

pub returns-clause-err : goal.returns-clause-err
returns-clause-err g c =
    let it = c.args.self.now in
    let r = c.index_mut-replica.result.now in
    let there = (replica-read it c.args.me r c.requires.me c.index_mut-replica.ensures.value).1 in
    c.send.ensures.err (run_of it)
    (record {
      fronts = refl;
      replicas = has-begun (run_of it) c.args.me r c.begin.new.self c.in_ok-point.point there c.in_ok-point.ensures.same
          c.in_ok-point.ensures.point;
    })
