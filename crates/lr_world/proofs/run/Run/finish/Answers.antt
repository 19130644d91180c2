use Rattle.std.proofs.Common.{rules, ◌∙◌, ap, subst, sym}
use Rattle.lr_causal.specs.Savepoint.{IsPointOf}
use Rattle.lr_world.proofs.Begun.{begun-point, finished-run}
use Rattle.lr_world.proofs.Reading.{replica-put, replica-read}
use Rattle.lr_world.specs.Pending.{IsActing, completed}
use Rattle.lr_world.specs.Worlds.{run_of}
use Rattle.lr_world.proofs.run.Run.finish.Goals as goal

pub finish-requires : goal.finish-requires
finish-requires g c =
    let it = c.args.self.now in
    let me = c.in-AtReplica.me in
    let r = c.index_mut.result.now in
    let acting = subst (IsActing it.config) c.in-AtReplica.is c.requires.acting in
    let there = (replica-read it me r acting c.index_mut.ensures.value).1 in
    let base =
    begun-point c.args.pending me c.in-AtReplica.point c.requires.begun.0 (run_of it) r c.in-AtReplica.is
    c.requires.begun.1 there in
    (base.0, subst (λ p. IsPointOf p r base.0) (search rules) base.1)

pub invariant_of-self-clause-all_replicas : goal.invariant_of-self-clause-all_replicas
invariant_of-self-clause-all_replicas g c =
    let it = c.args.self.now in
    replica-put it c.in-AtReplica.me _ c.finish.new.self (subst (IsActing it.config) c.in-AtReplica.is c.requires.acting)
    c.index_mut.ensures.value
    (record { setting = ap (λ r. r.config) c.finish.ensures; number = ap (λ r. r.me) c.finish.ensures })

pub returns-clause-run : goal.returns-clause-run
returns-clause-run g c =
    let it = c.args.self.now in
    let me = c.in-AtReplica.me in
    let r = c.index_mut.result.now in
    let acting = subst (IsActing it.config) c.in-AtReplica.is c.requires.acting in
    finished-run (run_of it) me r c.finish.new.self (replica-read it me r acting c.index_mut.ensures.value).1
    c.finish.ensures
    ∙ ap (λ who. completed who (run_of it)) (sym c.in-AtReplica.is)
