use Rattle.std.proofs.Common.{rules, ◌≡◌, ◌∙◌, ◌+◌, ap, length, subst, sym}
use Rattle.lr_causal.specs.Savepoint.{IsPointOf}
use Rattle.lr_front.specs.Undoing.{restored}
use Rattle.lr_world.proofs.Begun.{begun-point, front-back, undone-front, undone-run}
use Rattle.lr_world.proofs.Everywhere.{each-take}
use Rattle.lr_world.proofs.Reading.{front-put, front-read, replica-put, replica-read}
use Rattle.lr_world.specs.Pending.{IsActing}
use Rattle.lr_world.specs.Posts.{AllPosted, IsFront, IsPosted}
use Rattle.lr_world.specs.Worlds.{run_of}
use Rattle.lr_world.proofs.run.Run.undo.Goals as goal

pub invariant_of-self-clause-all_posted : goal.invariant_of-self-clause-all_posted
invariant_of-self-clause-all_posted g c =
    let it = c.args.self.now in
    subst (AllPosted g.S.Op.Operation.kind_of it.config) (sym c.truncate.ensures.items)
    (each-take it.posted.items c.args.pending.sent (λ k p. IsPosted g.S.Op.Operation.kind_of it.config p) it.all_posted)

pub restore-requires : goal.restore-requires
restore-requires g c =
    let it = c.args.self.now in
    let acting = subst (IsActing it.config) c.in-AtFront.is c.requires.acting in
    let own = (front-read it c.in-AtFront.client c.index_mut.result.now acting.0 c.index_mut.ensures.value).0 in
    let fits : length c.in-AtFront.point.label ≡ c.index_mut.result.now.replicas + 1 =
    acting.1.parts ∙ ap (λ n. n + 1) (sym own.setting) in
    search (rules, fits)

pub invariant_of-self-in-AtFront-clause-all_fronts : goal.invariant_of-self-in-AtFront-clause-all_fronts
invariant_of-self-in-AtFront-clause-all_fronts g c =
    let it = c.args.self.now in
    let client = c.in-AtFront.client in
    let front = c.index_mut.result.now in
    let acting = subst (IsActing it.config) c.in-AtFront.is c.requires.acting in
    let own = (front-read it client front acting.0 c.index_mut.ensures.value).0 in
    front-put it client c.restore.new.self
    (subst (IsFront it.config client) (sym c.restore.ensures)
    (subst (λ p. IsFront it.config client (restored p front)) (search rules)
    (front-back it.config client c.in-AtFront.point front acting.1 own)))

pub invariant_of-self-in-AtFront-clause-all_posted : goal.invariant_of-self-in-AtFront-clause-all_posted
invariant_of-self-in-AtFront-clause-all_posted g c =
    let it = c.args.self.now in
    subst (AllPosted g.S.Op.Operation.kind_of it.config) (sym c.truncate.ensures.items)
    (each-take it.posted.items c.args.pending.sent (λ k p. IsPosted g.S.Op.Operation.kind_of it.config p) it.all_posted)

pub undo-requires : goal.undo-requires
undo-requires g c =
    let it = c.args.self.now in
    let me = c.in-AtReplica.me in
    let r = c.index_mut-in-AtReplica.result.now in
    let acting = subst (IsActing it.config) c.in-AtReplica.is c.requires.acting in
    let there = (replica-read it me r acting c.index_mut-in-AtReplica.ensures.value).1 in
    let base =
    begun-point c.args.pending me c.in-AtReplica.point c.requires.begun.0 (run_of it) r c.in-AtReplica.is
    c.requires.begun.1 there in
    (base.0, subst (λ p. IsPointOf p r base.0) (search rules) base.1)

pub invariant_of-self-in-AtReplica-clause-all_replicas : goal.invariant_of-self-in-AtReplica-clause-all_replicas
invariant_of-self-in-AtReplica-clause-all_replicas g c =
    let it = c.args.self.now in
    replica-put it c.in-AtReplica.me _ c.undo.new.self (subst (IsActing it.config) c.in-AtReplica.is c.requires.acting)
    c.index_mut-in-AtReplica.ensures.value c.undo.ensures.same

pub invariant_of-self-in-AtReplica-clause-all_posted : goal.invariant_of-self-in-AtReplica-clause-all_posted
invariant_of-self-in-AtReplica-clause-all_posted g c =
    let it = c.args.self.now in
    subst (AllPosted g.S.Op.Operation.kind_of it.config) (sym c.truncate.ensures.items)
    (each-take it.posted.items c.args.pending.sent (λ k p. IsPosted g.S.Op.Operation.kind_of it.config p) it.all_posted)

pub returns-in-AtFront-clause-run : goal.returns-in-AtFront-clause-run
returns-in-AtFront-clause-run g c before back =
    let it = c.args.self.now in
    let client = c.in-AtFront.client in
    let front = c.index_mut.result.now in
    let acting = subst (IsActing it.config) c.in-AtFront.is c.requires.acting in
    undone-front c.args.pending client c.in-AtFront.point before (run_of it) front c.restore.new.self c.truncate.new.self.items
    c.in-AtFront.is back (front-read it client front acting.0 c.index_mut.ensures.value).1
    (subst (λ p. c.restore.new.self ≡ restored p front) (search rules) c.restore.ensures) c.truncate.ensures.items

pub returns-in-AtReplica-clause-run : goal.returns-in-AtReplica-clause-run
returns-in-AtReplica-clause-run g c before back =
    let it = c.args.self.now in
    let me = c.in-AtReplica.me in
    let r = c.index_mut-in-AtReplica.result.now in
    let acting = subst (IsActing it.config) c.in-AtReplica.is c.requires.acting in
    undone-run c.args.pending me c.in-AtReplica.point before (run_of it) r c.undo.new.self c.truncate.new.self.items
    c.in-AtReplica.is back (replica-read it me r acting c.index_mut-in-AtReplica.ensures.value).1 c.undo.ensures.same
    (λ was is. c.undo.ensures.state was (subst (λ p. IsPointOf p r was) (search rules) is)) c.truncate.ensures.items
