use Rattle.std.proofs.Common.{ℕ, ◌∙◌, ap, length, refl, subst, sym}
use Rattle.lr_causal.specs.Causal.{NoneApplied}
use Rattle.lr_causal.specs.State.{config_of, state_of}
use Rattle.lr_world.proofs.Answering.{AllAsked-along, answered-more, held_acts-none}
use Rattle.lr_world.proofs.Everywhere.{each-read}
use Rattle.lr_world.specs.Outboxes.{after_acts}
use Rattle.lr_world.specs.Sound.{AllAsked, IsAsked}
use Rattle.lr_world.proofs.replica.Replica.answer_held.Goals as goal

pub answer-requires : goal.answer-requires
answer-requires g c =
    let it = c.self.inside.causal in
    let now = c.args.self.now in
    let calls = c.held-call-items.result.now in
    let all : AllAsked g.S.Op.Operation.kind_of now.config calls = AllAsked-along g.S.Op.Operation.kind_of (config_of it) now.config (state_of it).held calls (sym (ap (λ r. r.config) c.self.view_is)) c.held-call-items.ensures c.self.invariant in
    each-read calls c.loop-call.call-index c.call-item.result (λ (k : ℕ) call. IsAsked g.S.Op.Operation.kind_of now.config call) all (length calls) refl c.loop-call-test.true c.call-item.is

pub returns-then-all_wait : goal.returns-then-all_wait
returns-then-all_wait g c =
    let now = c.args.self.now.causal in
    let none : NoneApplied now.val_ts now.held =
    subst (λ s. NoneApplied s.val_ts s.held) (ap (λ r. r.causal) c.self.view_is) (c.all_wait.ensures.0 c.if-all_wait.true) in
    ap (after_acts c.args.out.now) (sym (held_acts-none g.S.Service.meaning now now.held none))

pub loop-call-preserved : goal.loop-call-preserved
loop-call-preserved g c =
    let now = c.args.self.now in
    let calls = c.held-call-items.result.now in
    answered-more g.S.Service.meaning now.causal calls now.causal.held c.loop-call.call-index c.call-item.result c.args.out.now c.loop-call.out c.answer.new.out
    (c.held-call-items.ensures ∙ ap (λ r. r.causal.held) c.self.view_is) c.loop-call-test.true c.call-item.is c.loop-call.invariant c.in_ok-answer.ensures
