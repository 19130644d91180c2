use Rattle.std.proofs.Common.{◌≡◌, ◌∙◌, ap, add-one, sym, arith}
use Rattle.lr_base.specs.PlaceLaws.{up_to_place-whole}
use Rattle.lr_base.specs.Places.{items_at, up_to_place}
use Rattle.lr_base.specs.Rules.{undone_calls}
use Rattle.lr_base.specs.declared.messages.LogAck.{LogAck}
use Rattle.lr_calls.specs.Forgotten.{undone_calls-append, undone_calls-none}
use Rattle.lr_causal.proofs.forgetting.forget_done.Goals as goal

pub loop-place-init : goal.loop-place-init
loop-place-init g c = sym (undone_calls-none c.args.log.now.updates c.args.calls.now)

pub loop-place-preserved : goal.loop-place-preserved
loop-place-preserved g c =
    let log = c.args.log.now in
    c.forget.ensures
    ∙ ap (λ acks. undone_calls log.updates acks c.loop-place.calls) c.acks_of.ensures
    ∙ ap (undone_calls log.updates (items_at (λ a. a.spot) c.loop-place.place log.acks)) c.loop-place.invariant
    ∙ sym (undone_calls-append log.updates (up_to_place (λ a. a.spot) c.loop-place.place log.acks)
    (items_at (λ a. a.spot) c.loop-place.place log.acks) c.args.calls.now)
    ∙ ap (λ n. undone_calls log.updates (up_to_place (λ a. a.spot) n log.acks) c.args.calls.now)
    (sym (add-one c.loop-place.place))

pub returns : goal.returns
returns g c =
    let log = c.args.log.now in
    let at : c.loop-place.place ≡ c.ack_places-place-end.result =
    (let past = c.loop-place-test.false in let most = c.loop-place.auto.place-end in omega arith) in
    c.loop-place.invariant
    ∙ ap (λ n. undone_calls log.updates (up_to_place (λ a. a.spot) n log.acks) c.args.calls.now) at
    ∙ ap (λ acks. undone_calls log.updates acks c.args.calls.now)
    (up_to_place-whole (λ (a : LogAck). a.spot) c.ack_places-place-end.result log.acks c.keeps.ensures.acks_in_order
    c.ack_places-place-end.ensures)
