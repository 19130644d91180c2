use Rattle.std.proofs.Common.{◌≡◌, ◌∙◌, true, false, arith, refl, sym, true≢false}
use Rattle.std.proofs.lemmas.Option.{slice_get_read, slice_get_within}
use Rattle.lr_base.specs.Stamps.{stamp_le}
use Rattle.lr_causal.proofs.Each.{each-more}
use Rattle.lr_causal.proofs.labels.none_applied.Goals as goal

pub loop-call-init : goal.loop-call-init
loop-call-init g c = λ k call below e. absurd (omega arith)

pub returns-then-is_applied : goal.returns-then-is_applied
returns-then-is_applied g c = (
  λ t. absurd (true≢false (sym t)),
  λ none.
      let here =
      slice_get_read c.args.calls.now _ c.loop-call.call-index c.call-item.result refl (omega arith) c.call-item.is in
      let ready : stamp_le c.call-item.result.prev c.args.val_ts.now ≡ true = sym c.is_applied.ensures ∙ c.if-is_applied.true in
      absurd (true≢false (sym ready ∙ none c.loop-call.call-index c.call-item.result here)),
)

pub loop-call-preserved : goal.loop-call-preserved
loop-call-preserved g c =
    each-more (λ call. stamp_le call.prev c.args.val_ts.now ≡ false) c.args.calls.now c.loop-call.call-index
    c.call-item.result
    (slice_get_read c.args.calls.now _ c.loop-call.call-index c.call-item.result refl (omega arith) c.call-item.is)
    (sym c.is_applied.ensures ∙ c.if-is_applied.false) c.loop-call.invariant

pub returns : goal.returns
returns g c = (
  λ t k call here.
      c.loop-call.invariant k call (let within = slice_get_within c.args.calls.now k call here in omega arith) here,
  λ none. refl,
)
