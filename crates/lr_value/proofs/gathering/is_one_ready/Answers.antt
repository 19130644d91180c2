use Rattle.std.proofs.Common.{◌≡◌, ◌≤◌, length, true, false, ap, arith, sym, ◌∙◌}
use Rattle.std.specs.Prelude.{is_some}
use Rattle.std.proofs.lemmas.List.{length-map}
use Rattle.std.proofs.lemmas.Option.{slice_get_within}
use Rattle.lr_base.specs.Stamps.{stamp_le}
use Rattle.lr_value.proofs.Ready.{behind-read, each-more, take_ready-none, take_ready-some}
use Rattle.lr_value.proofs.gathering.is_one_ready.Goals as goal

pub le-requires : goal.le-requires
le-requires g c =
    rw (← c.index-waiting-at.is)
    (c.requires c.loop-at.at c.index-waiting-at.result.now
    (behind-read c.args.waiting.now c.loop-at.at c.index-waiting-at.result (omega arith)
    c.index-waiting-at.is)).prev

pub returns-then-le : goal.returns-then-le
returns-then-le g c =
    let ready : stamp_le c.index-waiting-at.result.now.prev c.args.val_ts.now ≡ true =
    rw c.index-waiting-at.is (sym c.le.ensures ∙ c.if-le.true) in
    sym (take_ready-some c.args.val_ts.now _ c.loop-at.at c.index-waiting-at.result.now
    (behind-read c.args.waiting.now c.loop-at.at c.index-waiting-at.result (omega arith) c.index-waiting-at.is) ready)

pub loop-at-preserved : goal.loop-at-preserved
loop-at-preserved g c =
    let blocks : stamp_le c.index-waiting-at.result.now.prev c.args.val_ts.now ≡ false =
    rw c.index-waiting-at.is (sym c.le.ensures ∙ c.if-le.false) in
    each-more (λ u. stamp_le u.prev c.args.val_ts.now ≡ false) _ c.loop-at.at c.index-waiting-at.result.now
    (behind-read c.args.waiting.now c.loop-at.at c.index-waiting-at.result (omega arith) c.index-waiting-at.is)
    blocks c.loop-at.invariant

pub returns : goal.returns
returns g c =
    sym (ap is_some (take_ready-none c.args.val_ts.now _ (λ k u e.
    let within = slice_get_within _ k u e in
    let long = length-map c.args.waiting.now (λ u. u.now) in
    let past : length c.args.waiting.now ≤ c.loop-at.at = omega arith in
    c.loop-at.invariant k u (omega arith) e)))
