use Rattle.std.proofs.Common.{◌∙◌, sym, length, arith, refl}
use Rattle.std.proofs.lemmas.Option.{slice_get_read, slice_get_within}
use Rattle.lr_value.proofs.Placed.{among-get, get-at, spots-differ, spots-same}
use Rattle.lr_value.proofs.waiting.place_for.Goals as goal
use Rattle.lr_value.proofs.waiting.place_for.Goals.{else-at-ready-via-then-at-ready+else-eq}
use Rattle.lr_value.proofs.waiting.place_for.Goals.{else-at-ready-via-else-at-ready}

pub returns-then-eq-clause-none : goal.returns-then-eq-clause-none
returns-then-eq-clause-none g c none =
    let ready = c.args.ready.now in
    let r = c.index-ready-at.result in
    let here =
    slice_get_read ready (length ready) c.place_by_spot-at.result r refl c.if-at-ready.true c.index-ready-at.is in
    let same = sym c.eq.ensures ∙ c.if-eq.true in
    let is = get-at ready c.place_by_spot-at.result r r here in
    (r, among-get ready c.place_by_spot-at.result r here, spots-same r.now.spot c.args.spot (rw is at same))

pub returns-clause-new : goal.returns-clause-new
returns-clause-new g c =
    elim c.else-at-ready.branch [
      | else-at-ready-via-then-at-ready+else-eq w ↦ λ r here.
          let other = sym w.eq.ensures ∙ w.if-eq.false in
          let is = get-at c.args.ready.now c.place_by_spot-at.result r w.index-ready-at.result here in
          spots-differ r.now.spot c.args.spot (rw is at other)
      | else-at-ready-via-else-at-ready w ↦ λ r here.
          let within = slice_get_within c.args.ready.now c.place_by_spot-at.result r here in
          absurd (omega arith)
    ]
