use Rattle.std.proofs.Common.{◌≡◌, ◌∙◌, sym, false, arith}
use Rattle.std.proofs.lemmas.Option.{slice_get_within}
use Rattle.lr_value.specs.Table.{is_met}
use Rattle.lr_value.proofs.Placed.{each-among, get-at, none-met}
use Rattle.lr_value.proofs.waiting.first_met.Goals as goal
use Rattle.lr_value.proofs.waiting.first_met.Goals.{else-at-blocked-via-then-at-blocked+else-is_met}
use Rattle.lr_value.proofs.waiting.first_met.Goals.{else-at-blocked-via-else-at-blocked}

pub returns-clause-none : goal.returns-clause-none
returns-clause-none g c none =
    let blocked = c.args.blocked.now in
    let place = c.place_by_need-at.ensures in
    each-among (λ b. is_met c.args.place c.args.number b.needs ≡ false) blocked
    (none-met (λ b. b.needs) c.args.place c.args.number blocked c.place_by_need-at.result place.before place.behind
    c.requires (elim c.else-at-blocked.branch [
      | else-at-blocked-via-then-at-blocked+else-is_met w ↦ λ b here.
          let other = sym w.is_met.ensures ∙ w.if-is_met.false in
          let is = get-at blocked c.place_by_need-at.result b w.index-blocked-at.result here in
          rw is at other
      | else-at-blocked-via-else-at-blocked w ↦ λ b here.
          let within = slice_get_within blocked c.place_by_need-at.result b here in absurd (omega arith)
    ]))
