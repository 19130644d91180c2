use Rattle.std.proofs.Common.{◌<◌, inr, length, refl, arith}
use Rattle.std.proofs.lemmas.Option.{slice_get_read}
use Rattle.std.proofs.lemmas.List.Edits.{length-remove}
use Rattle.lr_base.specs.Stamps.{part}
use Rattle.lr_value.specs.Table.{is_met}
use Rattle.lr_value.proofs.Held.{held-taken, table-removed, table-whole}
use Rattle.lr_value.proofs.Placed.{among-get, count-removed}
use Rattle.lr_value.proofs.waiting.Table.wake.Goals as goal

pub file-requires : goal.file-requires
file-requires g c =
    let blocked = c.loop-at.self.blocked.items in
    let left = c.requires.table.0 in
    let table = c.loop-at.invariant.table left c.requires.table.1 in
    let within : c.in-Some.at < length blocked = rw (← c.as_slice.ensures.value) c.in-Some.ensures.within in
    let here = slice_get_read blocked (length blocked) c.in-Some.at c.remove-met.result refl within
    c.remove-met.ensures.value in (
      c.args.place,
      left,
      rw c.remove-met.ensures.items
          (table-removed _ c.args.val_ts.now left c.loop-at.self.ready.items blocked table c.in-Some.at),
      table.held c.remove-met.result.update.now
          (inr (c.remove-met.result, among-get blocked c.in-Some.at _ here, refl)),
    )

pub loop-at-smaller : goal.loop-at-smaller
loop-at-smaller g c =
    let blocked = c.loop-at.self.blocked.items in
    let number = part c.args.val_ts.now c.args.place in
    let within : c.in-Some.at < length blocked = rw (← c.as_slice.ensures.value) c.in-Some.ensures.within in
    let here = slice_get_read blocked (length blocked) c.in-Some.at c.remove-met.result refl within
    c.remove-met.ensures.value in
    let met = rw (c.as_slice.ensures.value, c.part.ensures) at c.in-Some.ensures.met in
    let fewer = count-removed (λ b. is_met c.args.place number b.needs) blocked c.in-Some.at c.remove-met.result here
    (met c.remove-met.result here) in
    let most = rw c.remove-met.ensures.items at (c.in_ok-file.ensures.met c.args.place) in
    omega (arith, fewer, most)

pub loop-at-preserved : goal.loop-at-preserved
loop-at-preserved g c =
    let old = c.loop-at.invariant in
    let blocked = c.loop-at.self.blocked.items in
    let within : c.in-Some.at < length blocked = rw (← c.as_slice.ensures.value) c.in-Some.ensures.within in
    let here = slice_get_read blocked (length blocked) c.in-Some.at c.remove-met.result refl within
    c.remove-met.ensures.value in
    let fewer = length-remove blocked c.in-Some.at within in
    let most = rw c.remove-met.ensures.items at c.in_ok-file.ensures.count in
    record {
      table = λ left before.
          let table = old.table left before in
          c.in_ok-file.ensures.table c.args.place left (table.held c.remove-met.result.update.now
          (inr (c.remove-met.result, among-get blocked c.in-Some.at _ here, refl))) (rw c.remove-met.ensures.items
          (table-removed _ c.args.val_ts.now left c.loop-at.self.ready.items blocked table c.in-Some.at));
      held = λ u. held-taken c.loop-at.self.ready.items blocked c.in-Some.at c.remove-met.result here _ _ _ _ u
          (rw c.remove-met.ensures.items at c.in_ok-file.ensures.held u) (old.held u);
      count = omega (arith, fewer, most, old.count);
    }

pub returns-clause-table : goal.returns-clause-table
returns-clause-table g c left before =
    let none = rw (c.as_slice.ensures.value, c.part.ensures) at (c.in_default.ensures.none refl) in
    table-whole c.args.place c.args.val_ts.now left c.loop-at.self.ready.items c.loop-at.self.blocked.items
    (c.loop-at.invariant.table left before) none
