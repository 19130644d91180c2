use Rattle.std.proofs.Common.{refl}
use Rattle.lr_value.proofs.Held.{put-inserted, put-there}
use Rattle.lr_value.proofs.Placed.{in-order-put}
use Rattle.lr_value.proofs.waiting.Table.make_ready.Goals as goal

pub returns-in_ok-insert-clause-in_order : goal.returns-in_ok-insert-clause-in_order
returns-in_ok-insert-clause-in_order g c =
    let there = rw c.as_slice.ensures.value at c.in-Some.ensures.place in
    let new = rw c.as_slice.ensures.value at c.in-Some.ensures.new in
    rw c.in_ok-insert.ensures.items
    (in-order-put (λ r. r.now.spot) c.args.self.now.ready.items c.in-Some.at c.args.update c.args.update.now.spot refl
    there new c.requires.in_order)

pub returns-in_ok-insert-clause-ready : goal.returns-in_ok-insert-clause-ready
returns-in_ok-insert-clause-ready g c =
    let there = rw c.as_slice.ensures.value at c.in-Some.ensures.place in
    rw c.in_ok-insert.ensures.items
    (put-inserted c.args.self.now.ready.items c.in-Some.at c.args.update there.within)

pub returns-in_default-clause-ready : goal.returns-in_default-clause-ready
returns-in_default-clause-ready g c =
    let has = rw c.as_slice.ensures.value at (c.in_default.ensures.none refl) in
    put-there c.args.self.now.ready.items c.args.update.now has.0 has.1 (c.requires.one has.0 has.1 has.2)
