use Rattle.std.proofs.Common.{◌≡◌, ◌==◌, ◌∙◌, ◌++◌, ℕ, List, ap, sym, length, false, arith, not, subst}
use Rattle.lr_base.specs.Ascending.{is_before}
use Rattle.lr_base.specs.Logged.{Fits}
use Rattle.lr_base.specs.Places.{AreInOrder, up_to_place}
use Rattle.lr_base.specs.Rules.{is_covered, is_new, waiting}
use Rattle.lr_value.specs.Remembered.{Waits}
use Rattle.lr_value.proofs.Gathered.{ascends-filter}
use Rattle.lr_value.proofs.Numbered.{gathered-more, gathered-whole, index-filter, of_place-items, order-whole}
use Rattle.lr_value.proofs.gathering.gathered.Goals as goal

pub add_place-requires-clause-fit : goal.add_place-requires-clause-fit
add_place-requires-clause-fit g c =
    index-filter (Fits (length c.args.val_ts.now)) (λ u. u.spot.place == c.loop-place.place)
    (g.L.Places.updates c.args.log.now) c.updates_of.result.now c.updates_of.ensures.updates c.requires.fit

pub add_place-requires-clause-of_place : goal.add_place-requires-clause-of_place
add_place-requires-clause-of_place g c =
    of_place-items c.loop-place.place (g.L.Places.updates c.args.log.now) c.updates_of.result.now
    c.updates_of.ensures.updates c.updates_of.ensures.in_order

pub add_place-requires-clause-memory : goal.add_place-requires-clause-memory
add_place-requires-clause-memory g c memory is =
    let so = c.requires.memory memory is in
    record {
      parts = so.parts;
      recalls =
          index-filter (λ u. is_new memory.seen u.spot ≡ false → is_covered c.args.val_ts.now u ≡ false
          → Waits c.args.val_ts.now memory.waits u) (λ u. u.spot.place == c.loop-place.place)
          (g.L.Places.updates c.args.log.now) c.updates_of.result.now c.updates_of.ensures.updates so.recalls;
    }

pub loop-place-preserved : goal.loop-place-preserved
loop-place-preserved g c =
    let updates = g.L.Places.updates c.args.log.now in
    record {
      found =
          c.in_ok-add_place.ensures
          ∙ ap (λ (l : List _). l ++ waiting c.args.val_ts.now c.updates_of.result.now) c.loop-place.invariant.found
          ∙ sym (gathered-more c.args.val_ts.now c.loop-place.place updates c.updates_of.result.now
          c.updates_of.ensures.updates);
      in_order = λ some. c.updates_of.ensures.in_order;
    }

pub returns-clause-waiting : goal.returns-clause-waiting
returns-clause-waiting g c =
    let updates = g.L.Places.updates c.args.log.now in
    let ended : c.loop-place.place ≡ length c.args.val_ts.now =
    let end = c.parts-place-end.ensures in omega arith in
    c.loop-place.invariant.found
    ∙ ap (λ (n : ℕ). up_to_place (λ u. u.spot) n (waiting c.args.val_ts.now updates)) ended
    ∙ gathered-whole c.args.val_ts.now (length c.args.val_ts.now) updates
    (λ some. c.loop-place.invariant.in_order (omega arith)) c.requires.fit

pub returns-clause-in_order : goal.returns-clause-in_order
returns-clause-in_order g c =
    let updates = g.L.Places.updates c.args.log.now in
    let ended : c.loop-place.place ≡ length c.args.val_ts.now =
    let end = c.parts-place-end.ensures in omega arith in
    let found = returns-clause-waiting g c in
    subst (λ (l : List _). AreInOrder (λ u. u.spot) l) (sym found)
    (ascends-filter (λ a b. is_before a.spot b.spot) (λ u. not (is_covered c.args.val_ts.now u)) updates
    (order-whole (length c.args.val_ts.now) updates (λ some. c.loop-place.invariant.in_order (omega arith))
    c.requires.fit))
