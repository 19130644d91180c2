use Rattle.std.proofs.Common.{◌≡◌, ◌∙◌, inl, length, refl, sym, arith}
use Rattle.std.proofs.lemmas.List.Edits.{insert_end}
use Rattle.lr_value.specs.Table.{IsHeld}
use Rattle.lr_value.proofs.Held.{held-block, held-over}
use Rattle.lr_value.proofs.Members.{held-alone, order-behind, same-spot}
use Rattle.lr_value.proofs.waiting.Table.rest.Goals as goal

pub make_ready-requires-clause-one : goal.make_ready-requires-clause-one
make_ready-requires-clause-one g c r among same =
    let before = c.loop-met.self in
    let further = c.pop.new.self.items in
    let popped = c.in-Some.ensures.items ∙ sym (insert_end further c.in-Some.met) in
    let own = (held-block c.in-Some.met.needs c.in-Some.met.update before.ready.items further (length further)
    c.in-Some.met.update.now).1 (inl refl) in
    let held = rw (← popped) at own in
    let table = c.requires.2 in
    let left = λ (u : _) (now : IsHeld u before.ready.items before.blocked.items).
    table.held u ((c.loop-met.invariant.held u).0 now) in
    same-spot c.requires.1 table.order r.now c.in-Some.met.update.now (left r.now (inl (r, among, refl)))
    (left c.in-Some.met.update.now held) same

pub loop-met-preserved : goal.loop-met-preserved
loop-met-preserved g c =
    let before = c.loop-met.self in
    let further = c.pop.new.self.items in
    let popped = c.in-Some.ensures.items ∙ sym (insert_end further c.in-Some.met) in
    record {
      in_order = c.in_ok-make_ready.ensures.in_order;
      held = λ u. rw c.make_ready.ensures.blocked
          (held-over c.in-Some.met before.ready.items c.make_ready.new.self.ready.items _ further (length further) _
          c.in_ok-make_ready.ensures.ready u (rw popped at c.loop-met.invariant.held u));
    }

pub returns-clause-in_order : goal.returns-clause-in_order
returns-clause-in_order g c = (order-behind c.loop-met.self.ready.items).1 c.loop-met.invariant.in_order

pub returns-clause-held : goal.returns-clause-held
returns-clause-held g c u =
    let blocked = c.loop-met.self.blocked.items in
    let none : length blocked ≡ 0 = omega (arith, c.in_default.ensures.cases.0) in
    let same = held-alone u c.loop-met.self.ready.items blocked none in
    let before = c.loop-met.invariant.held u in
    (λ among. before.0 (same.1 among), λ held. same.0 (before.1 held))
