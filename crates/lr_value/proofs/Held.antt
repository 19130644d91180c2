-- What a table of waiting updates holds.
use Rattle.std.proofs.Common.{◌≡◌, ◌≤◌, ◌⊎◌, ◌↔◌, inl, inr, ℕ, true, false, List, length, refl, sym, ◌∙◌}
use Rattle.std.proofs.Common.{Some, arith, subst, ap}
use Rattle.std.specs.Prelude.{insert, not, remove, slice_get, Result, Ok, Err, IfOk}
use Rattle.std.specs.Borrow.{Bor}
use Rattle.std.proofs.lemmas.List.Edits.{length-insert}
use Rattle.lr_base.specs.Ascending.{is_before}
use Rattle.lr_base.specs.Orders.{IsAmong}
use Rattle.lr_base.specs.Places.{AreInOrder}
use Rattle.lr_base.specs.Stamps.{Stamp, part, stamp_le}
use Rattle.lr_base.specs.declared.messages.LogUpdate.{LogUpdate}
use Rattle.lr_base.specs.declared.names.Spot.{Spot}
use Rattle.lr_value.specs.declared.waiting.Blocked.{Blocked}
use Rattle.lr_value.specs.Table.{AreByNeed, Has, IsHeld, IsPut, IsTable, IsTableBut, IsTableBy, StandsAt}
use Rattle.lr_value.specs.Table.{is_met}
use Rattle.lr_value.proofs.Placed.{among-get, among-inserted, inserted-among, lacks-there, removed-among}
use Rattle.lr_value.proofs.Left.{among-but, ascends-but}

-- what holds whatever a call answers
pub if-ok : {X E : Type 0} (r : Result X E) (P : X → Type 0) → ((x : X) → P x) → IfOk r P
if-ok (Ok x) P holds = holds x
if-ok (Err e) P holds = tt

-- what follows of what a call answers, where it met two promises
pub if-both : {X E : Type 0} (r : Result X E) (P Q R : X → Type 0) → ((x : X) → P x → Q x → R x) → IfOk r P → IfOk r Q
    → IfOk r R
if-both (Ok x) P Q R follows first second = follows x first second
if-both (Err e) P Q R follows first second = tt

module _ {A B : Type 0} (what : A → B) where
  pub has-inserted : (xs : List A) (at : ℕ) (y : A) (v : B) → (v ≡ what y) ⊎ Has what v xs → Has what v (insert xs at y)
  has-inserted xs at y v (inl same) = (y, among-inserted xs at y y (inl refl), sym same)
  has-inserted xs at y v (inr has) = (has.0, among-inserted xs at y has.0 (inr has.1), has.2)

  pub inserted-has : (xs : List A) (at : ℕ) (y : A) (v : B) → Has what v (insert xs at y) → (v ≡ what y) ⊎ Has what v xs
  inserted-has xs at y v has = out (inserted-among xs at y has.0 has.1)
    where
      out : (has.0 ≡ y) ⊎ IsAmong has.0 xs → (v ≡ what y) ⊎ Has what v xs
      out (inl same) = inl (sym has.2 ∙ ap what same)
      out (inr among) = inr (has.0, among, has.2)

  removed-has : (xs : List A) (at : ℕ) (v : B) → Has what v (remove xs at) → Has what v xs
  removed-has xs at v has = (has.0, removed-among xs at has.0 has.1, has.2)

  -- one of them has it where the one that is taken out has, or one of the others
  has-removed : (xs : List A) (at : ℕ) (y : A) → slice_get xs at ≡ Some y → (v : B)
      → Has what v xs ↔ ((v ≡ what y) ⊎ Has what v (remove xs at))
  has-removed xs at y is v = (λ has. out has (among-but has.0 xs at y is has.1), into)
    where
      out : (has : Has what v xs) → (has.0 ≡ y) ⊎ IsAmong has.0 (remove xs at)
          → (v ≡ what y) ⊎ Has what v (remove xs at)
      out has (inl same) = inl (sym has.2 ∙ ap what same)
      out has (inr among) = inr (has.0, among, has.2)

      into : (v ≡ what y) ⊎ Has what v (remove xs at) → Has what v xs
      into (inl same) = (y, among-get xs at y is, sym same)
      into (inr has) = removed-has xs at v has

module _ {Op : Type 0} where
  -- an update that was put in
  pub put-inserted : (old : List (Bor (LogUpdate Op))) (at : ℕ) (y : Bor (LogUpdate Op)) → at ≤ length old
      → IsPut y.now old (insert old at y)
  put-inserted old at y within = record {
    among = has-inserted (λ r. r.now) old at y;
    from = inserted-has (λ r. r.now) old at y;
    count = omega (arith, length-insert old at y within);
  }

  -- one that was there
  pub put-there : (old : List (Bor (LogUpdate Op))) (u : LogUpdate Op) (x : Bor (LogUpdate Op)) → IsAmong x old
      → x.now ≡ u → IsPut u old old
  put-there old u x among is = record {
    among = λ v either. out v either;
    from = λ v has. inr has;
    count = omega arith;
  }
    where
      out : (v : LogUpdate Op) → (v ≡ u) ⊎ Has (λ r. r.now) v old → Has (λ r. r.now) v old
      out v (inl same) = (x, among, is ∙ sym same)
      out v (inr has) = has

  -- one more is held where it was put among the ready ones
  pub held-put : (u : LogUpdate Op) (ready more : List (Bor (LogUpdate Op))) (blocked : List (Blocked Op))
      → IsPut u ready more → (v : LogUpdate Op)
      → IsHeld v more blocked ↔ ((v ≡ u) ⊎ IsHeld v ready blocked)
  held-put u ready more blocked put v = grind (arith, put.from v, put.among v)

  -- and where it was put among the others
  pub held-block : (needs : Spot) (y : Bor (LogUpdate Op)) (ready : List (Bor (LogUpdate Op)))
      (blocked : List (Blocked Op)) (at : ℕ) (v : LogUpdate Op)
      → IsHeld v ready (insert blocked at (record { needs = needs; update = y }))
      ↔ ((v ≡ y.now) ⊎ IsHeld v ready blocked)
  held-block needs y ready blocked at v =
      grind (
        arith,
        inserted-has (λ b. b.update.now) blocked at (record { needs = needs; update = y }) v,
        has-inserted (λ b. b.update.now) blocked at (record { needs = needs; update = y }) v,
      )

  -- what goes over from the others to the ready ones is held as before
  pub held-over : (b : Blocked Op) (ready more first : List (Bor (LogUpdate Op))) (blocked : List (Blocked Op)) (at : ℕ)
      (own : List (Blocked Op)) → IsPut b.update.now ready more → (v : LogUpdate Op)
      → (IsHeld v ready (insert blocked at b) ↔ IsHeld v first own) → IsHeld v more blocked ↔ IsHeld v first own
  held-over b ready more first blocked at own put v before =
      let moved = held-put b.update.now ready more blocked put v in
      let stood = held-block b.needs b.update ready blocked at v in
      (λ held. before.0 (stood.1 (moved.0 held)), λ held. moved.1 (stood.0 (before.1 held)))

  held-before : (ready : List (Bor (LogUpdate Op))) (blocked : List (Blocked Op)) (at : ℕ) (v : LogUpdate Op)
      → IsHeld v ready (remove blocked at) → IsHeld v ready blocked
  held-before ready blocked at v held = grind (arith, removed-has (λ b. b.update.now) blocked at v)

  held-removed : (ready : List (Bor (LogUpdate Op))) (blocked : List (Blocked Op)) (at : ℕ) (b : Blocked Op)
      → slice_get blocked at ≡ Some b → (v : LogUpdate Op)
      → IsHeld v ready blocked ↔ ((v ≡ b.update.now) ⊎ IsHeld v ready (remove blocked at))
  held-removed ready blocked at b is v =
      let taken = has-removed (λ c. c.update.now) blocked at b is v in grind (arith, taken)

  -- where one was taken out and put in again, the same are held
  pub held-taken : (ready : List (Bor (LogUpdate Op))) (blocked : List (Blocked Op)) (at : ℕ) (b : Blocked Op)
      → slice_get blocked at ≡ Some b → (more first : List (Bor (LogUpdate Op))) (further own : List (Blocked Op))
      (v : LogUpdate Op) → (IsHeld v more further ↔ ((v ≡ b.update.now) ⊎ IsHeld v ready (remove blocked at)))
      → (IsHeld v ready blocked ↔ IsHeld v first own) → IsHeld v more further ↔ IsHeld v first own
  held-taken ready blocked at b is more first further own v again before =
      let taken = held-removed ready blocked at b is v in
      (λ held. before.0 (taken.1 (again.0 held)), λ held. again.1 (taken.0 (before.1 held)))

  -- what is filed with one more that stands where it lacks something
  pub filed-inserted : (Lacking : Spot → Type 0) (val_ts : Stamp) (needs : Spot) (y : Bor (LogUpdate Op))
      (blocked : List (Blocked Op)) (at : ℕ) → Lacking needs → StandsAt val_ts y.now.prev needs
      → ((b : Blocked Op) → IsAmong b blocked → Lacking b.needs × StandsAt val_ts b.update.now.prev b.needs)
      → (b : Blocked Op) → IsAmong b (insert blocked at (record { needs = needs; update = y }))
      → Lacking b.needs × StandsAt val_ts b.update.now.prev b.needs
  filed-inserted Lacking val_ts needs y blocked at lacks stands filed b among =
      out (inserted-among blocked at _ b among)
    where
      out : (b ≡ record { needs = needs; update = y }) ⊎ IsAmong b blocked
          → Lacking b.needs × StandsAt val_ts b.update.now.prev b.needs
      out (inl same) =
          subst (λ (x : Blocked Op). Lacking x.needs × StandsAt val_ts x.update.now.prev x.needs) (sym same)
          (lacks, stands)
      out (inr other) = filed b other

  -- what goes over from the ready ones to the others is held as before
  pub held-shelved : (needs : Spot) (y : Bor (LogUpdate Op)) (ready : List (Bor (LogUpdate Op)))
      (blocked : List (Blocked Op)) (from at : ℕ) → slice_get ready from ≡ Some y → (v : LogUpdate Op)
      → IsHeld v (remove ready from) (insert blocked at (record { needs = needs; update = y })) ↔ IsHeld v ready blocked
  held-shelved needs y ready blocked from at is v =
      let stood = held-block needs y (remove ready from) blocked at v in
      let taken = has-removed (λ r. r.now) ready from y is v in grind (arith, stood, taken)

  module _ (Lacking : Spot → Type 0) (val_ts : Stamp) (left : List (LogUpdate Op)) (ready : List (Bor (LogUpdate Op)))
      (blocked : List (Blocked Op)) (table : IsTableBy Lacking val_ts left ready blocked) where
    -- with one more that is left, those that are held are left
    held-more : (u : LogUpdate Op) → IsAmong u left → (v : LogUpdate Op) → (v ≡ u) ⊎ IsHeld v ready blocked
        → IsAmong v left
    held-more u among v (inl same) = rw same among
    held-more u among v (inr held) = table.held v held

    -- a table with one more ready update
    pub table-put : (u : LogUpdate Op) (more : List (Bor (LogUpdate Op))) → IsAmong u left
        → stamp_le u.prev val_ts ≡ true → IsPut u ready more → AreInOrder (λ r. r.now.spot) more
        → IsTableBy Lacking val_ts left more blocked
    table-put u more among applied put order = record {
      order = table.order;
      fit = table.fit;
      held = λ v held. held-more u among v ((held-put u ready more blocked put v).0 held);
      in_order = order;
      causes = λ r here. out r (put.from r.now (r, here, refl));
      by_need = table.by_need;
      filed = table.filed;
    }
      where
        out : (r : Bor (LogUpdate Op)) → (r.now ≡ u) ⊎ Has (λ x. x.now) r.now ready → stamp_le r.now.prev val_ts ≡ true
        out r (inl same) = rw same applied
        out r (inr has) = rw (← has.2) (table.causes has.0 has.1)

    -- and with one more that needs something
    pub table-block : (needs : Spot) (y : Bor (LogUpdate Op)) (at : ℕ) → IsAmong y.now left → Lacking needs
        → StandsAt val_ts y.now.prev needs → AreByNeed (insert blocked at (record { needs = needs; update = y }))
        → IsTableBy Lacking val_ts left ready (insert blocked at (record { needs = needs; update = y }))
    table-block needs y at among lacks stands order = record {
      order = table.order;
      fit = table.fit;
      held = λ v held. held-more y.now among v ((held-block needs y ready blocked at v).0 held);
      in_order = table.in_order;
      causes = table.causes;
      by_need = order;
      filed = filed-inserted Lacking val_ts needs y blocked at lacks stands table.filed;
    }

    -- and with one fewer
    pub table-removed : (at : ℕ) → IsTableBy Lacking val_ts left ready (remove blocked at)
    table-removed at = record {
      order = table.order;
      fit = table.fit;
      held = λ v held. table.held v (held-before ready blocked at v held);
      in_order = table.in_order;
      causes = table.causes;
      by_need = ascends-but (λ a b. not (is_before b.needs a.needs)) blocked at table.by_need;
      filed = λ b among. table.filed b (removed-among blocked at b among);
    }

  -- where none is met at the place that was raised, each that needs something lacks it
  pub table-whole : (raised : ℕ) (val_ts : Stamp) (left : List (LogUpdate Op)) (ready : List (Bor (LogUpdate Op)))
      (blocked : List (Blocked Op)) → IsTableBut raised val_ts left ready blocked
      → ((b : Blocked Op) → IsAmong b blocked → is_met raised (part val_ts raised) b.needs ≡ false)
      → IsTable val_ts left ready blocked
  table-whole raised val_ts left ready blocked table unmet = record {
    order = table.order;
    fit = table.fit;
    held = table.held;
    in_order = table.in_order;
    causes = table.causes;
    by_need = table.by_need;
    filed = λ b among.
        let was = table.filed b among in (lacks-there val_ts raised b.needs was.0 (unmet b among), was.1);
  }
