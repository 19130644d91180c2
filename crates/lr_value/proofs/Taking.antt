-- What stays of a table when its first ready update is taken and applied.
use Rattle.std.proofs.Common.{◌≡◌, ◌≢◌, ◌⊎◌, ◌↔◌, inl, inr, ℕ, Bool, true, false, List, [], ◌∷◌, length, refl, sym, ◌∙◌}
use Rattle.std.proofs.Common.{Some, None, true≢false, arith}
use Rattle.std.specs.Prelude.{filter, remove, slice_get}
use Rattle.std.specs.Borrow.{Bor}
use Rattle.lr_base.specs.Ascending.{is_before}
use Rattle.lr_base.specs.Orders.{IsAmong}
use Rattle.lr_base.specs.Meaning.{Meaning}
use Rattle.lr_base.specs.Rules.{Progress, apply_one, take_ready}
use Rattle.lr_base.specs.Stamps.{Stamp, part, stamp_le}
use Rattle.lr_base.specs.StampLaws.{parts-stamp_le, stamp_le-trans}
use Rattle.lr_base.specs.declared.messages.LogUpdate.{LogUpdate}
use Rattle.lr_value.specs.declared.waiting.Blocked.{Blocked}
use Rattle.lr_value.specs.Table.{Has, IsHeld, IsTable, IsTableBut}
use Rattle.lr_value.specs.Waiting.{behind}
use Rattle.lr_base.specs.declared.messages.Known.{Known}
use Rattle.lr_base.specs.declared.names.Cid.{Cid}
use Rattle.lr_value.specs.Applied.{progress_at}
use Rattle.lr_value.proofs.Ended.{one-grows-at, one-joins}
use Rattle.lr_value.proofs.Gathered.{ascends-filter}
use Rattle.lr_value.proofs.Lacking.{lacking, raises-own}
use Rattle.lr_value.proofs.Left.{among-but, ascends-but, some-but}
use Rattle.lr_base.specs.Logged.{Fits}
use Rattle.lr_value.proofs.Members.{among-behind, order-behind, same-members}
use Rattle.lr_value.proofs.Placed.{among-get, removed-among}
use Rattle.lr_value.proofs.Ready.{take_ready-none, taken-first}

module _ {A : Type 0} (p : A → Bool) where
  among-filter : (xs : List A) (x : A) → IsAmong x (filter p xs) → IsAmong x xs × (p x ≡ true)
  among-filter [] x among = absurd among
  among-filter (y ∷ xs) x among = go (among-filter xs x) (p y) refl
    where
      out : (IsAmong x (filter p xs) → IsAmong x xs × (p x ≡ true)) → p y ≡ true → IsAmong x (y ∷ filter p xs)
          → IsAmong x (y ∷ xs) × (p x ≡ true)
      out hyp is (inl same) = (inl same, rw same is)
      out hyp is (inr later) = let rest = hyp later in (inr rest.0, rest.1)

      go : (IsAmong x (filter p xs) → IsAmong x xs × (p x ≡ true)) → (s : Bool) → p y ≡ s
          → IsAmong x (y ∷ xs) × (p x ≡ true)
      go hyp true is = out hyp is (rw is at among)
      go hyp false is = let rest = hyp (rw is at among) in (inr rest.0, rest.1)

  filter-among : (xs : List A) (x : A) → p x ≡ true → IsAmong x xs → IsAmong x (filter p xs)
  filter-among [] x passes among = absurd among
  filter-among (y ∷ xs) x passes (inl same) = let is : p y ≡ true = rw (← same) passes in rw is (inl same)
  filter-among (y ∷ xs) x passes (inr among) = go (p y) refl (filter-among xs x passes among)
    where
      go : (s : Bool) → p y ≡ s → IsAmong x (filter p xs) → IsAmong x (filter p (y ∷ xs))
      go true is rest = rw is (inr rest)
      go false is rest = rw is rest

-- where the causes of an update were applied, applying it raises no other place
others-stay : {Value Op : Type 0} (m : Meaning Value Op) (p q : Progress Value) (u : LogUpdate Op)
    → q ≡ apply_one m p u → stamp_le u.prev p.val_ts ≡ true → (place : ℕ) → place ≢ u.spot.place
    → part q.val_ts place ≡ part p.val_ts place
others-stay m p q u is ready place other =
    rw (is, one-joins m p u) (raises-own p.val_ts u.prev u.spot.place u.spot.number place ready other)

module _ {Op : Type 0} (val_ts : Stamp) where
  -- of an update that needs something the causes aren't applied
  blocked-lacks : (left : List (LogUpdate Op)) (ready : List (Bor (LogUpdate Op))) (blocked : List (Blocked Op))
      → IsTable val_ts left ready blocked → (u : LogUpdate Op) → Has (λ b. b.update.now) u blocked
      → stamp_le u.prev val_ts ≡ false
  blocked-lacks left ready blocked table u has =
      let filed = table.filed has.0 has.1 in
      let less = rw (filed.1.number) at filed.0 in
      rw (← has.2) (lacking has.0.update.now.prev val_ts has.0.needs.place less)

  module _ (left : List (LogUpdate Op)) where
    -- the ready updates of a table are those of what is left whose causes are applied
    ready-are : (ready : List (Bor (LogUpdate Op))) (blocked : List (Blocked Op)) → IsTable val_ts left ready blocked
        → ((u : LogUpdate Op) → IsAmong u left → IsHeld u ready blocked)
        → behind ready ≡ filter (λ u. stamp_le u.prev val_ts) left
    ready-are ready blocked table whole =
        same-members (behind ready) (filter (λ u. stamp_le u.prev val_ts) left)
        ((order-behind ready).1 table.in_order)
        (ascends-filter (λ a b. is_before a.spot b.spot) (λ u. stamp_le u.prev val_ts) left table.order)
        (λ u. (λ among. into u among, λ among. out u (among-filter _ left u among)))
      where
        into : (u : LogUpdate Op) → IsAmong u (behind ready) → IsAmong u (filter (λ u. stamp_le u.prev val_ts) left)
        into u among =
            let has = (among-behind ready u).1 among in
            filter-among (λ u. stamp_le u.prev val_ts) left u (rw (← has.2) (table.causes has.0 has.1))
            (table.held u (inl has))

        out : (u : LogUpdate Op) → IsAmong u left × (stamp_le u.prev val_ts ≡ true) → IsAmong u (behind ready)
        out u both = go (whole u both.0)
          where
            go : IsHeld u ready blocked → IsAmong u (behind ready)
            go (inl has) = (among-behind ready u).0 has
            go (inr has) = absurd (true≢false (sym both.1 ∙ blocked-lacks left ready blocked table u has))

    module _ (r : Bor (LogUpdate Op)) (rest : List (Bor (LogUpdate Op))) (blocked : List (Blocked Op))
        (table : IsTable val_ts left (r ∷ rest) blocked)
        (whole : (u : LogUpdate Op) → IsAmong u left → IsHeld u (r ∷ rest) blocked) where
      -- where the first ready update stands, and that it is taken
      pub takes : (at : ℕ) × (slice_get left at ≡ Some r.now) × (take_ready val_ts left ≡ Some (r.now, remove left at))
          × (behind rest ≡ filter (λ u. stamp_le u.prev val_ts) (remove left at))
      takes = taken-first val_ts left (behind rest) r.now (ready-are (r ∷ rest) blocked table whole)

      -- the others are what is left behind it
      pub held-others : (u : LogUpdate Op) → IsHeld u rest blocked ↔ IsAmong u (remove left takes.0)
      held-others u = (λ others. into others, λ among. out among (whole u (removed-among left takes.0 u among)))
        where
          into : IsHeld u rest blocked → IsAmong u (remove left takes.0)
          into (inl has) = (among-filter _ _ u (rw takes.3 at ((among-behind rest u).0 has))).0
          into (inr has) = go (among-but u left takes.0 r.now takes.1 (table.held u (inr has)))
            where
              go : (u ≡ r.now) ⊎ IsAmong u (remove left takes.0) → IsAmong u (remove left takes.0)
              go (inr among) = among
              go (inl same) =
                  let no = blocked-lacks left (r ∷ rest) blocked table u has in
                  let yes : stamp_le u.prev val_ts ≡ true = rw same (table.causes r (inl refl)) in
                  absurd (true≢false (sym yes ∙ no))

          out : IsAmong u (remove left takes.0) → IsHeld u (r ∷ rest) blocked → IsHeld u rest blocked
          out among (inr has) = inr has
          out among (inl has) =
              let passes : stamp_le u.prev val_ts ≡ true = rw (← has.2) (table.causes has.0 has.1) in
              inl ((among-behind rest u).1 (rw takes.3 (filter-among _ _ u passes among)))

      -- once it is applied they have a table, but for what needs something at its place
      pub table-next : {Value : Type 0} (m : Meaning Value Op) (value : Value) (calls : List (Cid × Known))
          (q : Progress Value) → q ≡ apply_one m (progress_at value val_ts calls) r.now
          → length q.val_ts ≡ length val_ts
          → IsTableBut r.now.spot.place q.val_ts (remove left takes.0) rest blocked
      table-next m value calls q is long =
          let p = progress_at value val_ts calls in
          let applied = table.causes r (inl refl) in
          let grown = one-grows-at m p q r.now is in
          let others = others-stay m p q r.now is applied in
          record {
            order = ascends-but (λ a b. is_before a.spot b.spot) left takes.0 table.order;
            fit = rw long (some-but (Fits (length val_ts)) left takes.0 table.fit);
            held = λ u held. (held-others u).0 held;
            in_order = table.in_order.1;
            causes = λ x among. stamp_le-trans x.now.prev val_ts q.val_ts (table.causes x (inr among)) grown;
            by_need = table.by_need;
            filed = λ b among.
                let was = table.filed b among in (
                  λ other. rw (others b.needs.place other) was.0,
                  record {
                    number = was.1.number;
                    before = λ place below.
                        let low = was.1.before place below in
                        let high = parts-stamp_le val_ts q.val_ts grown place in
                        omega arith;
                  },
                );
          }

    -- where none is ready, none is taken
    pub takes-none : (ready : List (Bor (LogUpdate Op))) (blocked : List (Blocked Op)) → ready ≡ []
        → IsTable val_ts left ready blocked → ((u : LogUpdate Op) → IsAmong u left → IsHeld u ready blocked)
        → take_ready val_ts left ≡ None
    takes-none ready blocked empty table whole =
        take_ready-none val_ts left (λ k u is. go u (whole u (among-get left k u is)))
      where
        go : (u : LogUpdate Op) → IsHeld u ready blocked → stamp_le u.prev val_ts ≡ false
        go u (inl has) = absurd (rw empty at has.1)
        go u (inr has) = blocked-lacks left ready blocked table u has
