-- What is left of the updates that waited.
use Rattle.std.proofs.Common.{◌≡◌, ℕ, zero, suc, Bool, true, false, ◌⊎◌, inl, inr, List, [], ◌∷◌, refl, sym, ◌∙◌}
use Rattle.std.proofs.Common.{Some, None, true≢false}
use Rattle.std.specs.Prelude.{remove, slice_get}
use Rattle.std.specs.List.{AllByRecursion}
use Rattle.std.specs.Option.{ForSome}
use Rattle.lr_base.specs.Ascending.{is_before}
use Rattle.lr_base.specs.declared.messages.LogUpdate.{LogUpdate}
use Rattle.lr_base.specs.Insertion.{Ascends}
use Rattle.lr_base.specs.Orders.{IsAmong}
use Rattle.lr_base.specs.Rules.{is_covered, is_new, stamp_of}
use Rattle.lr_base.specs.Stamps.{Stamp, stamp_le}
use Rattle.lr_base.specs.StampLaws.{stamp_le-trans}
use Rattle.lr_value.specs.Waiting.{AreLeft}

module _ {A : Type 0} where
  -- what holds of each element holds of each but one
  all-but : (P : A → Type 0) (xs : List A) (at : ℕ) → AllByRecursion P xs → AllByRecursion P (remove xs at)
  all-but P [] zero all = tt
  all-but P [] (suc at) all = tt
  all-but P (x ∷ xs) zero all = all.1
  all-but P (x ∷ xs) (suc at) all = (all.0, all-but P xs at all.1)

  pub ascends-but : (before : A → A → Bool) (xs : List A) (at : ℕ) → Ascends before xs → Ascends before (remove xs at)
  ascends-but before [] zero up = tt
  ascends-but before [] (suc at) up = tt
  ascends-but before (x ∷ xs) zero up = up.1
  ascends-but before (x ∷ xs) (suc at) up =
      (all-but (λ y. before x y ≡ true) xs at up.0, ascends-but before xs at up.1)

  pub some-but : (P : A → Type 0) (xs : List A) (at : ℕ) → ((k : ℕ) → ForSome (slice_get xs k) P)
      → (k : ℕ) → ForSome (slice_get (remove xs at) k) P
  some-but P [] zero all = all
  some-but P [] (suc at) all = all
  some-but P (x ∷ xs) zero all = λ k. all (suc k)
  some-but P (x ∷ xs) (suc at) all = front (some-but P xs at (λ k. all (suc k)))
    where
      front : ((k : ℕ) → ForSome (slice_get (remove xs at) k) P)
          → (k : ℕ) → ForSome (slice_get (x ∷ remove xs at) k) P
      front rest zero = all 0
      front rest (suc k) = rest k

  -- what is among the elements is the one that is removed, or is among the others
  pub among-but : (x : A) (xs : List A) (at : ℕ) (taken : A) → slice_get xs at ≡ Some taken → IsAmong x xs
      → (x ≡ taken) ⊎ IsAmong x (remove xs at)
  among-but x [] at taken is among = inr (absurd among)
  among-but x (y ∷ xs) zero taken is (inl same) = let e : y ≡ taken = cc in inl (same ∙ e)
  among-but x (y ∷ xs) zero taken is (inr among) = inr among
  among-but x (y ∷ xs) (suc at) taken is (inl same) = inr (inl same)
  among-but x (y ∷ xs) (suc at) taken is (inr among) = out (among-but x xs at taken is among)
    where
      out : (x ≡ taken) ⊎ IsAmong x (remove xs at) → (x ≡ taken) ⊎ IsAmong x (y ∷ remove xs at)
      out (inl same) = inl same
      out (inr among) = inr (inr among)

  pub among-at : (xs : List A) (k : ℕ) → ForSome (slice_get xs k) (λ x. IsAmong x xs)
  among-at [] k = λ x e. let none : None ≡ Some x = e in cc
  among-at (y ∷ xs) zero = λ x e. let same : y ≡ x = cc in inl (sym same)
  among-at (y ∷ xs) (suc k) = λ x e. inr (among-at xs k x e)

module _ {Op : Type 0} where
  -- at first all are left
  pub left-all : (val_ts : Stamp) (todo : List (LogUpdate Op)) → AreLeft val_ts todo todo
  left-all val_ts todo = record {
    in_order = λ order. order;
    received = λ seen all. all;
    others = λ k u e unapplied. among-at todo k u e;
  }

  -- an update that is applied is left no more
  pub left-but : (val_ts after : Stamp) (todo left same : List (LogUpdate Op)) (at : ℕ) (taken : LogUpdate Op)
      → slice_get left at ≡ Some taken → same ≡ remove left at → stamp_le val_ts after ≡ true
      → is_covered after taken ≡ true → AreLeft val_ts todo left → AreLeft after todo same
  left-but val_ts after todo left same at taken is but grown covered old =
      rw but
      (record {
        in_order = λ order. ascends-but (λ (a b : LogUpdate Op). is_before a.spot b.spot) left at (old.in_order order);
        received = λ seen all. some-but (λ u. is_new seen u.spot ≡ false) left at (old.received seen all);
        others = λ k u e unapplied. still u unapplied
            (among-but u left at taken is (old.others k u e (before u (is_covered val_ts u) refl unapplied)));
      })
    where
      before : (u : LogUpdate Op) (c : Bool) → is_covered val_ts u ≡ c → is_covered after u ≡ false
          → is_covered val_ts u ≡ false
      before u true e unapplied =
          let yes : is_covered after u ≡ true = stamp_le-trans (stamp_of u) val_ts after e grown in
          absurd (true≢false (sym yes ∙ unapplied))
      before u false e unapplied = e

      still : (u : LogUpdate Op) → is_covered after u ≡ false → (u ≡ taken) ⊎ IsAmong u (remove left at)
          → IsAmong u (remove left at)
      still u unapplied (inl one) =
          let yes : is_covered after u ≡ true = rw one covered in
          absurd (true≢false (sym yes ∙ unapplied))
      still u unapplied (inr among) = among
