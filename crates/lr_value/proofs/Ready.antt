-- The first update whose causes are applied.
use Rattle.std.proofs.Common.{◌≡◌, ◌+◌, ◌<◌, ℕ, zero, suc, Bool, true, false, ◌⊎◌, inl, inr, List, [], ◌∷◌}
use Rattle.std.proofs.Common.{length, get_or, refl, sym, ◌∙◌, subst, Some, None, arith}
use Rattle.std.specs.Prelude.{Option, filter, is_some, remove, slice_get}
use Rattle.std.specs.Borrow.{Bor}
use Rattle.std.proofs.Math.Nat.{eq-or-lt_of_le}
use Rattle.std.proofs.lemmas.Option.{slice_get_read, slice_get_within}
use Rattle.std.proofs.lemmas.List.Edits.{length-remove}
use Rattle.lr_base.specs.declared.messages.LogUpdate.{LogUpdate}
use Rattle.lr_base.specs.Meaning.{Meaning}
use Rattle.lr_base.specs.Rules.{Progress, apply_one, apply_ready, take_ready}
use Rattle.lr_base.specs.Stamps.{stamp_le}
use Rattle.lr_value.specs.Waiting.{behind}

module _ {Op : Type 0} where
  slice_get-behind : (references : List (Bor (LogUpdate Op))) (k : ℕ) (u : Bor (LogUpdate Op))
      → slice_get references k ≡ Some u → slice_get (behind references) k ≡ Some u.now
  slice_get-behind [] k u e = let e' : None ≡ Some u = e in cc
  slice_get-behind (x ∷ references) zero u e = let same : x ≡ u = cc in rw same refl
  slice_get-behind (x ∷ references) (suc k) u e = slice_get-behind references k u e

  -- an element that was read is that of the updates behind
  pub behind-read : (references : List (Bor (LogUpdate Op))) (k : ℕ) (u : Bor (LogUpdate Op)) → k < length references
      → u ≡ get_or references k u → slice_get (behind references) k ≡ Some u.now
  behind-read references k u within is =
      slice_get-behind references k u (slice_get_read references (length references) k u refl within is)

  -- where none of the causes is applied, none is taken
  pub take_ready-none : (val_ts : List ℕ) (todo : List (LogUpdate Op))
      → ((k : ℕ) (u : LogUpdate Op) → slice_get todo k ≡ Some u → stamp_le u.prev val_ts ≡ false)
      → take_ready val_ts todo ≡ None
  take_ready-none val_ts [] blocked = refl
  take_ready-none val_ts (u ∷ todo) blocked =
      rw (blocked 0 u refl, take_ready-none val_ts todo (λ k x e. blocked (suc k) x e)) refl

  -- where one's causes are applied, one is taken
  pub take_ready-some : (val_ts : List ℕ) (todo : List (LogUpdate Op)) (at : ℕ) (u : LogUpdate Op)
      → slice_get todo at ≡ Some u → stamp_le u.prev val_ts ≡ true → is_some (take_ready val_ts todo) ≡ true
  take_ready-some val_ts [] at u is ready = let none : None ≡ Some u = is in cc
  take_ready-some val_ts (x ∷ todo) zero u is ready =
      let same : x ≡ u = cc in
      let ready' : stamp_le x.prev val_ts ≡ true = rw same ready in
      rw ready' refl
  take_ready-some val_ts (x ∷ todo) (suc at) u is ready =
      go (stamp_le x.prev val_ts) refl (take_ready val_ts todo) refl (take_ready-some val_ts todo at u is ready)
    where
      go : (s : Bool) → stamp_le x.prev val_ts ≡ s → (found : Option (LogUpdate Op × List (LogUpdate Op)))
          → take_ready val_ts todo ≡ found → is_some (take_ready val_ts todo) ≡ true
          → is_some (take_ready val_ts (x ∷ todo)) ≡ true
      go true first found later some = rw first refl
      go false first None later some = let no : false ≡ true = rw later at some in cc
      go false first (Some taken) later some = rw (first, later) refl

  -- the first of those whose causes are applied is taken, and of the others those behind it are left
  pub taken-first : (val_ts : List ℕ) (todo rest : List (LogUpdate Op)) (first : LogUpdate Op)
      → first ∷ rest ≡ filter (λ u. stamp_le u.prev val_ts) todo
      → (at : ℕ) × (slice_get todo at ≡ Some first)
      × (take_ready val_ts todo ≡ Some (first, remove todo at))
      × (rest ≡ filter (λ u. stamp_le u.prev val_ts) (remove todo at))
  taken-first val_ts [] rest first is = cc
  taken-first val_ts (x ∷ todo) rest first is = go (taken-first val_ts todo rest first) (stamp_le x.prev val_ts) refl
    where
      go : (first ∷ rest ≡ filter (λ u. stamp_le u.prev val_ts) todo → (at : ℕ) × (slice_get todo at ≡ Some first)
          × (take_ready val_ts todo ≡ Some (first, remove todo at))
          × (rest ≡ filter (λ u. stamp_le u.prev val_ts) (remove todo at))) → (s : Bool) → stamp_le x.prev val_ts ≡ s
          → (at : ℕ) × (slice_get (x ∷ todo) at ≡ Some first)
          × (take_ready val_ts (x ∷ todo) ≡ Some (first, remove (x ∷ todo) at))
          × (rest ≡ filter (λ u. stamp_le u.prev val_ts) (remove (x ∷ todo) at))
      go hyp true ready =
          let is' : first ∷ rest ≡ x ∷ filter (λ u. stamp_le u.prev val_ts) todo = rw ready at is in
          let same : first ≡ x = cc in
          (0, (cc), rw (ready, same) refl, (cc))
      go hyp false ready =
          let later = hyp (rw ready at is) in
          (suc later.0, later.1, rw (ready, later.2) refl, rw ready later.3)

  -- applying goes on with the others behind the one that is taken
  pub apply_ready-step : {Value : Type 0} (m : Meaning Value Op) (todo : List (LogUpdate Op)) (at : ℕ)
      (u : LogUpdate Op) (p : Progress Value) → slice_get todo at ≡ Some u
      → take_ready p.val_ts todo ≡ Some (u, remove todo at)
      → apply_ready m (length todo) todo p ≡ apply_ready m (length (remove todo at)) (remove todo at) (apply_one m p u)
  apply_ready-step m todo at u p here taken =
      let within = slice_get_within todo at u here in
      let long : length todo ≡ suc (length (remove todo at)) = omega (arith, length-remove todo at within) in
      rw (long, taken) refl

  -- what holds of the first ones and of the next holds of one more
  pub each-more : (P : LogUpdate Op → Type 0) (todo : List (LogUpdate Op)) (at : ℕ) (here : LogUpdate Op)
      → slice_get todo at ≡ Some here → P here
      → ((k : ℕ) (u : LogUpdate Op) → k < at → slice_get todo k ≡ Some u → P u) → (k : ℕ) (u : LogUpdate Op)
      → k < at + 1 → slice_get todo k ≡ Some u → P u
  each-more P todo at here is own all k u below e = go (eq-or-lt_of_le (omega arith))
    where
      go : (k ≡ at) ⊎ (k < at) → P u
      go (inl same) =
          let e' : slice_get todo at ≡ Some u = rw (← same) e in
          let here' : Some here ≡ Some u = sym is ∙ e' in
          let is' : here ≡ u = cc in
          subst P is' own
      go (inr before) = all k u before e
