-- What becomes of a table when a number is given a value.
use Rattle.std.proofs.Common.{◌≡◌, ℕ, Bool, true, false, cond, not, ◌==◌, List, [], ◌∷◌, Some, refl, sym, ap, ◌∙◌, filter, eq-eqb, eqb-true, true≢false}
use Rattle.std.specs.Prelude.{insert}
use Rattle.std.specs.List.{find}
use Rattle.std.specs.Option.{option_map}
use Rattle.lr_graph.specs.Sets.{put_at}
use Rattle.lr_graph.specs.Tables.{entry_at}
use Rattle.lr_graph.specs.declared.facts.entry.Entry.{Entry}
use Rattle.lr_graph.proofs.Lists.Tests.{never}

-- that two numbers differ may be read both ways
turned : (a b : ℕ) → (a == b) ≡ false → (b == a) ≡ false
turned a b apart = never _ (λ e. true≢false (sym (eq-eqb a b (sym (eqb-true b a e))) ∙ apart))

module _ {T : Type 0} where
  -- what has another number stays
  find-kept : (key k : ℕ) (entries : List (Entry T)) → (k == key) ≡ false → find (λ e. e.key == k) (filter (λ e. not (e.key == key)) entries) ≡ find (λ e. e.key == k) entries
  find-kept key k [] apart = refl
  find-kept key k (e ∷ entries) apart = go (e.key == key) refl (find-kept key k entries apart)
    where
      past : (s : Bool) → s ≡ false → find (λ e. e.key == k) entries ≡ cond s (Some e) (find (λ e. e.key == k) entries)
      past true f = absurd (true≢false f)
      past false f = refl

      go : (t : Bool) → (e.key == key) ≡ t
          → find (λ e. e.key == k) (filter (λ e. not (e.key == key)) entries) ≡ find (λ e. e.key == k) entries
          → find (λ e. e.key == k) (cond (not t) (e ∷ filter (λ e. not (e.key == key)) entries) (filter (λ e. not (e.key == key)) entries)) ≡ find (λ e. e.key == k) (e ∷ entries)
      go true p rest = rest ∙ past (e.key == k) (ap (λ (n : ℕ). n == k) (eqb-true e.key key p) ∙ turned k key apart)
      go false p rest = ap (cond (e.key == k) (Some e)) rest

  entry_at-put : (key : ℕ) (value : T) (entries : List (Entry T))
      → entry_at (record { key = key; value = value } ∷ filter (λ e. not (e.key == key)) entries) ≡ put_at key (Some value) (entry_at entries)
  entry_at-put key value entries = λ i k. at k (k == key) refl i
    where
      at : (k : ℕ) (t : Bool) → (k == key) ≡ t
          → entry_at (record { key = key; value = value } ∷ filter (λ e. not (e.key == key)) entries) k ≡ cond t (Some value) (entry_at entries k)
      at k true p = ap (λ s. option_map (λ e. e.value) (cond s (Some (record { key = key; value = value })) (find (λ e. e.key == k) (filter (λ e. not (e.key == key)) entries)))) (eq-eqb key k (sym (eqb-true k key p)))
      at k false p = ap (λ s. option_map (λ e. e.value) (cond s (Some (record { key = key; value = value })) (find (λ e. e.key == k) (filter (λ e. not (e.key == key)) entries)))) (turned k key p) ∙ ap (option_map (λ e. e.value)) (find-kept key k entries p)

  -- the entry of a number was taken out, and another put before the rest
  pub entry_at-inserted : (key : ℕ) (value : T) (own kept new table : List (Entry T)) → kept ≡ filter (λ e. not (e.key == key)) own → new ≡ insert kept 0 (record { key = key; value = value }) → own ≡ table
      → entry_at new ≡ put_at key (Some value) (entry_at table)
  entry_at-inserted key value own kept new table out put is =
      ap entry_at (put ∙ ap (λ (es : List (Entry T)). record { key = key; value = value } ∷ es) out) ∙ entry_at-put key value own ∙ ap (λ (es : List (Entry T)). put_at key (Some value) (entry_at es)) is
