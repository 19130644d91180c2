-- The rules' test of what is known everywhere, which reads rows of counts, is that of the definitions.
use Rattle.std.proofs.Common.{◌≡◌, ◌≢◌, ◌<◌, ◌⊎◌, inl, inr, ℕ, zero, suc, Bool, true, false, not, List, [], ◌∷◌, length, get_or, refl, sym, ap, ◌∙◌, arith}
use Rattle.std.specs.List.{list_all}
use Rattle.lr_base.specs.Rules.{CausalState, is_new, known_in}
use Rattle.lr_base.specs.declared.names.Spot.{Spot}
use Rattle.lr_graph.specs.Pruned.{in_first}
use Rattle.lr_graph.specs.Sets.{SpotSet}
use Rattle.lr_graph.proofs.Lists.Tests.{and-intro, and-left, and-right, equal-or-not, same-test}
use Rattle.lr_graph.proofs.Related.Relation.{HasTold}
use Rattle.lr_graph.proofs.Replicas.Gossiping.{new-spot}

-- a test of all elements is one of each index
module _ {A : Type 0} (p : A → Bool) (none : A) where
  all-at : (xs : List A) → list_all p xs ≡ true → (k : ℕ) → k < length xs → p (get_or xs k none) ≡ true
  all-at [] all k less = absurd (omega arith)
  all-at (x ∷ xs) all zero less = and-left (p x) _ all
  all-at (x ∷ xs) all (suc k) less = all-at xs (and-right (p x) _ all) k (omega arith)

  all-from : (xs : List A) → ((k : ℕ) → k < length xs → p (get_or xs k none) ≡ true) → list_all p xs ≡ true
  all-from [] h = refl
  all-from (x ∷ xs) h = and-intro (p x) _ (h 0 (omega arith)) (all-from xs (λ k less. h (suc k) (omega arith)))

-- a spot that the first so many sets have is in each of them
pub first-each : (sets : ℕ → SpotSet) (n : ℕ) (s : Spot) → in_first sets n s ≡ true → (k : ℕ) → k < n → sets k s ≡ true
first-each sets zero s all k less = absurd (omega arith)
first-each sets (suc n) s all k less = by_place (equal-or-not k n) (λ lower. first-each sets n s (and-left (in_first sets n s) _ all) k lower)
  where
    by_place : (k ≡ n) ⊎ (k ≢ n) → (k < n → sets k s ≡ true) → sets k s ≡ true
    by_place (inl e) rest = ap (λ j. sets j s) e ∙ and-right (in_first sets n s) _ all
    by_place (inr apart) rest = rest (lower k n less apart)
      where
        lower : (k n : ℕ) → k < suc n → k ≢ n → k < n
        lower k n less apart = omega arith

pub first-from : (sets : ℕ → SpotSet) (n : ℕ) (s : Spot) → ((k : ℕ) → k < n → sets k s ≡ true) → in_first sets n s ≡ true
first-from sets zero s h = refl
first-from sets (suc n) s h = and-intro (in_first sets n s) _ (first-from sets n s (λ k less. h k (omega arith))) (h n (omega arith))

-- on items, which are numbered from 1, the two tests are one
pub known-same : {Value Op : Type 0} (replicas : ℕ) (told : ℕ → SpotSet) (state : CausalState Value Op) → HasTold replicas told state → (s : Spot) → 0 < s.number
    → known_in state.table s ≡ in_first told replicas s
known-same replicas told state has s some = same-test _ _
    (λ all. first-from told replicas s (λ k less. not-not (told k s) (sym (ap not (row k less)) ∙ all-at old [] state.table all k (let n = has.rows in omega arith))))
    (λ known. all-from old [] state.table (λ k less.
    let within : k < replicas = let n = has.rows in omega arith in
    ap not (row k within) ∙ ap (λ t. not (not t)) (first-each told replicas s known k within)))
  where
    old : List ℕ → Bool
    old row = not (is_new row s)

    row : (k : ℕ) → k < replicas → is_new (get_or state.table k []) s ≡ not (told k s)
    row k less = new-spot (told k) (get_or state.table k []) (has.counted k less) s some

    not-not : (t : Bool) → not (not t) ≡ true → t ≡ true
    not-not true e = refl
    not-not false e = e
