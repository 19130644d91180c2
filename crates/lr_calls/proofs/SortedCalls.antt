-- A sort of calls lists them in ascending order.
use Rattle.std.proofs.Common.{◌≡◌, ℕ, ◌+◌, ◌<◌, Bool, true, false, not, ◌&&◌, ◌||◌, eqb, ltb, List, [], ◌∷◌, get_or}
use Rattle.std.proofs.Common.{map, refl, sym, ◌∙◌, ap, arith}
use Rattle.std.specs.Cmp.{ranks}
use Rattle.std.specs.List.Sorted.{IsPermutation, IsSorted, IsSortedBy}
use Rattle.std.specs.declared.cmp.Ordering.{Ordering}
use Rattle.std.specs.Ordering.{MatchOrdering, is_lt, nat_cmp, ordering_then}
use Rattle.std.specs.declared.cmp.Ordering.TheVariants.{Less, Equal, Greater}
use Rattle.std.proofs.lemmas.Bool.Decides.{nat_tests}
use Rattle.lr_base.specs.Ascending.{ascending, cid_before, cid_up_to}
use Rattle.lr_base.specs.CallLaws.{cids-entered}
use Rattle.lr_base.specs.Calls.{by_call}
use Rattle.lr_base.specs.InsertionLaws.{sorted-ascending, sorted-permutation}
use Rattle.lr_base.specs.NameLaws.{cid-neither}
use Rattle.lr_base.specs.declared.messages.Known.{Known}
use Rattle.lr_base.specs.declared.names.Cid.{Cid}

-- two calls of which each comes before the other, or neither, are one
one-call : (a b : Cid) → cid_up_to a b ≡ cid_up_to b a → a ≡ b
one-call a b alike = go (cid_before b a) refl (cid_before a b) refl
  where
    go : (s : Bool) → cid_before b a ≡ s → (t : Bool) → cid_before a b ≡ t → a ≡ b
    go false p false q = cid-neither a b q p
    go true p true q = let no : false ≡ true = grind (arith, nat_tests) in cc
    go true p false q = let no : false ≡ true = sym (ap not p) ∙ alike ∙ ap not q in cc
    go false p true q = let no : true ≡ false = sym (ap not p) ∙ alike ∙ ap not q in cc

-- a call up to one that is up to a third is up to it
unbefore : (a b c : Cid) → cid_before b a ≡ false → cid_before c b ≡ false → cid_before c a ≡ false
unbefore a b c p q = grind (arith, nat_tests)

up_to-trans : (a b c : Cid) → cid_up_to a b ≡ true → cid_up_to b c ≡ true → cid_up_to a c ≡ true
up_to-trans a b c p q = ap not (unbefore a b c (by_not (cid_before b a) p) (by_not (cid_before c b) q))
  where
    by_not : (t : Bool) → not t ≡ true → t ≡ false
    by_not false e = refl
    by_not true e = sym e

-- a list that ascends stays as it is
ascending-sorted : (cids : List Cid) → IsSortedBy cid_before cids → ascending cids ≡ cids
ascending-sorted cids h = sorted-ascending cid_up_to cids (λ k d low. ap not (h k d (omega arith) low))

-- what the derived comparison answers, as a test of numbers
less : (a b : ℕ) (r : Ordering) → MatchOrdering r (a < b) (a ≡ b) (b < a) → is_lt r ≡ ltb a b
less a b Less h = grind (arith, nat_tests)
less a b Equal h = grind (arith, nat_tests)
less a b Greater h = grind (arith, nat_tests)

compared : (a b c d : ℕ) (r : Ordering) → MatchOrdering r (a < b) (a ≡ b) (b < a)
    → is_lt (ordering_then r (nat_cmp c d)) ≡ (ltb a b || (eqb a b && ltb c d))
compared a b c d Less h = grind (arith, nat_tests)
compared a b c d Equal h =
    less c d (nat_cmp c d) (ranks c d)
    ∙ let same : ltb c d ≡ (ltb a b || (eqb a b && ltb c d)) = grind (arith, nat_tests) in same
compared a b c d Greater h = grind (arith, nat_tests)

-- the calls' own comparison is by client, and then by number
compared_before : (a b : Cid)
    → is_lt (ordering_then (nat_cmp a.client b.client) (nat_cmp a.seq b.seq)) ≡ cid_before a b
compared_before a b =
    compared a.client b.client a.seq b.seq (nat_cmp a.client b.client) (ranks a.client b.client)

-- a table's calls are those of its entries, ascending
cids-by_call : (es : List (Cid × Known)) → map (λ e. e.0) (by_call es) ≡ ascending (map (λ e. e.0) es)
cids-by_call [] = refl
cids-by_call (e ∷ es) =
    cids-entered e (by_call es) ∙ ap (Rattle.lr_base.specs.Ascending.insert_cid e.0) (cids-by_call es)

-- what a sort of its entries' calls gives
pub sorted_calls : (es : List (Cid × Known)) (xs ys : List Cid) → xs ≡ map (λ e. e.0) es → IsPermutation xs ys
    → IsSorted (λ a b. ordering_then (nat_cmp a.client b.client) (nat_cmp a.seq b.seq)) ys
    → ys ≡ map (λ e. e.0) (by_call es)
sorted_calls es xs ys are same sorted =
    sym (ascending-sorted ys (λ k d low high.
    sym (compared_before (get_or ys (k + 1) d) (get_or ys k d)) ∙ sorted k d low high))
    ∙ sorted-permutation cid_up_to one-call up_to-trans xs ys same ∙ ap ascending are ∙ sym (cids-by_call es)
