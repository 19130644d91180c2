-- Tables by number, in which one entry is another.
use Rattle.std.proofs.Common.{◌≡◌, ◌≢◌, ℕ, Bool, true, false, cond, ◌==◌, refl, sym, ap, subst, eq-eqb, eqb-true}
use Rattle.lr_graph.specs.Sets.{put_at}
use Rattle.lr_graph.proofs.Lists.Tests.{never}

pub put-same : {X : Type 0} (i : ℕ) (x : X) (table : ℕ → X) → put_at i x table i ≡ x
put-same i x table = ap (λ t. cond t x (table i)) (eq-eqb i i refl)

pub put-other : {X : Type 0} (i j : ℕ) (x : X) (table : ℕ → X) → j ≢ i → put_at i x table j ≡ table j
put-other i j x table apart = ap (λ t. cond t x (table j)) (never (j == i) (λ e. apart (eqb-true j i e)))

-- what holds of the new thing and of the others holds of each
pub put-each : {X : Type 0} (R : ℕ → X → Type 0) (i : ℕ) (x : X) (table : ℕ → X)
    → R i x → ((j : ℕ) → R j (table j)) → (j : ℕ) → R j (put_at i x table j)
put-each {X} R i x table new old j = by_test (j == i) refl
  where
    by_test : (t : Bool) → (j == i) ≡ t → R j (cond t x (table j))
    by_test true e = subst (λ k. R k x) (sym (eqb-true j i e)) new
    by_test false e = old j
