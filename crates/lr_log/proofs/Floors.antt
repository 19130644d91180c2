-- What is new where each of some stamps has its least part.
use Rattle.std.proofs.Common.{◌≡◌, ◌<◌, ◌≤◌, ◌+◌, ℕ, Bool, true, false, not, ◌||◌, ◌&&◌, min, nat_lt, List, [], length}
use Rattle.std.proofs.Common.{take, get_or, refl, sym, ap, ◌∙◌, arith}
use Rattle.std.proofs.lemmas.Bool.Decides.{nat_tests}
use Rattle.std.proofs.lemmas.List.{take_all}
use Rattle.std.proofs.lemmas.List.Folds.{list_all_at, list_all_more}
use Rattle.std.specs.List.{list_all}
use Rattle.lr_base.specs.Rules.{is_new, known_in}
use Rattle.lr_base.specs.StampLaws.{part-meet}
use Rattle.lr_base.specs.Stamps.{meet, part}
use Rattle.lr_base.specs.declared.names.Spot.{Spot}

-- an item is new by the lesser parts where it is new by one of the two
pub is_new-meet : (a b : List ℕ) (spot : Spot) → is_new (meet a b) spot ≡ (is_new a spot || is_new b spot)
is_new-meet a b spot = ap (λ n. nat_lt n spot.number) (part-meet a b spot.place)
    ∙ lesser (part a spot.place) (part b spot.place) spot.number
  where
    lesser : (x y n : ℕ) → nat_lt (min x y) n ≡ (nat_lt x n || nat_lt y n)
    lesser x y n = grind (arith, nat_tests)

-- whether an item is new by the first stamp or by one of the first so many
abbrev pub new_for : List (List ℕ) → ℕ → Spot → Bool
new_for rows k spot = is_new (get_or rows 0 []) spot || not (list_all (λ row. not (is_new row spot)) (take k rows))

pub new_for-none : (rows : List (List ℕ)) (spot : Spot) → is_new (get_or rows 0 []) spot ≡ new_for rows 0 spot
new_for-none rows spot = same (is_new (get_or rows 0 []) spot)
  where
    same : (t : Bool) → t ≡ (t || false)
    same true = refl
    same false = refl

pub new_for-more : (rows : List (List ℕ)) (k : ℕ) (row floor : List ℕ) (spot : Spot) → k < length rows
    → row ≡ get_or rows k row
    → is_new floor spot ≡ new_for rows k spot → is_new (meet floor row) spot ≡ new_for rows (k + 1) spot
new_for-more rows k row floor spot less at so_far =
    is_new-meet floor row spot ∙ ap (λ t. t || is_new row spot) so_far
    ∙ regroup (is_new (get_or rows 0 []) spot) (list_all (λ r. not (is_new r spot)) (take k rows)) (is_new row spot)
    ∙ ap (λ t. is_new (get_or rows 0 []) spot || not t)
    (ap (λ (r : List ℕ). list_all (λ r. not (is_new r spot)) (take k rows) && not (is_new r spot)) at
    ∙ sym (list_all_more (λ r. not (is_new r spot)) rows k row less))
  where
    regroup : (a b c : Bool) → ((a || not b) || c) ≡ (a || not (b && not c))
    regroup true b c = refl
    regroup false true true = refl
    regroup false true false = refl
    regroup false false c = refl

pub new_for-all : (rows : List (List ℕ)) (k : ℕ) (spot : Spot) → 0 < length rows → length rows ≤ k
    → new_for rows k spot ≡ not (known_in rows spot)
new_for-all rows k spot some past = ap (λ (rs : List (List ℕ)). is_new (get_or rows 0 []) spot || not
    (list_all (λ r. not (is_new r spot)) rs)) (take_all k rows past) ∙ by_first (is_new (get_or rows 0 []) spot) refl
  where
    by_first : (t : Bool) → is_new (get_or rows 0 []) spot ≡ t
        → (t || not (known_in rows spot)) ≡ not (known_in rows spot)
    by_first false e = refl
    by_first true e = sym (ap not (list_all_at (λ r. not (is_new r spot)) rows 0 [] some (ap not e)))
