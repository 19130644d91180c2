-- A list that is cut at the first element that passes a test.
use Rattle.std.proofs.Common.{◌≡◌, ℕ, suc, ◌+◌, ◌-◌, ◌<◌, ◌≤◌, Bool, true, false, not, cond, ◌&&◌, eqb, ltb, List, [], ◌∷◌, ◌++◌, length, get_or, take, drop, Some, None, refl, sym, ◌∙◌, ap, add-one, arith, drop-cons}
use Rattle.std.specs.List.{list_all, position, prefix_len}
use Rattle.std.proofs.lemmas.List.{take-append-drop, take_rest, get_or-take, length-take-le}
use Rattle.std.proofs.lemmas.List.Quantifiers.{position-Some}
use Rattle.std.proofs.lemmas.List.Sums.{list_all-from_AllPass}
use Rattle.std.proofs.lemmas.Bool.Decides.{nat_tests}
use Rattle.lr_script.specs.Fields.{spaces}

-- the parts of a list around an index
pub around : (xs : List ℕ) (i : ℕ) → i < length xs → xs ≡ take i xs ++ get_or xs i 0 ∷ take (length xs - (i + 1)) (drop (i + 1) xs)
around xs i h = sym (take-append-drop i xs) ∙ ap (λ t. take i xs ++ t) (rw (take_rest, add-one) (drop-cons xs i 0 h))

not_of : (b : Bool) → b ≡ false → not b ≡ true
not_of b h = ap not h

-- what stands before the first that passes doesn't pass
pub before_first : (p : ℕ → Bool) (xs : List ℕ) (i : ℕ) → position p xs ≡ Some i → list_all (λ x. not (p x)) (take i xs) ≡ true
before_first p xs i h = list_all-from_AllPass (λ x. not (p x)) (take i xs) (λ k d below.
    let found = position-Some p xs i d h in
    let long : length (take i xs) ≡ i = length-take-le i xs (omega arith) in
    let near : k < i = omega arith in
    not_of _ (rw (get_or-take i xs k d near) (found.2 k near)))

prefix_step : (b r : Bool) (m n : ℕ) → suc m ≤ cond b (1 + n) 0 → (m ≤ n → r ≡ true) → (b && r) ≡ true
prefix_step true r m n h more = more (omega arith)
prefix_step false r m n h more = absurd (omega arith)

prefix_all : (p : ℕ → Bool) (xs : List ℕ) → length xs ≤ prefix_len p xs → list_all p xs ≡ true
prefix_all p [] h = refl
prefix_all p (x ∷ xs) h = prefix_step (p x) (list_all p xs) (length xs) (prefix_len p xs) h (prefix_all p xs)

test_of_none : (b : Bool) (a : ℕ) → cond b (Some a) None ≡ None → b ≡ false
test_of_none true a h = cc
test_of_none false a h = refl

not_below : (m n : ℕ) → ltb m n ≡ false → n ≤ m
not_below m n h = grind (arith, nat_tests)

pub none_before : (p : ℕ → Bool) (xs : List ℕ) → position p xs ≡ None → list_all (λ x. not (p x)) xs ≡ true
none_before p xs h = prefix_all (λ x. not (p x)) xs (not_below _ _ (test_of_none _ _ h))

spaces_step : (b r : Bool) (n : ℕ) → (not b && r) ≡ true → (r ≡ true → n ≡ 0) → cond b (1 + n) n ≡ 0
spaces_step true r n h more = cc
spaces_step false r n h more = more h

spaces_append_step : (b : Bool) (m i j : ℕ) → m ≡ i + j → cond b (1 + m) m ≡ cond b (1 + i) i + j
spaces_append_step true m i j h = omega arith
spaces_append_step false m i j h = h

pub spaces_none : (xs : List ℕ) → list_all (λ x. not (eqb x 32)) xs ≡ true → spaces xs ≡ 0
spaces_none [] h = refl
spaces_none (x ∷ xs) h = spaces_step (eqb x 32) (list_all (λ x. not (eqb x 32)) xs) (spaces xs) h (spaces_none xs)

is_space : (x : ℕ) → eqb x 32 ≡ true → x ≡ 32
is_space x h = grind (arith, nat_tests)

pub spaces-append : (xs ys : List ℕ) → spaces (xs ++ ys) ≡ spaces xs + spaces ys
spaces-append [] ys = omega arith
spaces-append (x ∷ xs) ys = spaces_append_step (eqb x 32) (spaces (xs ++ ys)) (spaces xs) (spaces ys) (spaces-append xs ys)

pub field_at : (line : List ℕ) (i : ℕ) → position (λ byte. eqb byte 32) line ≡ Some i → (line ≡ take i line ++ 32 ∷ take (length line - (i + 1)) (drop (i + 1) line)) × (spaces (take i line) ≡ 0)
field_at line i h =
    let found = position-Some (λ byte. eqb byte 32) line i 0 h in
    let space : get_or line i 0 ≡ 32 = is_space _ found.1 in
    (around line i found.0 ∙ ap (λ b. take i line ++ b ∷ take (length line - (i + 1)) (drop (i + 1) line)) space, spaces_none (take i line) (before_first (λ byte. eqb byte 32) line i h))

-- a space behind the first field is the first
pub spaces_behind : (line field rest : List ℕ) → line ≡ field ++ 32 ∷ rest → spaces field ≡ 0 → spaces line ≡ 1 + spaces rest
spaces_behind line field rest e h =
    let both = spaces-append field (32 ∷ rest) in
    let there : spaces line ≡ spaces (field ++ 32 ∷ rest) = ap spaces e in
    omega arith

pub spaces_at : (line : List ℕ) (i : ℕ) → position (λ byte. eqb byte 32) line ≡ Some i → spaces line ≡ 1 + spaces (take (length line - (i + 1)) (drop (i + 1) line))
spaces_at line i h = let cut = field_at line i h in spaces_behind line (take i line) (take (length line - (i + 1)) (drop (i + 1) line)) cut.0 cut.1

pub field_alone : (line : List ℕ) → position (λ byte. eqb byte 32) line ≡ None → spaces line ≡ 0
field_alone line h = spaces_none line (none_before (λ byte. eqb byte 32) line h)
