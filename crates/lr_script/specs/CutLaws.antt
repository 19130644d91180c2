-- A list is cut in one way at the first element that fails a test.
-- A fact with its proof: a list is cut in one way at the first element that fails a test (`cut_one`).
use Rattle.std.specs.Prelude.{◌≡◌, ℕ, Bool, true, false, ◌&&◌, List, [], ◌∷◌, ◌++◌}
use Rattle.std.specs.List.{list_all}
use Rattle.std.proofs.Common.{refl, sym, ◌∙◌, ap}

-- both of two tests passed
pub all_head : (b r : Bool) → (b && r) ≡ true → b ≡ true
all_head true r h = refl
all_head false r h = cc

pub all_tail : (b r : Bool) → (b && r) ≡ true → r ≡ true
all_tail true r h = h
all_tail false r h = cc

-- what stands before the first element that fails a test is one list, and so is what stands behind it
pub cut_one : (p : ℕ → Bool) (c : ℕ) → p c ≡ false → (f g r s : List ℕ)
    → f ++ c ∷ r ≡ g ++ c ∷ s → list_all p f ≡ true → list_all p g ≡ true → (f ≡ g) × (r ≡ s)
cut_one p c off [] [] r s e hf hg = (refl, cc)
cut_one p c off [] (y ∷ g) r s e hf hg =
    let y_is : c ≡ y = cc in
    let yes : p y ≡ true = all_head (p y) (list_all p g) hg in
    let no : p y ≡ false = ap p (sym y_is) ∙ off in
    let bad : true ≡ false = sym yes ∙ no in absurd (cc)
cut_one p c off (x ∷ f) [] r s e hf hg =
    let x_is : c ≡ x = cc in
    let yes : p x ≡ true = all_head (p x) (list_all p f) hf in
    let no : p x ≡ false = ap p (sym x_is) ∙ off in
    let bad : true ≡ false = sym yes ∙ no in absurd (cc)
cut_one p c off (x ∷ f) (y ∷ g) r s e hf hg =
    let head : x ≡ y = cc in
    let tail : f ++ c ∷ r ≡ g ++ c ∷ s = cc in
    let more = cut_one p c off f g r s tail (all_tail (p x) (list_all p f) hf) (all_tail (p y) (list_all p g) hg) in
    let same : f ≡ g = more.0 in
    (cc, more.1)
