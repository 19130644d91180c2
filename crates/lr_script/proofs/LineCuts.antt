-- The first line of bytes is one, and so is why they begin with none.
use Rattle.std.proofs.Common.{◌≡◌, ℕ, ◌+◌, ◌-◌, Bool, true, false, not, ◌&&◌, ◌||◌, eqb, leb, List, [], ◌∷◌, ◌++◌, length, get_or, take, drop, Some, None, refl, sym, ◌∙◌, ap, arith}
use Rattle.std.specs.List.{list_all, list_any, position}
use Rattle.std.proofs.lemmas.Bool.Decides.{nat_tests}
use Rattle.std.proofs.lemmas.List.Quantifiers.{position-Some}
use Rattle.std.proofs.lemmas.List.Folds.{list_any-append}
use Rattle.lr_base.specs.Meaning.{is_printable}
use Rattle.lr_script.specs.declared.refusals.Cause.{Cause}
use Rattle.lr_script.specs.declared.refusals.Cause.TheVariants.{Unended, Byte}
use Rattle.lr_script.specs.Faults.{HasBadByte, IsNoLine}
use Rattle.lr_script.specs.CutLaws.{all_head, all_tail, cut_one}
use Rattle.lr_script.proofs.Printables.{feedless}
use Rattle.lr_script.proofs.Splits.{around, before_first, none_before}

-- the first elements that fail a test are one
cut_same : (p : ℕ → Bool) (c d : ℕ) → p c ≡ false → p d ≡ false → (f g r s : List ℕ) → f ++ c ∷ r ≡ g ++ d ∷ s → list_all p f ≡ true → list_all p g ≡ true → c ≡ d
cut_same p c d hc hd [] [] r s e hf hg = cc
cut_same p c d hc hd [] (y ∷ g) r s e hf hg =
    let y_is : c ≡ y = cc in
    let yes : p y ≡ true = all_head (p y) (list_all p g) hg in
    let off : p y ≡ false = ap p (sym y_is) ∙ hc in
    let bad : true ≡ false = sym yes ∙ off in absurd (cc)
cut_same p c d hc hd (x ∷ f) [] r s e hf hg =
    let x_is : d ≡ x = cc in
    let yes : p x ≡ true = all_head (p x) (list_all p f) hf in
    let off : p x ≡ false = ap p (sym x_is) ∙ hd in
    let bad : true ≡ false = sym yes ∙ off in absurd (cc)
cut_same p c d hc hd (x ∷ f) (y ∷ g) r s e hf hg =
    let tail : f ++ c ∷ r ≡ g ++ d ∷ s = cc in
    cut_same p c d hc hd f g r s tail (all_tail (p x) (list_all p f) hf) (all_tail (p y) (list_all p g) hg)

-- a line of printable bytes is the first in one way
pub printable_cut : (f g r s : List ℕ) → f ++ 10 ∷ r ≡ g ++ 10 ∷ s → is_printable f ≡ true → is_printable g ≡ true → (f ≡ g) × (r ≡ s)
printable_cut f g r s e hf hg = cut_one (λ byte. leb 32 byte && leb byte 126) 10 refl f g r s e hf hg

-- tests of which one passes or fails
pub or_true : (a b : Bool) → b ≡ true → (a || b) ≡ true
or_true true b h = refl
or_true false b h = h

and_true : (b : Bool) → (b && true) ≡ false → b ≡ false
and_true true h = h
and_true false h = refl

-- what stands behind other bytes is among them all
pub fed_behind : (front back : List ℕ) → list_any (λ byte. eqb byte 10) back ≡ true → list_any (λ byte. eqb byte 10) (front ++ back) ≡ true
fed_behind front back h = list_any-append (λ byte. eqb byte 10) front back ∙ or_true (list_any (λ byte. eqb byte 10) front) (list_any (λ byte. eqb byte 10) back) h

-- bytes with a line feed are not unended
not_unended : (bytes front back : List ℕ) → bytes ≡ front ++ back → list_any (λ byte. eqb byte 10) back ≡ true → list_any (λ byte. eqb byte 10) bytes ≡ false → ⊥
not_unended bytes front back e there h =
    let bad : false ≡ true = sym h ∙ ap (λ xs. list_any (λ byte. eqb byte 10) xs) e ∙ fed_behind front back there in cc

-- bytes that begin with a printable line are not refused for want of one
pub no_line_refuted : (bytes line later : List ℕ) (cause : Cause) → bytes ≡ line ++ 10 ∷ later → is_printable line ≡ true → IsNoLine bytes cause → ⊥
no_line_refuted bytes line later Unended e printable h = not_unended bytes line (10 ∷ later) e refl h
no_line_refuted bytes line later Byte e printable h =
    let off : (leb 32 h.byte && leb h.byte 126) ≡ false = and_true (leb 32 h.byte && leb h.byte 126) h.bad in
    h.other (cut_same (λ byte. leb 32 byte && leb byte 126) h.byte 10 off refl h.before line h.later later (sym h.text ∙ e) h.printable printable)
no_line_refuted bytes line later _ e printable h = h

-- a line feed behind the first byte that isn't printable is among the bytes
bad_byte_ended : (bytes : List ℕ) → HasBadByte bytes → list_any (λ byte. eqb byte 10) bytes ≡ false → ⊥
bad_byte_ended bytes h unended = not_unended bytes h.before (h.byte ∷ h.later) h.text (or_true (eqb h.byte 10) (list_any (λ byte. eqb byte 10) h.later) h.ended) unended

-- bytes begin with no line for one cause
pub no_line_one : (bytes : List ℕ) (a b : Cause) → IsNoLine bytes a → IsNoLine bytes b → a ≡ b
no_line_one bytes Unended Unended h k = refl
no_line_one bytes Byte Byte h k = refl
no_line_one bytes Unended Byte h k = absurd (bad_byte_ended bytes k h)
no_line_one bytes Byte Unended h k = absurd (bad_byte_ended bytes h k)
no_line_one bytes Unended _ h k = absurd k
no_line_one bytes Byte _ h k = absurd k
no_line_one bytes _ _ h k = absurd h

feed_is : (x : ℕ) → eqb x 10 ≡ true → x ≡ 10
feed_is x h = grind (arith, nat_tests)

-- bytes up to the first line feed are the line that they begin with
pub line_at : (bytes line later : List ℕ) (end : ℕ) → bytes ≡ line ++ 10 ∷ later → is_printable line ≡ true → position (λ byte. eqb byte 10) bytes ≡ Some end → (take end bytes ≡ line) × (take (length bytes - (end + 1)) (drop (end + 1) bytes) ≡ later)
line_at bytes line later end e printable h =
    let found = position-Some (λ byte. eqb byte 10) bytes end 0 h in
    let feed : get_or bytes end 0 ≡ 10 = feed_is _ found.1 in
    let rest = take (length bytes - (end + 1)) (drop (end + 1) bytes) in
    let cut = cut_one (λ byte. not (eqb byte 10)) 10 refl (take end bytes) line rest later
    (sym (around bytes end found.0 ∙ ap (λ b. take end bytes ++ b ∷ rest) feed) ∙ e)
    (before_first (λ byte. eqb byte 10) bytes end h) (feedless line printable) in
    (cut.0, cut.1)

not_cut : (p : ℕ → Bool) (c : ℕ) → p c ≡ false → (f r : List ℕ) → list_all p (f ++ c ∷ r) ≡ true → ⊥
not_cut p c off [] r h = let yes = all_head (p c) (list_all p r) h in let bad : true ≡ false = sym yes ∙ off in cc
not_cut p c off (x ∷ f) r h = not_cut p c off f r (all_tail (p x) (list_all p (f ++ c ∷ r)) h)

-- bytes that begin with a line hold a line feed
pub line_ends : (bytes line later : List ℕ) → bytes ≡ line ++ 10 ∷ later → position (λ byte. eqb byte 10) bytes ≡ None → ⊥
line_ends bytes line later e h =
    not_cut (λ byte. not (eqb byte 10)) 10 refl line later (ap (λ (xs : List ℕ). list_all (λ byte. not (eqb byte 10)) xs) (sym e) ∙ none_before (λ byte. eqb byte 10) bytes h)
