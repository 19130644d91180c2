-- Lines of printable bytes.
use Rattle.std.proofs.Common.{◌≡◌, ◌≢◌, ℕ, ◌<◌, Bool, true, false, not, ◌&&◌, ◌||◌, eqb, leb, List, [], ◌∷◌, ◌++◌, length, get_or, take, Some, None, refl, sym, ◌∙◌, ap, arith}
use Rattle.std.specs.List.{list_all, list_any, position}
use Rattle.std.proofs.lemmas.Bool.Decides.{nat_tests}
use Rattle.std.proofs.lemmas.List.Folds.{list_any-append}
use Rattle.std.proofs.lemmas.List.Quantifiers.{position-Some}
use Rattle.lr_base.specs.Meaning.{is_printable}
use Rattle.lr_script.proofs.Splits.{before_first, none_before}
use Rattle.lr_script.specs.CutLaws.{all_head, all_tail}

not_not : (b : Bool) → not (not b) ≡ b
not_not true = refl
not_not false = refl

all_not_not : (p : ℕ → Bool) (xs : List ℕ) → list_all (λ x. not (not (p x))) xs ≡ list_all p xs
all_not_not p [] = refl
all_not_not p (x ∷ xs) = let here = not_not (p x) in let more = all_not_not p xs in cc

pub printable_before : (bytes : List ℕ) (i : ℕ) → position (λ byte. not (leb 32 byte && leb byte 126)) bytes ≡ Some i → is_printable (take i bytes) ≡ true
printable_before bytes i h = sym (all_not_not (λ byte. leb 32 byte && leb byte 126) (take i bytes)) ∙ before_first (λ byte. not (leb 32 byte && leb byte 126)) bytes i h

pub printable_all : (bytes : List ℕ) → position (λ byte. not (leb 32 byte && leb byte 126)) bytes ≡ None → is_printable bytes ≡ true
printable_all bytes h = sym (all_not_not (λ byte. leb 32 byte && leb byte 126) bytes) ∙ none_before (λ byte. not (leb 32 byte && leb byte 126)) bytes h

no_feed : (byte : ℕ) → (leb 32 byte && leb byte 126) ≡ true → eqb byte 10 ≡ false
no_feed byte h =
    let least : leb 32 byte ≡ true = all_head (leb 32 byte) (leb byte 126) h in
    grind (arith, nat_tests)

unended_step : (b r : Bool) → b ≡ false → r ≡ false → (b || r) ≡ false
unended_step true r hb hr = cc
unended_step false r hb hr = hr

-- no printable byte is a line feed
pub unended : (bytes : List ℕ) → is_printable bytes ≡ true → list_any (λ byte. eqb byte 10) bytes ≡ false
unended [] h = refl
unended (x ∷ bytes) h = unended_step (eqb x 10) (list_any (λ byte. eqb byte 10) bytes) (no_feed x (all_head (leb 32 x && leb x 126) (is_printable bytes) h)) (unended bytes (all_tail (leb 32 x && leb x 126) (is_printable bytes) h))

any_around : (p : ℕ → Bool) (before later : List ℕ) (byte : ℕ) → list_any p before ≡ false → p byte ≡ false → list_any p later ≡ false → list_any p (before ++ byte ∷ later) ≡ false
any_around p before later byte h here there = list_any-append p before (byte ∷ later) ∙ unended_step (list_any p before) (p byte || list_any p later) h (unended_step (p byte) (list_any p later) here there)

other_than : (byte : ℕ) → byte ≢ 10 → eqb byte 10 ≡ false
other_than byte h = grind (arith, nat_tests)

-- where no byte is a line feed around one that isn't either, there is none
pub unended_around : (bytes before later : List ℕ) (byte : ℕ) → bytes ≡ before ++ byte ∷ later → is_printable before ≡ true → byte ≢ 10 → list_any (λ other. eqb other 10) later ≡ false → list_any (λ other. eqb other 10) bytes ≡ false
unended_around bytes before later byte e printable other h = ap (λ xs. list_any (λ it. eqb it 10) xs) e ∙ any_around (λ it. eqb it 10) before later byte (unended before printable) (other_than byte other) h

bad_alone : (b : Bool) → not b ≡ true → (b && true) ≡ false
bad_alone true h = sym h
bad_alone false h = refl

-- the first byte that isn't printable isn't
pub unprintable_there : (bytes : List ℕ) (i : ℕ) → position (λ byte. not (leb 32 byte && leb byte 126)) bytes ≡ Some i → (i < length bytes) × (is_printable (get_or bytes i 0 ∷ []) ≡ false)
unprintable_there bytes i h =
    let found = position-Some (λ byte. not (leb 32 byte && leb byte 126)) bytes i 0 h in
    (found.0, bad_alone _ found.1)

feedless_step : (b r : Bool) → b ≡ false → r ≡ true → (not b && r) ≡ true
feedless_step true r hb hr = cc
feedless_step false r hb hr = hr

-- and so each of them is another byte
pub feedless : (bytes : List ℕ) → is_printable bytes ≡ true → list_all (λ byte. not (eqb byte 10)) bytes ≡ true
feedless [] h = refl
feedless (x ∷ bytes) h = feedless_step (eqb x 10) (list_all (λ byte. not (eqb byte 10)) bytes) (no_feed x (all_head (leb 32 x && leb x 126) (is_printable bytes) h)) (feedless bytes (all_tail (leb 32 x && leb x 126) (is_printable bytes) h))
