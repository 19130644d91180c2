-- Where a field ends: digits end at the first other byte, and a line at the first line feed.
use Rattle.std.proofs.Common.{◌≡◌, ◌≢◌, ℕ, zero, suc, ◌+◌, ◌%◌, ◌/◌, ◌<◌, Bool, true, false, not, cond, ◌&&◌, ◌==◌, eqb, leb, ltb, List, [], ◌∷◌, ◌++◌, length, get_or, refl, sym, ◌∙◌, ap, arith}
use Rattle.std.specs.Fmt.{decimal, digits, digits_onto, digit_glyph}
use Rattle.std.specs.List.{list_all}
use Rattle.std.proofs.Math.Nat.{mod-lt}
use Rattle.std.proofs.lemmas.Bool.{lt-ltb}
use Rattle.std.proofs.lemmas.Bool.Decides.{nat_tests}
use Rattle.std.proofs.lemmas.Fmt.{decimal_injective, decimal_nonempty}
use Rattle.std.proofs.lemmas.List.Elements.{All-head, All-tail}
use Rattle.lr_graph.specs.Fitting.{NumberFits, HasNoFeed}
use Rattle.lr_script.specs.CutLaws.{all_head, all_tail}

-- a byte from 0 to 9
abbrev pub is_digit : ℕ → Bool
is_digit byte = leb 48 byte && leb byte 57

-- the text begins with a digit
abbrev pub starts_with_digit : List ℕ → Bool
starts_with_digit [] = false
starts_with_digit (byte ∷ text) = is_digit byte

-- the text begins with a byte above the space, or is over
abbrev pub goes_on : List ℕ → Bool
goes_on [] = true
goes_on (byte ∷ text) = ltb 32 byte

-- digits that end at the next byte are one list
same_digits : (f g r s : List ℕ) → list_all is_digit f ≡ true → list_all is_digit g ≡ true → starts_with_digit r ≡ false → starts_with_digit s ≡ false → f ++ r ≡ g ++ s → (f ≡ g) × (r ≡ s)
same_digits [] [] r s hf hg hr hs same = (refl, same)
same_digits [] (y ∷ g) r s hf hg hr hs same =
    let bad : false ≡ true = sym hr ∙ ap starts_with_digit same ∙ all_head (is_digit y) (list_all is_digit g) hg in
    absurd (cc)
same_digits (x ∷ f) [] r s hf hg hr hs same =
    let bad : true ≡ false = sym (all_head (is_digit x) (list_all is_digit f) hf) ∙ ap starts_with_digit same ∙ hs in
    absurd (cc)
same_digits (x ∷ f) (y ∷ g) r s hf hg hr hs same =
    let heads : x ≡ y = cc in
    let tails : f ++ r ≡ g ++ s = cc in
    let more = same_digits f g r s (all_tail (is_digit x) (list_all is_digit f) hf) (all_tail (is_digit y) (list_all is_digit g) hg) hr hs tails in
    let fronts : f ≡ g = more.0 in
    (cc, more.1)

-- a digit before digits
glyph_is_digit : (n : ℕ) (acc : List ℕ) → list_all is_digit acc ≡ true → list_all is_digit (digit_glyph false (n % 10) ∷ acc) ≡ true
glyph_is_digit n acc rest =
    let below : n % 10 < 10 = mod-lt n (omega arith) in
    let low : ltb (n % 10) 10 ≡ true = lt-ltb (n % 10) 10 below in
    let least : leb 48 (48 + n % 10) ≡ true = grind (arith, nat_tests) in
    let most : leb (48 + n % 10) 57 ≡ true = grind (arith, nat_tests) in
    rw (low, least, most) rest

-- the digits of a number before digits
onto_digits : (k n : ℕ) (acc : List ℕ) → list_all is_digit acc ≡ true → list_all is_digit (digits_onto k 10 false n acc) ≡ true
onto_digits zero n acc rest = rest
onto_digits (suc k) n acc rest =
    either (n / 10 == 0) (digit_glyph false (n % 10) ∷ acc) (digits_onto k 10 false (n / 10) (digit_glyph false (n % 10) ∷ acc))
    (glyph_is_digit n acc rest) (onto_digits k (n / 10) (digit_glyph false (n % 10) ∷ acc) (glyph_is_digit n acc rest))
  where
    either : (b : Bool) (x y : List ℕ) → list_all is_digit x ≡ true → list_all is_digit y ≡ true → list_all is_digit (cond b x y) ≡ true
    either true x y first second = first
    either false x y first second = second

-- a number's text is of digits
pub decimal_digits : (n : ℕ) → list_all is_digit (decimal n) ≡ true
unfolding digits
decimal_digits n = onto_digits 64 n [] refl

-- a number's text ends at the next byte that is no digit
pub number_apart : (a b : ℕ) (x y : List ℕ) → NumberFits a → NumberFits b → starts_with_digit x ≡ false → starts_with_digit y ≡ false → decimal a ++ x ≡ decimal b ++ y → (a ≡ b) × (x ≡ y)
number_apart a b x y fa fb hx hy same =
    let parts = same_digits (decimal a) (decimal b) x y (decimal_digits a) (decimal_digits b) hx hy same in
    (decimal_injective a b fa fb parts.0, parts.1)

-- some digits begin with one
begins : (f r : List ℕ) → 0 < length f → list_all is_digit f ≡ true → starts_with_digit (f ++ r) ≡ true
begins [] r long hf = absurd (omega arith)
begins (x ∷ f) r long hf = all_head (is_digit x) (list_all is_digit f) hf

-- a number's text begins with a digit
pub number_begins : (n : ℕ) (rest : List ℕ) → NumberFits n → starts_with_digit (decimal n ++ rest) ≡ true
number_begins n rest fits = begins (decimal n) rest (decimal_nonempty n fits) (decimal_digits n)

-- bytes other than the line feed
pub feedless : (text : List ℕ) → HasNoFeed text → list_all (λ byte. not (eqb byte 10)) text ≡ true
feedless [] none = refl
feedless (x ∷ text) none =
    let here : x ≢ 10 = All-head (λ byte. byte ≢ 10) x text none in
    let test : eqb x 10 ≡ false = grind (arith, nat_tests) in
    rw test (feedless text (All-tail (λ byte. byte ≢ 10) x text none))

-- texts that differ at one place are not the same
pub unlike : {C : Type 0} (k : ℕ) (a b : List ℕ) → eqb (get_or a k 0) (get_or b k 0) ≡ false → a ≡ b → C
unlike {C} k a b other same =
    let one : eqb (get_or a k 0) (get_or a k 0) ≡ true = grind (arith, nat_tests) in
    let bad : true ≡ false = sym one ∙ ap (λ (text : List ℕ). eqb (get_or a k 0) (get_or text k 0)) same ∙ other in
    absurd (cc)
