-- Texts of digits, and the numbers that they write.
use Rattle.std.proofs.Common.{◌≡◌, ◌≢◌, ◌<◌, ◌≤◌, ◌^◌, ◌+◌, ◌*◌, ℕ, zero, suc, List, [], ◌∷◌, length, get_or, take, refl, sym, arith}
use Rattle.std.specs.Prelude.{Option, None, Some, IfSome}
use Rattle.std.specs.Char.{digit_value}
use Rattle.std.specs.Fmt.{decimal}
use Rattle.std.specs.Str.Parse.{AllDigits, digits_value}
use Rattle.std.proofs.lemmas.Str.Parse.{IsNumeralModel, numerals_by_value, tells_digits}
use Rattle.std.proofs.lemmas.Str.Parse.{digits_value-take-le}
use Rattle.std.proofs.lemmas.Int.Digits.{digits_value_more, digits_more}
use Rattle.std.proofs.lemmas.Fmt.{decimal-digits_value, digits_decimal, digits_value-decimal, first_decimal, decimal_nonempty, decimal_digit}

-- std's own words for digits and their value
own : IsNumeralModel (AllDigits 10) (digits_value 10)
own = numerals_by_value (AllDigits 10) tells_digits

-- digits with no leading zero are the text of their value
pub text-digits_value : (text : List ℕ) (n : ℕ) → n < 2 ^ 64 → 0 < length text → get_or text 0 0 ≢ 48 → AllDigits 10 text → digits_value 10 text ≡ n → text ≡ decimal n
text-digits_value text n fits some nonzero digits value =
    let short : digits_value 10 text < 2 ^ 64 = rw value fits in
    let same : decimal (digits_value 10 text) ≡ text = decimal-digits_value own text digits some (λ e. absurd (nonzero e)) short in
    rw (← value) (sym same)

-- what is no number's digits is no number's text
pub none-decimal : (text : List ℕ) (n : ℕ) → n < 2 ^ 64 → (AllDigits 10 text → 2 ^ 64 ≤ digits_value 10 text) → text ≢ decimal n
none-decimal text n fits none same =
    let digits : AllDigits 10 text = rw same (digits_decimal own n fits) in
    let value : digits_value 10 text ≡ n = rw same (digits_value-decimal own n fits) in
    absurd (omega (arith, none digits))

-- a longer text that begins with a zero is no number's text
pub zero-decimal : (text : List ℕ) (n : ℕ) → n < 2 ^ 64 → get_or text 0 0 ≡ 48 → length text ≢ 1 → text ≢ decimal n
zero-decimal text zero fits first long same = absurd (long (rw (same, decimal_digit 0 (omega arith)) refl))
zero-decimal text (suc n) fits first long same =
    let high : 48 < get_or (decimal (suc n)) 0 0 = first_decimal (suc n) (omega arith) fits in
    let low : get_or (decimal (suc n)) 0 0 ≡ 48 = rw (← same) first in
    absurd (omega arith)

-- each digit's value is below ten
digit-at : (text : List ℕ) (i : ℕ) → i < length text → AllDigits 10 text → digit_value (get_or text i 0) < 10
digit-at [] i within digits = absurd (omega arith)
digit-at (c ∷ text) zero within digits = digits.0
digit-at (c ∷ text) (suc i) within digits = digit-at text i (omega arith) digits.1

-- the whole is at least what its front writes
pub front-too-great : (text : List ℕ) (i number : ℕ) → i < length text → digits_value 10 (take i text) ≡ number → (digit_value (get_or text i 0) < 10 → 2 ^ 64 ≤ number * 10 + digit_value (get_or text i 0)) → AllDigits 10 text → 2 ^ 64 ≤ digits_value 10 text
front-too-great text i number within value none digits =
    let great : 2 ^ 64 ≤ number * 10 + digit_value (get_or text i 0) = none (digit-at text i within digits) in
    let front : digits_value 10 (take (i + 1) text) ≡ digits_value 10 (take i text) * 10 + digit_value (get_or text i 0) = digits_value_more 10 text i within in
    let whole : digits_value 10 (take (i + 1) text) ≤ digits_value 10 text = digits_value-take-le 10 text (i + 1) (omega arith) in
    omega (arith, great, front, whole, value)

-- one digit more, and its value
pub digits-and-value-more : (text : List ℕ) (i number more : ℕ) → i < length text → AllDigits 10 (take i text) → digits_value 10 (take i text) ≡ number → digit_value (get_or text i 0) < 10 → more ≡ number * 10 + digit_value (get_or text i 0) → AllDigits 10 (take (i + 1) text) × (digits_value 10 (take (i + 1) text) ≡ more)
digits-and-value-more text i number more within digits value digit is =
    let front : digits_value 10 (take (i + 1) text) ≡ digits_value 10 (take i text) * 10 + digit_value (get_or text i 0) = digits_value_more 10 text i within in
    (digits_more 10 text i within digits digit, omega (arith, front, value, is))

-- a value of digits with no leading zero is the number that is written so
pub found-decimal : (text : List ℕ) (found : Option ℕ) → 0 < length text → get_or text 0 0 ≢ 48 → IfSome found (λ n. AllDigits 10 text) → IfSome found (λ n. digits_value 10 text ≡ n) → IfSome found (λ n. n < 2 ^ 64) → IfSome found (λ n. text ≡ decimal n)
found-decimal text None some nonzero digits value fits = tt
found-decimal text (Some n) some nonzero digits value fits = text-digits_value text n fits some nonzero digits value

-- a lone zero is the text of 0
pub lone-zero : (text : List ℕ) → length text ≡ 1 → get_or text 0 0 ≡ 48 → text ≡ decimal 0
lone-zero [] one first = absurd (omega arith)
lone-zero (x ∷ []) one first = rw first (sym (decimal_digit 0 (omega arith)))
lone-zero (x ∷ (y ∷ text)) one first = absurd (omega arith)

-- a number's text is not empty
pub empty-decimal : (text : List ℕ) (n : ℕ) → n < 2 ^ 64 → length text ≡ 0 → text ≢ decimal n
empty-decimal text n fits empty same =
    let some : 0 < length text = rw same (decimal_nonempty n fits) in
    absurd (omega arith)
