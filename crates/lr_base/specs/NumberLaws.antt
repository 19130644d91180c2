-- A number is found of its decimal, and of no other text.
use Rattle.std.proofs.Common.{◌≡◌, ◌≢◌, ◌<◌, ◌^◌, ℕ, Bool, true, false, cond, nat_lt, refl, sym, ◌∙◌, ap}
use Rattle.std.specs.Prelude.{Some, None}
use Rattle.std.specs.Fmt.{decimal}
use Rattle.std.specs.Str.{bytes_eq}
use Rattle.std.specs.Str.Parse.{AllDigits, digits_value}
use Rattle.std.proofs.lemmas.Bool.{and_parts, and_from, lt-ltb, ltb-true}
use Rattle.std.proofs.lemmas.Fmt.{digits_value-decimal}
use Rattle.std.proofs.lemmas.Str.Parse.{IsNumeralModel, numerals_by_value, tells_digits}
use Rattle.lr_base.specs.ByteLaws.{bytes-same, same-bytes}
use Rattle.lr_base.specs.Bytes.{Bytes}
use Rattle.lr_base.specs.Numbers.{is_written, number_of_text}

-- std's own words for digits and their value
own : IsNumeralModel (AllDigits 10) (digits_value 10)
own = numerals_by_value (AllDigits 10) tells_digits

-- a number below 2^64 is found of its decimal
pub number_of_text-forth : (n : ℕ) → n < 2 ^ 64 → number_of_text (decimal n) ≡ Some n
number_of_text-forth n fits =
    let value : digits_value 10 (decimal n) ≡ n = digits_value-decimal own n fits in
    let is : is_written n (decimal n) ≡ true = and_from (nat_lt n (2 ^ 64)) (bytes_eq (decimal n) (decimal n))
    (lt-ltb n (2 ^ 64) fits) (bytes-same (decimal n)) in
    ap (λ m. cond (is_written m (decimal n)) (Some m) None) value ∙ ap (λ b. cond b (Some n) None) is

-- the number that was found of a text is below 2^64, and the text is its decimal
pub number_of_text-back : (text : Bytes) (n : ℕ) → number_of_text text ≡ Some n → (decimal n ≡ text) × (n < 2 ^ 64)
number_of_text-back text n found = go (is_written (digits_value 10 text) text) refl found
  where
    go : (test : Bool) → is_written (digits_value 10 text) text ≡ test
        → cond test (Some (digits_value 10 text)) None ≡ Some n → (decimal n ≡ text) × (n < 2 ^ 64)
    go true is same =
        let parts = and_parts (nat_lt (digits_value 10 text) (2 ^ 64))
        (bytes_eq (decimal (digits_value 10 text)) text) is in
        let value : digits_value 10 text ≡ n = cc in
        let fits : digits_value 10 text < 2 ^ 64 = ltb-true (digits_value 10 text) (2 ^ 64) parts.0 in
        (ap decimal (sym value) ∙ same-bytes (decimal (digits_value 10 text)) text parts.1, rw (← value) fits)
    go false is same = cc

-- where no number is found, the text is no number's
pub number_of_text-none : (text : Bytes) → number_of_text text ≡ None → (n : ℕ) → n < 2 ^ 64 → text ≢ decimal n
number_of_text-none text none n fits is =
    let some : None ≡ Some n = sym none ∙ ap number_of_text is ∙ number_of_text-forth n fits in cc
