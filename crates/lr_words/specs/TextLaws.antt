-- What operations' texts and answers are made of is printable and short.
use Rattle.std.proofs.Common.{◌≡◌, ◌<◌, ◌≤◌, ◌+◌, ◌/◌, ◌%◌, ◌^◌, ◌==◌, ℕ, zero, suc, Bool, true, false, ◌&&◌}
use Rattle.std.proofs.Common.{nat_le, nat_lt, cond, List, [], ◌∷◌, ◌++◌, length, length-append, refl}
use Rattle.std.proofs.Common.{◌∙◌, arith, le-leb, leb-true}
use Rattle.std.specs.Prelude.{flat_map, OnOk, Result, Ok, Err}
use Rattle.std.specs.Fmt.{decimal, digits, digits_onto, digit_glyph}
use Rattle.std.specs.List.{list_all}
use Rattle.std.proofs.Math.Nat.{mod-lt}
use Rattle.std.proofs.lemmas.Bool.{and_parts, lt-ltb}
use Rattle.std.proofs.lemmas.Fmt.{length-decimal-le}
use Rattle.std.proofs.lemmas.List.Folds.{list_all-append}
use Rattle.lr_base.specs.Bytes.{Bytes}
use Rattle.lr_base.specs.Meaning.{is_printable}
use Rattle.lr_words.specs.Formats.{words_text}
use Rattle.lr_words.specs.Word.{is_word, is_word_byte}
use Rattle.lr_words.specs.WordTexts.{is_word-parts}

-- digits are printable
glyph-printable : (n : ℕ) (acc : Bytes) → is_printable acc ≡ true
    → is_printable (digit_glyph false (n % 10) ∷ acc) ≡ true
glyph-printable n acc rest =
    let below : n % 10 < 10 = mod-lt n (omega arith) in
    let low : nat_lt (n % 10) 10 ≡ true = lt-ltb (n % 10) 10 below in
    let least : nat_le 32 (48 + n % 10) ≡ true = le-leb 32 (48 + n % 10) (omega arith) in
    let most : nat_le (48 + n % 10) 126 ≡ true = le-leb (48 + n % 10) 126 (omega arith) in
    rw (low, least, most) rest

-- digits before a printable text make a printable text
onto-printable : (k n : ℕ) (acc : Bytes) → is_printable acc ≡ true → is_printable (digits_onto k 10 false n acc) ≡ true
onto-printable zero n acc rest = rest
onto-printable (suc k) n acc rest =
    either (n / 10 == 0) (digit_glyph false (n % 10) ∷ acc)
    (digits_onto k 10 false (n / 10) (digit_glyph false (n % 10) ∷ acc))
    (glyph-printable n acc rest) (onto-printable k (n / 10) (digit_glyph false (n % 10) ∷ acc)
    (glyph-printable n acc rest))
  where
    either : (b : Bool) (x y : Bytes) → is_printable x ≡ true → is_printable y ≡ true → is_printable (cond b x y) ≡ true
    either true x y first second = first
    either false x y first second = second

-- a number's text is printable
pub decimal-printable : (n : ℕ) → is_printable (decimal n) ≡ true
unfolding digits
decimal-printable n = onto-printable 64 n [] refl

-- a word's byte is printable
byte-printable : (x : ℕ) → is_word_byte x ≡ true → (nat_le 32 x && nat_le x 126) ≡ true
byte-printable x byte = go (nat_le 97 x && nat_le x 122) refl
  where
    both : 32 ≤ x → x ≤ 126 → (nat_le 32 x && nat_le x 126) ≡ true
    both low high = rw (le-leb 32 x low, le-leb x 126 high) refl

    go : (letter : Bool) → (nat_le 97 x && nat_le x 122) ≡ letter → (nat_le 32 x && nat_le x 126) ≡ true
    go true e =
        let parts = and_parts (nat_le 97 x) (nat_le x 122) e in
        both (omega (arith, leb-true 97 x parts.0)) (omega (arith, leb-true x 122 parts.1))
    go false e =
        let digit : (nat_le 48 x && nat_le x 57) ≡ true = rw e at byte in
        let parts = and_parts (nat_le 48 x) (nat_le x 57) digit in
        both (omega (arith, leb-true 48 x parts.0)) (omega (arith, leb-true x 57 parts.1))

bytes-printable : (text : Bytes) → list_all is_word_byte text ≡ true → is_printable text ≡ true
bytes-printable [] pass = refl
bytes-printable (x ∷ text) pass =
    let parts = and_parts (is_word_byte x) (list_all is_word_byte text) pass in
    rw (byte-printable x parts.0) (bytes-printable text parts.1)

-- two printable texts make one
pub append-printable : (a b : Bytes) → is_printable a ≡ true → is_printable b ≡ true → is_printable (a ++ b) ≡ true
append-printable a b first second = list_all-append _ a b ∙ rw (first, second) refl

-- a word is printable
pub word-printable : (word : Bytes) → is_word word ≡ true → is_printable word ≡ true
word-printable word is = bytes-printable word (is_word-parts word is).2

-- a word has at most 16 bytes
pub word-short : (word : Bytes) → is_word word ≡ true → length word ≤ 16
word-short word is = (is_word-parts word is).1

-- a number's text has at most 20 bytes
pub decimal-short : (n : ℕ) → n < 2 ^ 64 → length (decimal n) ≤ 20
decimal-short n fits = length-decimal-le 20 n (omega arith) (omega (arith, fits)) fits

-- words, each behind a space, are printable
each-printable : (words : List Bytes) → list_all is_word words ≡ true
    → is_printable (flat_map (λ word. 32 ∷ word) words) ≡ true
each-printable [] all = refl
each-printable (word ∷ words) all =
    let parts = and_parts (is_word word) (list_all is_word words) all in
    append-printable (32 ∷ word) (flat_map (λ word. 32 ∷ word) words) (word-printable word parts.0)
    (each-printable words parts.1)

-- words in an answer are printable
pub words_text-printable : (words : List Bytes) → list_all is_word words ≡ true → is_printable (words_text words) ≡ true
words_text-printable words all = append-printable (decimal (length words)) (flat_map (λ word. 32 ∷ word) words)
    (decimal-printable (length words)) (each-printable words all)

-- two words with a space between them are short
pub two-short : (a b : Bytes) → (is_word a && is_word b) ≡ true → length (a ++ 32 ∷ b) ≤ 33
two-short a b is =
    let parts = and_parts (is_word a) (is_word b) is in
    omega (arith, length-append a (32 ∷ b), word-short a parts.0, word-short b parts.1)

-- and printable
pub two-printable : (a b : Bytes) → (is_word a && is_word b) ≡ true → is_printable (a ++ 32 ∷ b) ≡ true
two-printable a b is =
    let parts = and_parts (is_word a) (is_word b) is in
    append-printable a (32 ∷ b) (word-printable a parts.0) (word-printable b parts.1)

-- what was written is printable, where what it is made of was found to be words
pub word-written : {T E : Type 0} (result : Result T E) (word : Bytes) → OnOk result (is_word word ≡ true)
    → OnOk result (is_printable word ≡ true)
word-written (Ok done) word is = word-printable word is
word-written (Err fault) word is = tt

-- and so behind a front and a space
pub words-written : {T E : Type 0} (result : Result T E) (front : Bytes) (words : List Bytes)
    → is_printable front ≡ true → OnOk result (list_all is_word words ≡ true)
    → OnOk result (is_printable (front ++ 32 ∷ words_text words) ≡ true)
words-written (Ok done) front words first all =
    append-printable front (32 ∷ words_text words) first (words_text-printable words all)
words-written (Err fault) front words first all = tt
