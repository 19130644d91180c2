-- How a word stands in a text: it holds no space, so the first space ends it.
use Rattle.std.proofs.Common.{◌≡◌, ◌≢◌, ◌≤◌, ℕ, zero, suc, true, false, ◌&&◌, nat_le, [], ◌∷◌, ◌++◌, length, get_or}
use Rattle.std.proofs.Common.{refl, sym, ◌∙◌, ap, leb-true}
use Rattle.std.specs.List.{list_all}
use Rattle.std.proofs.lemmas.Bool.{and_parts}
use Rattle.lr_base.specs.Bytes.{Bytes}
use Rattle.lr_words.specs.Word.{is_word, is_word_byte}

-- no byte is a space
-- for example: `bikes`
abbrev pub HasNoSpace : Bytes → Type 0
HasNoSpace text = (k : ℕ) → get_or text k 0 ≢ 32

-- a word's bytes are no spaces
bytes-no_space : (text : Bytes) → list_all is_word_byte text ≡ true → HasNoSpace text
bytes-no_space [] pass k = λ space. cc
bytes-no_space (x ∷ text) pass zero = λ space.
    let byte : is_word_byte x ≡ true = (and_parts (is_word_byte x) (list_all is_word_byte text) pass).0 in
    let none : false ≡ true = ap is_word_byte (sym space) ∙ byte in
    cc
bytes-no_space (x ∷ text) pass (suc k) =
    bytes-no_space text (and_parts (is_word_byte x) (list_all is_word_byte text) pass).1 k

-- the parts of the test of a word
pub is_word-parts : (text : Bytes) → is_word text ≡ true → (1 ≤ length text) × (length text ≤ 16)
    × (list_all is_word_byte text ≡ true)
is_word-parts text word =
    let parts = and_parts (nat_le 1 (length text) && nat_le (length text) 16) (list_all is_word_byte text) word in
    let bounds = and_parts (nat_le 1 (length text)) (nat_le (length text) 16) parts.0 in
    (leb-true 1 (length text) bounds.0, leb-true (length text) 16 bounds.1, parts.1)

-- a word holds no space
pub word-no_space : (word : Bytes) → is_word word ≡ true → HasNoSpace word
word-no_space word is = bytes-no_space word (is_word-parts word is).2

-- a space behind a front is a byte of the text
pub space-behind : (front rest : Bytes) → get_or (front ++ 32 ∷ rest) (length front) 0 ≡ 32
space-behind [] rest = refl
space-behind (x ∷ front) rest = rw (space-behind front rest) refl

-- a text has one front before its first space
pub same-front : (a b x y : Bytes) → HasNoSpace a → HasNoSpace b → a ++ 32 ∷ x ≡ b ++ 32 ∷ y → (a ≡ b) × (x ≡ y)
same-front [] [] x y first second same = (refl, cc)
same-front [] (d ∷ b) x y first second same = absurd (second 0 cc)
same-front (c ∷ a) [] x y first second same = absurd (first 0 cc)
same-front (c ∷ a) (d ∷ b) x y first second same =
    let heads : c ≡ d = cc in
    let tails : a ++ 32 ∷ x ≡ b ++ 32 ∷ y = cc in
    let rest = same-front a b x y (λ k. first (suc k)) (λ k. second (suc k)) tails in
    (cc, rest.1)
