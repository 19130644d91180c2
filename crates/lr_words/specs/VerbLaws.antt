-- What is read of a text is written as it.
use Rattle.std.proofs.Common.{◌≡◌, ◌==◌, suc, ◌&&◌, Bool, true, false, cond, [], ◌∷◌, ◌++◌, refl, sym, ◌∙◌, ap}
use Rattle.std.specs.Prelude.{Option, Some, None}
use Rattle.std.specs.Option.{option_and_then, option_map}
use Rattle.std.specs.Str.{bytes_eq}
use Rattle.std.proofs.lemmas.Bool.{and_from, and_parts, eqb-true, ne_eqb}
use Rattle.lr_base.specs.Bytes.{Bytes}
use Rattle.lr_base.specs.ByteLaws.{same-bytes}
use Rattle.lr_words.specs.Verbs.{Verbs, one_word, op_in, op_under, split_at_space, word_and, word_of_text}
use Rattle.lr_words.specs.Word.{is_word}
use Rattle.lr_words.specs.WordTexts.{HasNoSpace, word-no_space}

-- a front that holds no space is split off at the space behind it
split-forth : (front rest : Bytes) → HasNoSpace front → split_at_space (front ++ 32 ∷ rest) ≡ Some (front, rest)
split-forth [] rest none = refl
split-forth (byte ∷ front) rest none =
    ap (λ b. cond b (Some ([], front ++ 32 ∷ rest))
    (option_map (λ parts. (byte ∷ parts.0, parts.1)) (split_at_space (front ++ 32 ∷ rest)))) (ne_eqb byte 32 (none 0))
    ∙ ap (option_map (λ parts. (byte ∷ parts.0, parts.1))) (split-forth front rest (λ k. none (suc k)))

-- a text is its two parts with a space between them
split-back : (text : Bytes) (parts : Bytes × Bytes) → split_at_space text ≡ Some parts → text ≡ parts.0 ++ 32 ∷ parts.1
split-back [] parts is = cc
split-back (byte ∷ text) parts is = go (byte == 32) refl (split_at_space text) (split-back text) is
  where
    go : (space : Bool) → (byte == 32) ≡ space → (rest : Option (Bytes × Bytes))
        → ((parts : Bytes × Bytes) → rest ≡ Some parts → text ≡ parts.0 ++ 32 ∷ parts.1)
        → cond space (Some ([], text)) (option_map (λ parts. (byte ∷ parts.0, parts.1)) rest) ≡ Some parts
        → byte ∷ text ≡ parts.0 ++ 32 ∷ parts.1
    go true e rest below same =
        let first : byte ≡ 32 = eqb-true byte 32 e in
        let both : ([], text) ≡ parts = cc in
        ap (λ b. b ∷ text) first ∙ ap (λ (p : Bytes × Bytes). p.0 ++ 32 ∷ p.1) both
    go false e None below same = cc
    go false e (Some more) below same =
        let both : (byte ∷ more.0, more.1) ≡ parts = cc in
        ap (λ t. byte ∷ t) (below more refl) ∙ ap (λ (p : Bytes × Bytes). p.0 ++ 32 ∷ p.1) both

-- a word is read as itself
pub word-forth : (word : Bytes) → is_word word ≡ true → word_of_text word ≡ Some word
word-forth word is = ap (λ b. cond b (Some word) None) is

pub word-back : (text word : Bytes) → word_of_text text ≡ Some word → (word ≡ text) × (is_word word ≡ true)
word-back text word found = go (is_word text) refl found
  where
    go : (test : Bool) → is_word text ≡ test → cond test (Some text) None ≡ Some word
        → (word ≡ text) × (is_word word ≡ true)
    go true is same = let here : text ≡ word = cc in (sym here, ap is_word (sym here) ∙ is)
    go false is same = cc

-- what a verb's operation of one word is
pub one_word-forth : {Op : Type 0} (op : Bytes → Op) (word : Bytes) → is_word word ≡ true
    → one_word op word ≡ Some (op word)
one_word-forth op word is = ap (option_map op) (word-forth word is)

pub one_word-back : {Op : Type 0} (op : Bytes → Op) (text : Bytes) (found : Op) → one_word op text ≡ Some found
    → (found ≡ op text) × (is_word text ≡ true)
one_word-back op text found is = go (word_of_text text) refl is
  where
    go : (word : Option Bytes) → word_of_text text ≡ word → option_map op word ≡ Some found
        → (found ≡ op text) × (is_word text ≡ true)
    go None none same = cc
    go (Some word) some same =
        let known = word-back text word some in
        let one : op word ≡ found = cc in
        (sym one ∙ ap op known.0, ap is_word (sym known.0) ∙ known.1)

-- a text is this word and, behind a space, what this thing was read of
pub record IsWordAnd {A Op : Type 0} (more : Bytes → Option A) (op : Bytes → A → Op) (text : Bytes) (found : Op)
    : Type 0 where
  pub word : Bytes
  pub rest : Bytes
  pub thing : A
  pub written : text ≡ word ++ 32 ∷ rest
  pub is : is_word word ≡ true
  pub read : more rest ≡ Some thing
  pub one : found ≡ op word thing

module _ {A Op : Type 0} (more : Bytes → Option A) (op : Bytes → A → Op) where
  -- what a verb's operation of a word and one thing more is
  pub word_and-forth : (word rest : Bytes) (thing : A) → is_word word ≡ true → more rest ≡ Some thing
      → word_and more op (word ++ 32 ∷ rest) ≡ Some (op word thing)
  word_and-forth word rest thing is read =
      ap (option_and_then (λ parts. option_and_then (λ w. option_map (op w) (more parts.1)) (word_of_text parts.0)))
      (split-forth word rest (word-no_space word is))
      ∙ ap (option_and_then (λ w. option_map (op w) (more rest))) (word-forth word is)
      ∙ ap (option_map (op word)) read

  pub word_and-back : (text : Bytes) (found : Op) → word_and more op text ≡ Some found → IsWordAnd more op text found
  word_and-back text found is = split (split_at_space text) refl is
    where
      last : (parts : Bytes × Bytes) → split_at_space text ≡ Some parts → (word : Bytes) → (word ≡ parts.0)
          × (is_word word ≡ true) → (thing : Option A) → more parts.1 ≡ thing → option_map (op word) thing ≡ Some found
          → IsWordAnd more op text found
      last parts cut word known None none same = cc
      last parts cut word known (Some thing) some same = record {
        word = word;
        rest = parts.1;
        thing = thing;
        written = split-back text parts cut ∙ ap (λ w. w ++ 32 ∷ parts.1) (sym known.0);
        is = known.1;
        read = some;
        one = let one : op word thing ≡ found = cc in sym one;
      }

      front : (parts : Bytes × Bytes) → split_at_space text ≡ Some parts → (word : Option Bytes)
          → word_of_text parts.0 ≡ word → option_and_then (λ w. option_map (op w) (more parts.1)) word ≡ Some found
          → IsWordAnd more op text found
      front parts cut None none same = cc
      front parts cut (Some word) some same =
          last parts cut word (word-back parts.0 word some) (more parts.1) refl same

      split : (parts : Option (Bytes × Bytes)) → split_at_space text ≡ parts → option_and_then (λ parts.
          option_and_then (λ w. option_map (op w) (more parts.1)) (word_of_text parts.0)) parts ≡ Some found
          → IsWordAnd more op text found
      split None none same = cc
      split (Some parts) cut same = front parts cut (word_of_text parts.0) refl same

-- a text is two words with a space between them
pub record AreTwoWords {Op : Type 0} (op : Bytes → Bytes → Op) (text : Bytes) (found : Op) : Type 0 where
  pub first : Bytes
  pub second : Bytes
  pub written : text ≡ first ++ 32 ∷ second
  pub is : (is_word first && is_word second) ≡ true
  pub one : found ≡ op first second

module _ {Op : Type 0} (op : Bytes → Bytes → Op) where
  -- what a verb's operation of two words is
  pub two_words-forth : (first second : Bytes) → (is_word first && is_word second) ≡ true
      → word_and word_of_text op (first ++ 32 ∷ second) ≡ Some (op first second)
  two_words-forth first second is =
      let parts = and_parts (is_word first) (is_word second) is in
      word_and-forth word_of_text op first second second parts.0 (word-forth second parts.1)

  pub two_words-back : (text : Bytes) (found : Op) → word_and word_of_text op text ≡ Some found
      → AreTwoWords op text found
  two_words-back text found is =
      let known = word_and-back word_of_text op text found is in
      let second = word-back known.rest known.thing known.read in
      record {
        first = known.word;
        second = known.thing;
        written = known.written ∙ ap (λ w. known.word ++ 32 ∷ w) (sym second.0);
        is = and_from (is_word known.word) (is_word known.thing) known.is second.1;
        one = known.one;
      }

module _ {Op : Type 0} (text_of : Op → Bytes) (is_op : Op → Bool) where
  -- what is read behind this verb is a real operation that is written so
  abbrev pub IsVerb : Bytes → (Bytes → Option Op) → Type 0
  IsVerb verb read = (rest : Bytes) (op : Op) → read rest ≡ Some op → (text_of op ≡ verb ++ 32 ∷ rest)
      × (is_op op ≡ true)

  -- and so for each of these verbs
  abbrev pub AreVerbs : Verbs Op → Type 0
  AreVerbs [] = Unit {0}
  AreVerbs (first ∷ verbs) = IsVerb first.0 first.1 × AreVerbs verbs

  under-back : (verbs : Verbs Op) → AreVerbs verbs → (verb rest : Bytes) (op : Op)
      → op_under verbs verb rest ≡ Some op → (text_of op ≡ verb ++ 32 ∷ rest) × (is_op op ≡ true)
  under-back [] all verb rest op is = cc
  under-back (first ∷ verbs) all verb rest op is =
      go (under-back verbs all.1 verb rest op) (bytes_eq first.0 verb) refl is
    where
      go : (op_under verbs verb rest ≡ Some op → (text_of op ≡ verb ++ 32 ∷ rest) × (is_op op ≡ true))
          → (same : Bool) → bytes_eq first.0 verb ≡ same
          → cond same (first.1 rest) (op_under verbs verb rest) ≡ Some op
          → (text_of op ≡ verb ++ 32 ∷ rest) × (is_op op ≡ true)
      go others true same found =
          let known = all.0 rest op found in
          (known.0 ∙ ap (λ v. v ++ 32 ∷ rest) (same-bytes first.0 verb same), known.1)
      go others false same found = others found

  -- the operation that was found of a text is a real one that is written so
  pub op_in-back : (verbs : Verbs Op) → AreVerbs verbs → (text : Bytes) (op : Op) → op_in verbs text ≡ Some op
      → (text_of op ≡ text) × (is_op op ≡ true)
  op_in-back verbs all text op is = go (split_at_space text) refl is
    where
      go : (parts : Option (Bytes × Bytes)) → split_at_space text ≡ parts
          → option_and_then (λ p. op_under verbs p.0 p.1) parts ≡ Some op → (text_of op ≡ text) × (is_op op ≡ true)
      go None none same = cc
      go (Some parts) cut same =
          let known = under-back verbs all parts.0 parts.1 op same in
          (known.0 ∙ sym (split-back text parts cut), known.1)
