-- Words in order: it makes no difference which of two words is inserted first, and they stay in order.
use Rattle.std.proofs.Common.{◌≡◌, Bool, true, false, cond, List, [], ◌∷◌, refl, sym, ◌∙◌, ap}
use Rattle.std.specs.List.{list_all}
use Rattle.std.specs.Ordering.{nat_cmp, is_le, ordering_reverse}
use Rattle.std.specs.declared.cmp.Ordering.{Ordering}
use Rattle.std.specs.declared.cmp.Ordering.TheVariants.{Less, Equal, Greater}
use Rattle.std.specs.Cmp.Lexicographic.{slice_cmp}
use Rattle.std.specs.FinMap.{slice_cmp-IsAntisymmetric, nat_cmp-IsAntisymmetric}
use Rattle.std.proofs.lemmas.Bool.{and_parts}
use Rattle.std.proofs.lemmas.Cmp.{nat_list_cmp_total}
use Rattle.lr_base.specs.Bytes.{Bytes}
use Rattle.lr_base.specs.InsertionLaws.{inserted-commute}
use Rattle.lr_words.specs.Formats.{is_up_to, is_up_to_first, insert_word, are_in_order}
use Rattle.lr_words.specs.Word.{is_word}

-- how two words compare
abbrev compared : Bytes → Bytes → Ordering
compared = slice_cmp nat_cmp

-- what compares turned round
turned : (a b : Bytes) (o : Ordering) → compared b a ≡ o → compared a b ≡ ordering_reverse o
turned a b o is = nat_list_cmp_total.antisymm a b ∙ ap ordering_reverse is

-- of two words one is up to the other
pub up_to-other : (a b : Bytes) → is_up_to a b ≡ false → is_up_to b a ≡ true
up_to-other a b not = go (compared a b) refl
  where
    go : (o : Ordering) → compared a b ≡ o → is_up_to b a ≡ true
    go Less is = let no : true ≡ false = ap is_le (sym is) ∙ not in cc
    go Equal is = let no : true ≡ false = ap is_le (sym is) ∙ not in cc
    go Greater is = ap is_le (turned b a Greater is)

-- words that are up to each other are one
pub up_to-both : (a b : Bytes) → is_up_to a b ≡ true → is_up_to b a ≡ true → a ≡ b
up_to-both a b first second = go (compared a b) refl
  where
    go : (o : Ordering) → compared a b ≡ o → a ≡ b
    go Equal is = slice_cmp-IsAntisymmetric nat_cmp-IsAntisymmetric a b is
    go Less is = let no : false ≡ true = ap is_le (sym (turned b a Less is)) ∙ second in cc
    go Greater is = let no : false ≡ true = ap is_le (sym is) ∙ first in cc

-- a word that is up to one that is up to a third is up to it
pub up_to-trans : (a b c : Bytes) → is_up_to a b ≡ true → is_up_to b c ≡ true → is_up_to a c ≡ true
up_to-trans a b c first second = go (compared a b) (compared b c) refl refl
  where
    go : (o p : Ordering) → compared a b ≡ o → compared b c ≡ p → is_up_to a c ≡ true
    go Equal p is next = ap is_le (nat_list_cmp_total.congr a b c is) ∙ second
    go Greater p is next = let no : false ≡ true = ap is_le (sym is) ∙ first in cc
    go Less Less is next = ap is_le (nat_list_cmp_total.trans a b c is next)
    go Less Equal is next = ap (λ word. is_up_to a word)
        (sym (slice_cmp-IsAntisymmetric nat_cmp-IsAntisymmetric b c next)) ∙ first
    go Less Greater is next = let no : false ≡ true = ap is_le (sym next) ∙ second in cc

-- words that compare alike both ways are one
up_to-one : (a b : Bytes) → is_up_to a b ≡ is_up_to b a → a ≡ b
up_to-one a b alike = go (is_up_to a b) refl
  where
    go : (up : Bool) → is_up_to a b ≡ up → a ≡ b
    go true is = up_to-both a b is (sym alike ∙ is)
    go false is = let no : false ≡ true = sym is ∙ alike ∙ up_to-other a b is in cc

-- which of two words is inserted first makes no difference
pub insert_word-commute : (a b : Bytes) (words : List Bytes)
    → insert_word a (insert_word b words) ≡ insert_word b (insert_word a words)
insert_word-commute a b words = inserted-commute is_up_to up_to-one up_to-trans a b words

-- words with one more inserted are words
pub insert_word-words : (a : Bytes) (words : List Bytes) → is_word a ≡ true → list_all is_word words ≡ true
    → list_all is_word (insert_word a words) ≡ true
insert_word-words a [] is all = rw is refl
insert_word-words a (x ∷ words) is all = go (insert_word-words a words is parts.1) (is_up_to a x)
  where
    parts : (is_word x ≡ true) × (list_all is_word words ≡ true)
    parts = and_parts (is_word x) (list_all is_word words) all

    go : list_all is_word (insert_word a words) ≡ true → (s : Bool)
        → list_all is_word (cond s (a ∷ x ∷ words) (x ∷ insert_word a words)) ≡ true
    go below true = rw (is, parts.0, parts.1) refl
    go below false = rw (parts.0, below) refl

-- a word that is up to the others and to one more stays the first
first-inserted : (x a : Bytes) (words : List Bytes) → is_up_to x a ≡ true → is_up_to_first x words ≡ true
    → is_up_to_first x (insert_word a words) ≡ true
first-inserted x a [] up first = up
first-inserted x a (y ∷ words) up first = go (is_up_to a y)
  where
    go : (s : Bool) → is_up_to_first x (cond s (a ∷ y ∷ words) (y ∷ insert_word a words)) ≡ true
    go true = up
    go false = first

-- words in order stay in order
pub insert_word-in_order : (a : Bytes) (words : List Bytes) → are_in_order words ≡ true
    → are_in_order (insert_word a words) ≡ true
insert_word-in_order a [] ordered = refl
insert_word-in_order a (x ∷ words) ordered = go (insert_word-in_order a words parts.1) (is_up_to a x) refl
  where
    parts : (is_up_to_first x words ≡ true) × (are_in_order words ≡ true)
    parts = and_parts (is_up_to_first x words) (are_in_order words) ordered

    go : are_in_order (insert_word a words) ≡ true → (s : Bool) → is_up_to a x ≡ s
        → are_in_order (cond s (a ∷ x ∷ words) (x ∷ insert_word a words)) ≡ true
    go below true up = rw (up, parts.0, parts.1) refl
    go below false up = rw (first-inserted x a words (up_to-other a x up) parts.0, below) refl
