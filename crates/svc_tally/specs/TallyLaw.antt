-- The tally keeps the law of services.
use Rattle.std.proofs.Common.{◌≡◌, ◌<◌, ◌≤◌, ◌+◌, ◌%◌, ◌^◌, ℕ, true, false, nat_lt, ◌∷◌, ◌++◌, length, refl}
use Rattle.std.proofs.Common.{sym, ◌∙◌, ap, arith, length-append}
use Rattle.std.specs.Prelude.{Some, codes, unwrap_or}
use Rattle.std.specs.Fmt.{decimal}
use Rattle.std.proofs.Math.Nat.{mod-add-mod, mod-lt}
use Rattle.std.proofs.lemmas.Bool.{and_from, and_parts, ltb-true, lt-ltb}
use Rattle.lr_base.specs.Bytes.{Bytes}
use Rattle.lr_base.specs.Kinds.{IsUpdate}
use Rattle.lr_base.specs.Meaning.{Lawful, is_printable}
use Rattle.lr_words.specs.Changes.{changes-commute}
use Rattle.lr_base.specs.Formats.{number_format}
use Rattle.lr_base.specs.FormatLaws.{number_format-exact, spelled-in, one_spelling-in}
use Rattle.lr_base.specs.NumberLaws.{number_of_text-back, number_of_text-forth}
use Rattle.lr_base.specs.Numbers.{number_of_text}
use Rattle.lr_words.specs.TableLaws.{table-exact}
use Rattle.lr_words.specs.TableValues.{table-empty, table-insert}
use Rattle.lr_words.specs.TextLaws.{append-printable, decimal-printable, decimal-short, word-printable, word-short}
use Rattle.lr_words.specs.Word.{is_word}
use Rattle.lr_words.specs.VerbLaws.{IsVerb, one_word-back, one_word-forth, op_in-back, word_and-back, word_and-forth}
use Rattle.lr_words.specs.Verbs.{one_word, op_in, word_and}
use Rattle.svc_tally.specs.Tally.{Counts, count_of, tally, tally_apply, tally_encoding, tally_format, tally_is_op}
use Rattle.svc_tally.specs.Tally.{tally_kind, tally_text, tally_verbs}
use Rattle.svc_tally.specs.declared.op.TallyOp.{TallyOp}
use Rattle.svc_tally.specs.declared.op.TallyOp.TheVariants.{Add, Read}

-- two additions to one counter, in either order
sums : (n j k : ℕ) → ((n + j) % 2 ^ 64 + k) % 2 ^ 64 ≡ ((n + k) % 2 ^ 64 + j) % 2 ^ 64
sums n j k =
    let swapped : n + j + k ≡ n + k + j = omega arith in
    mod-add-mod (n + j) (2 ^ 64) k ∙ ap (λ m. m % 2 ^ 64) swapped ∙ sym (mod-add-mod (n + k) (2 ^ 64) j)

-- two updates of the tally do
commutes : (v : Counts) (a b : TallyOp) → IsUpdate (tally_kind a) → IsUpdate (tally_kind b)
    → tally_apply (tally_apply v a) b ≡ tally_apply (tally_apply v b) a
commutes v (Add m j) (Add n k) first second =
    changes-commute v m n (λ count. (unwrap_or count 0 + j) % 2 ^ 64) (λ count. (unwrap_or count 0 + k) % 2 ^ 64)
    (λ count. sums (unwrap_or count 0) j k)
commutes v (Read m) b first second = let no : true ≡ false = first in cc
commutes v (Add m j) (Read n) first second = let no : true ≡ false = second in cc

-- an amount that passes the test is below 2^64
amount-fits : (name : Bytes) (amount : ℕ) → tally_is_op (Add name amount) ≡ true
    → (is_word name ≡ true) × (amount < 2 ^ 64)
amount-fits name amount is =
    let parts = and_parts (is_word name) (nat_lt amount (2 ^ 64)) is in
    (parts.0, ltb-true amount (2 ^ 64) parts.1)

-- an operation's text is read as it
forth-of : (op : TallyOp) → tally_is_op op ≡ true → op_in tally_verbs (tally_text op) ≡ Some op
forth-of (Add name amount) is =
    let parts = amount-fits name amount is in
    word_and-forth number_of_text Add name (decimal amount) amount parts.0 (number_of_text-forth amount parts.1)
forth-of (Read name) is = one_word-forth Read name is

-- what is read behind each verb is written so
add-back : IsVerb tally_text tally_is_op (codes "add") (word_and number_of_text Add)
add-back rest op found =
    let known = word_and-back number_of_text Add rest op found in
    let number = number_of_text-back known.rest known.thing known.read in (
      ap tally_text known.one ∙ ap (λ digits. codes "add " ++ (known.word ++ 32 ∷ digits)) number.0
          ∙ ap (λ text. codes "add " ++ text) (sym known.written),
      ap tally_is_op known.one ∙ and_from (is_word known.word) (nat_lt known.thing (2 ^ 64)) known.is
          (lt-ltb known.thing (2 ^ 64) number.1),
    )

read-back : IsVerb tally_text tally_is_op (codes "read") (one_word Read)
read-back rest op found =
    let known = one_word-back Read rest op found in
    (ap tally_text known.0, ap tally_is_op known.0 ∙ known.1)

-- no text is empty
some_text-of : (op : TallyOp) → 1 ≤ length (tally_text op)
some_text-of (Add name amount) = omega arith
some_text-of (Read name) = omega arith

-- a text is far below 2^16 bytes
short_text-of : (op : TallyOp) → tally_is_op op ≡ true → length (tally_text op) < 2 ^ 16
short_text-of (Add name amount) is =
    let parts = amount-fits name amount is in
    let most : length name ≤ 16 = word-short name parts.0 in
    let digits : length (decimal amount) ≤ 20 = decimal-short amount parts.1 in
    omega (arith, length-append name (32 ∷ decimal amount))
short_text-of (Read name) is =
    let most : length name ≤ 16 = word-short name is in
    omega arith

-- an operation's text is printable
printable_text-of : (op : TallyOp) → tally_is_op op ≡ true → is_printable (tally_text op) ≡ true
printable_text-of (Add name amount) is =
    append-printable name (32 ∷ decimal amount) (word-printable name (amount-fits name amount is).0)
    (decimal-printable amount)
printable_text-of (Read name) is = word-printable name is

-- and so is each answer
printable_answer-of : (v : Counts) (op : TallyOp) → is_printable (tally.read v op) ≡ true
printable_answer-of v (Add name amount) = refl
printable_answer-of v (Read name) = decimal-printable (count_of v name)

-- counters stay below 2^64
stays-of : (v : Counts) (op : TallyOp) → tally_format.is_value v ≡ true → tally_is_op op ≡ true
    → tally_format.is_value (tally_apply v op) ≡ true
stays-of v (Add name amount) value is =
    table-insert number_format v name ((count_of v name + amount) % 2 ^ 64) value (amount-fits name amount is).0
    (lt-ltb _ (2 ^ 64) (mod-lt (count_of v name + amount) (omega arith)))
stays-of v (Read name) value is = value

-- additions commute, each operation has one short text, and counters one spelling
pub tally_lawful : Lawful tally tally_encoding tally_kind
tally_lawful = record {
  commute = λ v a b first second free. commutes v a b first second;
  kinds = λ op. refl;
  forth = forth-of;
  back = op_in-back tally_text tally_is_op tally_verbs (add-back, (read-back, tt));
  some_text = λ op is. some_text-of op;
  short_text = short_text-of;
  printable_text = printable_text-of;
  start_is = table-empty number_format;
  stays = stays-of;
  printable_answer = λ v op value. printable_answer-of v op;
  spelled = spelled-in tally_format (table-exact number_format number_format-exact);
  one_spelling = one_spelling-in tally_format (table-exact number_format number_format-exact);
}
