-- Claims keep the law of services.
use Rattle.std.proofs.Common.{◌≡◌, ◌<◌, ◌≤◌, ◌^◌, Bool, true, false, cond, ◌∷◌, ◌++◌, length, refl, sym, ap}
use Rattle.std.proofs.Common.{◌∙◌, arith}
use Rattle.std.specs.Prelude.{Option, Some, None, is_some, unwrap_or, codes}
use Rattle.std.specs.FinMap as map
use Rattle.std.proofs.lemmas.Bool.{and_parts}
use Rattle.lr_base.specs.Bytes.{Bytes}
use Rattle.lr_base.specs.Kinds.{IsUpdate, are_ordered}
use Rattle.lr_base.specs.Meaning.{Lawful, is_printable}
use Rattle.lr_words.specs.Formats.{word_format, words_format, words_of, words_text}
use Rattle.lr_base.specs.FormatLaws.{both-exact, one_spelling-in, renamed-exact, spelled-in}
use Rattle.lr_base.specs.Formats.{IsExactFormat, both}
use Rattle.lr_words.specs.Tables.{Table, is_table, table_of}
use Rattle.lr_words.specs.TableLaws.{table-exact, word-exact, words-exact}
use Rattle.lr_words.specs.TableValues.{table-empty, table-get, table-insert, table-remove, table-with_word}
use Rattle.lr_words.specs.TableValues.{with_word-commute, words_of-parts}
use Rattle.lr_words.specs.TextLaws.{append-printable, two-printable, two-short, word-printable}
use Rattle.lr_words.specs.TextLaws.{word-short, words_text-printable}
use Rattle.lr_words.specs.VerbLaws.{IsVerb, one_word-back, one_word-forth, op_in-back, two_words-back, two_words-forth}
use Rattle.lr_words.specs.Verbs.{one_word, op_in, word_and, word_of_text}
use Rattle.lr_words.specs.Word.{is_word}
use Rattle.svc_claims.specs.Claims.{ClaimsValue, claims, claims_apply, claims_encoding, claims_format, claims_is_op}
use Rattle.svc_claims.specs.Claims.{claims_kind, claims_text, claims_verbs, claimed, of_tables, tables_of}
use Rattle.svc_claims.specs.declared.op.ClaimsOp.{ClaimsOp}
use Rattle.svc_claims.specs.declared.op.ClaimsOp.TheVariants.{Note, Claim, Clear, Who}

-- updates that need no order do
commutes : (v : ClaimsValue) (a b : ClaimsOp) → IsUpdate (claims_kind a) → IsUpdate (claims_kind b)
    → are_ordered (claims_kind a) (claims_kind b) ≡ false
    → claims_apply (claims_apply v a) b ≡ claims_apply (claims_apply v b) a
commutes v (Note m a) (Note n b) first second free =
    ap (λ notes. of_tables (v.owners, notes)) (with_word-commute v.notes m n a b)
commutes v (Note m a) (Claim n b) first second free = refl
commutes v (Claim m a) (Note n b) first second free = refl
commutes v (Claim m a) (Claim n b) first second free = let no : true ≡ false = free in cc
commutes v (Clear m) b first second free = let no : true ≡ false = free in cc
commutes v (Note m a) (Clear n) first second free = let no : true ≡ false = free in cc
commutes v (Claim m a) (Clear n) first second free = let no : true ≡ false = free in cc
commutes v (Who m) b first second free = let no : true ≡ false = first in cc
commutes v (Note m a) (Who n) first second free = let no : true ≡ false = second in cc
commutes v (Claim m a) (Who n) first second free = let no : true ≡ false = second in cc

-- an operation's text is read as it
forth-of : (op : ClaimsOp) → claims_is_op op ≡ true → op_in claims_verbs (claims_text op) ≡ Some op
forth-of (Note name word) is = two_words-forth Note name word is
forth-of (Claim name who) is = two_words-forth Claim name who is
forth-of (Clear name) is = one_word-forth Clear name is
forth-of (Who name) is = one_word-forth Who name is

-- what is read behind each verb is written so
note-back : IsVerb claims_text claims_is_op (codes "note") (word_and word_of_text Note)
note-back rest op found =
    let known = two_words-back Note rest op found in (
      ap claims_text known.one ∙ ap (λ text. codes "note " ++ text) (sym known.written),
      ap claims_is_op known.one ∙ known.is,
    )

claim-back : IsVerb claims_text claims_is_op (codes "claim") (word_and word_of_text Claim)
claim-back rest op found =
    let known = two_words-back Claim rest op found in (
      ap claims_text known.one ∙ ap (λ text. codes "claim " ++ text) (sym known.written),
      ap claims_is_op known.one ∙ known.is,
    )

clear-back : IsVerb claims_text claims_is_op (codes "clear") (one_word Clear)
clear-back rest op found =
    let known = one_word-back Clear rest op found in
    (ap claims_text known.0, ap claims_is_op known.0 ∙ known.1)

who-back : IsVerb claims_text claims_is_op (codes "who") (one_word Who)
who-back rest op found =
    let known = one_word-back Who rest op found in
    (ap claims_text known.0, ap claims_is_op known.0 ∙ known.1)

-- no text is empty
some_text-of : (op : ClaimsOp) → 1 ≤ length (claims_text op)
some_text-of (Note name word) = omega arith
some_text-of (Claim name who) = omega arith
some_text-of (Clear name) = omega arith
some_text-of (Who name) = omega arith

-- a text is far below 2^16 bytes
short_text-of : (op : ClaimsOp) → claims_is_op op ≡ true → length (claims_text op) < 2 ^ 16
short_text-of (Note name word) is = omega (arith, two-short name word is)
short_text-of (Claim name who) is = omega (arith, two-short name who is)
short_text-of (Clear name) is = omega (arith, word-short name is)
short_text-of (Who name) is = omega (arith, word-short name is)

-- an operation's text is printable
printable_text-of : (op : ClaimsOp) → claims_is_op op ≡ true → is_printable (claims_text op) ≡ true
printable_text-of (Note name word) is = two-printable name word is
printable_text-of (Claim name who) is = two-printable name who is
printable_text-of (Clear name) is = word-printable name is
printable_text-of (Who name) is = word-printable name is

-- the parts of a value's test
value-parts : (v : ClaimsValue) → claims_encoding.is_value v ≡ true → (is_table word_format v.owners ≡ true)
    × (is_table words_format v.notes ≡ true)
value-parts v is = and_parts (is_table word_format v.owners) (is_table words_format v.notes) is

-- two tables make a value
value-of : (v : ClaimsValue) → is_table word_format v.owners ≡ true → is_table words_format v.notes ≡ true
    → claims_encoding.is_value v ≡ true
value-of v owners notes = rw (owners, notes) refl

-- a claim leaves a table of words
claimed-table : (owners : Table Bytes) (name who : Bytes) → is_table word_format owners ≡ true → is_word name ≡ true
    → is_word who ≡ true → is_table word_format (claimed owners name who) ≡ true
claimed-table owners name who all named is = go (is_some (map.get owners name))
  where
    go : (owned : Bool) → is_table word_format (cond owned owners (map.insert owners name who)) ≡ true
    go true = all
    go false = table-insert word_format owners name who all named is

-- operations leave values
stays-of : (v : ClaimsValue) (op : ClaimsOp) → claims_encoding.is_value v ≡ true → claims_is_op op ≡ true
    → claims_encoding.is_value (claims_apply v op) ≡ true
stays-of v (Note name word) value is =
    let tables = value-parts v value in
    let words = and_parts (is_word name) (is_word word) is in
    value-of (claims_apply v (Note name word)) tables.0 (table-with_word v.notes name word tables.1 words.0 words.1)
stays-of v (Claim name who) value is =
    let tables = value-parts v value in
    let words = and_parts (is_word name) (is_word who) is in
    value-of (claims_apply v (Claim name who)) (claimed-table v.owners name who tables.0 words.0 words.1) tables.1
stays-of v (Clear name) value is =
    let tables = value-parts v value in
    value-of (claims_apply v (Clear name)) (table-remove word_format v.owners name tables.0)
    (table-remove words_format v.notes name tables.1)
stays-of v (Who name) value is = value

-- an owner, or a dash, is printable
owner-printable : (owners : Table Bytes) (name : Bytes) → is_table word_format owners ≡ true
    → is_printable (unwrap_or (map.get owners name) (codes "-")) ≡ true
owner-printable owners name all = go (map.get owners name) refl
  where
    go : (found : Option Bytes) → map.get owners name ≡ found → is_printable (unwrap_or found (codes "-")) ≡ true
    go None is = refl
    go (Some owner) is = word-printable owner (table-get word_format owners name owner all is)

-- each answer is printable
printable_answer-of : (v : ClaimsValue) (op : ClaimsOp) → claims_encoding.is_value v ≡ true
    → is_printable (claims.read v op) ≡ true
printable_answer-of v (Note name word) value = refl
printable_answer-of v (Claim name who) value = refl
printable_answer-of v (Clear name) value = refl
printable_answer-of v (Who name) value =
    let tables = value-parts v value in
    let words = words_of-parts v.notes name tables.1 in
    append-printable (unwrap_or (map.get v.owners name) (codes "-")) (32 ∷ words_text (words_of v.notes name))
    (owner-printable v.owners name tables.0) (words_text-printable (words_of v.notes name) words.0)

-- values are spelled exactly, since tables are
claims-exact : IsExactFormat claims_format
claims-exact = renamed-exact of_tables tables_of (both (table_of word_format) (table_of words_format)) (λ v is. refl)
    (λ tables is. refl) (both-exact (table_of word_format) (table_of words_format) (table-exact word_format word-exact)
    (table-exact words_format words-exact))

-- notes commute with notes and claims, each operation has one short text, and each value one spelling
pub claims_lawful : Lawful claims claims_encoding claims_kind
claims_lawful = record {
  commute = commutes;
  kinds = λ op. refl;
  forth = forth-of;
  back = op_in-back claims_text claims_is_op claims_verbs (note-back, (claim-back, (clear-back, (who-back, tt))));
  some_text = λ op is. some_text-of op;
  short_text = short_text-of;
  printable_text = printable_text-of;
  start_is = value-of claims.start (table-empty word_format) (table-empty words_format);
  stays = stays-of;
  printable_answer = printable_answer-of;
  spelled = spelled-in claims_format claims-exact;
  one_spelling = one_spelling-in claims_format claims-exact;
}
