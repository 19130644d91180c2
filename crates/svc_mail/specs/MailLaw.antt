-- Mail keeps the law of services.
use Rattle.std.proofs.Common.{◌≡◌, ◌<◌, ◌≤◌, ◌+◌, ◌^◌, ℕ, true, false, ◌&&◌, nat_lt, ◌∷◌, ◌++◌, length, refl, sym, ap}
use Rattle.std.proofs.Common.{◌∙◌, arith}
use Rattle.std.specs.Prelude.{Option, Some, None, codes}
use Rattle.std.specs.FinMap as map
use Rattle.std.proofs.Math.Nat.{mod-lt}
use Rattle.std.proofs.lemmas.Bool.{and_parts, lt-ltb}
use Rattle.lr_base.specs.Bytes.{Bytes}
use Rattle.lr_base.specs.Kinds.{IsUpdate, are_ordered}
use Rattle.lr_base.specs.Meaning.{Lawful, is_printable}
use Rattle.lr_words.specs.Formats.{words_format, words_of, words_text, with_word}
use Rattle.lr_base.specs.FormatLaws.{both-exact, number_format-exact, one_spelling-in, renamed-exact, spelled-in}
use Rattle.lr_base.specs.Formats.{IsExactFormat, both, number_format}
use Rattle.lr_words.specs.TableLaws.{table-exact, words-exact}
use Rattle.lr_words.specs.Tables.{is_table, table_of}
use Rattle.lr_words.specs.TableValues.{table-empty, table-insert, table-remove, table-with_word, with_word-commute}
use Rattle.lr_words.specs.TableValues.{words_of-parts}
use Rattle.lr_words.specs.TextLaws.{append-printable, decimal-printable, two-printable, two-short}
use Rattle.lr_words.specs.TextLaws.{word-printable, word-short, words_text-printable}
use Rattle.lr_words.specs.VerbLaws.{IsVerb, one_word-back, one_word-forth, op_in-back, two_words-back, two_words-forth}
use Rattle.lr_words.specs.Verbs.{one_word, op_in, word_and, word_of_text}
use Rattle.lr_words.specs.Word.{is_word}
use Rattle.svc_mail.specs.Mail.{MailValue, mail, mail_apply, mail_encoding, mail_format, mail_is_op, mail_kind}
use Rattle.svc_mail.specs.Mail.{mail_text, mail_verbs, next_number, number_text, of_parts, parts_of, with_user}
use Rattle.svc_mail.specs.declared.op.MailOp.{MailOp}
use Rattle.svc_mail.specs.declared.op.MailOp.TheVariants.{Send, Add, Delete, Read}

-- a user may get its number before or after a word is sent
user-sent : (v : MailValue) (user name word : Bytes) (found : Option ℕ)
    → with_user (record { last = v.last; users = v.users; boxes = with_word v.boxes name word }) user found
    ≡ mail_apply (with_user v user found) (Send name word)
user-sent v user name word None = refl
user-sent v user name word (Some number) = refl

-- updates that need no order commute
commutes : (v : MailValue) (a b : MailOp) → IsUpdate (mail_kind a) → IsUpdate (mail_kind b)
    → are_ordered (mail_kind a) (mail_kind b) ≡ false → mail_apply (mail_apply v a) b ≡ mail_apply (mail_apply v b) a
commutes v (Send m a) (Send n b) first second free =
    ap (λ boxes. of_parts (v.last, (v.users, boxes))) (with_word-commute v.boxes m n a b)
commutes v (Send m a) (Add n) first second free = user-sent v n m a (map.get v.users n)
commutes v (Add m) (Send n b) first second free = sym (user-sent v m n b (map.get v.users m))
commutes v (Add m) (Add n) first second free = let no : true ≡ false = free in cc
commutes v (Delete m) b first second free = let no : true ≡ false = free in cc
commutes v (Send m a) (Delete n) first second free = let no : true ≡ false = free in cc
commutes v (Add m) (Delete n) first second free = let no : true ≡ false = free in cc
commutes v (Read m) b first second free = let no : true ≡ false = first in cc
commutes v (Send m a) (Read n) first second free = let no : true ≡ false = second in cc
commutes v (Add m) (Read n) first second free = let no : true ≡ false = second in cc

-- an operation's text is read as it
forth-of : (op : MailOp) → mail_is_op op ≡ true → op_in mail_verbs (mail_text op) ≡ Some op
forth-of (Send user word) is = two_words-forth Send user word is
forth-of (Add user) is = one_word-forth Add user is
forth-of (Delete user) is = one_word-forth Delete user is
forth-of (Read user) is = one_word-forth Read user is

-- what is read behind each verb is written so
send-back : IsVerb mail_text mail_is_op (codes "send") (word_and word_of_text Send)
send-back rest op found =
    let known = two_words-back Send rest op found in (
      ap mail_text known.one ∙ ap (λ text. codes "send " ++ text) (sym known.written),
      ap mail_is_op known.one ∙ known.is,
    )

add-back : IsVerb mail_text mail_is_op (codes "add") (one_word Add)
add-back rest op found =
    let known = one_word-back Add rest op found in
    (ap mail_text known.0, ap mail_is_op known.0 ∙ known.1)

delete-back : IsVerb mail_text mail_is_op (codes "delete") (one_word Delete)
delete-back rest op found =
    let known = one_word-back Delete rest op found in
    (ap mail_text known.0, ap mail_is_op known.0 ∙ known.1)

read-back : IsVerb mail_text mail_is_op (codes "read") (one_word Read)
read-back rest op found =
    let known = one_word-back Read rest op found in
    (ap mail_text known.0, ap mail_is_op known.0 ∙ known.1)

-- no text is empty
some_text-of : (op : MailOp) → 1 ≤ length (mail_text op)
some_text-of (Send user word) = omega arith
some_text-of (Add user) = omega arith
some_text-of (Delete user) = omega arith
some_text-of (Read user) = omega arith

-- a text is far below 2^16 bytes
short_text-of : (op : MailOp) → mail_is_op op ≡ true → length (mail_text op) < 2 ^ 16
short_text-of (Send user word) is = omega (arith, two-short user word is)
short_text-of (Add user) is = omega (arith, word-short user is)
short_text-of (Delete user) is = omega (arith, word-short user is)
short_text-of (Read user) is = omega (arith, word-short user is)

-- an operation's text is printable
printable_text-of : (op : MailOp) → mail_is_op op ≡ true → is_printable (mail_text op) ≡ true
printable_text-of (Send user word) is = two-printable user word is
printable_text-of (Add user) is = word-printable user is
printable_text-of (Delete user) is = word-printable user is
printable_text-of (Read user) is = word-printable user is

-- what holds of the parts of a value
record AreParts (v : MailValue) : Type 0 where
  last : nat_lt v.last (2 ^ 64) ≡ true
  users : is_table number_format v.users ≡ true
  boxes : is_table words_format v.boxes ≡ true

value-parts : (v : MailValue) → mail_format.is_value v ≡ true → AreParts v
value-parts v is =
    let outer = and_parts (nat_lt v.last (2 ^ 64)) (is_table number_format v.users && is_table words_format v.boxes)
    is in
    let inner = and_parts (is_table number_format v.users) (is_table words_format v.boxes) outer.1 in
    record { last = outer.0; users = inner.0; boxes = inner.1 }

-- such parts make a value
value-of : (v : MailValue) → AreParts v → mail_format.is_value v ≡ true
value-of v parts = rw (parts.last, parts.users, parts.boxes) refl

-- numbers stay below 2^64
next-below : (v : MailValue) → nat_lt (next_number v) (2 ^ 64) ≡ true
next-below v = lt-ltb (next_number v) (2 ^ 64) (mod-lt (v.last + 1) (omega arith))

-- a value with a user more is one
user-stays : (v : MailValue) (user : Bytes) (found : Option ℕ) → mail_format.is_value v ≡ true → is_word user ≡ true
    → mail_format.is_value (with_user v user found) ≡ true
user-stays v user (Some number) value is = value
user-stays v user None value is =
    let parts = value-parts v value in
    value-of (with_user v user None) (record {
      last = next-below v;
      users = table-insert number_format v.users user (next_number v) parts.users is (next-below v);
      boxes = parts.boxes;
    })

-- operations leave values
stays-of : (v : MailValue) (op : MailOp) → mail_format.is_value v ≡ true → mail_is_op op ≡ true
    → mail_format.is_value (mail_apply v op) ≡ true
stays-of v (Send user word) value is =
    let parts = value-parts v value in
    let words = and_parts (is_word user) (is_word word) is in
    value-of (mail_apply v (Send user word))
    (record {
      last = parts.last;
      users = parts.users;
      boxes = table-with_word v.boxes user word parts.boxes words.0 words.1;
    })
stays-of v (Add user) value is = user-stays v user (map.get v.users user) value is
stays-of v (Delete user) value is =
    let parts = value-parts v value in
    value-of (mail_apply v (Delete user))
    (record {
      last = parts.last;
      users = table-remove number_format v.users user parts.users;
      boxes = table-remove words_format v.boxes user parts.boxes;
    })
stays-of v (Read user) value is = value

-- a user's number, or a dash, is printable
pub number-printable : (found : Option ℕ) → is_printable (number_text found) ≡ true
number-printable None = refl
number-printable (Some number) = decimal-printable number

-- each answer is printable
printable_answer-of : (v : MailValue) (op : MailOp) → mail_format.is_value v ≡ true
    → is_printable (mail.read v op) ≡ true
printable_answer-of v (Send user word) value = refl
printable_answer-of v (Add user) value = refl
printable_answer-of v (Delete user) value = refl
printable_answer-of v (Read user) value =
    let words = words_of-parts v.boxes user (value-parts v value).boxes in
    append-printable (number_text (map.get v.users user)) (32 ∷ words_text (words_of v.boxes user))
    (number-printable (map.get v.users user)) (words_text-printable (words_of v.boxes user) words.0)

-- values are spelled exactly, since their parts are
mail-exact : IsExactFormat mail_format
mail-exact =
    renamed-exact of_parts parts_of (both number_format (both (table_of number_format) (table_of words_format)))
    (λ v is. refl) (λ parts is. refl)
    (both-exact number_format (both (table_of number_format) (table_of words_format)) number_format-exact
    (both-exact (table_of number_format) (table_of words_format) (table-exact number_format number_format-exact)
    (table-exact words_format words-exact)))

-- what is sent commutes with what is sent and with new users, each operation has one short text, and each value one
-- spelling
pub mail_lawful : Lawful mail mail_encoding mail_kind
mail_lawful = record {
  commute = commutes;
  kinds = λ op. refl;
  forth = forth-of;
  back = op_in-back mail_text mail_is_op mail_verbs (send-back, (add-back, (delete-back, (read-back, tt))));
  some_text = λ op is. some_text-of op;
  short_text = short_text-of;
  printable_text = printable_text-of;
  start_is = value-of mail.start (record {
    last = refl;
    users = table-empty number_format;
    boxes = table-empty words_format;
  });
  stays = stays-of;
  printable_answer = printable_answer-of;
  spelled = spelled-in mail_format mail-exact;
  one_spelling = one_spelling-in mail_format mail-exact;
}
