-- A line has one first field.
use Rattle.std.proofs.Common.{◌≡◌, ◌≢◌, ℕ, ◌+◌, ◌%◌, ◌<◌, ◌≤◌, ◌^◌, Bool, true, false, not, cond, ◌&&◌, eqb, List, [], ◌∷◌, ◌++◌, Option, Some, None, refl, sym, ◌∙◌, ap, arith}
use Rattle.std.specs.Borrow.{Bor}
use Rattle.std.specs.List.{list_all}
use Rattle.std.specs.Fmt.{decimal}
use Rattle.std.proofs.lemmas.Bool.Decides.{nat_tests}
use Rattle.std.proofs.lemmas.Fmt.{decimal_by_steps}
use Rattle.lr_base.specs.declared.names.Config.{Config}
use Rattle.lr_script.specs.Fields.{spaces, IsField, IsConfigFields, word_text}
use Rattle.lr_script.specs.Script.{IsSetUp}
use Rattle.lr_script.specs.Texts.{config_text, service_text}
use Rattle.lr_script.specs.declared.heading.Name.{Name}
use Rattle.lr_script.specs.declared.heading.Name.TheVariants.{Tally, Mail, Claims}
use Rattle.lr_script.specs.declared.fields.EventWord.{EventWord}
use Rattle.lr_script.specs.declared.fields.EventWord.TheVariants.{Call, Resend, Ack, Deliver, Tick, Gossip, Show}
use Rattle.lr_script.specs.CutLaws.{cut_one}
use Rattle.lr_script.proofs.Splits.{spaces-append, spaces_behind}

spare_step : (b : Bool) (n : ℕ) (r : Bool) → cond b (1 + n) n ≡ 0 → (n ≡ 0 → r ≡ true) → (not b && r) ≡ true
spare_step true n r h more = absurd (omega arith)
spare_step false n r h more = more h

pub spaceless : (f : List ℕ) → spaces f ≡ 0 → list_all (λ x. not (eqb x 32)) f ≡ true
spaceless [] h = refl
spaceless (x ∷ f) h = spare_step (eqb x 32) (spaces f) (list_all (λ y. not (eqb y 32)) f) h (spaceless f)

-- what stands before the first space of a line is one list, and so is what stands behind it
pub field_one : (f g r s : List ℕ) → f ++ 32 ∷ r ≡ g ++ 32 ∷ s → spaces f ≡ 0 → spaces g ≡ 0 → (f ≡ g) × (r ≡ s)
field_one f g r s e hf hg = cut_one (λ x. not (eqb x 32)) 32 refl f g r s e (spaceless f hf) (spaceless g hg)

-- a word holds no space
pub word_spaceless : (word : EventWord) → spaces (word_text word) ≡ 0
word_spaceless Call = refl
word_spaceless Resend = refl
word_spaceless Ack = refl
word_spaceless Deliver = refl
word_spaceless Tick = refl
word_spaceless Gossip = refl
word_spaceless Show = refl

pub field_alone_is : (line field : List ℕ) (rest : Option (Bor (List ℕ))) → IsField line field rest → rest ≡ None → line ≡ field
field_alone_is line field None is e = is.0
field_alone_is line field (Some rest) is e = absurd (cc)

pub field_before_is : (line field : List ℕ) (rest : Option (Bor (List ℕ))) (later : Bor (List ℕ)) → IsField line field rest → rest ≡ Some later → line ≡ field ++ 32 ∷ later.now
field_before_is line field None later is e = absurd (cc)
field_before_is line field (Some rest) later is e = let same : rest ≡ later = cc in is.0 ∙ ap (λ (it : Bor (List ℕ)). field ++ 32 ∷ it.now) same

-- where the first field is no word, the line is none and begins with none
pub no_word_alone : (line field : List ℕ) (rest : Option (Bor (List ℕ))) → IsField line field rest → (word : EventWord) → field ≢ word_text word → line ≢ word_text word
no_word_alone line field None is word other e = other (sym is.0 ∙ e)
no_word_alone line field (Some rest) is word other e =
    let more : spaces line ≡ 1 + spaces rest.now = spaces_behind line field rest.now is.0 is.1 in
    let none : spaces line ≡ 0 = ap spaces e ∙ word_spaceless word in
    omega arith

pub no_word_before : (line field : List ℕ) (rest : Option (Bor (List ℕ))) → IsField line field rest → (word : EventWord) → field ≢ word_text word → (later : List ℕ) → line ≢ word_text word ++ 32 ∷ later
no_word_before line field None is word other later e =
    let more : spaces line ≡ 1 + spaces later = spaces_behind line (word_text word) later e (word_spaceless word) in
    let none : spaces line ≡ 0 = ap spaces is.0 ∙ is.1 in
    omega arith
no_word_before line field (Some rest) is word other later e = other (field_one field (word_text word) rest.now later (sym is.0 ∙ e) is.1 (word_spaceless word)).0

-- a line that is known to begin with a field and a space is cut there
pub head_field : (line field : List ℕ) (rest : Option (Bor (List ℕ))) (f r : List ℕ) → IsField line field rest → line ≡ f ++ 32 ∷ r → spaces f ≡ 0 → field ≡ f
head_field line field None f r is e h =
    let more : spaces line ≡ 1 + spaces r = spaces_behind line f r e h in
    let none : spaces line ≡ 0 = ap spaces is.0 ∙ is.1 in
    absurd (omega arith)
head_field line field (Some rest) f r is e h = (field_one field f rest.now r (sym is.0 ∙ e) is.1 h).0

pub service_spaceless : (service : Name) → spaces (service_text service) ≡ 0
service_spaceless Tally = refl
service_spaceless Mail = refl
service_spaceless Claims = refl

digit_spaceless : (x : ℕ) → 48 ≤ x → eqb x 32 ≡ false
digit_spaceless x h = grind (arith, nat_tests)

digits_spaceless : (n : ℕ) → n < 10 → spaces ((48 + n) ∷ []) ≡ 0
digits_spaceless n h = rw (digit_spaceless (48 + n) (omega arith)) refl

-- a number's text holds no space
pub number_spaceless : (n : ℕ) → n < 2 ^ 64 → spaces (decimal n) ≡ 0
number_spaceless n h = decimal_by_steps (λ m text. spaces text ≡ 0) digits_spaceless
    (λ m ds long more. let last : m % 10 < 10 = omega arith in spaces-append ds ((48 + m % 10) ∷ []) ∙ ap (λ k. k + spaces ((48 + m % 10) ∷ [])) more ∙ rw (digits_spaceless (m % 10) last) refl) n h

-- the fields that a run's set-up is written as
pub config_one : (fields r c d : List ℕ) (config : Config) → IsConfigFields fields r c d → IsSetUp config → fields ≡ config_text config → (r ≡ decimal config.replicas) × (c ≡ decimal config.clients) × (d ≡ decimal config.delta)
config_one fields r c d config cut set e =
    let replicas : spaces (decimal config.replicas) ≡ 0 = number_spaceless config.replicas (omega arith) in
    let clients : spaces (decimal config.clients) ≡ 0 = number_spaceless config.clients (omega arith) in
    let first = field_one r (decimal config.replicas) (c ++ 32 ∷ d) (decimal config.clients ++ 32 ∷ decimal config.delta) (sym cut.text ∙ e) cut.replicas_field replicas in
    let second = field_one c (decimal config.clients) d (decimal config.delta) first.1 cut.clients_field clients in
    (first.0, second.0, second.1)

pub config_spaces : (fields : List ℕ) (config : Config) → IsSetUp config → fields ≡ config_text config → 2 ≤ spaces fields
config_spaces fields config set e =
    let first = spaces_behind fields (decimal config.replicas) (decimal config.clients ++ 32 ∷ decimal config.delta) e (number_spaceless config.replicas (omega arith)) in
    let second = spaces_behind (decimal config.clients ++ 32 ∷ decimal config.delta) (decimal config.clients) (decimal config.delta) refl (number_spaceless config.clients (omega arith)) in
    omega arith
