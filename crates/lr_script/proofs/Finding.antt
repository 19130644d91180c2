-- Fields, numbers, words and lines are found in bytes, or there are none.
use Rattle.std.proofs.Common.{◌≡◌, ◌≢◌, ◌⊎◌, inl, inr, ◌<◌, ◌≤◌, ◌+◌, ◌^◌, ◌&&◌, ◌||◌, ℕ, Bool, true, false, cond, eqb, nat_le, List, [], ◌∷◌, ◌++◌, refl, sym, ◌∙◌, ap, arith, leb-true}
use Rattle.std.specs.Prelude.{Option, Some, None}
use Rattle.std.specs.Fmt.{decimal}
use Rattle.std.specs.List.{list_any}
use Rattle.std.specs.Str.{bytes_eq}
use Rattle.std.proofs.lemmas.Bool.{and_parts, and_from, eqb-false, eqb-true, leb-false, ne_eqb}
use Rattle.lr_base.specs.ByteLaws.{bytes-same, same-bytes}
use Rattle.lr_base.specs.Meaning.{is_printable}
use Rattle.lr_base.specs.NumberLaws.{number_of_text-back, number_of_text-none}
use Rattle.lr_base.specs.Numbers.{number_of_text}
use Rattle.lr_script.specs.Fields.{IsNoNumber, spaces, word_text}
use Rattle.lr_script.specs.Faults.{IsNoLine}
use Rattle.lr_script.specs.Texts.{service_text}
use Rattle.lr_script.specs.declared.fields.EventWord.{EventWord}
use Rattle.lr_script.specs.declared.fields.EventWord.TheVariants.{Call, Resend, Ack, Deliver, Tick, Gossip, Show}
use Rattle.lr_script.specs.declared.heading.Name.{Name}
use Rattle.lr_script.specs.declared.heading.Name.TheVariants.{Tally, Mail, Claims}
use Rattle.lr_script.specs.declared.refusals.Cause.{Cause}
use Rattle.lr_script.specs.declared.refusals.Cause.TheVariants.{Byte, Unended}

-- two texts are one, or they aren't
pub same_or_other : (a b : List ℕ) → (a ≡ b) ⊎ (a ≢ b)
same_or_other a b = go (bytes_eq a b) refl
  where
    go : (same : Bool) → bytes_eq a b ≡ same → (a ≡ b) ⊎ (a ≢ b)
    go true is = inl (same-bytes a b is)
    go false is = inr (λ same. let no : false ≡ true = sym is ∙ ap (bytes_eq a) (sym same) ∙ bytes-same a in cc)

-- a number is less than another, or not
pub less_or_not : (a b : ℕ) → (a < b) ⊎ (b ≤ a)
less_or_not a b = go (nat_le b a) refl
  where
    go : (test : Bool) → nat_le b a ≡ test → (a < b) ⊎ (b ≤ a)
    go true is = inr (leb-true b a is)
    go false is = inl (leb-false b a is)

-- the number that is written so
abbrev pub IsNumber : List ℕ → Type 0
IsNumber text = (number : ℕ) × (text ≡ decimal number) × (number < 2 ^ 64)

pub number_or_none : (text : List ℕ) → IsNumber text ⊎ IsNoNumber text
number_or_none text = go (number_of_text text) refl
  where
    go : (found : Option ℕ) → number_of_text text ≡ found → IsNumber text ⊎ IsNoNumber text
    go None none = inr (number_of_text-none text none)
    go (Some number) some =
        let known = number_of_text-back text number some in
        inl (number, sym known.0, known.1)

-- a line is cut at its first space
abbrev pub IsCut : List ℕ → Type 0
IsCut line = (field rest : List ℕ) × (line ≡ field ++ 32 ∷ rest) × (spaces field ≡ 0)

pub cut_or_whole : (line : List ℕ) → IsCut line ⊎ (spaces line ≡ 0)
cut_or_whole [] = inr refl
cut_or_whole (byte ∷ line) = go (eqb byte 32) refl (cut_or_whole line)
  where
    go : (space : Bool) → eqb byte 32 ≡ space → IsCut line ⊎ (spaces line ≡ 0)
        → IsCut (byte ∷ line) ⊎ (spaces (byte ∷ line) ≡ 0)
    go true e more = inl ([], line, ap (λ b. b ∷ line) (eqb-true byte 32 e), refl)
    go false e (inl cut) = inl (
      byte ∷ cut.0,
      cut.1,
      ap (λ t. byte ∷ t) cut.2,
      ap (λ b. cond b (1 + spaces cut.0) (spaces cut.0)) e ∙ cut.3,
    )
    go false e (inr none) = inr (ap (λ b. cond b (1 + spaces line) (spaces line)) e ∙ none)

-- a line of printable bytes
abbrev pub IsLine : List ℕ → Type 0
IsLine bytes = (line later : List ℕ) × (bytes ≡ line ++ 10 ∷ later) × (is_printable line ≡ true)

-- a printable byte is no line feed
no_feed : (byte : ℕ) → (nat_le 32 byte && nat_le byte 126) ≡ true → eqb byte 10 ≡ false
no_feed byte is =
    let low = leb-true 32 byte (and_parts (nat_le 32 byte) (nat_le byte 126) is).0 in
    ne_eqb byte 10 (λ same. omega arith)

-- bytes in which no line is found stay so with a printable byte before them
no_line_more : (byte : ℕ) (bytes : List ℕ) (cause : Cause) → (nat_le 32 byte && nat_le byte 126) ≡ true
    → IsNoLine bytes cause → IsNoLine (byte ∷ bytes) cause
no_line_more byte bytes Unended is none =
    ap (λ b. b || list_any (λ byte. eqb byte 10) bytes) (no_feed byte is) ∙ none
no_line_more byte bytes Byte is bad = record {
  before = byte ∷ bad.before;
  byte = bad.byte;
  later = bad.later;
  text = ap (λ t. byte ∷ t) bad.text;
  printable = and_from _ _ is bad.printable;
  bad = bad.bad;
  other = bad.other;
  ended = bad.ended;
}
no_line_more byte bytes _ is none = absurd none

-- what begins with another byte than these has no line
no_line_here : (byte : ℕ) (bytes : List ℕ) → (nat_le 32 byte && nat_le byte 126) ≡ false → eqb byte 10 ≡ false
    → (ended : Bool) → list_any (λ byte. eqb byte 10) bytes ≡ ended
    → (cause : Cause) × IsNoLine (byte ∷ bytes) cause
no_line_here byte bytes off other true ended = (
  Byte,
  record {
    before = [];
    byte = byte;
    later = bytes;
    text = refl;
    printable = refl;
    bad = ap (λ b. b && true) off;
    other = eqb-false byte 10 other;
    ended = ended;
  },
)
no_line_here byte bytes off other false ended =
    (Unended, ap (λ b. b || list_any (λ byte. eqb byte 10) bytes) other ∙ ended)

pub line_or_none : (bytes : List ℕ) → IsLine bytes ⊎ ((cause : Cause) × IsNoLine bytes cause)
line_or_none [] = inr (Unended, refl)
line_or_none (byte ∷ bytes) = go (nat_le 32 byte && nat_le byte 126) refl (line_or_none bytes)
  where
    feed : (nat_le 32 byte && nat_le byte 126) ≡ false → (end : Bool) → eqb byte 10 ≡ end
        → IsLine (byte ∷ bytes) ⊎ ((cause : Cause) × IsNoLine (byte ∷ bytes) cause)
    feed off true e = inl ([], bytes, ap (λ b. b ∷ bytes) (eqb-true byte 10 e), refl)
    feed off false e = inr (no_line_here byte bytes off e (list_any (λ byte. eqb byte 10) bytes) refl)

    go : (printable : Bool) → (nat_le 32 byte && nat_le byte 126) ≡ printable
        → IsLine bytes ⊎ ((cause : Cause) × IsNoLine bytes cause)
        → IsLine (byte ∷ bytes) ⊎ ((cause : Cause) × IsNoLine (byte ∷ bytes) cause)
    go true is (inl line) = inl (byte ∷ line.0, line.1, ap (λ t. byte ∷ t) line.2, and_from _ _ is line.3)
    go true is (inr none) = inr (none.0, no_line_more byte bytes none.0 is none.1)
    go false off more = feed off (eqb byte 10) refl

-- an event's word
pub word_or_none : (field : List ℕ) → ((word : EventWord) × (field ≡ word_text word))
    ⊎ ((word : EventWord) → field ≢ word_text word)
word_or_none field = go (same Call) (same Resend) (same Ack) (same Deliver) (same Tick) (same Gossip) (same Show)
  where
    Is : EventWord → Type 0
    Is word = field ≡ word_text word

    Other : EventWord → Type 0
    Other word = field ≢ word_text word

    same : (word : EventWord) → Is word ⊎ Other word
    same word = same_or_other field (word_text word)

    none : Other Call → Other Resend → Other Ack → Other Deliver → Other Tick → Other Gossip → Other Show
        → (word : EventWord) → Other word
    none c r a d t g s Call = c
    none c r a d t g s Resend = r
    none c r a d t g s Ack = a
    none c r a d t g s Deliver = d
    none c r a d t g s Tick = t
    none c r a d t g s Gossip = g
    none c r a d t g s Show = s

    go : Is Call ⊎ Other Call → Is Resend ⊎ Other Resend → Is Ack ⊎ Other Ack → Is Deliver ⊎ Other Deliver
        → Is Tick ⊎ Other Tick → Is Gossip ⊎ Other Gossip → Is Show ⊎ Other Show
        → ((word : EventWord) × Is word) ⊎ ((word : EventWord) → Other word)
    go (inl is) r a d t g s = inl (Call, is)
    go (inr c) (inl is) a d t g s = inl (Resend, is)
    go (inr c) (inr r) (inl is) d t g s = inl (Ack, is)
    go (inr c) (inr r) (inr a) (inl is) t g s = inl (Deliver, is)
    go (inr c) (inr r) (inr a) (inr d) (inl is) g s = inl (Tick, is)
    go (inr c) (inr r) (inr a) (inr d) (inr t) (inl is) s = inl (Gossip, is)
    go (inr c) (inr r) (inr a) (inr d) (inr t) (inr g) (inl is) = inl (Show, is)
    go (inr c) (inr r) (inr a) (inr d) (inr t) (inr g) (inr s) = inr (none c r a d t g s)

-- a service's name
pub service_or_none : (field : List ℕ) → ((name : Name) × (field ≡ service_text name))
    ⊎ ((name : Name) → field ≢ service_text name)
service_or_none field = go (same Tally) (same Mail) (same Claims)
  where
    same : (name : Name) → (field ≡ service_text name) ⊎ (field ≢ service_text name)
    same name = same_or_other field (service_text name)

    none : field ≢ service_text Tally → field ≢ service_text Mail → field ≢ service_text Claims
        → (name : Name) → field ≢ service_text name
    none t m c Tally = t
    none t m c Mail = m
    none t m c Claims = c

    go : (field ≡ service_text Tally) ⊎ (field ≢ service_text Tally)
        → (field ≡ service_text Mail) ⊎ (field ≢ service_text Mail)
        → (field ≡ service_text Claims) ⊎ (field ≢ service_text Claims)
        → ((name : Name) × (field ≡ service_text name)) ⊎ ((name : Name) → field ≢ service_text name)
    go (inl is) m c = inl (Tally, is)
    go (inr t) (inl is) c = inl (Mail, is)
    go (inr t) (inr m) (inl is) = inl (Claims, is)
    go (inr t) (inr m) (inr c) = inr (none t m c)
