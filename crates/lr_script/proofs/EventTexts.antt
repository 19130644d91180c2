-- An event's line: its word, and what stands behind it. It is no other event's.
use Rattle.std.proofs.Common.{◌≡◌, ℕ, get_or, ◌<◌, ◌≤◌, ◌^◌, true, List, ◌∷◌, ◌++◌, refl, sym, ◌∙◌, ap, arith}
use Rattle.std.specs.Fmt.{decimal}
use Rattle.std.proofs.lemmas.Fmt.{decimal_injective}
use Rattle.lr_base.specs.Meaning.{Meaning}
use Rattle.lr_base.specs.declared.events.Event.{Event}
use Rattle.lr_base.specs.declared.events.Event.TheVariants.{Call, Resend, Ack, Deliver, Tick, Gossip, Show}
use Rattle.lr_script.specs.declared.fields.EventWord.{EventWord}
use Rattle.lr_script.specs.declared.fields.EventWord.TheVariants.{Call as WCall, Resend as WResend, Ack as WAck, Deliver as WDeliver, Tick as WTick, Gossip as WGossip, Show as WShow}
use Rattle.lr_script.specs.Fields.{spaces, word_text, four_fields, three_fields, IsCallFields, IsPair, IsTriple}
use Rattle.lr_script.specs.Script.{EventFits}
use Rattle.lr_script.specs.Texts.{event_text}
use Rattle.lr_script.proofs.Splits.{spaces_behind}
use Rattle.lr_script.proofs.Cuts.{field_one, number_spaceless, word_spaceless}
use Rattle.lr_script.proofs.LineCuts.{printable_cut}
use Rattle.lr_script.proofs.ShownTexts.{ArePrintable, event_printable}

-- an event's word
abbrev pub event_word : {Op : Type 0} → Event Op → EventWord
event_word (Call client replica reading op) = WCall
event_word (Resend client replica reading) = WResend
event_word (Ack client replica reading) = WAck
event_word (Deliver message) = WDeliver
event_word (Tick replica reading) = WTick
event_word (Gossip from to) = WGossip
event_word (Show replica) = WShow

-- what stands behind it in the event's line
abbrev pub event_rest : {Value Op : Type 0} → Meaning Value Op → Event Op → List ℕ
event_rest m (Call client replica reading op) = four_fields (decimal client) (decimal replica) (decimal reading) (m.text op)
event_rest m (Resend client replica reading) = three_fields (decimal client) (decimal replica) (decimal reading)
event_rest m (Ack client replica reading) = three_fields (decimal client) (decimal replica) (decimal reading)
event_rest m (Deliver message) = decimal message
event_rest m (Tick replica reading) = decimal replica ++ 32 ∷ decimal reading
event_rest m (Gossip from to) = decimal from ++ 32 ∷ decimal to
event_rest m (Show replica) = decimal replica

pub event_parts : {Value Op : Type 0} (m : Meaning Value Op) (event : Event Op) → event_text m event ≡ word_text (event_word event) ++ 32 ∷ event_rest m event
event_parts m (Call client replica reading op) = refl
event_parts m (Resend client replica reading) = refl
event_parts m (Ack client replica reading) = refl
event_parts m (Deliver message) = refl
event_parts m (Tick replica reading) = refl
event_parts m (Gossip from to) = refl
event_parts m (Show replica) = refl

-- an event's word tells by its first byte
first_byte : EventWord → ℕ
first_byte WCall = 99
first_byte WResend = 114
first_byte WAck = 97
first_byte WDeliver = 100
first_byte WTick = 116
first_byte WGossip = 103
first_byte WShow = 115

word_first : (word : EventWord) → get_or (word_text word) 0 0 ≡ first_byte word
unfolding first_byte
word_first WCall = refl
word_first WResend = refl
word_first WAck = refl
word_first WDeliver = refl
word_first WTick = refl
word_first WGossip = refl
word_first WShow = refl

first_one : (a b : EventWord) → first_byte a ≡ first_byte b → a ≡ b
unfolding first_byte
first_one WCall WCall e = refl
first_one WResend WResend e = refl
first_one WAck WAck e = refl
first_one WDeliver WDeliver e = refl
first_one WTick WTick e = refl
first_one WGossip WGossip e = refl
first_one WShow WShow e = refl
first_one WCall _ e = absurd (omega arith)
first_one WResend _ e = absurd (omega arith)
first_one WAck _ e = absurd (omega arith)
first_one WDeliver _ e = absurd (omega arith)
first_one WTick _ e = absurd (omega arith)
first_one WGossip _ e = absurd (omega arith)
first_one WShow _ e = absurd (omega arith)

pub word_one : (a b : EventWord) → word_text a ≡ word_text b → a ≡ b
word_one a b e = first_one a b (sym (word_first a) ∙ ap (λ (xs : List ℕ). get_or xs 0 0) e ∙ word_first b)

-- what begins with a word and a space does so in one way
pub word_cut : (a b : EventWord) (rest more : List ℕ) → word_text a ++ 32 ∷ rest ≡ word_text b ++ 32 ∷ more → (a ≡ b) × (rest ≡ more)
word_cut a b rest more e =
    let cut = field_one (word_text a) (word_text b) rest more e (word_spaceless a) (word_spaceless b) in
    (word_one a b cut.0, cut.1)

-- behind a call's word stand these numbers, and this text behind them
pub record AreNumbers (fields : List ℕ) (client replica reading : ℕ) (op : List ℕ) : Type 0 where
  pub text : fields ≡ four_fields (decimal client) (decimal replica) (decimal reading) op
  pub client_number : client < 2 ^ 64
  pub replica_number : replica < 2 ^ 64
  pub reading_number : reading < 2 ^ 64

pub numbers_cut : (fields op : List ℕ) (client replica reading : ℕ) → AreNumbers fields client replica reading op → IsCallFields fields (decimal client) (decimal replica) (decimal reading) op
numbers_cut fields op client replica reading are = record {
  text = are.text;
  client_field = number_spaceless client are.client_number;
  replica_field = number_spaceless replica are.replica_number;
  reading_field = number_spaceless reading are.reading_number;
}

-- a call's fields are one list each
pub call_one : (fields c r t o c2 r2 t2 o2 : List ℕ) → IsCallFields fields c r t o → IsCallFields fields c2 r2 t2 o2 → (c ≡ c2) × (r ≡ r2) × (t ≡ t2) × (o ≡ o2)
call_one fields c r t o c2 r2 t2 o2 a b =
    let first = field_one c c2 (r ++ 32 ∷ (t ++ 32 ∷ o)) (r2 ++ 32 ∷ (t2 ++ 32 ∷ o2)) (sym a.text ∙ b.text) a.client_field b.client_field in
    let second = field_one r r2 (t ++ 32 ∷ o) (t2 ++ 32 ∷ o2) first.1 a.replica_field b.replica_field in
    let third = field_one t t2 o o2 second.1 a.reading_field b.reading_field in
    (first.0, second.0, third.0, third.1)

-- and so are its numbers
pub numbers_one : (fields op act : List ℕ) (client replica reading other place now : ℕ) → AreNumbers fields client replica reading op → AreNumbers fields other place now act → (client ≡ other) × (replica ≡ place) × (reading ≡ now) × (op ≡ act)
numbers_one fields op act client replica reading other place now a b =
    let one = call_one fields _ _ _ _ _ _ _ _ (numbers_cut fields op client replica reading a) (numbers_cut fields act other place now b) in
    (decimal_injective client other a.client_number b.client_number one.0, decimal_injective replica place a.replica_number b.replica_number one.1, decimal_injective reading now a.reading_number b.reading_number one.2, one.3)

-- there are three spaces among a call's fields
pub call_spaces : (fields c r t o : List ℕ) → IsCallFields fields c r t o → 3 ≤ spaces fields
call_spaces fields c r t o a =
    let first = spaces_behind fields c (r ++ 32 ∷ (t ++ 32 ∷ o)) a.text a.client_field in
    let second = spaces_behind (r ++ 32 ∷ (t ++ 32 ∷ o)) r (t ++ 32 ∷ o) refl a.replica_field in
    let third = spaces_behind (t ++ 32 ∷ o) t o refl a.reading_field in
    omega arith

-- behind the word of a resend or an acknowledgement stand these numbers
pub record AreThree (fields : List ℕ) (client replica reading : ℕ) : Type 0 where
  pub text : fields ≡ three_fields (decimal client) (decimal replica) (decimal reading)
  pub client_number : client < 2 ^ 64
  pub replica_number : replica < 2 ^ 64
  pub reading_number : reading < 2 ^ 64

pub three_cut : (fields : List ℕ) (client replica reading : ℕ) → AreThree fields client replica reading → IsTriple fields (decimal client) (decimal replica) (decimal reading)
three_cut fields client replica reading are = record {
  text = are.text;
  client_field = number_spaceless client are.client_number;
  replica_field = number_spaceless replica are.replica_number;
  reading_field = number_spaceless reading are.reading_number;
}

-- three fields are one list each
pub triple_one : (fields c r t c2 r2 t2 : List ℕ) → IsTriple fields c r t → IsTriple fields c2 r2 t2 → (c ≡ c2) × (r ≡ r2) × (t ≡ t2)
triple_one fields c r t c2 r2 t2 a b =
    let first = field_one c c2 (r ++ 32 ∷ t) (r2 ++ 32 ∷ t2) (sym a.text ∙ b.text) a.client_field b.client_field in
    let second = field_one r r2 t t2 first.1 a.replica_field b.replica_field in
    (first.0, second.0, second.1)

-- and so are three numbers
pub three_one : (fields : List ℕ) (client replica reading other place now : ℕ) → AreThree fields client replica reading → AreThree fields other place now → (client ≡ other) × (replica ≡ place) × (reading ≡ now)
three_one fields client replica reading other place now a b =
    let one = triple_one fields _ _ _ _ _ _ (three_cut fields client replica reading a) (three_cut fields other place now b) in
    (decimal_injective client other a.client_number b.client_number one.0, decimal_injective replica place a.replica_number b.replica_number one.1, decimal_injective reading now a.reading_number b.reading_number one.2)

-- there are two spaces among three fields
pub triple_spaces : (fields c r t : List ℕ) → IsTriple fields c r t → spaces fields ≡ 2
triple_spaces fields c r t a =
    let first = spaces_behind fields c (r ++ 32 ∷ t) a.text a.client_field in
    let second = spaces_behind (r ++ 32 ∷ t) r t refl a.replica_field in
    let none = a.reading_field in
    omega arith

-- behind the word of a tick or of gossip stand these two numbers
pub record AreTwo (fields : List ℕ) (first second : ℕ) : Type 0 where
  pub text : fields ≡ decimal first ++ 32 ∷ decimal second
  pub first_number : first < 2 ^ 64
  pub second_number : second < 2 ^ 64

pub two_cut : (fields : List ℕ) (first second : ℕ) → AreTwo fields first second → IsPair fields (decimal first) (decimal second)
two_cut fields first second are = record { text = are.text; first_field = number_spaceless first are.first_number; second_field = number_spaceless second are.second_number }

pub pair_one : (fields a b c d : List ℕ) → IsPair fields a b → IsPair fields c d → (a ≡ c) × (b ≡ d)
pair_one fields a b c d first second = field_one a c b d (sym first.text ∙ second.text) first.first_field second.first_field

pub two_one : (fields : List ℕ) (a b c d : ℕ) → AreTwo fields a b → AreTwo fields c d → (a ≡ c) × (b ≡ d)
two_one fields a b c d first second =
    let one = pair_one fields _ _ _ _ (two_cut fields a b first) (two_cut fields c d second) in
    (decimal_injective a c first.first_number second.first_number one.0, decimal_injective b d first.second_number second.second_number one.1)

-- there is one space between two fields
pub pair_spaces : (fields a b : List ℕ) → IsPair fields a b → spaces fields ≡ 1
pair_spaces fields a b pair =
    let more = spaces_behind fields a b pair.text pair.first_field in
    let none = pair.second_field in
    omega arith

-- a client, a replica and a reading are written in one way
sending_one : (client replica reading other place now : ℕ) → (client < 2 ^ 64) × (replica < 2 ^ 64) × (reading < 2 ^ 64) → (other < 2 ^ 64) × (place < 2 ^ 64) × (now < 2 ^ 64) → three_fields (decimal client) (decimal replica) (decimal reading) ≡ three_fields (decimal other) (decimal place) (decimal now) → (client ≡ other) × (replica ≡ place) × (reading ≡ now)
sending_one client replica reading other place now fa fb e =
    three_one (three_fields (decimal client) (decimal replica) (decimal reading)) client replica reading other place now (record { text = refl; client_number = fa.0; replica_number = fa.1; reading_number = fa.2 }) (record { text = e; client_number = fb.0; replica_number = fb.1; reading_number = fb.2 })

-- and so are two numbers
numbers_two : (a b c d : ℕ) → (a < 2 ^ 64) × (b < 2 ^ 64) → (c < 2 ^ 64) × (d < 2 ^ 64) → decimal a ++ 32 ∷ decimal b ≡ decimal c ++ 32 ∷ decimal d → (a ≡ c) × (b ≡ d)
numbers_two a b c d fa fb e =
    two_one (decimal a ++ 32 ∷ decimal b) a b c d (record { text = refl; first_number = fa.0; second_number = fa.1 }) (record { text = e; first_number = fb.0; second_number = fb.1 })

-- no two operations have one text
abbrev pub HasOneText : {Value Op : Type 0} → Meaning Value Op → Type 0
HasOneText {Value} {Op} m = (a b : Op) → m.is_op a ≡ true → m.is_op b ≡ true → m.text a ≡ m.text b → a ≡ b

module _ {Value Op : Type 0} (m : Meaning Value Op) (texts : HasOneText m) where
  -- of two events with one word, what stands behind it is that of one event
  rest_one : (a b : Event Op) → EventFits m a → EventFits m b → event_word a ≡ event_word b → event_rest m a ≡ event_rest m b → a ≡ b
  rest_one (Call client replica reading op) (Call other place now act) fa fb word e =
      let one = numbers_one (four_fields (decimal client) (decimal replica) (decimal reading) (m.text op)) (m.text op) (m.text act) client replica reading other place now (record { text = refl; client_number = fa.0; replica_number = fa.1; reading_number = fa.2 }) (record { text = e; client_number = fb.0; replica_number = fb.1; reading_number = fb.2 }) in
      let same = texts op act fa.3 fb.3 one.3 in
      λ i. Call (one.0 i) (one.1 i) (one.2 i) (same i)
  rest_one (Resend client replica reading) (Resend other place now) fa fb word e =
      let one = sending_one client replica reading other place now fa fb e in
      λ i. Resend (one.0 i) (one.1 i) (one.2 i)
  rest_one (Ack client replica reading) (Ack other place now) fa fb word e =
      let one = sending_one client replica reading other place now fa fb e in
      λ i. Ack (one.0 i) (one.1 i) (one.2 i)
  rest_one (Deliver message) (Deliver other) fa fb word e = ap Deliver (decimal_injective message other fa fb e)
  rest_one (Tick replica reading) (Tick other now) fa fb word e =
      let one = numbers_two replica reading other now fa fb e in
      λ i. Tick (one.0 i) (one.1 i)
  rest_one (Gossip from to) (Gossip other target) fa fb word e =
      let one = numbers_two from to other target fa fb e in
      λ i. Gossip (one.0 i) (one.1 i)
  rest_one (Show replica) (Show other) fa fb word e = ap Show (decimal_injective replica other fa fb e)
  rest_one (Call _ _ _ _) _ fa fb word e = cc
  rest_one (Resend _ _ _) _ fa fb word e = cc
  rest_one (Ack _ _ _) _ fa fb word e = cc
  rest_one (Deliver _) _ fa fb word e = cc
  rest_one (Tick _ _) _ fa fb word e = cc
  rest_one (Gossip _ _) _ fa fb word e = cc
  rest_one (Show _) _ fa fb word e = cc

  -- a line is at most one event's
  pub event_one : (a b : Event Op) → EventFits m a → EventFits m b → event_text m a ≡ event_text m b → a ≡ b
  event_one a b fa fb e =
      let cut = word_cut (event_word a) (event_word b) (event_rest m a) (event_rest m b) (sym (event_parts m a) ∙ e ∙ event_parts m b) in
      rest_one a b fa fb cut.0 cut.1

  -- and so is the first of several lines
  pub event_cut : ArePrintable m → (a b : Event Op) (x y : List ℕ) → EventFits m a → EventFits m b → event_text m a ++ 10 ∷ x ≡ event_text m b ++ 10 ∷ y → (a ≡ b) × (x ≡ y)
  event_cut ops a b x y fa fb e =
      let cut = printable_cut (event_text m a) (event_text m b) x y e (event_printable m ops a fa) (event_printable m ops b fb) in
      (event_one a b fa fb cut.0, cut.1)
