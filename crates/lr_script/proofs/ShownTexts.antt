-- The texts of headers and events are printable.
use Rattle.std.proofs.Common.{◌≡◌, ℕ, ◌+◌, ◌%◌, ◌<◌, ◌^◌, Bool, true, false, ◌&&◌, leb, List, [], ◌∷◌, ◌++◌, refl, ◌∙◌, arith}
use Rattle.std.specs.Fmt.{decimal}
use Rattle.std.proofs.lemmas.Bool.Decides.{nat_tests}
use Rattle.std.proofs.lemmas.Fmt.{decimal_by_steps}
use Rattle.std.proofs.lemmas.List.Folds.{list_all-append}
use Rattle.lr_base.specs.Meaning.{Meaning, is_printable}
use Rattle.lr_base.specs.declared.events.Event.{Event}
use Rattle.lr_base.specs.declared.events.Event.TheVariants.{Call, Resend, Ack, Deliver, Tick, Gossip, Show}
use Rattle.lr_base.specs.declared.names.Config.{Config}
use Rattle.lr_script.specs.declared.heading.Header.{Header}
use Rattle.lr_script.specs.declared.heading.Name.TheVariants.{Tally, Mail, Claims}
use Rattle.lr_script.specs.Script.{EventFits, IsSetUp}
use Rattle.lr_script.specs.Texts.{event_text, header_text, config_text, sending_text, service_text}

-- two tests that pass
pub both : (a b : Bool) → a ≡ true → b ≡ true → (a && b) ≡ true
both true b ha hb = hb
both false b ha hb = cc

-- texts of printable bytes behind one another are one
printable_more : (a b : List ℕ) → is_printable a ≡ true → is_printable b ≡ true → is_printable (a ++ b) ≡ true
printable_more a b ha hb = list_all-append (λ byte. leb 32 byte && leb byte 126) a b ∙ both (is_printable a) (is_printable b) ha hb

digit_shown : (n : ℕ) → n < 10 → is_printable ((48 + n) ∷ []) ≡ true
digit_shown n h =
    let low : leb 32 (48 + n) ≡ true = grind (arith, nat_tests) in
    let high : leb (48 + n) 126 ≡ true = grind (arith, nat_tests) in
    both (leb 32 (48 + n) && leb (48 + n) 126) true (both (leb 32 (48 + n)) (leb (48 + n) 126) low high) refl

pub number_printable : (n : ℕ) → n < 2 ^ 64 → is_printable (decimal n) ≡ true
number_printable n h = decimal_by_steps (λ m text. is_printable text ≡ true) digit_shown
    (λ m ds long more. let last : m % 10 < 10 = omega arith in printable_more ds ((48 + m % 10) ∷ []) more (digit_shown (m % 10) last)) n h

pub config_printable : (config : Config) → IsSetUp config → is_printable (config_text config) ≡ true
config_printable config set =
    printable_more (decimal config.replicas) (32 ∷ (decimal config.clients ++ 32 ∷ decimal config.delta)) (number_printable config.replicas (omega arith))
    (printable_more (decimal config.clients) (32 ∷ decimal config.delta) (number_printable config.clients (omega arith)) (number_printable config.delta set.number))

pub header_printable : (header : Header) → IsSetUp header.config → is_printable (header_text header) ≡ true
header_printable header set = elim header.service as (λ service. is_printable (service_text service ++ 32 ∷ config_text header.config) ≡ true) [ Tally ↦ config_printable header.config set | Mail ↦ config_printable header.config set | Claims ↦ config_printable header.config set ]

pub sending_printable : (client replica reading : ℕ) → client < 2 ^ 64 → replica < 2 ^ 64 → reading < 2 ^ 64 → is_printable (sending_text client replica reading) ≡ true
sending_printable client replica reading c r t =
    printable_more (decimal client) (32 ∷ (decimal replica ++ 32 ∷ decimal reading)) (number_printable client c)
    (printable_more (decimal replica) (32 ∷ decimal reading) (number_printable replica r) (number_printable reading t))

-- each operation's text is printable
abbrev pub ArePrintable : {Value Op : Type 0} → Meaning Value Op → Type 0
ArePrintable {Value} {Op} m = (op : Op) → m.is_op op ≡ true → is_printable (m.text op) ≡ true

pub event_printable : {Value Op : Type 0} (m : Meaning Value Op) → ArePrintable m → (event : Event Op) → EventFits m event → is_printable (event_text m event) ≡ true
event_printable m ops (Call client replica reading op) fits =
    printable_more (decimal client) (32 ∷ (decimal replica ++ 32 ∷ (decimal reading ++ 32 ∷ m.text op))) (number_printable client fits.0)
    (printable_more (decimal replica) (32 ∷ (decimal reading ++ 32 ∷ m.text op)) (number_printable replica fits.1)
    (printable_more (decimal reading) (32 ∷ m.text op) (number_printable reading fits.2) (ops op fits.3)))
event_printable m ops (Resend client replica reading) fits = sending_printable client replica reading fits.0 fits.1 fits.2
event_printable m ops (Ack client replica reading) fits = sending_printable client replica reading fits.0 fits.1 fits.2
event_printable m ops (Deliver message) fits = number_printable message fits
event_printable m ops (Tick replica reading) fits = printable_more (decimal replica) (32 ∷ decimal reading) (number_printable replica fits.0) (number_printable reading fits.1)
event_printable m ops (Gossip from to) fits = printable_more (decimal from) (32 ∷ decimal to) (number_printable from fits.0) (number_printable to fits.1)
event_printable m ops (Show replica) fits = number_printable replica fits
