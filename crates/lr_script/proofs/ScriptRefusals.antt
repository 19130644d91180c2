-- No script is refused, and each has one header.
use Rattle.std.proofs.Common.{◌≡◌, ◌≢◌, ℕ, suc, drop, append_assoc, subst, ◌≤◌, List, [], ◌∷◌, ◌++◌, get_or, length, refl, sym, ◌∙◌, ap, arith, inl, inr, Result, Ok, Err}
use Rattle.std.specs.Prelude.{IfOk}
use Rattle.std.specs.List.{All}
use Rattle.std.specs.Fmt.{decimal}
use Rattle.std.proofs.lemmas.Fmt.{decimal_injective}
use Rattle.lr_base.specs.Limits.{most_script_bytes}
use Rattle.lr_base.specs.Meaning.{Meaning}
use Rattle.lr_base.specs.declared.events.Event.{Event}
use Rattle.lr_base.specs.declared.names.Config.{Config}
use Rattle.lr_script.specs.declared.refusals.Cause.{Cause}
use Rattle.lr_script.specs.declared.heading.Header.{Header}
use Rattle.lr_script.specs.declared.heading.Name.{Name}
use Rattle.lr_script.specs.declared.heading.Name.TheVariants.{Tally, Mail, Claims}
use Rattle.lr_script.specs.declared.refusals.ScriptFault.{ScriptFault}
use Rattle.lr_script.specs.declared.refusals.ScriptFault.TheVariants.{Line, NoMemory}
use Rattle.lr_script.specs.Fields.{IsConfigFields}
use Rattle.lr_script.specs.Script.{AreEventsOf, Fits, IsSetUp, IsScript, HasHeader, IsNoScript, line_of, events_text}
use Rattle.lr_script.specs.Texts.{event_text, header_text, config_text, service_text}
use Rattle.lr_script.specs.Faults.{IsBadLine, IsBadHead, too_long, empty, bad_head, no_header, IsBadAt, IsHeadFault, IsLineFault, IsScriptFault}
use Rattle.lr_script.proofs.Cuts.{field_one, number_spaceless, config_one, service_spaceless}
use Rattle.lr_script.proofs.ShownTexts.{ArePrintable, header_printable, event_printable}
use Rattle.lr_script.proofs.LineCuts.{no_line_refuted, printable_cut}
use Rattle.lr_script.proofs.EventRefusals.{line_refuted}

-- each element of a list is one of the first and each of the others
pub all_first : {X : Type 0} (P : X → Type 0) (x : X) (xs : List X) → All P (x ∷ xs) → P x
all_first P x xs h = h 0 x (omega arith)

pub all_others : {X : Type 0} (P : X → Type 0) (x : X) (xs : List X) → All P (x ∷ xs) → All P xs
all_others P x xs h = λ k d below. h (suc k) d (omega arith)

pub line_more : (line more rest : List ℕ) → ((line ++ 10 ∷ []) ++ more) ++ rest ≡ line ++ 10 ∷ (more ++ rest)
line_more line more rest = simp append_assoc

pub never_empty : (line more : List ℕ) → [] ≢ line ++ 10 ∷ more
never_empty [] more e = cc
never_empty (x ∷ line) more e = cc

-- lines of events that go on with a refused one are no other events' lines
pub lines_refuted : {Value Op : Type 0} (m : Meaning Value Op) → ArePrintable m → (config : Config) → IsSetUp config → (events others : List (Event Op)) (rest : List ℕ) → All (Fits m config) events → All (Fits m config) others → events_text m others ≡ events_text m events ++ rest → 1 ≤ length rest → (cause : Cause) → IsBadLine m config rest cause → ⊥
lines_refuted m ops config set [] [] rest fit fits e some cause bad = let none : length rest ≡ 0 = ap length (sym e) in omega arith
lines_refuted m ops config set [] (o ∷ others) rest fit fits e some cause bad =
    line_refuted m config set ops o (all_first (Fits m config) o others fits) rest (events_text m others) (sym e ∙ append_assoc (event_text m o) (10 ∷ []) (events_text m others)) cause bad
lines_refuted m ops config set (x ∷ events) [] rest fit fits e some cause bad = never_empty (event_text m x) (events_text m events ++ rest) (e ∙ line_more (event_text m x) (events_text m events) rest)
lines_refuted m ops config set (x ∷ events) (o ∷ others) rest fit fits e some cause bad =
    let cut = printable_cut (event_text m o) (event_text m x) (events_text m others) (events_text m events ++ rest) (sym (append_assoc (event_text m o) (10 ∷ []) (events_text m others)) ∙ e ∙ line_more (event_text m x) (events_text m events) rest) (event_printable m ops o (all_first (Fits m config) o others fits).1) (event_printable m ops x (all_first (Fits m config) x events fit).1) in
    lines_refuted m ops config set events others rest (all_others (Fits m config) x events fit) (all_others (Fits m config) o others fits) cut.1 some cause bad

same_config : (a b : Config) → a.replicas ≡ b.replicas → a.clients ≡ b.clients → a.delta ≡ b.delta → a ≡ b
same_config a b r c d = λ i. record { replicas = r i; clients = c i; delta = d i }

same_header : (a b : Header) → a.service ≡ b.service → a.config ≡ b.config → a ≡ b
same_header a b s c = λ i. record { service = s i; config = c i }

-- the first bytes of services' names tell them apart
apart : (a b : List ℕ) → a ≡ b → get_or a 0 0 ≢ get_or b 0 0 → ⊥
apart a b same other = other (ap (λ text. get_or text 0 0) same)

-- a service's name is one service's
service_one : (a b : Name) → service_text a ≡ service_text b → a ≡ b
service_one Tally Tally same = refl
service_one Mail Mail same = refl
service_one Claims Claims same = refl
service_one Tally Mail same = absurd (apart _ _ same (omega arith))
service_one Tally Claims same = absurd (apart _ _ same (omega arith))
service_one Mail Tally same = absurd (apart _ _ same (omega arith))
service_one Mail Claims same = absurd (apart _ _ same (omega arith))
service_one Claims Tally same = absurd (apart _ _ same (omega arith))
service_one Claims Mail same = absurd (apart _ _ same (omega arith))

config_fields : (config : Config) → IsSetUp config → IsConfigFields (config_text config) (decimal config.replicas) (decimal config.clients) (decimal config.delta)
config_fields config set = record {
  text = refl;
  replicas_field = number_spaceless config.replicas (omega arith);
  clients_field = number_spaceless config.clients (omega arith);
}

-- a header's line is one header's
pub header_one : (a b : Header) → IsSetUp a.config → IsSetUp b.config → header_text a ≡ header_text b → a ≡ b
header_one a b set other e =
    let behind : service_text a.service ++ 32 ∷ config_text a.config ≡ service_text b.service ++ 32 ∷ config_text b.config = ap (drop 10) e in
    let cut = field_one (service_text a.service) (service_text b.service) (config_text a.config) (config_text b.config) behind (service_spaceless a.service) (service_spaceless b.service) in
    let one = config_one (config_text a.config) (decimal a.config.replicas) (decimal a.config.clients) (decimal a.config.delta) b.config (config_fields a.config set) other cut.1 in
    same_header a b (service_one a.service b.service cut.0) (same_config a.config b.config
    (decimal_injective a.config.replicas b.config.replicas (omega arith) (omega arith) one.0)
    (decimal_injective a.config.clients b.config.clients (omega arith) (omega arith) one.1)
    (decimal_injective a.config.delta b.config.delta set.number other.number one.2))

-- bytes that begin with a header's line begin with no other's
pub head_one : (bytes : List ℕ) (a b : Header) (more rest : List ℕ) → IsSetUp a.config → IsSetUp b.config → bytes ≡ line_of (header_text a) ++ more → bytes ≡ line_of (header_text b) ++ rest → (a ≡ b) × (more ≡ rest)
head_one bytes a b more rest set other ea eb =
    let cut = printable_cut (header_text a) (header_text b) more rest (sym (append_assoc (header_text a) (10 ∷ []) more) ∙ sym ea ∙ eb ∙ append_assoc (header_text b) (10 ∷ []) rest) (header_printable a set) (header_printable b other) in
    (header_one a b set other cut.0, cut.1)

-- few enough bytes that begin with a header's line are not refused for want of one
pub head_refuted : (bytes : List ℕ) (header : Header) → HasHeader header bytes → length bytes ≤ most_script_bytes → (line : ℕ) (cause : Cause) → IsBadHead bytes line cause → ⊥
head_refuted bytes header has short line cause (too_long h) = omega arith
head_refuted bytes header has short line cause (empty e) = never_empty (header_text header) has.rest (sym e ∙ has.text ∙ append_assoc (header_text header) (10 ∷ []) has.rest)
head_refuted bytes header has short line cause (bad_head why few some bad) =
    no_line_refuted bytes (header_text header) has.rest why (has.text ∙ append_assoc (header_text header) (10 ∷ []) has.rest) (header_printable header has.valid) bad
head_refuted bytes header has short line cause (no_header text later few e printable none) =
    let cut = printable_cut text (header_text header) later has.rest (sym e ∙ has.text ∙ append_assoc (header_text header) (10 ∷ []) has.rest) printable (header_printable header has.valid) in
    none header has.valid cut.0

-- a script's bytes begin with its header's line
script_head : {Value Op : Type 0} (m : Meaning Value Op) (header : Header) (events : List (Event Op)) (bytes : List ℕ) → IsScript m header events bytes → HasHeader header bytes
script_head m header events bytes is = record { valid = is.valid; rest = events_text m events; text = is.text }

-- and so do those with a bad line behind a header's
pub at_head : {Value Op : Type 0} (m : Meaning Value Op) (bytes : List ℕ) (line : ℕ) (cause : Cause) → (at : IsBadAt m bytes line cause) → HasHeader at.header bytes
at_head m bytes line cause at = record { valid = at.valid; rest = at.lines; text = at.text }

at_refuted : {Value Op : Type 0} (m : Meaning Value Op) → ArePrintable m → (bytes : List ℕ) (header : Header) (events : List (Event Op)) → IsScript m header events bytes → (line : ℕ) (cause : Cause) → IsBadAt m bytes line cause → ⊥
at_refuted {Value} {Op} m ops bytes header events is line cause at =
    let one = head_one bytes at.header header at.lines (events_text m events) at.valid is.valid at.text is.text in
    let P : Header → Type 0 = λ it. All (Fits m it.config) events in
    let fits : All (Fits m at.header.config) events = subst P (sym one.0) is.fit in
    lines_refuted m ops at.header.config at.valid at.bad.events events at.bad.rest at.bad.fit fits (sym one.1 ∙ at.bad.text) at.bad.some cause at.bad.bad

-- bytes that are refused are no script
pub refuted : {Value Op : Type 0} (m : Meaning Value Op) → ArePrintable m → (bytes : List ℕ) (line : ℕ) (cause : Cause) → IsScriptFault m bytes (Line line cause) → IsNoScript m bytes
refuted m ops bytes line cause (inl bad) = λ header events is. head_refuted bytes header (script_head m header events bytes is) is.short line cause bad
refuted m ops bytes line cause (inr bad) = λ header events is. at_refuted m ops bytes header events is line cause bad

-- a script has the header that its bytes begin with
pub script_header : {Value Op : Type 0} (m : Meaning Value Op) (header other : Header) (events : List (Event Op)) (bytes : List ℕ) → IsScript m header events bytes → HasHeader other bytes → IsScript m other events bytes
script_header m header other events bytes is has =
    let one = head_one bytes header other (events_text m events) has.rest is.valid has.valid is.text has.text in
    let P : Header → Type 0 = λ it. IsScript m it events bytes in
    subst P one.0 is

-- what was read behind a header is a script with any header that the bytes begin with
pub script_read : {Value Op : Type 0} (m : Meaning Value Op) (bytes lines : List ℕ) (header other : Header) (result : Result (List (Event Op)) ScriptFault) → IsSetUp header.config → length bytes ≤ most_script_bytes → bytes ≡ line_of (header_text header) ++ lines → IfOk result (All (Fits m header.config)) → IfOk result (λ events. lines ≡ events_text m events) → HasHeader other bytes → IfOk result (λ events. IsScript m other events bytes)
script_read m bytes lines header other (Ok events) set short e fit text has =
    script_header m header other events bytes (record { valid = set; fit = fit; short = short; text = e ∙ ap (λ more. line_of (header_text header) ++ more) text }) has
script_read m bytes lines header other (Err fault) set short e fit text has = tt

-- and so they are the events of the bytes
pub events_read : {Value Op : Type 0} (m : Meaning Value Op) (bytes lines : List ℕ) (header : Header) (result : Result (List (Event Op)) ScriptFault) → IsSetUp header.config → length bytes ≤ most_script_bytes → bytes ≡ line_of (header_text header) ++ lines → IfOk result (All (Fits m header.config)) → IfOk result (λ events. lines ≡ events_text m events) → IfOk result (AreEventsOf m bytes)
events_read m bytes lines header (Ok events) set short e fit text = record {
  header = header;
  script = script_read m bytes lines header header (Ok events) set short e fit text (record { valid = set; rest = lines; text = e });
  same = λ other. script_read m bytes lines header other (Ok events) set short e fit text;
}
events_read m bytes lines header (Err fault) set short e fit text = tt

pub head_fault : {Value Op : Type 0} (m : Meaning Value Op) (bytes : List ℕ) (fault : ScriptFault) → IsHeadFault bytes fault → IsScriptFault m bytes fault
head_fault m bytes (Line line cause) h = inl h
head_fault m bytes NoMemory h = h

pub lines_fault : {Value Op : Type 0} (m : Meaning Value Op) (bytes lines : List ℕ) (header : Header) → IsSetUp header.config → length bytes ≤ most_script_bytes → bytes ≡ line_of (header_text header) ++ lines → (fault : ScriptFault) → IsLineFault m header.config lines fault → IsScriptFault m bytes fault
lines_fault m bytes lines header set short e (Line line cause) h = inr (record { header = header; lines = lines; text = e; valid = set; short = short; bad = h })
lines_fault m bytes lines header set short e NoMemory h = h
