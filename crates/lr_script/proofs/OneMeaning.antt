-- Bytes are the text of at most one header and list of events, and are refused at one line, for one cause.
use Rattle.std.proofs.Common.{◌≡◌, ◌≢◌, ℕ, suc, ◌+◌, ◌≤◌, ◌↔◌, ◌⊎◌, inl, inr, List, [], ◌∷◌, ◌++◌, length, append_assoc, Result, Ok, Err, refl, sym, ◌∙◌, ap, subst, arith}
use Rattle.std.specs.Prelude.{IfOk, IfErr}
use Rattle.std.specs.List.{All}
use Rattle.lr_base.specs.Limits.{most_script_bytes}
use Rattle.lr_base.specs.Meaning.{Meaning}
use Rattle.lr_base.specs.declared.events.Event.{Event}
use Rattle.lr_base.specs.declared.names.Config.{Config}
use Rattle.lr_script.specs.declared.refusals.Cause.{Cause}
use Rattle.lr_script.specs.declared.refusals.ScriptFault.{ScriptFault}
use Rattle.lr_script.specs.declared.refusals.ScriptFault.TheVariants.{Line, NoMemory}
use Rattle.lr_script.specs.declared.heading.Header.{Header}
use Rattle.lr_script.specs.Script.{EventFits, Fits, IsSetUp, IsScript, HasHeader, events_text}
use Rattle.lr_script.specs.Texts.{event_text}
use Rattle.lr_script.specs.Faults.{IsBadLine, IsBadHead, too_long, empty, bad_head, no_header, IsBadAt, IsHeadFault, IsScriptFault}
use Rattle.lr_script.proofs.LineCuts.{no_line_one, no_line_refuted, printable_cut}
use Rattle.lr_script.proofs.EventTexts.{HasOneText, event_cut}
use Rattle.lr_script.proofs.EventRefusals.{line_cause, line_refuted}
use Rattle.lr_script.proofs.ScriptRefusals.{all_first, all_others, at_head, head_one, head_refuted, line_more, never_empty, refuted}
use Rattle.lr_script.proofs.ShownTexts.{ArePrintable, event_printable}

-- the bytes don't begin with a header's line for one cause, which is at one line
head_fault_one : (bytes : List ℕ) (line at : ℕ) (a b : Cause) → IsBadHead bytes line a → IsBadHead bytes at b → (line ≡ at) × (a ≡ b)
head_fault_one bytes line at a b (too_long h) (too_long k) = (refl, refl)
head_fault_one bytes line at a b (too_long h) (empty e) = let none : length bytes ≡ 0 = ap length e in absurd (omega arith)
head_fault_one bytes line at a b (too_long h) (bad_head why short some bad) = absurd (omega arith)
head_fault_one bytes line at a b (too_long h) (no_header text later short e printable none) = absurd (omega arith)
head_fault_one bytes line at a b (empty e) (too_long h) = let none : length bytes ≡ 0 = ap length e in absurd (omega arith)
head_fault_one bytes line at a b (empty e) (empty is) = (refl, refl)
head_fault_one bytes line at a b (empty e) (bad_head why short some bad) = let none : length bytes ≡ 0 = ap length e in absurd (omega arith)
head_fault_one bytes line at a b (empty e) (no_header text later short is printable none) = (refl, refl)
head_fault_one bytes line at a b (bad_head why short some bad) (too_long h) = absurd (omega arith)
head_fault_one bytes line at a b (bad_head why short some bad) (empty e) = let none : length bytes ≡ 0 = ap length e in absurd (omega arith)
head_fault_one bytes line at a b (bad_head why short some bad) (bad_head cause few more worse) = (refl, no_line_one bytes why cause bad worse)
head_fault_one bytes line at a b (bad_head why short some bad) (no_header text later few e printable none) = absurd (no_line_refuted bytes text later why e printable bad)
head_fault_one bytes line at a b (no_header text later short e printable none) (too_long h) = absurd (omega arith)
head_fault_one bytes line at a b (no_header text later short e printable none) (empty is) = (refl, refl)
head_fault_one bytes line at a b (no_header text later short e printable none) (bad_head why few some bad) = absurd (no_line_refuted bytes text later why e printable bad)
head_fault_one bytes line at a b (no_header text later short e printable none) (no_header other more few is shown never) = (refl, refl)

module _ {Value Op : Type 0} (m : Meaning Value Op) (ops : ArePrintable m) where
  -- lines are those of at most one list of events
  lines_one : HasOneText m → (events others : List (Event Op)) → All (EventFits m) events → All (EventFits m) others → events_text m events ≡ events_text m others → events ≡ others
  lines_one texts [] [] fit fits e = refl
  lines_one texts [] (o ∷ others) fit fits e = absurd (never_empty (event_text m o) (events_text m others) (e ∙ append_assoc (event_text m o) (10 ∷ []) (events_text m others)))
  lines_one texts (x ∷ events) [] fit fits e = absurd (never_empty (event_text m x) (events_text m events) (sym e ∙ append_assoc (event_text m x) (10 ∷ []) (events_text m events)))
  lines_one texts (x ∷ events) (o ∷ others) fit fits e =
      let same = sym (append_assoc (event_text m x) (10 ∷ []) (events_text m events)) ∙ e ∙ append_assoc (event_text m o) (10 ∷ []) (events_text m others) in
      let cut = event_cut m texts ops x o (events_text m events) (events_text m others) (all_first (EventFits m) x events fit) (all_first (EventFits m) o others fits) same in
      let more = lines_one texts events others (all_others (EventFits m) x events fit) (all_others (EventFits m) o others fits) cut.1 in
      λ i. cut.0 i ∷ more i

  pub all_fit : (config : Config) (events : List (Event Op)) → All (Fits m config) events → All (EventFits m) events
  all_fit config events fit = λ k d below. (fit k d below).1

  -- bytes are at most one script
  pub script_one : HasOneText m → (bytes : List ℕ) (header other : Header) (events more : List (Event Op)) → IsScript m header events bytes → IsScript m other more bytes → (header ≡ other) × (events ≡ more)
  script_one texts bytes header other events more is too =
      let one = head_one bytes header other (events_text m events) (events_text m more) is.valid too.valid is.text too.text in
      (one.0, lines_one texts events more (all_fit header.config events is.fit) (all_fit other.config more too.fit) one.1)

  -- lines of events go on with a bad one in one way
  among_one : (config : Config) → IsSetUp config → (events others : List (Event Op)) (rest more : List ℕ) → All (Fits m config) events → All (Fits m config) others → events_text m events ++ rest ≡ events_text m others ++ more → (a b : Cause) → IsBadLine m config rest a → IsBadLine m config more b → (length events ≡ length others) × (a ≡ b)
  among_one config set [] [] rest more fit fits e a b bad worse = (refl, line_cause m config set rest a b bad (subst (λ (it : List ℕ). IsBadLine m config it b) (sym e) worse))
  among_one config set [] (o ∷ others) rest more fit fits e a b bad worse =
      absurd (line_refuted m config set ops o (all_first (Fits m config) o others fits) rest (events_text m others ++ more) (e ∙ line_more (event_text m o) (events_text m others) more) a bad)
  among_one config set (x ∷ events) [] rest more fit fits e a b bad worse =
      absurd (line_refuted m config set ops x (all_first (Fits m config) x events fit) more (events_text m events ++ rest) (sym e ∙ line_more (event_text m x) (events_text m events) rest) b worse)
  among_one config set (x ∷ events) (o ∷ others) rest more fit fits e a b bad worse =
      let here = all_first (Fits m config) x events fit in
      let there = all_first (Fits m config) o others fits in
      let same = sym (line_more (event_text m x) (events_text m events) rest) ∙ e ∙ line_more (event_text m o) (events_text m others) more in
      let cut = printable_cut (event_text m x) (event_text m o) (events_text m events ++ rest) (events_text m others ++ more) same (event_printable m ops x here.1) (event_printable m ops o there.1) in
      let one = among_one config set events others rest more (all_others (Fits m config) x events fit) (all_others (Fits m config) o others fits) cut.1 a b bad worse in
      (ap suc one.0, one.1)

  -- behind a header's line the first bad line is one, and so is its cause
  at_one : (bytes : List ℕ) (line at : ℕ) (a b : Cause) → IsBadAt m bytes line a → IsBadAt m bytes at b → (line ≡ at) × (a ≡ b)
  at_one bytes line at a b bad worse =
      let head = head_one bytes worse.header bad.header worse.lines bad.lines worse.valid bad.valid worse.text bad.text in
      let fits = subst (λ (it : Header). All (Fits m it.config) worse.bad.events) head.0 worse.bad.fit in
      let cause = subst (λ (it : Header). IsBadLine m it.config worse.bad.rest b) head.0 worse.bad.bad in
      let one = among_one bad.header.config bad.valid bad.bad.events worse.bad.events bad.bad.rest worse.bad.rest bad.bad.fit fits (sym bad.bad.text ∙ sym head.1 ∙ worse.bad.text) a b bad.bad.bad cause in
      (bad.bad.number ∙ ap (λ n. n + 2) one.0 ∙ sym worse.bad.number, one.1)

  -- bytes are refused at one line, for one cause
  pub fault_one : (bytes : List ℕ) (line at : ℕ) (a b : Cause) → IsScriptFault m bytes (Line line a) → IsScriptFault m bytes (Line at b) → (line ≡ at) × (a ≡ b)
  fault_one bytes line at a b (inl bad) (inl worse) = head_fault_one bytes line at a b bad worse
  fault_one bytes line at a b (inl bad) (inr worse) = absurd (head_refuted bytes worse.header (at_head m bytes at b worse) worse.short line a bad)
  fault_one bytes line at a b (inr bad) (inl worse) = absurd (head_refuted bytes bad.header (at_head m bytes line a bad) bad.short at b worse)
  fault_one bytes line at a b (inr bad) (inr worse) = at_one bytes line at a b bad worse

-- a header's fault is the one that the bytes have
pub head_fault_is : (bytes : List ℕ) (fault : ScriptFault) → IsHeadFault bytes fault → fault ≢ NoMemory → (line : ℕ) (cause : Cause) → IsBadHead bytes line cause → fault ≡ Line line cause
head_fault_is bytes (Line at why) h memory line cause bad = let one = head_fault_one bytes at line why cause h bad in λ i. Line (one.0 i) (one.1 i)
head_fault_is bytes NoMemory h memory line cause bad = absurd (memory refl)

-- what was read of a header, without memory
pub record HasReadHeader (bytes : List ℕ) (result : Result Header ScriptFault) : Type 0 where
  pub ok : IfOk result (λ header. HasHeader header bytes)
  pub short : IfOk result (λ header. length bytes ≤ most_script_bytes)
  pub err : IfErr result (IsHeadFault bytes)
  pub memory : result ≢ Err NoMemory

-- a header that was read is the only one that can be
pub header_exactly : (bytes : List ℕ) (result : Result Header ScriptFault) → HasReadHeader bytes result → (header : Header) → (result ≡ Ok header) ↔ (HasHeader header bytes × (length bytes ≤ most_script_bytes))
header_exactly bytes (Ok header) has other = (
  (λ e. let same : header ≡ other = cc in (subst (λ (it : Header). HasHeader it bytes) same has.ok, has.short)),
  (λ is. ap Ok (head_one bytes header other has.ok.rest is.0.rest has.ok.valid is.0.valid has.ok.text is.0.text).0),
)
header_exactly bytes (Err (Line line cause)) has other = ((λ e. absurd (cc)), (λ is. absurd (head_refuted bytes other is.0 is.1 line cause has.err)))
header_exactly bytes (Err NoMemory) has other = absurd (has.memory refl)

-- and so is a fault
pub head_fault_exactly : (bytes : List ℕ) (result : Result Header ScriptFault) → HasReadHeader bytes result → (line : ℕ) (cause : Cause) → (result ≡ Err (Line line cause)) ↔ IsBadHead bytes line cause
head_fault_exactly bytes (Ok header) has line cause = ((λ e. absurd (cc)), (λ bad. absurd (head_refuted bytes header has.ok has.short line cause bad)))
head_fault_exactly bytes (Err (Line at why)) has line cause = (
  (λ e. let here : at ≡ line = cc in let same : why ≡ cause = cc in subst (λ (it : ℕ). IsBadHead bytes it cause) here (subst (λ (it : Cause). IsBadHead bytes at it) same has.err)),
  (λ bad. ap Err (head_fault_is bytes (Line at why) has.err (λ e. has.memory (ap Err e)) line cause bad)),
)
head_fault_exactly bytes (Err NoMemory) has line cause = absurd (has.memory refl)

module _ {Value Op : Type 0} (m : Meaning Value Op) (ops : ArePrintable m) (bytes : List ℕ) where
  -- what was read of a script is what it says
  pub script_exactly : HasOneText m → (result : Result (List (Event Op)) ScriptFault) → IfOk result (λ events. (header : Header) × IsScript m header events bytes) → IfErr result (IsScriptFault m bytes) → (header : Header) (events : List (Event Op)) → IsScript m header events bytes → (result ≡ Ok events) ⊎ (result ≡ Err NoMemory)
  script_exactly texts (Ok read) ok err header events is = inl (ap Ok (script_one m ops texts bytes ok.0 header read events ok.1 is).1)
  script_exactly texts (Err (Line line cause)) ok err header events is = absurd (refuted m ops bytes line cause err header events is)
  script_exactly texts (Err NoMemory) ok err header events is = inr refl

  -- and a fault is the one that the bytes have
  pub fault_exactly : (result : Result (List (Event Op)) ScriptFault) → IfOk result (λ events. (header : Header) × IsScript m header events bytes) → IfErr result (IsScriptFault m bytes) → (line : ℕ) (cause : Cause) → IsScriptFault m bytes (Line line cause) → (result ≡ Err (Line line cause)) ⊎ (result ≡ Err NoMemory)
  fault_exactly (Ok read) ok err line cause bad = absurd (refuted m ops bytes line cause bad ok.0 read ok.1)
  fault_exactly (Err (Line at why)) ok err line cause bad = let one = fault_one m ops bytes at line why cause err bad in inl (λ i. Err (Line (one.0 i) (one.1 i)))
  fault_exactly (Err NoMemory) ok err line cause bad = inr refl
