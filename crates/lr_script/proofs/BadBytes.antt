-- A line is refused for a bad byte just where it has an end and a byte that isn't printable.
use Rattle.std.proofs.Common.{◌≡◌, ℕ, suc, ◌+◌, ◌≤◌, ◌↔◌, inl, inr, Bool, true, false, not, ◌&&◌, ◌||◌, eqb, leb, ltb, List, [], ◌∷◌, ◌++◌, length, append_assoc, refl, sym, ◌∙◌, ap, subst, arith}
use Rattle.std.specs.List.{All, list_any}
use Rattle.std.proofs.lemmas.Bool.Decides.{nat_tests}
use Rattle.std.proofs.lemmas.List.{length-append}
use Rattle.std.proofs.lemmas.List.Folds.{list_any-append}
use Rattle.lr_base.specs.Limits.{most_script_bytes}
use Rattle.lr_base.specs.Meaning.{Meaning, is_printable}
use Rattle.lr_base.specs.declared.events.Event.{Event}
use Rattle.lr_base.specs.declared.names.Config.{Config}
use Rattle.lr_script.specs.Faults.{BeginsUnprintable, HasBadByte, IsBadHead, IsBadLine, IsNoLine, IsScriptFault, bad_head, empty, no_header, no_line, too_long}
use Rattle.lr_script.specs.Script.{EventFits, Fits, IsSetUp, events_text, line_of, script_text}
use Rattle.lr_script.specs.Texts.{event_text, header_text}
use Rattle.lr_script.specs.declared.heading.Header.{Header}
use Rattle.lr_script.specs.declared.refusals.Cause.{Cause}
use Rattle.lr_script.specs.declared.refusals.Cause.TheVariants.{Byte}
use Rattle.lr_script.specs.declared.refusals.ScriptFault.TheVariants.{Line}
use Rattle.lr_script.proofs.EventRefusals.{line_of_event}
use Rattle.lr_script.proofs.LineCuts.{fed_behind, or_true, printable_cut}
use Rattle.lr_script.proofs.OneMeaning.{all_fit}
use Rattle.lr_script.proofs.Printables.{unended_around}
use Rattle.lr_script.proofs.ScriptRefusals.{all_first, all_others, head_one, line_more}
use Rattle.lr_script.proofs.ShownTexts.{ArePrintable, event_printable}

-- tests that fail together, and one that fails
or_first : (a b : Bool) → (a || b) ≡ false → a ≡ false
or_first true b h = h
or_first false b h = refl

or_second : (a b : Bool) → (a || b) ≡ false → b ≡ false
or_second true b h = cc
or_second false b h = h

fails : (b : Bool) → (b ≡ true → ⊥) → b ≡ false
fails true h = absurd (h refl)
fails false h = refl

-- a byte is outside just where it isn't printable
outside_is : (byte : ℕ) → (ltb byte 32 || ltb 126 byte) ≡ not (leb 32 byte && leb byte 126)
outside_is byte = grind (arith, nat_tests)

opposite_step : (a b c d : Bool) → c ≡ not a → d ≡ not b → (c || d) ≡ not (a && b)
opposite_step true b c d hc hd = rw hc hd
opposite_step false b c d hc hd = rw hc refl

any_outside : (line : List ℕ) → list_any (λ byte. ltb byte 32 || ltb 126 byte) line ≡ not (is_printable line)
any_outside [] = refl
any_outside (x ∷ line) = opposite_step (leb 32 x && leb x 126) (is_printable line) (ltb x 32 || ltb 126 x) (list_any (λ byte. ltb byte 32 || ltb 126 byte) line) (outside_is x) (any_outside line)

not_true : (b : Bool) → not b ≡ true → b ≡ false
not_true true h = sym h
not_true false h = refl

-- the first bad byte of a line that has one
bad_behind : (x : ℕ) (bytes : List ℕ) → (leb 32 x && leb x 126) ≡ true → HasBadByte bytes → HasBadByte (x ∷ bytes)
bad_behind x bytes on h = record {
  before = x ∷ h.before;
  byte = h.byte;
  later = h.later;
  text = ap (λ xs. x ∷ xs) h.text;
  printable = rw on h.printable;
  bad = h.bad;
  other = h.other;
  ended = h.ended;
}

alone : (b : Bool) → b ≡ false → (b && true) ≡ false
alone b h = rw h refl

feed_not : (x : ℕ) → eqb x 10 ≡ false → x ≡ 10 → ⊥
feed_not x h e = grind (arith, nat_tests)

bad_here : (x : ℕ) (line rest : List ℕ) → (leb 32 x && leb x 126) ≡ false → eqb x 10 ≡ false → HasBadByte (x ∷ (line ++ 10 ∷ rest))
bad_here x line rest off other = record {
  before = [];
  byte = x;
  later = line ++ 10 ∷ rest;
  text = refl;
  printable = refl;
  bad = alone (leb 32 x && leb x 126) off;
  other = feed_not x other;
  ended = fed_behind line (10 ∷ rest) refl;
}

bad_step : (b : Bool) (x : ℕ) (line rest : List ℕ) → (leb 32 x && leb x 126) ≡ b → eqb x 10 ≡ false → (is_printable line ≡ false → HasBadByte (line ++ 10 ∷ rest)) → (b && is_printable line) ≡ false → HasBadByte (x ∷ (line ++ 10 ∷ rest))
bad_step true x line rest is other more bad = bad_behind x (line ++ 10 ∷ rest) is (more bad)
bad_step false x line rest is other more bad = bad_here x line rest is other

bad_in : (line rest : List ℕ) → list_any (λ byte. eqb byte 10) line ≡ false → is_printable line ≡ false → HasBadByte (line ++ 10 ∷ rest)
bad_in [] rest unfed bad = absurd (cc)
bad_in (x ∷ line) rest unfed bad =
    bad_step (leb 32 x && leb x 126) x line rest refl (or_first (eqb x 10) (list_any (λ byte. eqb byte 10) line) unfed)
    (bad_in line rest (or_second (eqb x 10) (list_any (λ byte. eqb byte 10) line) unfed)) bad

-- bytes with a line feed, cut at the first one
pub record IsFed (bytes : List ℕ) : Type 0 where
  pub line : List ℕ
  pub rest : List ℕ
  pub text : bytes ≡ line ++ 10 ∷ rest
  pub unfed : list_any (λ byte. eqb byte 10) line ≡ false

is_feed : (x : ℕ) → eqb x 10 ≡ true → x ≡ 10
is_feed x h = grind (arith, nat_tests)

fed_step : (b : Bool) (x : ℕ) (bytes : List ℕ) → eqb x 10 ≡ b → (list_any (λ byte. eqb byte 10) bytes ≡ true → IsFed bytes) → (b || list_any (λ byte. eqb byte 10) bytes) ≡ true → IsFed (x ∷ bytes)
fed_step true x bytes is more h = record { line = []; rest = bytes; text = ap (λ byte. byte ∷ bytes) (is_feed x is); unfed = refl }
fed_step false x bytes is more h = let cut = more h in record { line = x ∷ cut.line; rest = cut.rest; text = ap (λ xs. x ∷ xs) cut.text; unfed = rw is cut.unfed }

fed : (bytes : List ℕ) → list_any (λ byte. eqb byte 10) bytes ≡ true → IsFed bytes
fed [] h = absurd (cc)
fed (x ∷ bytes) h = fed_step (eqb x 10) x bytes refl (fed bytes) h

any_here : (b r : Bool) → b ≡ true → (b || r) ≡ true
any_here b r h = rw h refl

outside_alone : (byte : ℕ) → is_printable (byte ∷ []) ≡ false → (ltb byte 32 || ltb 126 byte) ≡ true
outside_alone byte h = sym (any_alone (ltb byte 32 || ltb 126 byte)) ∙ any_outside (byte ∷ []) ∙ ap not h
  where
    any_alone : (b : Bool) → (b || false) ≡ b
    any_alone true = refl
    any_alone false = refl

-- the first bad byte is one of a line that has an end, and the other way round
pub bad_byte_is : (bytes : List ℕ) → HasBadByte bytes ↔ BeginsUnprintable bytes
bad_byte_is bytes = (begins, has)
  where
    begins : HasBadByte bytes → BeginsUnprintable bytes
    begins h =
        let cut = fed h.later h.ended in
        let line = h.before ++ h.byte ∷ cut.line in
        let unfed = unended_around line h.before cut.line h.byte refl h.printable h.other cut.unfed in
        let out : ℕ → Bool = λ byte. ltb byte 32 || ltb 126 byte in
        record {
          line = line;
          rest = cut.rest;
          text = h.text ∙ ap (λ xs. h.before ++ h.byte ∷ xs) cut.text ∙ sym (append_assoc h.before (h.byte ∷ cut.line) (10 ∷ cut.rest)) ∙ sym (append_assoc line (10 ∷ []) cut.rest);
          first = λ ended. let bad : true ≡ false = sym ended ∙ unfed in cc;
          bad = list_any-append out h.before (h.byte ∷ cut.line) ∙ or_true (list_any out h.before) (list_any out (h.byte ∷ cut.line)) (any_here (out h.byte) (list_any out cut.line) (outside_alone h.byte h.bad));
        }

    has : BeginsUnprintable bytes → HasBadByte bytes
    has h =
        let at : bytes ≡ h.line ++ 10 ∷ h.rest = h.text ∙ append_assoc h.line (10 ∷ []) h.rest in
        subst HasBadByte (sym at) (bad_in h.line h.rest (fails (list_any (λ byte. eqb byte 10) h.line) h.first) (not_true (is_printable h.line) (sym (any_outside h.line) ∙ h.bad)))

-- bytes with a bad byte are some
some : (bytes before later : List ℕ) (byte : ℕ) → bytes ≡ before ++ byte ∷ later → 1 ≤ length bytes
some bytes before later byte e =
    let long : length bytes ≡ length before + suc (length later) = ap length e ∙ length-append before (byte ∷ later) in
    omega arith

some_bad : (bytes : List ℕ) → HasBadByte bytes → 1 ≤ length bytes
some_bad bytes h = some bytes h.before h.later h.byte h.text

-- a header's fault is at line 0 or 1
head_first : (bytes : List ℕ) (line : ℕ) (cause : Cause) → IsBadHead bytes line cause → line ≤ 1
head_first bytes line cause (too_long h) = omega arith
head_first bytes line cause (empty e) = omega arith
head_first bytes line cause (bad_head why short some bad) = omega arith
head_first bytes line cause (no_header text later short e printable none) = omega arith

head_byte : (bytes : List ℕ) (line : ℕ) (cause : Cause) → cause ≡ Byte → IsBadHead bytes line cause → HasBadByte bytes
head_byte bytes line cause is (too_long h) = absurd (cc)
head_byte bytes line cause is (empty e) = absurd (cc)
head_byte bytes line cause is (bad_head why short some bad) = subst (λ (c : Cause). IsNoLine bytes c) is bad
head_byte bytes line cause is (no_header text later short e printable none) = absurd (cc)

module _ {Value Op : Type 0} (m : Meaning Value Op) where
  -- no printable line has a bad byte
  line_byte : (config : Config) → IsSetUp config → (bytes : List ℕ) → IsBadLine m config bytes Byte → HasBadByte bytes
  line_byte config set bytes bad = elim (line_of_event m config set bytes Byte bad) [ inl none ↦ none | inr other ↦ absurd other ]

  -- what stands behind as many lines of events is one
  rest_one : ArePrintable m → (events others : List (Event Op)) (rest more : List ℕ) → All (EventFits m) events → All (EventFits m) others → length events ≡ length others → events_text m events ++ rest ≡ events_text m others ++ more → rest ≡ more
  rest_one ops [] [] rest more fit fits n e = e
  rest_one ops [] (o ∷ others) rest more fit fits n e = absurd (omega arith)
  rest_one ops (x ∷ events) [] rest more fit fits n e = absurd (omega arith)
  rest_one ops (x ∷ events) (o ∷ others) rest more fit fits n e =
      let same = sym (line_more (event_text m x) (events_text m events) rest) ∙ e ∙ line_more (event_text m o) (events_text m others) more in
      let cut = printable_cut (event_text m x) (event_text m o) (events_text m events ++ rest) (events_text m others ++ more) same (event_printable m ops x (all_first (EventFits m) x events fit)) (event_printable m ops o (all_first (EventFits m) o others fits)) in
      rest_one ops events others rest more (all_others (EventFits m) x events fit) (all_others (EventFits m) o others fits) (omega arith) cut.1

  pub first_byte : (bytes : List ℕ) → length bytes ≤ most_script_bytes → IsScriptFault m bytes (Line 1 Byte) ↔ BeginsUnprintable bytes
  first_byte bytes short = (begins, refused)
    where
      begins : IsScriptFault m bytes (Line 1 Byte) → BeginsUnprintable bytes
      begins (inl bad) = (bad_byte_is bytes).0 (head_byte bytes 1 Byte refl bad)
      begins (inr bad) = let number = bad.bad.number in absurd (omega arith)

      refused : BeginsUnprintable bytes → IsScriptFault m bytes (Line 1 Byte)
      refused h = let bad = (bad_byte_is bytes).1 h in inl (bad_head Byte short (some_bad bytes bad) bad)

  pub later_byte : ArePrintable m → (header : Header) (events : List (Event Op)) (rest : List ℕ) → IsSetUp header.config → All (Fits m header.config) events → length (script_text m header events ++ rest) ≤ most_script_bytes → IsScriptFault m (script_text m header events ++ rest) (Line (length events + 2) Byte) ↔ BeginsUnprintable rest
  later_byte ops header events rest set fit short = (begins, refused)
    where
      bytes : List ℕ
      bytes = script_text m header events ++ rest

      text : bytes ≡ line_of (header_text header) ++ (events_text m events ++ rest)
      text = append_assoc (line_of (header_text header)) (events_text m events) rest

      begins : IsScriptFault m bytes (Line (length events + 2) Byte) → BeginsUnprintable rest
      begins (inl bad) = let first = head_first bytes (length events + 2) Byte bad in absurd (omega arith)
      begins (inr bad) =
          let head = head_one bytes bad.header header bad.lines (events_text m events ++ rest) bad.valid set bad.text text in
          let number = bad.bad.number in
          let same = rest_one ops bad.bad.events events bad.bad.rest rest (all_fit m ops bad.header.config bad.bad.events bad.bad.fit) (all_fit m ops header.config events fit) (omega arith) (sym bad.bad.text ∙ head.1) in
          (bad_byte_is rest).0 (subst HasBadByte same (line_byte bad.header.config bad.valid bad.bad.rest bad.bad.bad))

      refused : BeginsUnprintable rest → IsScriptFault m bytes (Line (length events + 2) Byte)
      refused h =
          let bad = (bad_byte_is rest).1 h in
          inr (record {
            header = header;
            lines = events_text m events ++ rest;
            text = text;
            valid = set;
            short = short;
            bad = record {
              events = events;
              rest = rest;
              text = refl;
              fit = fit;
              some = some_bad rest bad;
              number = refl;
              bad = no_line Byte bad;
            };
          })
