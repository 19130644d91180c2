-- Which bytes are too long, and what a refusal says of them.
use Rattle.std.proofs.Common.{◌≡◌, ◌<◌, ◌≤◌, ◌↔◌, ◌⊎◌, inl, inr, ℕ, List, ◌++◌, length, Result, Ok, Err, refl, ap, subst, arith}
use Rattle.std.specs.Prelude.{IfErr}
use Rattle.lr_base.specs.Limits.{most_script_bytes}
use Rattle.lr_base.specs.Meaning.{Meaning}
use Rattle.lr_base.specs.declared.names.Config.{Config}
use Rattle.lr_script.specs.Faults.{IsBadAt, IsBadHead, IsBadLine, IsHeadFault, IsLineFault, IsNoLine, IsRefusal, IsRefused, IsScriptFault, bad_head, empty, no_header, too_long}
use Rattle.lr_script.specs.declared.refusals.Cause.{Cause}
use Rattle.lr_script.specs.declared.refusals.Cause.TheVariants.{Header as NoHeader, TooLong}
use Rattle.lr_script.specs.declared.refusals.ScriptFault.{ScriptFault}
use Rattle.lr_script.specs.declared.refusals.ScriptFault.TheVariants.{Line, NoMemory}
use Rattle.lr_script.specs.declared.heading.Header.{Header}
use Rattle.lr_script.specs.Script.{IsSetUp, line_of}
use Rattle.lr_script.specs.Texts.{header_text}
use Rattle.lr_script.proofs.EventRefusals.{line_of_event}
use Rattle.lr_script.proofs.ScriptRefusals.{head_fault, lines_fault, refuted}
use Rattle.lr_script.proofs.ShownTexts.{ArePrintable}

module _ {Value Op : Type 0} (m : Meaning Value Op) where
  -- no line is too long
  line_fits : (config : Config) → IsSetUp config → (bytes : List ℕ) → IsBadLine m config bytes TooLong → ⊥
  line_fits config set bytes bad = elim (line_of_event m config set bytes TooLong bad) [ inl none ↦ none | inr other ↦ other ]

  head_long : (bytes : List ℕ) (line : ℕ) (cause : Cause) → IsBadHead bytes line cause → (cause ≡ TooLong) ↔ (most_script_bytes < length bytes)
  head_long bytes line cause (too_long h) = ((λ e. h), (λ l. refl))
  head_long bytes line cause (empty e) = ((λ same. absurd (header_other same)), (λ l. let none : length bytes ≡ 0 = ap length e in absurd (omega arith)))
    where
      header_other : ◌≡◌ {A = Cause} NoHeader TooLong → ⊥
      header_other e = cc
  head_long bytes line cause (bad_head why short some bad) = ((λ is. absurd (subst (λ (c : Cause). IsNoLine bytes c) is bad)), (λ l. absurd (omega arith)))
  head_long bytes line cause (no_header text later short e printable none) = ((λ same. absurd (header_other same)), (λ l. absurd (omega arith)))
    where
      header_other : ◌≡◌ {A = Cause} NoHeader TooLong → ⊥
      header_other e = cc

  at_short : (bytes : List ℕ) (line : ℕ) (cause : Cause) → IsBadAt m bytes line cause → (cause ≡ TooLong) ↔ (most_script_bytes < length bytes)
  at_short bytes line cause at = ((λ is. absurd (line_fits at.header.config at.valid at.bad.rest (subst (λ (c : Cause). IsBadLine m at.header.config at.bad.rest c) is at.bad.bad))), (λ l. let short = at.short in absurd (omega arith)))

  -- a fault at a line is a refusal
  pub refusal : ArePrintable m → (bytes : List ℕ) (line : ℕ) (cause : Cause) → IsScriptFault m bytes (Line line cause) → IsRefusal m bytes line cause
  refusal ops bytes line cause fault = record { meaningless = refuted m ops bytes line cause fault; fault = fault; long = long fault }
    where
      long : IsBadHead bytes line cause ⊎ IsBadAt m bytes line cause → (cause ≡ TooLong) ↔ (most_script_bytes < length bytes)
      long (inl bad) = head_long bytes line cause bad
      long (inr bad) = at_short bytes line cause bad

  refused : ArePrintable m → (bytes : List ℕ) (fault : ScriptFault) → IsScriptFault m bytes fault → IsRefused m bytes fault
  refused ops bytes (Line line cause) fault = refusal ops bytes line cause fault
  refused ops bytes NoMemory fault = tt

  -- a header that was not read refuses the bytes, whatever the service is
  pub head_refused : ArePrintable m → (bytes : List ℕ) (fault : ScriptFault) → IsHeadFault bytes fault → IsRefused m bytes fault
  head_refused ops bytes fault h = refused ops bytes fault (head_fault m bytes fault h)

  -- and so does a line behind a header
  pub lines_refused : ArePrintable m → (bytes lines : List ℕ) (header : Header) → IsSetUp header.config → length bytes ≤ most_script_bytes → bytes ≡ line_of (header_text header) ++ lines → {T : Type 0} (result : Result T ScriptFault) → IfErr result (IsLineFault m header.config lines) → IfErr result (IsRefused m bytes)
  lines_refused ops bytes lines header set short e (Ok value) h = h
  lines_refused ops bytes lines header set short e (Err fault) h = refused ops bytes fault (lines_fault m bytes lines header set short e fault h)
