-- A history is told apart by its text.
use Rattle.std.proofs.Common.{◌≡◌, ℕ, ◌+◌, Bool, true, false, eqb, List, [], ◌∷◌, ◌++◌, get_or, drop, codes, refl, sym, ◌∙◌, ap, arith, append_assoc}
use Rattle.std.specs.Fmt.{decimal}
use Rattle.std.specs.List.{All, flat_map, list_all}
use Rattle.std.proofs.lemmas.Bool.Decides.{nat_tests}
use Rattle.std.proofs.lemmas.List.{append_cancel_left}
use Rattle.std.proofs.lemmas.List.Elements.{All-head, All-tail}
use Rattle.lr_base.specs.Meaning.{Meaning}
use Rattle.lr_base.specs.declared.events.Event.{Event}
use Rattle.lr_base.specs.declared.events.Outcome.{Outcome}
use Rattle.lr_base.specs.declared.events.Step.{Step}
use Rattle.lr_base.specs.declared.names.Config.{Config}
use Rattle.lr_report.specs.Printed.{outcome_text, outcome_line, steps_text, printed}
use Rattle.lr_script.specs.Script.{EventFits, line_of}
use Rattle.lr_graph.specs.Fitting.{OutcomeFits}
use Rattle.lr_report.specs.Tellable.{IsTellable}
use Rattle.lr_script.specs.Texts.{event_text, header_text}
use Rattle.lr_script.specs.declared.heading.Header.{Header}
use Rattle.lr_script.specs.CutLaws.{all_head}
use Rattle.lr_report.proofs.DigitsApart.{is_digit, decimal_digits}
use Rattle.lr_report.proofs.FieldsApart.{TellsLine}
use Rattle.lr_report.proofs.OutcomesApart.{outcome_apart}

-- a line before other lines
line_first : {A : Type 0} (Fits : A → Type 0) (text : A → List ℕ) → TellsLine Fits text → (a b : A) (s t z w : List ℕ) → Fits a → Fits b → (line_of (text a) ++ s) ++ z ≡ (line_of (text b) ++ t) ++ w → (a ≡ b) × (s ++ z ≡ t ++ w)
line_first Fits text tells a b s t z w fa fb same =
    tells a b (s ++ z) (t ++ w) fa fb (sym (regrouped (text a) s z) ∙ same ∙ regrouped (text b) t w)
  where
    regrouped : (line s z : List ℕ) → (line_of line ++ s) ++ z ≡ line ++ 10 ∷ (s ++ z)
    regrouped line s z = append_assoc (line_of line) s z ∙ append_assoc line (10 ∷ []) (s ++ z)

-- the text begins with a space
abbrev starts_with_space : List ℕ → Bool
starts_with_space text = eqb (get_or text 0 0) 32

-- the lines of what an event did end where no space follows
outcomes_apart : (replicas : ℕ) (rows others : List Outcome) (x y : List ℕ) → All OutcomeFits rows → All OutcomeFits others → starts_with_space x ≡ false → starts_with_space y ≡ false → flat_map (outcome_line replicas) rows ++ x ≡ flat_map (outcome_line replicas) others ++ y → (rows ≡ others) × (x ≡ y)
outcomes_apart replicas [] [] x y fa fb hx hy same = (refl, same)
outcomes_apart replicas [] (b ∷ others) x y fa fb hx hy same =
    let bad : false ≡ true = sym hx ∙ ap starts_with_space same in
    absurd (cc)
outcomes_apart replicas (a ∷ rows) [] x y fa fb hx hy same =
    let bad : true ≡ false = ap starts_with_space same ∙ hy in
    absurd (cc)
outcomes_apart replicas (a ∷ rows) (b ∷ others) x y fa fb hx hy same =
    let first = line_first OutcomeFits (outcome_text replicas) (outcome_apart replicas) a b _ _ _ _ (All-head OutcomeFits a rows fa) (All-head OutcomeFits b others fb) (ap (drop 2) same) in
    let more = outcomes_apart replicas rows others x y (All-tail OutcomeFits a rows fa) (All-tail OutcomeFits b others fb) hx hy first.1 in
    (λ i. first.0 i ∷ more.0 i, more.1)

-- what begins with digits and a colon does not begin with a space
colon_first : (front rest : List ℕ) → list_all is_digit front ≡ true → starts_with_space (front ++ 58 ∷ rest) ≡ false
colon_first [] rest digits = refl
colon_first (x ∷ front) rest digits =
    let digit : is_digit x ≡ true = all_head (is_digit x) (list_all is_digit front) digits in
    grind (arith, nat_tests)

-- and is not empty
never_empty : (front rest : List ℕ) → [] ≡ front ++ 58 ∷ rest → ⊥
never_empty [] rest same = cc
never_empty (x ∷ front) rest same = cc

-- events are told apart by their lines, before other lines
abbrev pub TellsEvents : {Value Op : Type 0} → Meaning Value Op → Type 0
TellsEvents {Value} {Op} m = (a b : Event Op) (x y : List ℕ) → EventFits m a → EventFits m b → line_of (event_text m a) ++ x ≡ line_of (event_text m b) ++ y → (a ≡ b) × (x ≡ y)

module _ {Value Op : Type 0} (m : Meaning Value Op) (tells : TellsEvents m) where
  -- what stands behind the number of the first of several steps
  behind : (config : Config) (number : ℕ) (step : Step Op) (steps : List (Step Op)) → List ℕ
  behind config number step steps = codes ": " ++ ((line_of (event_text m step.event) ++ flat_map (outcome_line config.replicas) step.outcomes) ++ steps_text m config (number + 1) steps)

  number_and_behind : (config : Config) (number : ℕ) (step : Step Op) (steps : List (Step Op)) → steps_text m config number (step ∷ steps) ≡ decimal number ++ behind config number step steps
  unfolding behind
  number_and_behind config number step steps =
      ap (λ (text : List ℕ). text ++ steps_text m config (number + 1) steps) (append_assoc (decimal number) (codes ": " ++ line_of (event_text m step.event)) (flat_map (outcome_line config.replicas) step.outcomes))
      ∙ append_assoc (decimal number) _ (steps_text m config (number + 1) steps)

  no_space : (config : Config) (number : ℕ) (steps : List (Step Op)) → starts_with_space (steps_text m config number steps) ≡ false
  unfolding behind
  no_space config number [] = refl
  no_space config number (step ∷ steps) = ap starts_with_space (number_and_behind config number step steps) ∙ colon_first (decimal number) _ (decimal_digits number)

  -- steps
  steps_apart : (config : Config) (number : ℕ) (steps others : List (Step Op)) → All (IsTellable m) steps → All (IsTellable m) others → steps_text m config number steps ≡ steps_text m config number others → steps ≡ others
  unfolding behind
  steps_apart config number [] [] fa fb same = refl
  steps_apart config number [] (b ∷ others) fa fb same = absurd (never_empty (decimal number) _ (same ∙ number_and_behind config number b others))
  steps_apart config number (a ∷ steps) [] fa fb same = absurd (never_empty (decimal number) _ (sym same ∙ number_and_behind config number a steps))
  steps_apart config number (a ∷ steps) (b ∷ others) fa fb same =
      let here = All-head (IsTellable m) a steps fa in
      let there = All-head (IsTellable m) b others fb in
      let bodies = append_cancel_left (decimal number) (behind config number a steps) (behind config number b others) (sym (number_and_behind config number a steps) ∙ same ∙ number_and_behind config number b others) in
      let first = tells a.event b.event _ _ here.0 there.0 (sym (append_assoc (line_of (event_text m a.event)) _ _) ∙ ap (drop 2) bodies ∙ append_assoc (line_of (event_text m b.event)) _ _) in
      let second = outcomes_apart config.replicas a.outcomes b.outcomes _ _ here.1 there.1 (no_space config (number + 1) steps) (no_space config (number + 1) others) first.1 in
      let more = steps_apart config (number + 1) steps others (All-tail (IsTellable m) a steps fa) (All-tail (IsTellable m) b others fb) second.1 in
      λ i. record { event = first.0 i; outcomes = second.0 i } ∷ more i

  -- histories
  pub histories_apart : (header : Header) (a b : List (Step Op)) → All (IsTellable m) a → All (IsTellable m) b → printed m header a ≡ printed m header b → a ≡ b
  histories_apart header a b fa fb same = steps_apart header.config 1 a b fa fb (append_cancel_left (line_of (header_text header)) (steps_text m header.config 1 a) (steps_text m header.config 1 b) same)
