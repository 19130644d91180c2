-- How the text of a history grows.
-- A fact with its proof: one more step's lines stand behind those of the steps before it (`steps_text-more`).
use Rattle.std.specs.Prelude.{◌≡◌, ℕ, ◌+◌, List, [], ◌∷◌, ◌++◌, length}
use Rattle.std.proofs.Common.{sym, ◌∙◌, ap, append-nil, append_assoc, arith}
use Rattle.lr_base.specs.Meaning.{Meaning}
use Rattle.lr_base.specs.declared.events.Step.{Step}
use Rattle.lr_base.specs.declared.names.Config.{Config}
use Rattle.lr_report.specs.Printed.{step_text, steps_text}

-- one more step's lines stand behind those of the steps before it
pub steps_text-more : {Value Op : Type 0} (m : Meaning Value Op) (config : Config) (number : ℕ)
    (steps : List (Step Op)) (step : Step Op)
    → steps_text m config number (steps ++ step ∷ [])
    ≡ steps_text m config number steps ++ step_text m config (number + length steps) step
steps_text-more m config number [] step =
    let same : number + 0 ≡ number = omega arith in
    rw same (append-nil (step_text m config number step))
steps_text-more m config number (first ∷ steps) step =
    let same : (number + 1) + length steps ≡ number + length (first ∷ steps) = omega arith in
    let head = step_text m config number first in
    let more = steps_text m config (number + 1) steps in
    ap (λ text. head ++ text) (steps_text-more m config (number + 1) steps step)
    ∙ ap (λ at. head ++ (more ++ step_text m config at step)) same
    ∙ sym (append_assoc head more _)
