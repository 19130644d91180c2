-- What a world keeps of its history: it was made by the rules, and so it is legal.
use Rattle.std.proofs.Common.{◌≡◌, ◌++◌, ◌∷◌, ◌∙◌, [], List, length, sym, ap, subst}
use Rattle.std.proofs.Math.Logic.{∥∥₁_elim, ∥∥₁_map}
use Rattle.lr_base.specs.Meaning.{Meaning}
use Rattle.lr_base.specs.declared.events.Event.{Event}
use Rattle.lr_base.specs.declared.events.Outcome.{Outcome}
use Rattle.lr_base.specs.declared.events.Step.{Step}
use Rattle.lr_base.specs.declared.names.Config.{Config}
use Rattle.std.specs.Coded.{Coded-set, coded_ℕ}
use Rattle.lr_graph.specs.Central.{IsCentral, facts_after}
use Rattle.lr_graph.specs.Graph.{first_facts}
use Rattle.lr_graph.specs.Legal.{IsLegal}
use Rattle.lr_graph.specs.LegalFact.{IsLegal-prop}
use Rattle.lr_graph.specs.Made.{IsMade, made_step}
use Rattle.lr_graph.specs.Runs.{RunState, stepped}
use Rattle.lr_base.specs.Events.{IsEventOf}

module _ {Value Op : Type 0} (m : Meaning Value Op) (config : Config) where
  -- a history that was made in some way is legal
  pub legal-of : ((config : Config) (steps : List (Step Op)) (run : RunState Value Op) → IsMade m config steps run → IsLegal m config steps) → (steps : List (Step Op)) (run : RunState Value Op) → ∥ IsMade m config steps run ∥₁ → IsLegal m config steps
  legal-of law steps run made = ∥∥₁_elim made (IsLegal-prop m config steps) (λ it. law config steps run it)

  -- the facts have as many messages as were sent
  pub sent-of : ((config : Config) (steps : List (Step Op)) (run : RunState Value Op) → IsMade m config steps run → IsCentral config (facts_after m config first_facts steps) run) → (steps : List (Step Op)) (run : RunState Value Op) → ∥ IsMade m config steps run ∥₁ → length run.posted ≡ length (facts_after m config first_facts steps).messages
  sent-of law steps run made = ∥∥₁_elim made (Coded-set coded_ℕ _ _) (λ it. sym (law config steps run it).count)

  -- a step that was made goes on with the history, under the same configuration by another name
  pub made-more : (setup given : Config) (event : Event Op) (steps after : List (Step Op)) (run now : RunState Value Op)
      (lines : List Outcome)
      → ((config : Config) (steps : List (Step Op)) (run : RunState Value Op) (event : Event Op)
      → IsMade m config steps run → IsEventOf m config event
      → IsMade m config (steps ++ made_step m run event ∷ []) (stepped m run event).run)
      → setup ≡ config → config ≡ given → IsEventOf m given event → now ≡ (stepped m run event).run
      → lines ≡ (stepped m run event).outcomes → after ≡ steps ++ record { event = event; outcomes = lines } ∷ []
      → ∥ IsMade m config steps run ∥₁ → ∥ IsMade m setup after now ∥₁
  made-more setup given event steps after run now lines law is named fits goes printed noted made =
      let same : after ≡ steps ++ made_step m run event ∷ [] =
      noted ∙ ap (λ (ls : List Outcome). steps ++ record { event = event; outcomes = ls } ∷ []) printed in
      let fits' : IsEventOf m config event = subst (λ (c : Config). IsEventOf m c event) (sym named) fits in
      ∥∥₁_map made (λ it. subst (λ (c : Config). IsMade m c after now) (sym is)
      (subst (λ (r : RunState Value Op). IsMade m config after r) (sym goes)
      (subst (λ (s : List (Step Op)). IsMade m config s (stepped m run event).run) (sym same)
      (law config steps run event it fits'))))

  -- and the history stays where nothing was made
  pub made-same : (setup : Config) (steps after : List (Step Op)) (run now : RunState Value Op) → setup ≡ config
      → now ≡ run → after ≡ steps → ∥ IsMade m config steps run ∥₁ → ∥ IsMade m setup after now ∥₁
  made-same setup steps after run now is same_run same_steps made =
      ∥∥₁_map made (λ it. subst (λ (c : Config). IsMade m c after now) (sym is)
      (subst (λ (r : RunState Value Op). IsMade m config after r) (sym same_run)
      (subst (λ (s : List (Step Op)). IsMade m config s run) (sym same_steps) it)))
