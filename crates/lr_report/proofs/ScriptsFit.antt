-- The history of a script's events has few steps, and they bring small numbers.
use Rattle.std.proofs.Common.{◌≡◌, ℕ, ◌≤◌, List, [], ◌∷◌, length, map, sym, ap, subst, arith}
use Rattle.std.specs.List.{All}
use Rattle.std.proofs.lemmas.List.{length-append, length-map}
use Rattle.std.proofs.lemmas.List.Elements.{All-head, All-tail}
use Rattle.lr_base.specs.ByteLaws.{length-flat_map-le}
use Rattle.lr_base.specs.Limits.{most_script_bytes-is}
use Rattle.lr_base.specs.Meaning.{Meaning}
use Rattle.lr_base.specs.declared.events.Event.{Event}
use Rattle.lr_base.specs.declared.events.Event.TheVariants.{Call, Resend, Ack, Deliver, Tick, Gossip as GossipEvent, Show}
use Rattle.lr_base.specs.declared.events.Step.{Step}
use Rattle.lr_base.specs.declared.names.Config.{Config}
use Rattle.lr_graph.specs.Closed.{Each}
use Rattle.lr_graph.specs.Fitting.{EventNumberFits, HistoryFits}
use Rattle.lr_script.specs.Script.{EventFits, Fits, IsScript, events_text, line_of}
use Rattle.lr_script.specs.Texts.{event_text, header_text}
use Rattle.lr_script.specs.declared.heading.Header.{Header}

-- a line has a byte
some-byte : (text : List ℕ) → 1 ≤ length (line_of text)
some-byte text = let ended = length-append text (10 ∷ []) in omega arith

module _ {Value Op : Type 0} (m : Meaning Value Op) where
  -- the number fits that an event of a script brings
  event-brings : (event : Event Op) → EventFits m event → EventNumberFits event
  event-brings (Call client replica reading op) fits = fits.2
  event-brings (Resend client replica reading) fits = fits.2
  event-brings (Ack client replica reading) fits = fits.2
  event-brings (Deliver message) fits = fits
  event-brings (Tick replica reading) fits = fits.1
  event-brings (GossipEvent from to) fits = tt
  event-brings (Show replica) fits = tt

  steps-bring : (config : Config) (steps : List (Step Op)) → All (Fits m config) (map (λ step. step.event) steps)
      → Each (λ step. EventNumberFits step.event) steps
  steps-bring config [] fit = tt
  steps-bring config (step ∷ steps) fit =
      let events = map (λ (s : Step Op). s.event) steps in (
        event-brings step.event (All-head (Fits m config) step.event events fit).1,
        steps-bring config steps (All-tail (Fits m config) step.event events fit),
      )

  pub script-fits : (header : Header) (events : List (Event Op)) (bytes : List ℕ) (steps : List (Step Op))
      → IsScript m header events bytes → map (λ step. step.event) steps ≡ events → HistoryFits steps
  script-fits header events bytes steps script same =
      let lines = length-flat_map-le (λ event. line_of (event_text m event)) (λ event. some-byte (event_text m event)) events in
      let all = length-append (line_of (header_text header)) (events_text m events) in
      let text = ap length script.text in
      let short = script.short in
      let count = length-map steps (λ step. step.event) in
      let events_are = ap length same in (
        omega (arith, most_script_bytes-is),
        steps-bring header.config steps (subst (λ (l : List (Event Op)). All (Fits m header.config) l) (sym same) script.fit),
      )
