-- Histories that are written piece by piece.
use Rattle.std.proofs.Common.{◌≡◌, ◌+◌, ◌<◌, ◌-◌, ◌≤◌, ℕ, List, [], ◌∷◌, ◌++◌, length, map, take, drop, get_or, refl, sym, ap, ◌∙◌, append_assoc, append-nil, subst, take-append-drop, drop-cons, add-one, arith}
use Rattle.std.proofs.lemmas.List.{length-map, length-take-le, map-append, take_all, take_more, take_rest}
use Rattle.std.proofs.Math.Seq.{drop-append_seam}
use Rattle.std.specs.List.{All}
use Rattle.std.specs.Prelude.{Option}
use Rattle.std.specs.Io.KnownBytes.{Appends}
use Rattle.std.proofs.KnownBytes.{Appends-nil, Appends-trans}
use Rattle.lr_base.specs.Meaning.{Meaning}
use Rattle.lr_base.specs.declared.events.Event.{Event}
use Rattle.lr_base.specs.declared.events.Event.TheVariants.{Call, Resend, Ack, Deliver, Tick, Gossip, Show}
use Rattle.lr_base.specs.declared.events.Step.{Step}
use Rattle.lr_base.specs.declared.names.Config.{Config}
use Rattle.lr_base.specs.Events.{IsEventOf}
use Rattle.lr_graph.specs.Legal.{IsLegal}
use Rattle.lr_graph.specs.Made.{IsMade, made_step}
use Rattle.lr_graph.specs.Runs.{RunState, stepped}
use Rattle.lr_report.specs.Printed.{printed, step_text, steps_text}
use Rattle.lr_report.specs.PrintedLaws.{steps_text-more}
use Rattle.lr_script.specs.Script.{EventFits, Fits, events_text, line_of}
use Rattle.lr_script.specs.Texts.{event_text, header_text}
use Rattle.lr_script.specs.declared.heading.Header.{Header}
use Rattle.lr_sim.specs.Headline.{HasBegun, HasPrinted}
use Rattle.lr_sim.specs.Parts.{HasMoved}

-- a run came to this by these events; what was written is the front of the printed form of its steps, and this is the
-- rest
pub record IsRun {Value Op : Type 0} (m : Meaning Value Op) (header : Header) (events : List (Event Op))
    (run : RunState Value Op) (before now : Option (List ℕ)) (rest : List ℕ) : Type 0 where
  pub steps : List (Step Op)
  pub made : IsMade m header.config steps run
  pub events_are : map (λ step. step.event) steps ≡ events
  pub written : List ℕ
  pub appended : Appends before now written
  pub text : printed m header steps ≡ written ++ rest

-- a history that is made goes on with each event of the run
abbrev pub MadeGoesOn : {Value Op : Type 0} → Meaning Value Op → Type 0
MadeGoesOn {Value} {Op} m = (config : Config) (steps : List (Step Op)) (run : RunState Value Op) (event : Event Op)
    → IsMade m config steps run → IsEventOf m config event
    → IsMade m config (steps ++ made_step m run event ∷ []) (stepped m run event).run

-- and is legal
abbrev pub MadeIsLegal : {Value Op : Type 0} → Meaning Value Op → Type 0
MadeIsLegal {Value} {Op} m = (config : Config) (steps : List (Step Op)) (run : RunState Value Op)
    → IsMade m config steps run → IsLegal m config steps

-- lines that begin with an event's are cut into its text and the lines behind
abbrev pub CutsLine : {Value Op : Type 0} → Meaning Value Op → List ℕ → List ℕ → List ℕ → Type 0
CutsLine {Value} {Op} m lines line later = (event : Event Op) (rest : List ℕ) → EventFits m event
    → lines ≡ line_of (event_text m event) ++ rest → (line ≡ event_text m event) × (later ≡ rest)

module _ {Value Op : Type 0} (m : Meaning Value Op) (header : Header) where
  -- a run before any event, of which the header is to be written
  pub run-none : {run : RunState Value Op} (before : Option (List ℕ)) {text : List ℕ} → IsMade m header.config [] run
      → text ≡ line_of (header_text header) → IsRun m header [] run before before text
  run-none before made is = record {
    steps = [];
    made = made;
    events_are = refl;
    written = [];
    appended = Appends-nil before;
    text = append-nil (line_of (header_text header)) ∙ sym is;
  }

  -- the printed form of one step more
  printed-more : (steps : List (Step Op)) (step : Step Op) (written rest : List ℕ)
      → printed m header steps ≡ written ++ rest
      → printed m header (steps ++ step ∷ []) ≡ written ++ (rest ++ step_text m header.config (1 + length steps) step)
  printed-more steps step written rest text =
      let head = line_of (header_text header) in
      let last = step_text m header.config (1 + length steps) step in
      ap (λ (xs : List ℕ). head ++ xs) (steps_text-more m header.config 1 steps step)
      ∙ sym (append_assoc head (steps_text m header.config 1 steps) last)
      ∙ ap (λ (xs : List ℕ). xs ++ last) text
      ∙ append_assoc written rest last

  -- a run after one more event, whose step is to be written behind the rest
  run-more : MadeGoesOn m → (events : List (Event Op)) (run after : RunState Value Op) (event : Event Op)
      (before now : Option (List ℕ)) (rest more : List ℕ) → IsEventOf m header.config event
      → after ≡ (stepped m run event).run
      → more ≡ rest ++ step_text m header.config (1 + length events) (made_step m run event)
      → IsRun m header events run before now rest → IsRun m header (events ++ event ∷ []) after before now more
  run-more goes_on events run after event before now rest more own is text w =
      let step = made_step m run event in
      let long : length events ≡ length w.steps = ap length (sym w.events_are) ∙ length-map w.steps (λ s. s.event) in
      let more_is : more ≡ rest ++ step_text m header.config (1 + length w.steps) step =
      text ∙ ap (λ n. rest ++ step_text m header.config (1 + n) step) long in
      record {
        steps = w.steps ++ step ∷ [];
        made = subst (λ (r : RunState Value Op). IsMade m header.config (w.steps ++ step ∷ []) r) (sym is)
            (goes_on header.config w.steps run event w.made own);
        events_are = map-append (λ s. s.event) w.steps (step ∷ [])
            ∙ ap (λ (es : List (Event Op)). es ++ event ∷ []) w.events_are;
        written = w.written;
        appended = w.appended;
        text = printed-more w.steps step w.written rest w.text ∙ ap (λ (xs : List ℕ). w.written ++ xs) (sym more_is);
      }

  -- the same among all events
  pub run-step : MadeGoesOn m → {config : Config} (events : List (Event Op)) {place number : ℕ}
      {run after : RunState Value Op} {event : Event Op} {before now : Option (List ℕ)} {rest more : List ℕ}
      → config ≡ header.config → place < length events → event ≡ get_or events place event → number ≡ place + 1
      → IsEventOf m header.config event → after ≡ (stepped m run event).run
      → more ≡ rest ++ step_text m config number (made_step m run event)
      → IsRun m header (take place events) run before now rest
      → IsRun m header (take (place + 1) events) after before now more
  run-step goes_on {config} events {place} {number} {run} {after} {event} {before} {now} {rest} {more}
      setup within is count own made text w =
      let step = made_step m run event in
      let long : length (take place events) ≡ place = length-take-le place events (omega (arith, within)) in
      let here : number ≡ 1 + length (take place events) = omega (arith, count, long) in
      let next : take (place + 1) events ≡ take place events ++ event ∷ [] = take_more events place event within
      ∙ ap (λ (e : Event Op). take place events ++ e ∷ []) (sym is) in
      let more_is : more ≡ rest ++ step_text m header.config (1 + length (take place events)) step = text
      ∙ ap (λ (c : Config). rest ++ step_text m c number step) setup
      ∙ ap (λ n. rest ++ step_text m header.config n step) here in
      subst (λ (es : List (Event Op)). IsRun m header es after before now more) (sym next)
      (run-more goes_on (take place events) run after event before now rest more own made more_is w)

  -- an event that fits is one of the run's
  pub event-of : (event : Event Op) → Fits m header.config event → IsEventOf m header.config event
  event-of (Call client replica reading op) fits = (fits.0, fits.1.3)
  event-of (Resend client replica reading) fits = (fits.0, tt)
  event-of (Ack client replica reading) fits = (fits.0, tt)
  event-of (Deliver message) fits = (fits.0, tt)
  event-of (Tick replica reading) fits = (fits.0, tt)
  event-of (Gossip from to) fits = (fits.0, tt)
  event-of (Show replica) fits = (fits.0, tt)

  -- the event at a place fits, as all do
  pub fits-at : (events : List (Event Op)) {place : ℕ} {event : Event Op} → All (Fits m header.config) events
      → place < length events → event ≡ get_or events place event → Fits m header.config event
  fits-at events {place} {event} fit within is =
      subst (λ (e : Event Op). Fits m header.config e) (sym is) (fit place event within)

  -- the lines of the events from a place on begin with the line of the event there
  lines-at : (events : List (Event Op)) (place : ℕ) (event : Event Op) → place < length events
      → event ≡ get_or events place event
      → events_text m (drop place events) ≡ line_of (event_text m event) ++ events_text m (drop (place + 1) events)
  lines-at events place event within is =
      let parts : drop place events ≡ get_or events place event ∷ drop (place + 1) events =
      rw add-one (drop-cons events place event within) in
      ap (λ (es : List (Event Op)). events_text m es)
      (parts ∙ ap (λ (e : Event Op). e ∷ drop (place + 1) events) (sym is))

  -- what is cut there is the event's text, and behind it are the lines of the events behind
  pub cut-at : {lines line later : List ℕ} → CutsLine m lines line later
      → (events : List (Event Op)) {place : ℕ} {event : Event Op} → All (Fits m header.config) events
      → place < length events → event ≡ get_or events place event → lines ≡ events_text m (drop place events)
      → (line ≡ event_text m event) × (later ≡ events_text m (drop (place + 1) events))
  cut-at cuts events {place} {event} fit within is e =
      cuts event (events_text m (drop (place + 1) events)) (fits-at events fit within is).1
      (e ∙ lines-at events place event within is)

  -- some of what is to be written of a run is written
  pub run-moved : {events : List (Event Op)} {run : RunState Value Op} {before now next : Option (List ℕ)}
      {rest left : List ℕ} → HasMoved now next rest left → IsRun m header events run before now rest
      → IsRun m header events run before next left
  run-moved {events} {run} {before} {now} {next} {rest} {left} moved w = record {
    steps = w.steps;
    made = w.made;
    events_are = w.events_are;
    written = w.written ++ moved.written;
    appended = Appends-trans before now next w.written moved.written w.appended moved.appended;
    text = w.text ∙ ap (λ (xs : List ℕ). w.written ++ xs) moved.parts ∙ sym (append_assoc w.written moved.written left);
  }

  -- a run's history is legal, and printed so far
  printed-of : MadeIsLegal m → (events : List (Event Op)) (run : RunState Value Op) (before now : Option (List ℕ))
      (rest : List ℕ) → IsRun m header events run before now rest → HasPrinted m header events before now rest
  printed-of legal events run before now rest w = record {
    history = w.steps;
    legal = legal header.config w.steps run w.made;
    events_are = w.events_are;
    written = w.written;
    appended = w.appended;
    text = w.text;
  }

  -- the history of some first events is printed so far
  pub begun-of : MadeIsLegal m → {events : List (Event Op)} (count : ℕ) {run : RunState Value Op}
      {before now : Option (List ℕ)} {rest : List ℕ} → IsRun m header (take count events) run before now rest
      → HasBegun m header events before now
  begun-of legal {events} count {run} {before} {now} {rest} w =
      record { count = count; rest = rest; printed_part = printed-of legal (take count events) run before now rest w }

  -- nothing is written of no event
  pub begun-none : (events : List (Event Op)) (before : Option (List ℕ)) → HasBegun m header events before before
  begun-none events before = record {
    count = 0;
    rest = line_of (header_text header);
    printed_part = record {
      history = [];
      legal = tt;
      events_are = refl;
      written = [];
      appended = Appends-nil before;
      text = append-nil (line_of (header_text header));
    };
  }

  -- after the last event they are all
  pub printed-all : MadeIsLegal m → {events : List (Event Op)} {count : ℕ} {run : RunState Value Op}
      {before now : Option (List ℕ)} {rest : List ℕ} → length events ≤ count
      → IsRun m header (take count events) run before now rest → HasPrinted m header events before now rest
  printed-all legal {events} {count} {run} {before} {now} {rest} past w =
      subst (λ (es : List (Event Op)). HasPrinted m header es before now rest) (take_all count events past)
      (printed-of legal (take count events) run before now rest w)

-- the lines of a script's events stand behind its header's
pub lines-behind : (bytes head lines text : List ℕ) → bytes ≡ head ++ lines → text ≡ head
    → take (length bytes - length text) (drop (length text) bytes) ≡ lines
lines-behind bytes head lines text e is =
    take_rest bytes (length text)
    ∙ ap (λ (xs : List ℕ). drop (length text) xs) e
    ∙ ap (λ (xs : List ℕ). drop (length xs) (head ++ lines)) is
    ∙ drop-append_seam head lines

-- nothing was written
pub moved-none : (before : Option (List ℕ)) (text : List ℕ) → HasMoved before before text text
moved-none before text = record { written = []; appended = Appends-nil before; parts = refl }

-- a text was written whole
pub moved-all : {before now : Option (List ℕ)} {text piece : List ℕ} → piece ≡ text → Appends before now piece
    → HasMoved before now text []
moved-all {before} {now} {text} {piece} is all =
    record { written = piece; appended = all; parts = sym is ∙ sym (append-nil piece) }

-- a front of a text was written
pub moved-front : {before now : Option (List ℕ)} {text piece : List ℕ} (n : ℕ) → piece ≡ text
    → Appends before now (take n piece) → HasMoved before now text (drop n piece)
moved-front {before} {now} {text} {piece} n is front =
    record { written = take n piece; appended = front; parts = sym is ∙ sym (take-append-drop n piece) }
