-- Lines of a history, read one after another.
use Rattle.std.proofs.Common.{◌≡◌, ℕ, ◌+◌, ◌-◌, ◌≤◌, true, List, [], ◌∷◌, ◌++◌, length, sym, ap, subst, ◌∙◌}
use Rattle.std.proofs.Common.{append_assoc, arith, length-append}
use Rattle.lr_base.specs.Meaning.{is_printable}
use Rattle.lr_draw.specs.declared.history.Event.{Event}
use Rattle.lr_draw.specs.declared.history.History.{History}
use Rattle.lr_draw.specs.declared.history.Message.{Message}
use Rattle.lr_draw.specs.declared.reading.Line.{Line}
use Rattle.lr_draw.specs.declared.reading.Line.TheVariants.{Event as Begins, Send, Said}
use Rattle.lr_draw.specs.declared.reading.Place.{Place}
use Rattle.lr_draw.specs.Histories.{BeginsWithHeader, events_in, header, IsFirstBad, IsHistory, IsBadLine, IsLine}
use Rattle.lr_draw.specs.Histories.{IsNoNext, IsRead, IsReadUpTo, later, messages_in, next, place_behind}
use Rattle.std.proofs.lemmas.List.{append-nil}
use Rattle.lr_draw.specs.Lines.{line_of}

-- the place of a line that begins at this byte, behind so many events and messages
abbrev pub place_at : ℕ → ℕ → ℕ → List ℕ → Place
place_at events messages start line = record {
  events = events;
  messages = messages;
  line = record {
    start = start;
    end = start + length line;
  };
}

-- behind the header's line one line was read
pub begun : (bytes lines : List ℕ) (events : List Event) (messages : List Message) → events ≡ []
    → messages ≡ [] → BeginsWithHeader bytes lines → IsReadUpTo bytes lines 1 (record {
      events = events;
      messages =
          messages;
    })
begun bytes lines events messages no_event no_message h =
    let first : IsRead 1 (line_of h.line) [] [] = header h.line h.fields h.printable h.header_is in
    let with_events : IsRead 1 (line_of h.line) events [] = subst (λ (es : List Event). IsRead 1 (line_of h.line)
    es []) (sym no_event) first in
    record {
      before = line_of h.line;
      parts = h.parts ∙ sym (append_assoc h.line (10 ∷ []) lines);
      read = subst (λ (ms : List Message). IsRead 1 (line_of h.line) events ms) (sym no_message) with_events;
      counted = simp length-append (omega arith);
      few = omega (arith, ap length no_event, ap length no_message);
    }

in_one : (read : Line) → length (events_in read) + length (messages_in read) ≤ 1
in_one (Begins event) = omega arith
in_one (Send message) = omega arith
in_one Said = omega arith

started : (bytes before rest : List ℕ) → bytes ≡ before ++ rest → length bytes - length rest ≡ length before
started bytes before rest parts = omega (arith, ap length parts, length-append before rest)

-- a line that begins where the bytes read so far end stands behind them
pub placed : (bytes rest line : List ℕ) (count events messages : ℕ) (history : History) (h : IsReadUpTo bytes rest
    count history) → events ≡ length history.events → messages ≡ length history.messages
    → place_at events messages (length bytes - length rest) line ≡ place_behind h.before history.events
    history.messages line
placed bytes rest line count events messages history h es ms =
    let start = started bytes h.before rest h.parts in
    ap (λ (n : ℕ). place_at n messages (length bytes - length rest) line) es
    ∙ ap (λ (n : ℕ). place_at (length history.events) n (length bytes - length rest) line) ms
    ∙ ap (λ (n : ℕ). place_at (length history.events) (length history.messages) n line) start

-- one line more was read
pub read_more : (bytes rest after : List ℕ) (count : ℕ) (old new : History) (line : List ℕ) (read : Line) (place :
    Place) (h : IsReadUpTo bytes rest count old) → rest ≡ line ++ 10 ∷ after → is_printable line ≡ true
    → place ≡ place_behind h.before old.events old.messages line
    → IsLine place line read → new.events ≡ old.events ++ events_in read → new.messages ≡ old.messages
    ++ messages_in read → IsReadUpTo bytes after (count + 1) new
read_more bytes rest after count old new line read place h cut printable is adds events messages =
    let there : IsLine (place_behind h.before old.events old.messages line) line read = subst (λ (p : Place).
    IsLine p line read) is adds in
    let more : IsRead (count + 1) (h.before ++ line_of line) (old.events ++ events_in read) (old.messages
    ++ messages_in read) = next count h.before old.events old.messages h.read line read printable there in
    let with_events : IsRead (count + 1) (h.before ++ line_of line) new.events (old.messages
    ++ messages_in read) = subst (λ (es : List Event). IsRead (count + 1) (h.before
    ++ line_of line) es (old.messages ++ messages_in read)) (sym events) more in
    record {
      before = h.before ++ line_of line;
      parts = h.parts ∙ ap (λ (r : List ℕ). h.before ++ r) (cut ∙ sym (append_assoc line (10 ∷ []) after))
          ∙ sym (append_assoc h.before (line_of line) after);
      read = subst (λ (ms : List Message). IsRead (count + 1) (h.before
          ++ line_of line) new.events ms) (sym messages) with_events;
      counted = simp (length-append, length-append) (omega (arith, h.counted));
      few = omega (
        arith,
        h.few,
        in_one read,
        ap length events,
        ap length messages,
        length-append old.events
            (events_in read),
        length-append old.messages (messages_in read),
      );
    }

-- the next line is the first bad one
pub stopped : (bytes rest : List ℕ) (count : ℕ) (history : History) (h : IsReadUpTo bytes rest count history)
    → IsNoNext h.before history.events history.messages rest → IsFirstBad bytes (count + 1)
stopped bytes rest count history h bad = later count h.before rest history.events history.messages h.parts h.read bad

-- a bad line is bad where it stands
pub bad_there : (line : List ℕ) (place there : Place) → place ≡ there → IsBadLine place line → IsBadLine there line
bad_there line place there is bad = subst (λ (p : Place). IsBadLine p line) is bad
