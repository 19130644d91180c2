-- Which bytes are a printed history, and which are its events and messages.
use Rattle.std.specs.Prelude.{◌≡◌, ◌≢◌, ◌+◌, ◌<◌, ◌≤◌, ℕ, true, List, [], ◌∷◌, ◌++◌, length, codes}
use Rattle.std.specs.Fmt.{decimal}
use Rattle.lr_base.specs.Meaning.{is_printable}
use Rattle.lr_draw.specs.declared.history.Event.{Event}
use Rattle.lr_draw.specs.declared.history.History.{History}
use Rattle.lr_draw.specs.declared.history.Message.{Message}
use Rattle.lr_draw.specs.declared.history.DrawFault.{DrawFault}
use Rattle.lr_draw.specs.declared.history.DrawFault.TheVariants.{Line as BadLine, TooLong, NoMemory}
use Rattle.lr_draw.specs.declared.reading.Line.{Line}
use Rattle.lr_draw.specs.declared.reading.Line.TheVariants.{Event as Begins, Send, Said}
use Rattle.lr_draw.specs.declared.reading.Place.{Place}
use Rattle.lr_draw.specs.Acts.{IsAct, IsNoAct}
use Rattle.lr_draw.specs.Lines.{IsNoLine, line_of}
use Rattle.lr_draw.specs.Sends.{IsWay, IsNoWay}

-- what stands before an event's text in its line
-- for example: `3: `
abbrev pub event_front : ℕ → List ℕ
event_front number = decimal number ++ codes ": "

-- what stands before a message's way in the line that tells that it was sent
-- for example: `  send 2 `
abbrev pub send_front : ℕ → List ℕ
send_front number = codes "  send " ++ (decimal number ++ codes " ")

-- the line of the next event
pub record IsEventLine (place : Place) (line : List ℕ) (event : Event) : Type 0 where
  pub text : List ℕ
  pub line_is : line ≡ event_front (place.events + 1) ++ text
  pub says : IsAct text event.act
  pub number : event.number ≡ place.events + 1
  pub start : event.start ≡ place.line.start

-- the line of the next message, which the last event sent
pub record IsSendLine (place : Place) (line : List ℕ) (message : Message) : Type 0 where
  pub some_event : 0 < place.events
  pub fields : List ℕ
  pub line_is : line ≡ send_front (place.messages + 1) ++ fields
  pub way : IsWay fields (record { from = message.from; to = message.to; kind = message.kind })
  pub event : message.event ≡ place.events
  pub line_at : message.line ≡ place.line

-- a line of what else the last event did
pub record IsSaidLine (place : Place) (line : List ℕ) : Type 0 where
  pub some_event : 0 < place.events
  pub text : List ℕ
  pub line_is : line ≡ codes "  " ++ text
  pub no_send : (rest : List ℕ) → line ≢ codes "  send " ++ rest

-- what a line behind the header adds to those before it
abbrev pub IsLine : Place → List ℕ → Line → Type 0
IsLine place line (Begins event) = IsEventLine place line event
IsLine place line (Send message) = IsSendLine place line message
IsLine place line Said = IsSaidLine place line

-- a line that can't stand behind those before it: it begins with neither two spaces nor the next event's number; or
-- what stands there is no event's; or it tells what was done where there is no event; or what it says of a message
-- isn't so
-- for example: `5: show 0` behind event 3
pub data IsBadLine (place : Place) (line : List ℕ) : Type 0 where
  no_front : ((rest : List ℕ) → line ≢ codes "  " ++ rest)
      → ((text : List ℕ) → line ≢ event_front (place.events + 1) ++ text) → IsBadLine place line
  no_act : (text : List ℕ) → line ≡ event_front (place.events + 1) ++ text → IsNoAct text → IsBadLine place line
  too_soon : place.events ≡ 0 → (text : List ℕ) → line ≡ codes "  " ++ text → IsBadLine place line
  no_turn : (rest : List ℕ) → line ≡ codes "  send " ++ rest
      → ((fields : List ℕ) → line ≢ send_front (place.messages + 1) ++ fields) → IsBadLine place line
  no_way : (fields : List ℕ) → line ≡ send_front (place.messages + 1) ++ fields → IsNoWay fields → IsBadLine place line

-- the events and the messages that a line adds
abbrev pub events_in : Line → List Event
events_in (Begins event) = event ∷ []
events_in (Send message) = []
events_in Said = []

abbrev pub messages_in : Line → List Message
messages_in (Begins event) = []
messages_in (Send message) = message ∷ []
messages_in Said = []

-- where a line stands, behind these bytes with these events and messages
abbrev pub place_behind : List ℕ → List Event → List Message → List ℕ → Place
place_behind before events messages line = record {
  events = length events;
  messages = length messages;
  line = record { start = length before; end = length before + length line };
}

-- these bytes are so many lines of a history, from its header on, with these events and messages
pub data IsRead : ℕ → List ℕ → List Event → List Message → Type 0 where
  header : (line rest : List ℕ) → is_printable line ≡ true → line ≡ codes "lazyrep 1 " ++ rest
      → IsRead 1 (line_of line) [] []
  next : (count : ℕ) (before : List ℕ) (events : List Event) (messages : List Message)
      → IsRead count before events messages
      → (line : List ℕ) (read : Line) → is_printable line ≡ true
      → IsLine (place_behind before events messages line) line read
      → IsRead (count + 1) (before ++ line_of line) (events ++ events_in read) (messages ++ messages_in read)

-- the bytes are this history
pub record IsHistory (bytes : List ℕ) (history : History) : Type 0 where
  pub lines : ℕ
  pub read : IsRead lines bytes history.events history.messages

-- the bytes begin with no header's line
pub data IsNoHeader (bytes : List ℕ) : Type 0 where
  no_line : IsNoLine bytes → IsNoHeader bytes
  other_line : (line later : List ℕ) → bytes ≡ line ++ 10 ∷ later
      → ((rest : List ℕ) → line ≢ codes "lazyrep 1 " ++ rest) → IsNoHeader bytes

-- the bytes behind those before begin with no line that can stand there
pub data IsNoNext (before : List ℕ) (events : List Event) (messages : List Message) (rest : List ℕ) : Type 0 where
  no_line : IsNoLine rest → IsNoNext before events messages rest
  bad_line : (line later : List ℕ) → rest ≡ line ++ 10 ∷ later
      → IsBadLine (place_behind before events messages line) line → IsNoNext before events messages rest

-- the lines before this one are those of a history, and it isn't
pub data IsFirstBad (bytes : List ℕ) : ℕ → Type 0 where
  first : IsNoHeader bytes → IsFirstBad bytes 1
  later : (count : ℕ) (before rest : List ℕ) (events : List Event) (messages : List Message)
      → bytes ≡ before ++ rest → IsRead count before events messages → IsNoNext before events messages rest
      → IsFirstBad bytes (count + 1)

-- the bytes begin with a header's line, and these are the lines behind it
pub record BeginsWithHeader (bytes lines : List ℕ) : Type 0 where
  pub line : List ℕ
  pub fields : List ℕ
  pub printable : is_printable line ≡ true
  pub header_is : line ≡ codes "lazyrep 1 " ++ fields
  pub parts : bytes ≡ line ++ 10 ∷ lines

-- so many lines of a history were read of the bytes, and these are left
pub record IsReadUpTo (bytes rest : List ℕ) (count : ℕ) (history : History) : Type 0 where
  pub before : List ℕ
  pub parts : bytes ≡ before ++ rest
  pub read : IsRead count before history.events history.messages
  pub counted : count ≤ length before
  pub few : length history.events + length history.messages ≤ count

-- why the bytes were not read as a history
abbrev pub IsRefusal : List ℕ → DrawFault → Type 0
IsRefusal bytes (BadLine number) = IsFirstBad bytes number
IsRefusal bytes TooLong = ⊥
IsRefusal bytes NoMemory = Unit {0}
