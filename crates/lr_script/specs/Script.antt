-- To be believed: what a script says: its header and its events, and which bytes they are written as.
use Rattle.std.specs.Prelude.{◌≡◌, ◌≢◌, ℕ, ◌<◌, ◌≤◌, ◌^◌, Bool, true, ◌&&◌, List, [], ◌∷◌, ◌++◌, length}
use Rattle.std.specs.List.{All, flat_map}
use Rattle.lr_base.specs.Config.{IsValid}
use Rattle.lr_base.specs.Events.{FitsRun}
use Rattle.lr_base.specs.Kinds.{has_rules}
use Rattle.lr_base.specs.Limits.{most_script_bytes}
use Rattle.lr_base.specs.Meaning.{Meaning}
use Rattle.lr_base.specs.declared.events.Event.{Event}
use Rattle.lr_base.specs.declared.events.Event.TheVariants.{Call, Resend, Ack, Deliver, Tick, Gossip, Show}
use Rattle.lr_base.specs.declared.names.Config.{Config}
use Rattle.lr_script.specs.declared.heading.Header.{Header}
use Rattle.lr_script.specs.Texts.{header_text, event_text, service_number}

-- a line is ended by a line feed
abbrev pub line_of : List ℕ → List ℕ
line_of text = text ++ 10 ∷ []

-- the events' lines
abbrev pub events_text : {Value Op : Type 0} → Meaning Value Op → List (Event Op) → List ℕ
events_text m events = flat_map (λ event. line_of (event_text m event)) events

-- a script: the header's line and the events' lines
abbrev pub script_text : {Value Op : Type 0} → Meaning Value Op → Header → List (Event Op) → List ℕ
script_text m header events = line_of (header_text header) ++ events_text m events

-- a script may ask for this: 1 to 9 replicas, 1 to 64 clients, and a number
-- for example: 9, 64, 10
pub record IsSetUp (config : Config) : Type 0 where
  pub valid : IsValid config
  pub number : config.delta < 2 ^ 64

-- an operation of the service, of a kind that has rules
-- for example: `send ann hi`, not `add ann`
abbrev pub is_called : {Value Op : Type 0} → Meaning Value Op → Op → Bool
is_called m op = m.is_op op && has_rules (m.kind op)

-- the text is no such operation's
-- for example: `fly`; `add ann` in a script of mail
abbrev pub IsNoCalled : {Value Op : Type 0} → Meaning Value Op → List ℕ → Type 0
IsNoCalled {Value} {Op} m text = (op : Op) → is_called m op ≡ true → m.text op ≢ text

-- an event's numbers fit in 64 bits, and it calls an operation of the service
-- for example: `show 300`, not `call 0 0 5 fly`
abbrev pub EventFits : {Value Op : Type 0} → Meaning Value Op → Event Op → Type 0
EventFits m (Call client replica reading op) =
    (client < 2 ^ 64) × (replica < 2 ^ 64) × (reading < 2 ^ 64) × (m.is_op op ≡ true)
EventFits m (Resend client replica reading) = (client < 2 ^ 64) × (replica < 2 ^ 64) × (reading < 2 ^ 64)
EventFits m (Ack client replica reading) = (client < 2 ^ 64) × (replica < 2 ^ 64) × (reading < 2 ^ 64)
EventFits m (Deliver message) = message < 2 ^ 64
EventFits m (Tick replica reading) = (replica < 2 ^ 64) × (reading < 2 ^ 64)
EventFits m (Gossip from to) = (from < 2 ^ 64) × (to < 2 ^ 64)
EventFits m (Show replica) = replica < 2 ^ 64

-- an event that fits a run with this set-up, with numbers that fit and an operation of the service
-- for example: `show 0`, not `gossip 0 0`
abbrev pub Fits : {Value Op : Type 0} → Meaning Value Op → Config → Event Op → Type 0
Fits m config event = FitsRun m config event × EventFits m event

-- the bytes begin with this header's line
pub record HasHeader (header : Header) (bytes : List ℕ) : Type 0 where
  pub valid : IsSetUp header.config
  pub rest : List ℕ
  pub text : bytes ≡ line_of (header_text header) ++ rest

-- a header that is read of the bytes names the service of this number
-- for example: 2, where it is `lazyrep 1 mail 1 1 10`
abbrev pub IsNamed : ℕ → List ℕ → Type 0
IsNamed number bytes =
    (header : Header) → HasHeader header bytes → length bytes ≤ most_script_bytes
    → service_number header.service ≡ number

-- the bytes are few enough, and the text of this header and these events
pub record IsScript {Value Op : Type 0}
    (m : Meaning Value Op) (header : Header) (events : List (Event Op)) (bytes : List ℕ) : Type 0 where
  pub valid : IsSetUp header.config
  pub fit : All (Fits m header.config) events
  pub short : length bytes ≤ most_script_bytes
  pub text : bytes ≡ script_text m header events

-- there is a header with which the bytes are the script of these events, and they are so with each that they begin with
-- for example: `show 0`, of a header's line and `show 0`
pub record AreEventsOf {Value Op : Type 0}
    (m : Meaning Value Op) (bytes : List ℕ) (events : List (Event Op)) : Type 0 where
  pub header : Header
  pub script : IsScript m header events bytes
  pub same : (other : Header) → HasHeader other bytes → IsScript m other events bytes

-- the bytes are no header's and no events' text
-- for example: `hello`
abbrev pub IsNoScript : {Value Op : Type 0} → Meaning Value Op → List ℕ → Type 0
IsNoScript {Value} {Op} m bytes = (header : Header) (events : List (Event Op)) → ¬ (IsScript m header events bytes)
