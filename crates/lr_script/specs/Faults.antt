-- To be believed: the first cause at a bad line.
use Rattle.std.specs.Prelude.{◌≡◌, ◌≢◌, ℕ, ◌+◌, ◌<◌, ◌≤◌, ◌^◌, ◌==◌, ◌⊎◌, ◌↔◌, ◌||◌, nat_lt, true, false, List, [], ◌∷◌}
use Rattle.std.specs.Prelude.{◌++◌, length}
use Rattle.std.specs.Fmt.{decimal}
use Rattle.std.specs.List.{All, list_any}
use Rattle.lr_base.specs.Limits.{most_script_bytes}
use Rattle.lr_base.specs.Meaning.{Meaning, is_printable}
use Rattle.lr_base.specs.declared.names.Config.{Config}
use Rattle.lr_script.specs.declared.refusals.Cause.{Cause}
use Rattle.lr_script.specs.declared.refusals.Cause.TheVariants.{TooLong, Unended, Byte, Header, Event as NoWord}
use Rattle.lr_script.specs.declared.refusals.Cause.TheVariants.{Fields, Number, Range, Op}
use Rattle.lr_script.specs.declared.refusals.ScriptFault.{ScriptFault}
use Rattle.lr_script.specs.declared.refusals.ScriptFault.TheVariants.{Line, NoMemory}
use Rattle.lr_script.specs.declared.event_lines.EventFault.{EventFault}
use Rattle.lr_script.specs.declared.event_lines.EventFault.TheVariants.{Bad, NoMemory as NoMemoryLeft}
use Rattle.lr_script.specs.declared.fields.EventWord.{EventWord}
use Rattle.lr_script.specs.declared.fields.EventWord.TheVariants.{Call, Resend, Ack, Deliver, Tick, Gossip, Show}
use Rattle.lr_script.specs.declared.heading.Header.{Header as Head}
use Rattle.lr_base.specs.declared.events.Event.{Event}
use Rattle.lr_script.specs.Texts.{header_text}
use Rattle.lr_script.specs.Script.{line_of, events_text, IsNoCalled, IsSetUp, Fits, IsNoScript, IsScript}
use Rattle.lr_script.specs.Fields.{spaces, word_text, four_fields, IsCallFields, IsNoNumber, IsPair, IsTriple}

-- there is a line feed among the bytes
abbrev pub IsEnded : List ℕ → Type 0
IsEnded bytes = list_any (λ byte. byte == 10) bytes ≡ true

-- the first byte that isn't printable is no line feed, and a line feed comes later
-- for example: a tabulator
pub record HasBadByte (bytes : List ℕ) : Type 0 where
  pub before : List ℕ
  pub byte : ℕ
  pub later : List ℕ
  pub text : bytes ≡ before ++ byte ∷ later
  pub printable : is_printable before ≡ true
  pub bad : is_printable (byte ∷ []) ≡ false
  pub other : byte ≢ 10
  pub ended : IsEnded later

-- one of the bytes isn't printable: it is below the space or above the tilde
-- for example: `a`, a tabulator, `b`
abbrev pub HasUnprintable : List ℕ → Type 0
HasUnprintable bytes = list_any (λ byte. nat_lt byte 32 || nat_lt 126 byte) bytes ≡ true

-- the bytes begin with a line, which a line feed ends, and one of the bytes before that isn't printable
-- for example: a tabulator, `x`, a line feed, `show 0`
pub record BeginsUnprintable (bytes : List ℕ) : Type 0 where
  pub line : List ℕ
  pub rest : List ℕ
  pub text : bytes ≡ line_of line ++ rest
  pub first : ¬ (IsEnded line)
  pub bad : HasUnprintable line

-- the bytes begin with no line of printable bytes
-- for example: `show 0` at the end of input
abbrev pub IsNoLine : List ℕ → Cause → Type 0
IsNoLine bytes Unended = list_any (λ byte. byte == 10) bytes ≡ false
IsNoLine bytes Byte = HasBadByte bytes
IsNoLine bytes _ = ⊥

-- three texts are numbers, and there is no such client or no such replica
-- for example: `9`, `0`, `5` with one client
pub record AreOutOfRange (config : Config) (client replica reading : List ℕ) : Type 0 where
  pub client_number : ℕ
  pub replica_number : ℕ
  pub reading_number : ℕ
  pub client_is : client ≡ decimal client_number
  pub replica_is : replica ≡ decimal replica_number
  pub reading_is : reading ≡ decimal reading_number
  pub client_fits : client_number < 2 ^ 64
  pub replica_fits : replica_number < 2 ^ 64
  pub reading_fits : reading_number < 2 ^ 64
  pub bad : (config.clients ≤ client_number) ⊎ (config.replicas ≤ replica_number)

-- three texts are no client, replica and reading: one of them is no number, or there is no such client or replica
-- for example: `x`, `0`, `5`: `number`
abbrev pub AreNoSending : Config → List ℕ → List ℕ → List ℕ → Cause → Type 0
AreNoSending config client replica reading Number = IsNoNumber client ⊎ IsNoNumber replica ⊎ IsNoNumber reading
AreNoSending config client replica reading Range = AreOutOfRange config client replica reading
AreNoSending config client replica reading _ = ⊥

-- what stands behind a call's word has fields enough, and doesn't begin with a client, a replica and a reading
-- for example: `x 0 5 read x`: `number`
pub record HasNoCaller (config : Config) (fields : List ℕ) (cause : Cause) : Type 0 where
  pub client : List ℕ
  pub replica : List ℕ
  pub reading : List ℕ
  pub op : List ℕ
  pub split : IsCallFields fields client replica reading op
  pub bad : AreNoSending config client replica reading cause

-- there are such a client and such a replica, and the rest is no operation that has rules
-- for example: `call 0 0 5 fly`
pub record HasNoOp {Value Op : Type 0} (m : Meaning Value Op) (config : Config) (fields : List ℕ) : Type 0 where
  pub client : ℕ
  pub replica : ℕ
  pub reading : ℕ
  pub op : List ℕ
  pub text : fields ≡ four_fields (decimal client) (decimal replica) (decimal reading) op
  pub known_client : client < config.clients
  pub known_replica : replica < config.replicas
  pub reading_number : reading < 2 ^ 64
  pub bad : IsNoCalled m op

-- what stands behind a call's word is no call
-- for example: `0 0 5`: `fields`
abbrev pub IsBadCall : {Value Op : Type 0} → Meaning Value Op → Config → List ℕ → Cause → Type 0
IsBadCall m config fields Fields = spaces fields < 3
IsBadCall m config fields Number = HasNoCaller config fields Number
IsBadCall m config fields Range = HasNoCaller config fields Range
IsBadCall m config fields Op = HasNoOp m config fields
IsBadCall m config fields _ = ⊥

-- the three fields behind a word are no client, replica and reading
-- for example: `9 0 5` with one client: `range`
pub record HasNoSender (config : Config) (fields : List ℕ) (cause : Cause) : Type 0 where
  pub client : List ℕ
  pub replica : List ℕ
  pub reading : List ℕ
  pub split : IsTriple fields client replica reading
  pub bad : AreNoSending config client replica reading cause

-- what stands behind the word of a resend or an acknowledgement is no client, replica and reading
-- for example: `0 0`: `fields`
abbrev pub IsBadSending : Config → List ℕ → Cause → Type 0
IsBadSending config fields Fields = spaces fields ≢ 2
IsBadSending config fields Number = HasNoSender config fields Number
IsBadSending config fields Range = HasNoSender config fields Range
IsBadSending config fields _ = ⊥

-- what stands behind a delivery's word is no one number
-- for example: `1 2`: `fields`
abbrev pub IsBadDeliver : List ℕ → Cause → Type 0
IsBadDeliver fields Fields = 0 < spaces fields
IsBadDeliver fields Number = (spaces fields ≡ 0) × IsNoNumber fields
IsBadDeliver fields _ = ⊥

-- one of two fields that have to be numbers isn't one
-- for example: `gossip x 1`
pub record HasNoPair (fields : List ℕ) : Type 0 where
  pub first : List ℕ
  pub second : List ℕ
  pub split : IsPair fields first second
  pub bad : IsNoNumber first ⊎ IsNoNumber second

-- the two fields are numbers, and there aren't two such replicas
-- for example: `gossip 1 1`
pub record AreNoTwoReplicas (config : Config) (fields : List ℕ) : Type 0 where
  pub first : ℕ
  pub second : ℕ
  pub text : fields ≡ decimal first ++ 32 ∷ decimal second
  pub first_number : first < 2 ^ 64
  pub second_number : second < 2 ^ 64
  pub bad : (config.replicas ≤ first) ⊎ (config.replicas ≤ second) ⊎ (first ≡ second)

-- the two fields are numbers, and there is no such replica as the first of them
-- for example: `tick 1 5` with one replica
pub record HasNoReplica (config : Config) (fields : List ℕ) : Type 0 where
  pub replica : ℕ
  pub reading : ℕ
  pub text : fields ≡ decimal replica ++ 32 ∷ decimal reading
  pub replica_number : replica < 2 ^ 64
  pub reading_number : reading < 2 ^ 64
  pub bad : config.replicas ≤ replica

-- what stands behind a tick's word is no replica and no reading
-- for example: `0 05`: `number`
abbrev pub IsBadTick : Config → List ℕ → Cause → Type 0
IsBadTick config fields Fields = spaces fields ≢ 1
IsBadTick config fields Number = HasNoPair fields
IsBadTick config fields Range = HasNoReplica config fields
IsBadTick config fields _ = ⊥

-- what stands behind gossip's word is no two replicas
abbrev pub IsBadGossip : Config → List ℕ → Cause → Type 0
IsBadGossip config fields Fields = spaces fields ≢ 1
IsBadGossip config fields Number = HasNoPair fields
IsBadGossip config fields Range = AreNoTwoReplicas config fields
IsBadGossip config fields _ = ⊥

-- what stands behind a showing's word is no one replica
abbrev pub IsBadShow : Config → List ℕ → Cause → Type 0
IsBadShow config fields Fields = 0 < spaces fields
IsBadShow config fields Number = (spaces fields ≡ 0) × IsNoNumber fields
IsBadShow config fields Range =
    (replica : ℕ) × (fields ≡ decimal replica) × (replica < 2 ^ 64) × (config.replicas ≤ replica)
IsBadShow config fields _ = ⊥

-- what stands behind an event's word is not what the word asks for
abbrev pub IsBadFields : {Value Op : Type 0} → Meaning Value Op → Config → EventWord → List ℕ → Cause → Type 0
IsBadFields m config Call fields cause = IsBadCall m config fields cause
IsBadFields m config Resend fields cause = IsBadSending config fields cause
IsBadFields m config Ack fields cause = IsBadSending config fields cause
IsBadFields m config Deliver fields cause = IsBadDeliver fields cause
IsBadFields m config Tick fields cause = IsBadTick config fields cause
IsBadFields m config Gossip fields cause = IsBadGossip config fields cause
IsBadFields m config Show fields cause = IsBadShow config fields cause

-- a printable line is no event's
-- for example: `fly`: `event`
pub data IsBadEvent {Value Op : Type 0} (m : Meaning Value Op) (config : Config) (line : List ℕ) : Cause → Type 0 where
  no_word : ((word : EventWord) → line ≢ word_text word)
      → ((word : EventWord) (rest : List ℕ) → line ≢ word_text word ++ 32 ∷ rest) → IsBadEvent m config line NoWord
  word_alone : (word : EventWord) → line ≡ word_text word → IsBadEvent m config line Fields
  bad_rest : (word : EventWord) (rest : List ℕ) (cause : Cause) → line ≡ word_text word ++ 32 ∷ rest
      → IsBadFields m config word rest cause → IsBadEvent m config line cause

-- the bytes don't begin with an event's line
pub data IsBadLine {Value Op : Type 0} (m : Meaning Value Op) (config : Config) (bytes : List ℕ) : Cause → Type 0 where
  no_line : (cause : Cause) → IsNoLine bytes cause → IsBadLine m config bytes cause
  no_event : (line later : List ℕ) (cause : Cause) → bytes ≡ line ++ 10 ∷ later → is_printable line ≡ true
      → IsBadEvent m config line cause → IsBadLine m config bytes cause

-- the bytes don't begin with a header's line
-- for example: no bytes: line 1, `header`
pub data IsBadHead (bytes : List ℕ) : ℕ → Cause → Type 0 where
  too_long : most_script_bytes < length bytes → IsBadHead bytes 0 TooLong
  empty : bytes ≡ [] → IsBadHead bytes 1 Header
  bad_head : (cause : Cause) → length bytes ≤ most_script_bytes → 1 ≤ length bytes
      → IsNoLine bytes cause → IsBadHead bytes 1 cause
  no_header : (line later : List ℕ) → length bytes ≤ most_script_bytes → bytes ≡ line ++ 10 ∷ later
      → is_printable line ≡ true → ((header : Head) → IsSetUp header.config → line ≢ header_text header)
      → IsBadHead bytes 1 Header

-- the lines before this one are events', and here the next event's would begin
-- for example: line 3 of `HEADER`, `show 0`, `fly`
pub record IsBadAmong {Value Op : Type 0}
    (m : Meaning Value Op) (config : Config) (lines : List ℕ) (line : ℕ) (cause : Cause) : Type 0 where
  pub events : List (Event Op)
  pub rest : List ℕ
  pub text : lines ≡ events_text m events ++ rest
  pub fit : All (Fits m config) events
  pub some : 1 ≤ length rest
  pub number : line ≡ length events + 2
  pub bad : IsBadLine m config rest cause

-- the first line is a header's, and a later one is bad
pub record IsBadAt {Value Op : Type 0} (m : Meaning Value Op) (bytes : List ℕ) (line : ℕ) (cause : Cause) : Type 0 where
  pub header : Head
  pub lines : List ℕ
  pub text : bytes ≡ line_of (header_text header) ++ lines
  pub valid : IsSetUp header.config
  pub short : length bytes ≤ most_script_bytes
  pub bad : IsBadAmong m header.config lines line cause

-- want of memory has no cause
abbrev pub IsBecause : (Cause → Type 0) → EventFault → Type 0
IsBecause Holds (Bad cause) = Holds cause
IsBecause Holds NoMemoryLeft = Unit {0}

-- a fault names this line and a cause that holds; want of memory has no cause
abbrev pub IsFaultAt : ℕ → (Cause → Type 0) → ScriptFault → Type 0
IsFaultAt line Holds (Line at cause) = (at ≡ line) × Holds cause
IsFaultAt line Holds NoMemory = Unit {0}

-- why a header was not read
abbrev pub IsHeadFault : List ℕ → ScriptFault → Type 0
IsHeadFault bytes (Line line cause) = IsBadHead bytes line cause
IsHeadFault bytes NoMemory = Unit {0}

-- why the lines behind a header were not read
abbrev pub IsLineFault : {Value Op : Type 0} → Meaning Value Op → Config → List ℕ → ScriptFault → Type 0
IsLineFault m config lines (Line line cause) = IsBadAmong m config lines line cause
IsLineFault m config lines NoMemory = Unit {0}

-- why a script was not read
abbrev pub IsScriptFault : {Value Op : Type 0} → Meaning Value Op → List ℕ → ScriptFault → Type 0
IsScriptFault m bytes (Line line cause) = IsBadHead bytes line cause ⊎ IsBadAt m bytes line cause
IsScriptFault m bytes NoMemory = Unit {0}

-- the bytes mean no header and no events: this is the first bad line, with the first cause at it; too many bytes are
-- refused for just that
-- for example: line 1, `unended`, of `hello`
pub record IsRefusal {Value Op : Type 0}
    (m : Meaning Value Op) (bytes : List ℕ) (line : ℕ) (cause : Cause) : Type 0 where
  pub meaningless : IsNoScript m bytes
  pub fault : IsScriptFault m bytes (Line line cause)
  pub long : (cause ≡ TooLong) ↔ (most_script_bytes < length bytes)

-- where the fault is a line's, the bytes are refused so; want of memory has no cause
abbrev pub IsRefused : {Value Op : Type 0} → Meaning Value Op → List ℕ → ScriptFault → Type 0
IsRefused m bytes (Line line cause) = IsRefusal m bytes line cause
IsRefused m bytes NoMemory = Unit {0}

-- the bytes are the script of a header and events, or are refused at a line for a cause
abbrev pub HasMeaning : {Value Op : Type 0} → Meaning Value Op → List ℕ → Type 0
HasMeaning {Value} {Op} m bytes = ((header : Head) × (events : List (Event Op)) × IsScript m header events bytes)
    ⊎ ((line : ℕ) × (cause : Cause) × IsRefusal m bytes line cause)
