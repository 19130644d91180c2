-- To be believed: what is seen of a source and of a sink, before and after.
use Rattle.std.specs.Prelude.{◌≡◌, ℕ, List, Option}
use Rattle.std.specs.Io.KnownBytes.{Appends}
use Rattle.lr_outside.specs.Faults.{Rose, one_more}

-- what is seen of a source: the bytes left, where it tells them, and how many of its reads failed
pub record SourceSeen : Type 0 where
  pub left : Option (List ℕ)
  pub faults : ℕ

-- what is seen of a sink: the bytes held, where it tells them, and how many of its writes failed
pub record SinkSeen : Type 0 where
  pub held : Option (List ℕ)
  pub faults : ℕ

-- what is seen of a source before and after
pub record SourceChange : Type 0 where
  pub before : SourceSeen
  pub after : SourceSeen

-- a sink as it was and as it is now, and what is seen of it before and after
pub record SinkChange (Out : Type 0) : Type 0 where
  pub was : Out
  pub now : Out
  pub before : SinkSeen
  pub after : SinkSeen

-- the change from one source to the other, of which this is seen
abbrev pub source_change : {In : Type 0} → (In → SourceSeen) → In → In → SourceChange
source_change seen was now = record { before = seen was; after = seen now }

-- the change from one sink to the other, of which this is seen
abbrev pub sink_change : {Out : Type 0} → (Out → SinkSeen) → Out → Out → SinkChange Out
sink_change seen was now = record { was = was; now = now; before = seen was; after = seen now }

-- the sink is as it was
abbrev pub IsUnchanged : {Out : Type 0} → SinkChange Out → Type 0
IsUnchanged sink = sink.now ≡ sink.was

-- one read failed
abbrev pub HasReadFault : SourceChange → Type 0
HasReadFault source = source.after.faults ≡ one_more source.before.faults

-- no read failed
abbrev pub HasNoReadFault : SourceChange → Type 0
HasNoReadFault source = source.after.faults ≡ source.before.faults

-- one write failed
abbrev pub HasWriteFault : {Out : Type 0} → SinkChange Out → Type 0
HasWriteFault sink = sink.after.faults ≡ one_more sink.before.faults

-- no write failed
abbrev pub HasNoWriteFault : {Out : Type 0} → SinkChange Out → Type 0
HasNoWriteFault sink = sink.after.faults ≡ sink.before.faults

-- these bytes were written behind those held
abbrev pub HasWritten : {Out : Type 0} → SinkChange Out → List ℕ → Type 0
HasWritten sink bytes = Appends sink.before.held sink.after.held bytes

-- these bytes were written, unless a write failed
abbrev pub HasTold : {Out : Type 0} → SinkChange Out → List ℕ → Type 0
HasTold sink bytes = ¬ (Rose sink.before.faults sink.after.faults) → HasWritten sink bytes
