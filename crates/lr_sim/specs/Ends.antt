-- To be believed: how a simulation ends.
use Rattle.std.specs.Prelude.{◌≡◌, ◌≢◌, ◌+◌, ◌<◌, ◌⊎◌, ◌↔◌, ℕ, List, length}
use Rattle.lr_base.specs.Limits.{most_script_bytes}
use Rattle.lr_base.specs.Meaning.{Meaning}
use Rattle.lr_base.specs.declared.events.Event.{Event}
use Rattle.lr_outside.specs.Calls.{HasRead}
use Rattle.lr_outside.specs.Faults.{Rose}
use Rattle.lr_outside.specs.Seen.{HasNoReadFault, HasNoWriteFault, HasReadFault, HasWriteFault}
use Rattle.lr_outside.specs.Seen.{IsUnchanged, SinkChange, SourceChange}
use Rattle.lr_script.specs.Faults.{IsBadAt, IsBadHead}
use Rattle.lr_script.specs.Script.{HasHeader, IsScript}
use Rattle.lr_script.specs.declared.heading.Header.{Header}
use Rattle.lr_script.specs.declared.refusals.Cause.{Cause}
use Rattle.lr_script.specs.declared.refusals.Cause.TheVariants.{TooLong}
use Rattle.lr_sim.specs.Headline.{HasRunOf, HasRunPartOf}
use Rattle.lr_sim.specs.Services.{HoldsOf}
use Rattle.lr_sim.specs.declared.command.SimEnd.{SimEnd}
use Rattle.lr_sim.specs.declared.command.SimEnd.TheVariants.{Ok as Done, Script, ReadFault, WriteFault, NoMemory}

-- these bytes were read, with no fault: the input to its end, or its first bytes, one more than a script may have
abbrev pub HasReadInput : SourceChange → List ℕ → Type 0
HasReadInput source bytes = HasRead (most_script_bytes + 1) source bytes

-- the bytes are a script of the service that its header names, and the legal history of its events was written, whole
pub record HasRun {Out : Type 0} (bytes : List ℕ) (sink : SinkChange Out) : Type 0 where
  pub header : Header
  pub run : HoldsOf (λ Value Op m. HasRunOf m header bytes sink.before.held sink.after.held) header.service

-- the same, and the front of the legal history of some first of the events was written
pub record HasRunPart {Out : Type 0} (bytes : List ℕ) (sink : SinkChange Out) : Type 0 where
  pub header : Header
  pub part : HoldsOf (λ Value Op m. HasRunPartOf m header bytes sink.before.held sink.after.held) header.service

-- no events make these bytes a script with this header
abbrev pub IsNoScriptOf : {Value Op : Type 0} → Meaning Value Op → Header → List ℕ → Type 0
IsNoScriptOf {Value} {Op} m header bytes = (events : List (Event Op)) → ¬ (IsScript m header events bytes)

-- the bytes begin with this header's line, and this is the first bad line behind it, with the first cause at it
-- for example: line 2, `op`, of `call 0 0 5 add ann` behind a header of mail
pub record IsBadBehind (bytes : List ℕ) (line : ℕ) (cause : Cause) : Type 0 where
  pub header : Header
  pub has : HasHeader header bytes
  pub bad : HoldsOf (λ Value Op m. IsBadAt m bytes line cause) header.service

-- the bytes are no script of the service that a header names: this is the first bad line, with the first cause at it;
-- too many bytes are refused for just that
-- for example: line 1, `unended`, of `hello`
pub record IsRefusedFor (bytes : List ℕ) (line : ℕ) (cause : Cause) : Type 0 where
  pub meaningless : (header : Header) → HoldsOf (λ Value Op m. IsNoScriptOf m header bytes) header.service
  pub fault : IsBadHead bytes line cause ⊎ IsBadBehind bytes line cause
  pub long : (cause ≡ TooLong) ↔ (most_script_bytes < length bytes)

-- what each end means for the source and the sink: done, refused at a line, a read fault, a write fault, or no memory
abbrev pub EndMeans : {Out : Type 0} → SourceChange → SinkChange Out → SimEnd → Type 0
EndMeans source sink Done =
    (bytes : List ℕ) × HasReadInput source bytes × HasRun bytes sink × HasNoWriteFault sink
EndMeans source sink (Script line cause) =
    (bytes : List ℕ) × HasReadInput source bytes × IsRefusedFor bytes line cause × IsUnchanged sink
EndMeans source sink ReadFault = HasReadFault source × IsUnchanged sink
EndMeans source sink WriteFault =
    (bytes : List ℕ) × HasReadInput source bytes × HasRunPart bytes sink × HasWriteFault sink
EndMeans source sink NoMemory = HasNoReadFault source × HasNoWriteFault sink
    × (IsUnchanged sink ⊎ ((bytes : List ℕ) × HasReadInput source bytes × HasRunPart bytes sink))

-- if events make these bytes a script with this header, the simulation is done
abbrev pub IsDoneFor : {Value Op : Type 0} → Meaning Value Op → Header → List ℕ → SimEnd → Type 0
IsDoneFor {Value} {Op} m header bytes end = (events : List (Event Op)) → IsScript m header events bytes → end ≡ Done

-- it may not give up: where no call failed and there was memory, the input was read, and if it is a script of the
-- service that its header names the simulation is done
-- for example: not: a write fault, or a refusal of `first.script`
abbrev pub IsComplete : {Out : Type 0} → SourceChange → SinkChange Out → SimEnd → Type 0
IsComplete source sink end =
    ¬ (Rose source.before.faults source.after.faults) → ¬ (Rose sink.before.faults sink.after.faults) → end ≢ NoMemory
    → (bytes : List ℕ) × HasReadInput source bytes
    × ((header : Header) → HoldsOf (λ Value Op m. IsDoneFor m header bytes end) header.service)
