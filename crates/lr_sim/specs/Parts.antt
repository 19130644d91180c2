-- What the parts of a simulation say.
use Rattle.std.specs.Prelude.{◌≡◌, ◌⊎◌, ℕ, List, ◌++◌, Option, Result, Ok, Err}
use Rattle.std.specs.Io.KnownBytes.{Appends}
use Rattle.lr_base.specs.Meaning.{Meaning}
use Rattle.lr_outside.specs.Faults.{one_more}
use Rattle.lr_outside.specs.Seen.{HasNoWriteFault, HasWriteFault, IsUnchanged, SinkChange}
use Rattle.lr_script.specs.Faults.{IsRefusal}
use Rattle.lr_script.specs.declared.heading.Header.{Header}
use Rattle.lr_script.specs.declared.refusals.ScriptFault.{ScriptFault}
use Rattle.lr_script.specs.declared.refusals.ScriptFault.TheVariants.{Line, NoMemory as NoMemoryLeft}
use Rattle.lr_sim.specs.Headline.{HasRunOf, HasRunPartOf}
use Rattle.lr_sim.specs.declared.command.RunFault.{RunFault}
use Rattle.lr_sim.specs.declared.command.RunFault.TheVariants.{Write, NoMemory as NoMemoryRun}
use Rattle.lr_sim.specs.declared.command.SimEnd.{SimEnd}
use Rattle.lr_sim.specs.declared.command.SimEnd.TheVariants.{Ok as Done, Script, ReadFault, WriteFault, NoMemory}

-- some first bytes of a text were written, and this is left of it
pub record HasMoved (before now : Option (List ℕ)) (text left : List ℕ) : Type 0 where
  pub written : List ℕ
  pub appended : Appends before now written
  pub parts : text ≡ written ++ left

-- the count of a sink's faults after a run that ended so: one more just where a write failed
abbrev pub faults_run : {T : Type 0} → ℕ → Result T RunFault → ℕ
faults_run count (Ok value) = count
faults_run count (Err Write) = one_more count
faults_run count (Err NoMemoryRun) = count

-- a script's fault ends the simulation with its line and cause, or for want of memory
abbrev pub IsFault : ScriptFault → SimEnd → Type 0
IsFault (Line line cause) end = end ≡ Script line cause
IsFault NoMemoryLeft end = end ≡ NoMemory

-- what each end means for bytes that begin with this header's line, where this is what its service means
abbrev pub EndMeansOf : {Value Op Out : Type 0}
    → Meaning Value Op → Header → List ℕ → SinkChange Out → SimEnd → Type 0
EndMeansOf m header bytes sink Done =
    HasRunOf m header bytes sink.before.held sink.after.held × HasNoWriteFault sink
EndMeansOf m header bytes sink (Script line cause) = IsRefusal m bytes line cause × IsUnchanged sink
EndMeansOf m header bytes sink ReadFault = ⊥
EndMeansOf m header bytes sink WriteFault =
    HasRunPartOf m header bytes sink.before.held sink.after.held × HasWriteFault sink
EndMeansOf m header bytes sink NoMemory = HasNoWriteFault sink
    × (IsUnchanged sink ⊎ HasRunPartOf m header bytes sink.before.held sink.after.held)
