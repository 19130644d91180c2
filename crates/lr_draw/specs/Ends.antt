-- How a drawing ends.
use Rattle.std.specs.Prelude.{◌<◌, ◌⊎◌, ℕ, List, length, take}
use Rattle.lr_outside.specs.Calls.{HasRead}
use Rattle.lr_outside.specs.Seen.{HasNoReadFault, HasNoWriteFault, HasReadFault, HasWriteFault, HasWritten}
use Rattle.lr_outside.specs.Seen.{IsUnchanged, SinkChange, SourceChange}
use Rattle.lr_draw.specs.declared.command.DrawEnd.{DrawEnd}
use Rattle.lr_draw.specs.declared.command.DrawEnd.TheVariants.{Ok as Done, Line, TooLong, ReadFault, WriteFault}
use Rattle.lr_draw.specs.declared.command.DrawEnd.TheVariants.{NoMemory}
use Rattle.lr_draw.specs.declared.history.Range.{Range}
use Rattle.lr_draw.specs.declared.history.DrawFault.{DrawFault}
use Rattle.lr_draw.specs.declared.history.DrawFault.TheVariants.{Line as BadLine, TooLong as TooMuch}
use Rattle.lr_draw.specs.declared.history.DrawFault.TheVariants.{NoMemory as NoMemoryLeft}
use Rattle.lr_draw.specs.Drawings.{HasTooMany, IsDrawing}
use Rattle.lr_draw.specs.Histories.{IsFirstBad}

-- these bytes were read, with no fault: the input to its end, or its first 67,108,865 bytes, which are too many
abbrev pub HasReadInput : SourceChange → List ℕ → Type 0
HasReadInput source bytes = HasRead 67108865 source bytes

-- a picture of these events of the bytes was written, whole
pub record HasDrawn {Out : Type 0} (range : Range) (bytes : List ℕ) (sink : SinkChange Out) : Type 0 where
  pub text : List ℕ
  pub drawing : IsDrawing range bytes text
  pub written : HasWritten sink text

-- some first bytes of one were written
pub record HasBegun {Out : Type 0} (range : Range) (bytes : List ℕ) (sink : SinkChange Out) : Type 0 where
  pub text : List ℕ
  pub drawing : IsDrawing range bytes text
  pub count : ℕ
  pub written : HasWritten sink (take count text)

-- what each end means for the source and the sink: done, a first bad line, too much, a read fault, a write fault, or no
-- memory
abbrev pub EndMeans : {Out : Type 0} → Range → SourceChange → SinkChange Out → DrawEnd → Type 0
EndMeans range source sink Done =
    (bytes : List ℕ) × HasReadInput source bytes × HasDrawn range bytes sink × HasNoWriteFault sink
EndMeans range source sink (Line number) =
    (bytes : List ℕ) × HasReadInput source bytes × IsFirstBad bytes number × IsUnchanged sink
EndMeans range source sink TooLong = (bytes : List ℕ) × HasReadInput source bytes
    × ((67108864 < length bytes) ⊎ HasTooMany range bytes) × IsUnchanged sink
EndMeans range source sink ReadFault = HasReadFault source × IsUnchanged sink
EndMeans range source sink WriteFault =
    (bytes : List ℕ) × HasReadInput source bytes × HasBegun range bytes sink × HasWriteFault sink
EndMeans range source sink NoMemory = HasNoReadFault source × IsUnchanged sink

-- the end of a drawing that was refused
abbrev pub refused_end : DrawFault → DrawEnd
refused_end (BadLine number) = Line number
refused_end TooMuch = TooLong
refused_end NoMemoryLeft = NoMemory
