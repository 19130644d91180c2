-- To be believed: what the program's words, texts and exit statuses mean.
use Rattle.std.specs.Prelude.{◌≡◌, ◌⊎◌, ◌++◌, ◌∷◌, [], ℕ, List, String, string_bytes, codes}
use Rattle.std.specs.Fmt.{decimal}
use Rattle.std.specs.declared.alloc.Global.{Global}
use Rattle.lr_outside.specs.Seen.{HasTold, SinkChange, SourceChange}
use Rattle.lr_sim.specs.Ends.{EndMeans, IsComplete}
use Rattle.lr_sim.specs.declared.command.SimEnd.{SimEnd}
use Rattle.lr_sim.specs.declared.command.SimEnd.TheVariants.{Ok as Done, Script, ReadFault, WriteFault, NoMemory}
use Rattle.lr_script.specs.declared.refusals.Cause.{Cause}
use Rattle.lr_script.specs.declared.refusals.Cause.TheVariants.{TooLong, Unended, Byte, Header, Event}
use Rattle.lr_script.specs.declared.refusals.Cause.TheVariants.{Fields, Number, Range, Op}

-- there are two words, and the second is `sim`
-- for example: `lazyrep sim`
abbrev pub IsSim : List (String Global) → Type 0
IsSim (program ∷ word ∷ []) = string_bytes word ≡ codes "sim"
IsSim _ = ⊥

-- a line of text
abbrev pub text_line : List ℕ → List ℕ
text_line text = text ++ 10 ∷ []

-- what is told where the words ask for nothing that there is
abbrev pub usage_text : List ℕ
usage_text = text_line (codes "usage: lazyrep sim | run | gen NUMBER")

-- what is wrong with a line, in words
-- for example: `too long`
abbrev pub cause_text : Cause → List ℕ
cause_text TooLong = codes "too long"
cause_text Unended = codes "unended"
cause_text Byte = codes "byte"
cause_text Header = codes "header"
cause_text Event = codes "event"
cause_text Fields = codes "fields"
cause_text Number = codes "number"
cause_text Range = codes "range"
cause_text Op = codes "op"

-- the exit status of a simulation's end
-- for example: 3 of a refusal
abbrev pub code_of : SimEnd → ℕ
code_of Done = 0
code_of (Script number cause) = 3
code_of ReadFault = 4
code_of WriteFault = 5
code_of NoMemory = 6

-- what is told of a simulation's end: nothing where it is done
-- for example: `lazyrep: line 2: op`
abbrev pub text_of : SimEnd → List ℕ
text_of Done = []
text_of (Script number cause) =
    codes "lazyrep: line " ++ (decimal number ++ (codes ": " ++ text_line (cause_text cause)))
text_of ReadFault = text_line (codes "lazyrep: read fault")
text_of WriteFault = text_line (codes "lazyrep: write fault")
text_of NoMemory = text_line (codes "lazyrep: no memory")

-- the exit status is one of those that the program has
abbrev pub IsCode : ℕ → Type 0
IsCode code = (code ≡ 0) ⊎ (code ≡ 2) ⊎ (code ≡ 3) ⊎ (code ≡ 4) ⊎ (code ≡ 5) ⊎ (code ≡ 6)

-- this end was told on standard error, or that there was no memory for a script's fault, and the status says which
pub record Told {Err : Type 0} (err : SinkChange Err) (end : SimEnd) (code : ℕ) : Type 0 where
  pub end_told : SimEnd
  pub same : (end_told ≡ end) ⊎ ((line : ℕ) × (cause : Cause) × (end ≡ Script line cause) × (end_told ≡ NoMemory))
  pub status : code ≡ code_of end_told
  pub told : HasTold err (text_of end_told)

-- the exit status is that of an end of the simulation, which means what it says of source and sink, doesn't give up,
-- and was told on standard error
pub record SimStatus {Out Err : Type 0}
    (source : SourceChange) (sink : SinkChange Out) (err : SinkChange Err) (code : ℕ) : Type 0 where
  pub end : SimEnd
  pub meant : EndMeans source sink end
  pub complete : IsComplete source sink end
  pub status : code ≡ code_of end
  pub told : HasTold err (text_of end)
