-- What the program's words, texts and exit statuses mean.
use Rattle.std.specs.Prelude.{◌≡◌, ◌≤◌, ◌-◌, ◌^◌, ◌⊎◌, ◌++◌, ◌∷◌, [], ℕ, List, String, string_bytes, codes}
use Rattle.std.specs.Fmt.{decimal}
use Rattle.std.specs.declared.alloc.Global.{Global}
use Rattle.lr_outside.specs.Seen.{HasTold, SinkChange, SourceChange}
use Rattle.lr_draw.specs.declared.command.DrawEnd.{DrawEnd}
use Rattle.lr_draw.specs.declared.command.DrawEnd.TheVariants.{Ok as Done, Line, TooLong, ReadFault, WriteFault}
use Rattle.lr_draw.specs.declared.command.DrawEnd.TheVariants.{NoMemory}
use Rattle.lr_draw.specs.declared.history.Range.{Range}
use Rattle.lr_draw.specs.Ends.{EndMeans}

-- two words are the numbers of the first and of the last event
-- for example: `draw 3 9`
pub record AreNumbers (first last : List ℕ) (range : Range) : Type 0 where
  pub first_is : first ≡ decimal range.first
  pub last_is : last ≡ decimal range.last
  pub from_one : 1 ≤ range.first
  pub in_order : range.first ≤ range.last

-- the words ask for these events: the program's name alone for all, and two numbers behind it for those from one to
-- the other
abbrev pub IsRange : List (String Global) → Range → Type 0
IsRange (program ∷ []) range = range ≡ record { first = 1; last = 2 ^ 64 - 1 }
IsRange (program ∷ first ∷ last ∷ []) range = AreNumbers (string_bytes first) (string_bytes last) range
IsRange _ range = ⊥

-- the words ask for events
abbrev pub IsAsked : List (String Global) → Type 0
IsAsked words = (range : Range) × (range.last ≤ 2 ^ 64 - 1) × IsRange words range

-- a line of text
abbrev pub text_line : List ℕ → List ℕ
text_line text = text ++ 10 ∷ []

-- what is told where the words ask for nothing that there is
abbrev pub usage_text : List ℕ
usage_text = text_line (codes "usage: draw [FIRST LAST]")

-- the exit status of a drawing's end
-- for example: 3 of a refusal
abbrev pub code_of : DrawEnd → ℕ
code_of Done = 0
code_of (Line number) = 3
code_of TooLong = 3
code_of ReadFault = 4
code_of WriteFault = 5
code_of NoMemory = 6

-- what is told of a drawing's end: nothing where it is done
-- for example: `draw: line 4`
abbrev pub text_of : DrawEnd → List ℕ
text_of Done = []
text_of (Line number) = codes "draw: line " ++ text_line (decimal number)
text_of TooLong = text_line (codes "draw: too long")
text_of ReadFault = text_line (codes "draw: read fault")
text_of WriteFault = text_line (codes "draw: write fault")
text_of NoMemory = text_line (codes "draw: no memory")

-- the exit status is one of those that the program has
abbrev pub IsCode : ℕ → Type 0
IsCode code = (code ≡ 0) ⊎ (code ≡ 2) ⊎ (code ≡ 3) ⊎ (code ≡ 4) ⊎ (code ≡ 5) ⊎ (code ≡ 6)

-- this end was told on standard error, or that there was no memory for a bad line's text, and the status says which
pub record Told {Err : Type 0} (err : SinkChange Err) (end : DrawEnd) (code : ℕ) : Type 0 where
  pub end_told : DrawEnd
  pub same : (end_told ≡ end) ⊎ ((number : ℕ) × (end ≡ Line number) × (end_told ≡ NoMemory))
  pub status : code ≡ code_of end_told
  pub told : HasTold err (text_of end_told)

-- the exit status is that of an end of the drawing of the events that the words ask for, which means what it says of
-- source and sink, and was told on standard error
pub record DrawStatus {Out Err : Type 0} (words : List (String Global))
    (source : SourceChange) (sink : SinkChange Out) (err : SinkChange Err) (code : ℕ) : Type 0 where
  pub range : Range
  pub asked : IsRange words range
  pub end : DrawEnd
  pub meant : EndMeans range source sink end
  pub status : code ≡ code_of end
  pub told : HasTold err (text_of end)
