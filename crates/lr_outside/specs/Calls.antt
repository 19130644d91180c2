-- To be believed: what a read and a write do.
use Rattle.std.specs.Prelude.{◌≡◌, ◌+◌, ◌<◌, ◌≤◌, ℕ, List, [], length, Option, Result, Ok, Err}
use Rattle.std.specs.Io.{ReadsAtMost, WritesAtMost}
use Rattle.std.specs.Io.KnownBytes.{Consumes, IsAtEnd, ReadConsumes, WriteAppends}
use Rattle.lr_outside.specs.Faults.{faults_after, one_more}
use Rattle.lr_outside.specs.Seen.{HasNoReadFault, SinkChange, SourceChange}
use Rattle.lr_outside.specs.declared.whole.ReadEnd.{ReadEnd}
use Rattle.lr_outside.specs.declared.whole.ReadEnd.TheVariants.{Failed, NoMemory}

-- a read: it gave some first bytes of those left that find room, none only at their end, and counted one fault just
-- where it failed
pub record IsReadCall {E : Type 0} (source : SourceChange) (result : Result ℕ E) (into : List ℕ) : Type 0 where
  pub bound : ReadsAtMost result into
  pub bytes : ReadConsumes source.before.left source.after.left result into
  pub counted : source.after.faults ≡ faults_after source.before.faults result

-- a write: it added some first bytes of the piece, none only of a piece that has none, and counted one fault just where
-- it failed
pub record IsWriteCall {Out E : Type 0}
    (sink : SinkChange Out) (result : Result ℕ E) (piece : List ℕ) : Type 0 where
  pub bound : WritesAtMost result piece
  pub bytes : WriteAppends sink.before.held sink.after.held result piece
  pub counted : sink.after.faults ≡ faults_after sink.before.faults result
  pub some_taken : result ≡ Ok 0 → piece ≡ []

-- these bytes were read, with no fault: all that were left, or the first `most` of them
pub record HasRead (most : ℕ) (source : SourceChange) (bytes : List ℕ) : Type 0 where
  pub taken : Consumes source.before.left source.after.left bytes
  pub within : length bytes ≤ most
  pub whole : length bytes < most → IsAtEnd source.after.left
  pub unfailed : HasNoReadFault source

-- the count of faults after reading that ended so: one more just where a read failed
abbrev pub faults_read : {T : Type 0} → ℕ → Result T ReadEnd → ℕ
faults_read count (Ok value) = count
faults_read count (Err Failed) = one_more count
faults_read count (Err NoMemory) = count

-- bytes that were all taken since some time grew by just what was taken meanwhile
abbrev pub StillTaken : List ℕ → List ℕ → Option (List ℕ) → Option (List ℕ) → Type 0
StillTaken before now old new = (start : Option (List ℕ)) → Consumes start old before → Consumes start new now

-- so many bytes, no more than asked for, were read behind those that were there, none only at the end
pub record HasReadMore
    (most : ℕ) (source : SourceChange) (bytes_before bytes_now : List ℕ) (count : ℕ) : Type 0 where
  pub within : count ≤ most
  pub grown : length bytes_now ≡ length bytes_before + count
  pub taken : StillTaken bytes_before bytes_now source.before.left source.after.left
  pub end : count ≡ 0 → 0 < most → IsAtEnd source.after.left
