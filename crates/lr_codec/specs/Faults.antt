-- What reading a state answers.
use Rattle.std.specs.Prelude.{◌≡◌, Result, Ok, Err, ⊤}
use Rattle.lr_base.specs.Bytes.{Decoded, Good, Bad}
use Rattle.lr_codec.specs.declared.codec.CodecFault.{CodecFault}
use Rattle.lr_codec.specs.declared.codec.CodecFault.TheVariants as fault

-- a call's answer is what the bytes are, unless there was no memory
abbrev pub ReadsWhole : {A : Type 0} → Decoded A → Result A CodecFault → Type 0
ReadsWhole decoded (Ok value) = decoded ≡ Good value
ReadsWhole decoded (Err (fault.Bad at what)) = decoded ≡ Bad at what
ReadsWhole decoded (Err fault.NoMemory) = ⊤
