-- The law of stable bytes: a state's spelling is read as it, and bytes that are read are the spelling of what was read.
use Rattle.std.specs.Prelude.{◌≡◌, ◌<◌, ◌^◌, true, length}
use Rattle.lr_base.specs.Bytes.{Bytes, Good, are_bytes}
use Rattle.lr_base.specs.Formats.{Format, decoded_in}

-- each value has one spelling, and each byte string is that of at most one value
pub record HasOneSpelling {A : Type 0} (f : Format A) : Type 0 where
  pub spelled : (value : A) → f.is_value value ≡ true → length (f.written value) < 2 ^ 64
      → decoded_in f (f.written value) ≡ Good value
  pub one_spelling : (bytes : Bytes) (value : A) → are_bytes bytes ≡ true → decoded_in f bytes ≡ Good value
      → (f.written value ≡ bytes) × (f.is_value value ≡ true)
