-- Parts of stamps that there aren't, and how great a part is that was read.
use Rattle.std.proofs.Common.{◌≡◌, ◌≤◌, ℕ, zero, suc, List, [], ◌∷◌, length, nat_le, refl, sym, arith}
use Rattle.std.proofs.lemmas.Bool.{leb-true}
use Rattle.lr_base.specs.ByteLaws.{and_then-found, passed-found}
use Rattle.lr_base.specs.Bytes.{Bytes, Found}
use Rattle.lr_base.specs.FormatLaws.{found-same}
use Rattle.lr_base.specs.Formats.{number_format}
use Rattle.lr_base.specs.Limits.{last_number}
use Rattle.lr_base.specs.declared.bytes.BadWhat.TheVariants.{Range}
use Rattle.lr_codec.specs.Parts.{part_format}
use Rattle.lr_base.specs.Stamps.{part}

-- a part past the end is 0
pub part-past : (a : List ℕ) (place : ℕ) → length a ≤ place → 0 ≡ part a place
part-past [] place past = refl
part-past (x ∷ a) zero past = absurd (omega arith)
part-past (x ∷ a) (suc place) past = part-past a place (omega arith)

-- a part that was read is at most the last number
pub part-low : (bytes : Bytes) (number : ℕ) (rest : Bytes) → part_format.field bytes ≡ Found number rest → number ≤ last_number
part-low bytes number rest is =
    let one = and_then-found (number_format.field bytes) _ number rest is in
    let passed = passed-found (nat_le one.0 last_number) (Found one.0 one.1) (length bytes) Range number rest one.3 in
    let same = (found-same one.0 number one.1 rest passed.1).0 in
    rw (sym same) (leb-true one.0 last_number passed.0)
