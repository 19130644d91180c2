-- What stands before the first byte that isn't printable is printable.
use Rattle.std.proofs.Common.{◌≡◌, ℕ, ◌<◌, Bool, true, false, not, ◌&&◌, leb, List, length, take}
use Rattle.std.proofs.Common.{Some, refl, arith}
use Rattle.std.specs.List.{position}
use Rattle.std.proofs.lemmas.List.{get_or-take, length-take-le}
use Rattle.std.proofs.lemmas.List.Quantifiers.{position-Some}
use Rattle.std.proofs.lemmas.List.Sums.{list_all-from_AllPass}
use Rattle.lr_base.specs.Meaning.{is_printable}
use Rattle.lr_draw.specs.Lines.{is_odd}

from_not : (b : Bool) → not b ≡ false → b ≡ true
from_not true h = refl
from_not false h = cc

pub printable_before : (bytes : List ℕ) (end : ℕ) → position is_odd bytes ≡ Some end
    → is_printable (take end bytes) ≡ true
printable_before bytes end h = list_all-from_AllPass (λ byte. leb 32 byte && leb byte 126) (take end bytes) (λ k d
    below.
    let found = position-Some is_odd bytes end d h in
    let long : length (take end bytes) ≡ end = length-take-le end bytes (omega arith) in
    let near : k < end = omega arith in
    from_not _ (rw (get_or-take end bytes k d near) (found.2 k near)))
