-- To be believed: words: the names in operations.
use Rattle.std.specs.Prelude.{ℕ, Bool, ◌&&◌, ◌||◌, nat_le, length}
use Rattle.std.specs.List.{list_all}
use Rattle.lr_base.specs.Bytes.{Bytes}

-- a byte from a to z, or from 0 to 9
-- for example: `q`, not `Q`
abbrev pub is_word_byte : ℕ → Bool
is_word_byte byte = (nat_le 97 byte && nat_le byte 122) || (nat_le 48 byte && nat_le byte 57)

-- 1 to 16 such bytes
-- for example: `n36`
abbrev pub is_word : Bytes → Bool
is_word text = nat_le 1 (length text) && nat_le (length text) 16 && list_all is_word_byte text
