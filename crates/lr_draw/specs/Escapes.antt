-- How text of the input is written in a picture.
use Rattle.std.specs.Prelude.{◌≢◌, ◌==◌, ℕ, cond, List, [], ◌∷◌, ◌++◌, codes}
use Rattle.std.specs.List.{flat_map}

-- a byte, or its escape where it could end a text or begin another thing
-- for example: `&lt;` of `<`
abbrev pub escaped_byte : ℕ → List ℕ
escaped_byte byte =
    cond (byte == 60) (codes "&lt;")
    (cond (byte == 62) (codes "&gt;")
    (cond (byte == 38) (codes "&amp;")
    (cond (byte == 34) (codes "&quot;")
    (cond (byte == 39) (codes "&#39;") (byte ∷ [])))))

-- each byte or its escape
-- for example: `a&lt;b` of `a<b`
abbrev pub escaped : List ℕ → List ℕ
escaped text = flat_map escaped_byte text

-- a byte that stands for itself
pub record IsPlain (byte : ℕ) : Type 0 where
  pub no_less : byte ≢ 60
  pub no_greater : byte ≢ 62
  pub no_ampersand : byte ≢ 38
  pub no_quote : byte ≢ 34
  pub no_apostrophe : byte ≢ 39

-- text of plain bytes and of the five escapes
pub data IsEscaped : List ℕ → Type 0 where
  ended : IsEscaped []
  plain : (byte : ℕ) (rest : List ℕ) → IsPlain byte → IsEscaped rest → IsEscaped (byte ∷ rest)
  less : (rest : List ℕ) → IsEscaped rest → IsEscaped (codes "&lt;" ++ rest)
  greater : (rest : List ℕ) → IsEscaped rest → IsEscaped (codes "&gt;" ++ rest)
  ampersand : (rest : List ℕ) → IsEscaped rest → IsEscaped (codes "&amp;" ++ rest)
  quote : (rest : List ℕ) → IsEscaped rest → IsEscaped (codes "&quot;" ++ rest)
  apostrophe : (rest : List ℕ) → IsEscaped rest → IsEscaped (codes "&#39;" ++ rest)
