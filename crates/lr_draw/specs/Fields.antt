-- The fields of a line, which stand between single spaces.
use Rattle.std.specs.Prelude.{◌≡◌, ◌≢◌, ℕ, ◌+◌, ◌<◌, ◌==◌, Option, None, Some, List, [], take, drop, position}
use Rattle.std.specs.Fmt.{decimal}

-- what stands before a space, or all where there is none
abbrev pub before_space : List ℕ → Option ℕ → List ℕ
before_space text None = text
before_space text (Some end) = take end text

-- what stands behind a space, or nothing where there is none
abbrev pub behind_space : List ℕ → Option ℕ → List ℕ
behind_space text None = []
behind_space text (Some end) = drop (end + 1) text

-- a text's first field
-- for example: `call` and `0 0 5 read x`
abbrev pub first_field : List ℕ → List ℕ
first_field text = before_space text (position (λ byte. byte == 32) text)

-- the fields behind the first
abbrev pub behind_field : List ℕ → List ℕ
behind_field text = behind_space text (position (λ byte. byte == 32) text)

-- this number below the limit is written so
-- for example: `12`
abbrev pub IsNumberBelow : ℕ → ℕ → List ℕ → Type 0
IsNumberBelow limit number text = (text ≡ decimal number) × (number < limit)

-- no number below the limit is written so
-- for example: `012`
abbrev pub IsNoneBelow : ℕ → List ℕ → Type 0
IsNoneBelow limit text = (number : ℕ) → number < limit → text ≢ decimal number
