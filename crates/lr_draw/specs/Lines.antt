-- The lines of bytes: printable ones, and behind them a line feed.
use Rattle.std.specs.Prelude.{◌≢◌, ℕ, ◌-◌, min, length, take, drop, Bool, not, nat_le, ◌&&◌, Option, None}
use Rattle.std.specs.Prelude.{Some, List, [], ◌∷◌, ◌++◌, slice_index, position}
use Rattle.lr_draw.specs.declared.history.Span.{Span}

-- whether a byte is outside those from the space to the tilde
-- for example: a line feed
abbrev pub is_odd : ℕ → Bool
is_odd byte = not (nat_le 32 byte && nat_le byte 126)

-- there is no such byte, or the first one is no line feed
abbrev pub IsNoFeed : List ℕ → Option ℕ → Type 0
IsNoFeed bytes None = Unit {0}
IsNoFeed bytes (Some end) = slice_index bytes end ≢ 10

-- the bytes begin with no line of printable bytes
abbrev pub IsNoLine : List ℕ → Type 0
IsNoLine bytes = IsNoFeed bytes (position is_odd bytes)

-- a text as a line
abbrev pub line_of : List ℕ → List ℕ
line_of text = text ++ 10 ∷ []

-- the bytes of a span, as far as they are there
abbrev pub shown_of : List ℕ → Span → List ℕ
shown_of bytes span =
    let end = min span.end (length bytes) in
    let start = min span.start end in
    take (end - start) (drop start bytes)
