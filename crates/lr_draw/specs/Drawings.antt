-- The picture of a history, and why there is none.
use Rattle.std.specs.Prelude.{◌≡◌, ◌<◌, ◌≤◌, ◌⊎◌, ℕ, List, length, count_by}
use Rattle.std.specs.List.{flat_map}
use Rattle.lr_draw.specs.declared.history.Event.{Event}
use Rattle.lr_draw.specs.declared.history.History.{History}
use Rattle.lr_draw.specs.declared.history.Range.{Range}
use Rattle.lr_draw.specs.declared.history.DrawFault.{DrawFault}
use Rattle.lr_draw.specs.declared.history.DrawFault.TheVariants.{Line, TooLong, NoMemory}
use Rattle.lr_draw.specs.declared.marks.Picture.{Picture}
use Rattle.lr_draw.specs.Arrows.{arrows_at, is_drawn}
use Rattle.lr_draw.specs.Histories.{IsFirstBad, IsHistory}
use Rattle.lr_draw.specs.Svg.{picture_text}

-- how many events are drawn
abbrev pub drawn_count : Range → List Event → ℕ
drawn_count range events = count_by (λ event. is_drawn range event.number) events

-- a picture of these events of a history: it has at most so many, and one arrow for each delivery, in their order
pub record IsPicture (range : Range) (history : History) (picture : Picture) : Type 0 where
  pub few : drawn_count range history.events ≤ 10000
  pub first : picture.first ≡ range.first
  pub arrows : picture.arrows ≡ flat_map (arrows_at range history.messages) history.events

-- the bytes are a history, and the text is that of a picture of these events of it
pub record IsDrawing (range : Range) (bytes text : List ℕ) : Type 0 where
  pub short : length bytes ≤ 67108864
  pub history : History
  pub read : IsHistory bytes history
  pub picture : Picture
  pub drawn : IsPicture range history picture
  pub text_is : text ≡ picture_text bytes picture

-- the bytes are a history, and too many of its events are asked for
pub record HasTooMany (range : Range) (bytes : List ℕ) : Type 0 where
  pub history : History
  pub read : IsHistory bytes history
  pub many : 10000 < drawn_count range history.events

-- why there is no picture of these events of the bytes
abbrev pub IsUndrawn : Range → List ℕ → DrawFault → Type 0
IsUndrawn range bytes (Line number) = IsFirstBad bytes number
IsUndrawn range bytes TooLong = (67108864 < length bytes) ⊎ HasTooMany range bytes
IsUndrawn range bytes NoMemory = Unit {0}
