-- The text of a picture, element by element.
use Rattle.std.specs.Prelude.{ℕ, Bool, true, false, List, ◌++◌, codes}
use Rattle.std.specs.Fmt.{decimal}
use Rattle.std.specs.List.{flat_map}
use Rattle.lr_base.specs.declared.names.Actor.{Actor}
use Rattle.lr_base.specs.declared.names.Actor.TheVariants.{Client, Replica}
use Rattle.lr_draw.specs.declared.arrows.Arrow.{Arrow}
use Rattle.lr_draw.specs.declared.kinds.Kind.{Kind}
use Rattle.lr_draw.specs.declared.marks.Class.{Class}
use Rattle.lr_draw.specs.declared.marks.Class.TheVariants.{Lane, Broken, Bar, Cross, Dot as DotClass, Ring, Of}
use Rattle.lr_draw.specs.declared.marks.Mark.{Mark}
use Rattle.lr_draw.specs.declared.marks.Mark.TheVariants.{Line, Dot, Words, Number, Name, Tag, Key}
use Rattle.lr_draw.specs.declared.marks.Picture.{Picture}
use Rattle.lr_draw.specs.declared.marks.Point.{Point}
use Rattle.lr_draw.specs.declared.marks.Side.{Side}
use Rattle.lr_draw.specs.declared.marks.Side.TheVariants.{Left, Right}
use Rattle.lr_draw.specs.declared.printing.TheConstants.{DOT, OPENING, SHIFT, STYLE}
use Rattle.lr_draw.specs.Escapes.{escaped}
use Rattle.lr_draw.specs.Kinds.{kind_name}
use Rattle.lr_draw.specs.Lines.{shown_of}
use Rattle.lr_draw.specs.Places.{x_of, y_of}

-- a number behind what stands before it
unfoldable pub field_text : List ℕ → ℕ → List ℕ
field_text before number = before ++ decimal number

-- a straight way from one place to another, which ends its element's tag
unfoldable pub way_text : Point → Point → List ℕ
way_text from to =
    field_text (codes "' d='M") from.x ++ (field_text (codes " ") from.y
    ++ (field_text (codes "L") to.x ++ (field_text (codes " ") to.y ++ codes "'>")))

-- where a text stands, which ends its element's tag
unfoldable pub spot_text : Point → List ℕ
spot_text at = field_text (codes "' x='") at.x ++ (field_text (codes "' y='") at.y ++ codes "'>")

-- where a circle's centre is, which ends its element's tag
unfoldable pub center_text : Point → List ℕ
center_text at = field_text (codes "' cx='") at.x ++ (field_text (codes "' cy='") at.y ++ codes "'>")

-- how a text rises or falls to the right, which ends its element's tag
abbrev pub tilt_text : Bool → List ℕ
tilt_text true = codes ") rotate(-30)'>"
tilt_text false = codes ") rotate(30)'>"

-- where such a text begins
unfoldable pub shift_text : Point → Bool → List ℕ
shift_text at rises = field_text SHIFT.now at.x ++ (field_text (codes " ") at.y ++ tilt_text rises)

-- a picture's size
unfoldable pub size_text : Point → List ℕ
size_text size = field_text (codes "' width='") size.x ++ field_text (codes "' height='") size.y

-- the part of the plane that a picture shows, which ends its tag
unfoldable pub view_text : Point → List ℕ
view_text size = field_text (codes "' viewBox='0 0 ") size.x ++ (field_text (codes " ") size.y ++ codes "'>\n")

-- what is shown of an element where it is pointed at: text of the input, escaped
unfoldable pub title_text : List ℕ → List ℕ
title_text text = codes "<title>" ++ (escaped text ++ codes "</title>")

-- the name of a class
-- for example: `lane`
abbrev pub class_name : Class → List ℕ
class_name Lane = codes "lane"
class_name Broken = codes "broken"
class_name Bar = codes "bar"
class_name Cross = codes "cross"
class_name DotClass = codes "dot"
class_name Ring = codes "ring"
class_name (Of kind) = kind_name kind

-- a lane's name
-- for example: `c0`
abbrev pub actor_name : Actor → List ℕ
actor_name (Client number) = field_text (codes "c") number
actor_name (Replica number) = field_text (codes "r") number

-- a message's number and its kind
-- for example: `3 done`
abbrev pub message_name : ℕ → Kind → List ℕ
message_name number kind = decimal number ++ (codes " " ++ kind_name kind)

-- the tag of a message's text up to its place, which it ends or begins at
abbrev pub side_text : Side → List ℕ
side_text Left = codes "<text class='s"
side_text Right = codes "<text class='t"

abbrev pub line_text : Class → Point → Point → List ℕ → List ℕ
line_text class from to title =
    codes "<path class='" ++ (class_name class ++ (way_text from to ++ (title_text title ++ codes "</path>\n")))

abbrev pub dot_text : Class → Point → List ℕ → List ℕ
dot_text class at title =
    DOT.now ++ (class_name class ++ (center_text at ++ (title_text title ++ codes "</circle>\n")))

abbrev pub words_text : Point → Bool → List ℕ → List ℕ
words_text at rises text = codes "<text class='o" ++ (shift_text at rises ++ (escaped text ++ codes "</text>\n"))

-- an element that isn't an arrow; what it shows of the input is taken from the bytes
unfoldable pub mark_text : List ℕ → Mark → List ℕ
mark_text bytes (Line class from to title) = line_text class from to (shown_of bytes title)
mark_text bytes (Dot class at title) = dot_text class at (shown_of bytes title)
mark_text bytes (Words at rises text) = words_text at rises (shown_of bytes text)
mark_text bytes (Number at number) = codes "<text class='n" ++ (spot_text at ++ (decimal number ++ codes "</text>\n"))
mark_text bytes (Name at actor) = codes "<text class='l" ++ (spot_text at ++ (actor_name actor ++ codes "</text>\n"))
mark_text bytes (Tag at side number kind) =
    side_text side ++ (spot_text at ++ (message_name number kind ++ codes "</text>\n"))
mark_text bytes (Key at kind) = codes "<text class='k" ++ (spot_text at ++ (kind_name kind ++ codes "</text>\n"))

-- where an arrow begins: at the event that sent the message, on the sender's lane
abbrev pub begin_of : Picture → Arrow → Point
begin_of picture arrow = record { x = x_of picture.first arrow.sent.event; y = y_of picture.lanes arrow.sent.from }

-- where an arrow ends: at the event that delivers the message, on the receiver's lane
abbrev pub end_of : Picture → Arrow → Point
end_of picture arrow = record { x = x_of picture.first arrow.ends; y = y_of picture.lanes arrow.sent.to }

unfoldable pub arrow_text : List ℕ → Picture → Arrow → List ℕ
arrow_text bytes picture arrow =
    codes "<path class='a " ++ (kind_name arrow.sent.kind ++ (way_text (begin_of picture arrow) (end_of picture arrow)
    ++ (title_text (shown_of bytes arrow.sent.line) ++ codes "</path>\n")))

-- the opening tag, of a picture of this size, and how everything looks
unfoldable pub opening_text : Point → List ℕ
opening_text size =
    OPENING.now ++ (size_text size ++ (view_text size ++ STYLE.now))

-- the closing tag
abbrev pub closing_text : List ℕ
closing_text = codes "</svg>\n"

-- the opening tag, the elements of the three layers, and the closing tag
abbrev pub picture_text : List ℕ → Picture → List ℕ
picture_text bytes picture =
    opening_text picture.size ++ (flat_map (mark_text bytes) picture.under
    ++ (flat_map (arrow_text bytes picture) picture.arrows
    ++ (flat_map (mark_text bytes) picture.over ++ closing_text)))
