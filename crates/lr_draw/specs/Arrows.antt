-- The arrows of a picture: one for each delivery that is drawn.
use Rattle.std.specs.Prelude.{◌==◌, ◌-◌, ℕ, Bool, ◌&&◌, nat_le, nat_lt, cond, Option, None, Some, List, []}
use Rattle.std.specs.Prelude.{slice_get, option_to_list}
use Rattle.lr_draw.specs.declared.acts.Act.{Act}
use Rattle.lr_draw.specs.declared.acts.Act.TheVariants.{Deliver, At, Restart, Gossip, Elsewhere}
use Rattle.lr_draw.specs.declared.arrows.Arrow.{Arrow}
use Rattle.lr_draw.specs.declared.history.Event.{Event}
use Rattle.lr_draw.specs.declared.history.Message.{Message}
use Rattle.lr_draw.specs.declared.history.Range.{Range}

-- whether the event of this number is drawn
abbrev pub is_drawn : Range → ℕ → Bool
is_drawn range number = nat_le range.first number && nat_le number range.last

-- the message, if it was sent before the event of this number
abbrev pub if_sent_before : ℕ → Option Message → Option Message
if_sent_before event None = None
if_sent_before event (Some message) = cond (nat_lt message.event event) (Some message) None

-- the message of this number, from 1, if it was sent before the event of that number
abbrev pub sent_as : List Message → ℕ → ℕ → Option Message
sent_as messages number event = cond (number == 0) None (if_sent_before event (slice_get messages (number - 1)))

-- the arrow of a delivery of a message, if that was sent
abbrev pub delivery_of : ℕ → Event → Option Message → Option Arrow
delivery_of number event None = None
delivery_of number event (Some message) = Some (record { number = number; ends = event.number; sent = message })

-- the arrow of an event that does this: it ends there, and begins at the event that sent the message
abbrev pub arrow_by : List Message → Event → Act → Option Arrow
arrow_by messages event (Deliver number) = delivery_of number event (sent_as messages number event.number)
arrow_by messages event (At actor) = None
arrow_by messages event (Restart replica) = None
arrow_by messages event (Gossip from to) = None
arrow_by messages event Elsewhere = None

-- the arrow that ends at an event, if it delivers a message
abbrev pub arrow_of : List Message → Event → Option Arrow
arrow_of messages event = arrow_by messages event event.act

-- the arrows at an event: none where it isn't drawn
abbrev pub arrows_at : Range → List Message → Event → List Arrow
arrows_at range messages event = cond (is_drawn range event.number) (option_to_list (arrow_of messages event)) []
