-- To be believed: the one text of each thing that scripts speak of.
use Rattle.std.specs.Prelude.{ℕ, List, ◌++◌, codes}
use Rattle.std.specs.Fmt.{decimal}
use Rattle.lr_base.specs.Meaning.{Meaning}
use Rattle.lr_base.specs.declared.events.Event.{Event}
use Rattle.lr_base.specs.declared.events.Event.TheVariants.{Call, Resend, Ack, Deliver, Tick, Gossip, Show}
use Rattle.lr_base.specs.declared.names.Config.{Config}
use Rattle.lr_script.specs.declared.heading.Header.{Header}
use Rattle.lr_script.specs.declared.heading.Name.{Name}
use Rattle.lr_script.specs.declared.heading.Name.TheVariants.{Tally, Mail, Claims}

-- a service's name
-- for example: `tally`
abbrev pub service_text : Name → List ℕ
service_text Tally = codes "tally"
service_text Mail = codes "mail"
service_text Claims = codes "claims"

-- a service's number, as it stands in stable bytes
-- for example: 1 of `tally`, 2 of `mail`, 3 of `claims`
abbrev pub service_number : Name → ℕ
service_number Tally = 1
service_number Mail = 2
service_number Claims = 3

-- the counts of replicas and clients, and how long a message may be under way
-- for example: `1 1 10`
abbrev pub config_text : Config → List ℕ
config_text config =
    decimal config.replicas ++ (codes " " ++ (decimal config.clients ++ (codes " " ++ decimal config.delta)))

-- a script's first line: its service and what a run is set up with
-- for example: `lazyrep 1 tally 1 1 10`
abbrev pub header_text : Header → List ℕ
header_text header = codes "lazyrep 1 " ++ (service_text header.service ++ (codes " " ++ config_text header.config))

-- a client, a replica and a reading, with one space between them
-- for example: `0 1 5`
abbrev pub sending_text : ℕ → ℕ → ℕ → List ℕ
sending_text client replica reading =
    decimal client ++ (codes " " ++ (decimal replica ++ (codes " " ++ decimal reading)))

-- an event's line: its word, then its fields with one space before each
-- for example: `call 0 0 5 add x 3`
abbrev pub event_text : {Value Op : Type 0} → Meaning Value Op → Event Op → List ℕ
event_text m (Call client replica reading op) =
    codes "call " ++ (decimal client ++ (codes " " ++ (decimal replica
    ++ (codes " " ++ (decimal reading ++ (codes " " ++ m.text op))))))
event_text m (Resend client replica reading) = codes "resend " ++ sending_text client replica reading
event_text m (Ack client replica reading) = codes "ack " ++ sending_text client replica reading
event_text m (Deliver message) = codes "deliver " ++ decimal message
event_text m (Tick replica reading) = codes "tick " ++ (decimal replica ++ (codes " " ++ decimal reading))
event_text m (Gossip from to) = codes "gossip " ++ (decimal from ++ (codes " " ++ decimal to))
event_text m (Show replica) = codes "show " ++ decimal replica
