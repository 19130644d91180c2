-- To be believed: the lines that a run prints.
use Rattle.std.specs.Prelude.{ℕ, ◌+◌, List, [], ◌∷◌, ◌++◌, codes}
use Rattle.std.specs.Fmt.{decimal}
use Rattle.std.specs.List.{flat_map}
use Rattle.lr_base.specs.Meaning.{Meaning}
use Rattle.lr_base.specs.declared.events.Outcome.{Outcome}
use Rattle.lr_base.specs.declared.events.Outcome.TheVariants.{Send, Accept, Note, Hold, Take, Got, Stale}
use Rattle.lr_base.specs.declared.events.Outcome.TheVariants.{ClockAt, NoMessage, Refuse, State}
use Rattle.lr_base.specs.declared.events.Refusal.{Refusal}
use Rattle.lr_base.specs.declared.events.Refusal.TheVariants.{Late, Again, Settled, Noted}
use Rattle.lr_base.specs.declared.events.Refusal.TheVariants.{FullLog, FullHeld, Worn, Unfinished}
use Rattle.lr_base.specs.declared.events.Refusal.TheVariants.{Idle, Nothing}
use Rattle.lr_base.specs.declared.events.Sent.{Sent}
use Rattle.lr_base.specs.declared.events.Sent.TheVariants.{Update, Query, Ack, Done, Answer, Gossip}
use Rattle.lr_base.specs.declared.events.StateLine.{StateLine}
use Rattle.lr_base.specs.declared.events.Step.{Step}
use Rattle.lr_base.specs.declared.names.Config.{Config}
use Rattle.lr_script.specs.Script.{line_of}
use Rattle.lr_script.specs.Texts.{header_text, event_text}
use Rattle.lr_report.specs.Texts.{cid_text, spot_text, actor_text}
use Rattle.lr_script.specs.declared.heading.Header.{Header}

-- the texts of a list's elements with a mark between each two, or a hyphen where there is none
-- for example: `0.1,0.2`
abbrev pub joined_by : {A : Type 0} → List ℕ → (A → List ℕ) → List A → List ℕ
joined_by mark text [] = codes "-"
joined_by mark text (x ∷ xs) = text x ++ flat_map (λ y. mark ++ text y) xs

-- a mark: the view and the number that are frozen
-- for example: `0/4`
abbrev pub mark_text : ℕ × ℕ → List ℕ
mark_text mark = decimal mark.0 ++ (codes "/" ++ decimal mark.1)

-- what a message is, as it is printed when it is sent
-- for example: `done 0.1 as 0:1`
abbrev pub sent_text : ℕ → Sent → List ℕ
sent_text replicas (Update cid time) = codes "update " ++ (cid_text cid ++ (codes " at " ++ decimal time))
sent_text replicas (Query cid) = codes "query " ++ cid_text cid
sent_text replicas (Ack cid time) = codes "ack " ++ (cid_text cid ++ (codes " at " ++ decimal time))
sent_text replicas (Done cid spot) = codes "done " ++ (cid_text cid ++ (codes " as " ++ spot_text replicas spot))
sent_text replicas (Answer cid text) = codes "answer " ++ (cid_text cid ++ (codes " " ++ text))
sent_text replicas Gossip = codes "gossip"

-- why nothing was done
-- for example: `open 0.2`
abbrev pub refusal_text : ℕ → Refusal → List ℕ
refusal_text replicas (Late time clock) = codes "late " ++ (decimal time ++ (codes " " ++ decimal clock))
refusal_text replicas (Again spot) = codes "again " ++ spot_text replicas spot
refusal_text replicas Settled = codes "settled"
refusal_text replicas (Noted spot) = codes "noted " ++ spot_text replicas spot
refusal_text replicas FullLog = codes "full log"
refusal_text replicas FullHeld = codes "full held"
refusal_text replicas Worn = codes "worn"
refusal_text replicas (Unfinished cid) = codes "open " ++ cid_text cid
refusal_text replicas Idle = codes "idle"
refusal_text replicas Nothing = codes "nothing"

-- a state's first fields: the replica, its view and its clock
abbrev pub clock_fields : StateLine → List ℕ
clock_fields line =
    codes "state r" ++ (decimal line.replica
    ++ (codes " view " ++ (decimal line.view ++ (codes " clock " ++ decimal line.clock))))

-- a state's next fields: the stamp of what was received, and the spots of the updates and of the acks in the log
abbrev pub log_fields : ℕ → StateLine → List ℕ
log_fields replicas line =
    codes " received " ++ (joined_by (codes ".") decimal line.received
    ++ (codes " log " ++ (joined_by (codes ",") (spot_text replicas) line.log
    ++ (codes " acks " ++ joined_by (codes ",") (spot_text replicas) line.acks))))

-- a state's last fields: the calls that it knows, the queries that it holds, and its marks
abbrev pub call_fields : StateLine → List ℕ
call_fields line =
    codes " calls " ++ (joined_by (codes ",") cid_text line.calls
    ++ (codes " held " ++ (joined_by (codes ",") cid_text line.held
    ++ (codes " frozen " ++ joined_by (codes ",") mark_text line.marks))))

-- an outcome, in a run with so many replicas
-- for example: `accept 0:1 0.1`
abbrev pub outcome_text : ℕ → Outcome → List ℕ
outcome_text replicas (Send number from to what) =
    codes "send " ++ (decimal number ++ (codes " " ++ (actor_text from
    ++ (codes " " ++ (actor_text to ++ (codes " " ++ sent_text replicas what))))))
outcome_text replicas (Accept spot cid) = codes "accept " ++ (spot_text replicas spot ++ (codes " " ++ cid_text cid))
outcome_text replicas (Note spot cid) = codes "note " ++ (spot_text replicas spot ++ (codes " " ++ cid_text cid))
outcome_text replicas (Hold cid) = codes "hold " ++ cid_text cid
outcome_text replicas (Take count) = codes "take " ++ decimal count
outcome_text replicas (Got cid) = codes "got " ++ cid_text cid
outcome_text replicas (Stale cid) = codes "stale " ++ cid_text cid
outcome_text replicas (ClockAt reading) = codes "clock " ++ decimal reading
outcome_text replicas (NoMessage message) = codes "none " ++ decimal message
outcome_text replicas (Refuse why) = codes "refuse " ++ refusal_text replicas why
outcome_text replicas (State line) = clock_fields line ++ (log_fields replicas line ++ call_fields line)

-- an outcome's line: two spaces stand before it
abbrev pub outcome_line : ℕ → Outcome → List ℕ
outcome_line replicas outcome = codes "  " ++ line_of (outcome_text replicas outcome)

-- an event's line: its number stands before the event's text
-- for example: `2: deliver 1`
abbrev pub event_line : ℕ → List ℕ → List ℕ
event_line number text = decimal number ++ (codes ": " ++ line_of text)

-- the line of an event of this text, and those of what it did
-- for example: `2: deliver 1` and the two lines below it
abbrev pub lines_of_step : Config → ℕ → List ℕ → List Outcome → List ℕ
lines_of_step config number text outcomes =
    event_line number text ++ flat_map (outcome_line config.replicas) outcomes

-- an event's line and those of what it did
abbrev pub step_text : {Value Op : Type 0} → Meaning Value Op → Config → ℕ → Step Op → List ℕ
step_text m config number step = lines_of_step config number (event_text m step.event) step.outcomes

-- the lines of several steps, the first of which has this number
abbrev pub steps_text : {Value Op : Type 0} → Meaning Value Op → Config → ℕ → List (Step Op) → List ℕ
steps_text m config number [] = []
steps_text m config number (step ∷ steps) = step_text m config number step ++ steps_text m config (number + 1) steps

-- all that a run prints: its header's line, and its steps from 1
abbrev pub printed : {Value Op : Type 0} → Meaning Value Op → Header → List (Step Op) → List ℕ
printed m header steps = line_of (header_text header) ++ steps_text m header.config 1 steps
