-- To be believed: what is written of a script: the printed form of the legal history of its events.
use Rattle.std.specs.Prelude.{◌≡◌, ℕ, List, [], map, ◌++◌, take, Option}
use Rattle.std.specs.Io.KnownBytes.{Appends}
use Rattle.lr_base.specs.Meaning.{Meaning}
use Rattle.lr_base.specs.declared.events.Event.{Event}
use Rattle.lr_base.specs.declared.events.Step.{Step}
use Rattle.lr_graph.specs.Legal.{IsLegal}
use Rattle.lr_report.specs.Printed.{printed}
use Rattle.lr_script.specs.Script.{IsScript}
use Rattle.lr_script.specs.declared.heading.Header.{Header}

-- there is a legal history of just these events; what was written is the front of its printed form, and this is the
-- rest of it
-- for example: all of it, and no rest
pub record HasPrinted {Value Op : Type 0} (m : Meaning Value Op) (header : Header) (events : List (Event Op))
    (before now : Option (List ℕ)) (rest : List ℕ) : Type 0 where
  pub history : List (Step Op)
  pub legal : IsLegal m header.config history
  pub events_are : map (λ step. step.event) history ≡ events
  pub written : List ℕ
  pub appended : Appends before now written
  pub text : printed m header history ≡ written ++ rest

-- the same of some first events
-- for example: the header's line and half of the next
pub record HasBegun {Value Op : Type 0} (m : Meaning Value Op) (header : Header) (events : List (Event Op))
    (before now : Option (List ℕ)) : Type 0 where
  pub count : ℕ
  pub rest : List ℕ
  pub printed_part : HasPrinted m header (take count events) before now rest

-- the bytes are the text of this header and of events, and the legal history of these was written, whole
pub record HasRunOf {Value Op : Type 0}
    (m : Meaning Value Op) (header : Header) (bytes : List ℕ) (before now : Option (List ℕ)) : Type 0 where
  pub events : List (Event Op)
  pub script : IsScript m header events bytes
  pub printed_all : HasPrinted m header events before now []

-- the same, and the front of the legal history of some first of the events was written
pub record HasRunPartOf {Value Op : Type 0}
    (m : Meaning Value Op) (header : Header) (bytes : List ℕ) (before now : Option (List ℕ)) : Type 0 where
  pub events : List (Event Op)
  pub script : IsScript m header events bytes
  pub printed_part : HasBegun m header events before now
