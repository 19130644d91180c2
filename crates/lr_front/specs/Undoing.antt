-- What a front end's savepoint remembers, and the front end that it gives back.
-- In the examples a savepoint is made while `0.1` is open, at the clock 5 and with the label `[0, 0]`.
use Rattle.std.specs.Prelude.{ℕ, Bool, true, false, Option, Some, None, is_some}
use Rattle.lr_base.specs.Fronts.{FrontState}
use Rattle.lr_base.specs.Stamps.{Stamp}
use Rattle.lr_base.specs.declared.messages.Call.{Call}
use Rattle.lr_base.specs.declared.names.Cid.{Cid}

-- what a savepoint remembers: the clock, the label, the count of calls, the last answered update, whether a call was
-- open, and that call where a reply has ended it since
-- for example: 5, `[0, 0]`, 1, none, open, and `0.1` once its reply is taken
pub record Saved (Op : Type 0) : Type 0 where
  pub clock : ℕ
  pub label : Stamp
  pub calls : ℕ
  pub answered : Option Cid
  pub is_open : Bool
  pub ended : Option (Call Op)

-- the savepoint of a front end before a step
-- for example: 5, `[0, 0]`, 1, none, open, none
abbrev pub saved : {Op : Type 0} → FrontState Op → Saved Op
saved front = record {
  clock = front.clock;
  label = front.label;
  calls = front.calls;
  answered = front.answered;
  is_open = is_some front.open_call;
  ended = None;
}

-- the call that was open: the one that was ended, and else the one of now if there was one
-- for example: `0.1`, ended or not
abbrev pub open_before : {Op : Type 0} → Option (Call Op) → Bool → Option (Call Op) → Option (Call Op)
open_before (Some call) was_open now = Some call
open_before None true now = now
open_before None false now = None

-- the front end that a savepoint gives back
-- for example: `0.1` is open again, and the label is `[0, 0]`
abbrev pub restored : {Op : Type 0} → Saved Op → FrontState Op → FrontState Op
restored point front = record front {
  clock = point.clock;
  label = point.label;
  calls = point.calls;
  open_call = open_before point.ended point.is_open front.open_call;
  answered = point.answered;
}
