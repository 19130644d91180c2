-- The checks of what stands behind an event's word have one order, so one of them is the first that fails.
use Rattle.std.proofs.Common.{◌≡◌, refl}
use Rattle.lr_script.specs.declared.refusals.Cause.{Cause}
use Rattle.lr_script.specs.declared.refusals.Cause.TheVariants.{Event as NoWord, Fields, Number, Range, Op as NoOp}

-- the first check that fails: are there as many fields as are asked for, are they numbers, are these in range, and is there an operation
pub data FailsFirst (Counted Numbers InRange : Type 0) : Cause → Type 0 where
  miscounted : (Counted → ⊥) → FailsFirst Counted Numbers InRange Fields
  no_number : Counted → (Numbers → ⊥) → FailsFirst Counted Numbers InRange Number
  out_of_range : Numbers → (InRange → ⊥) → FailsFirst Counted Numbers InRange Range
  no_op : InRange → FailsFirst Counted Numbers InRange NoOp

-- a cause for which a printable line is refused
abbrev pub IsOfEvent : Cause → Type 0
IsOfEvent NoWord = Unit {0}
IsOfEvent Fields = Unit {0}
IsOfEvent Number = Unit {0}
IsOfEvent Range = Unit {0}
IsOfEvent NoOp = Unit {0}
IsOfEvent _ = ⊥

-- such is the cause for which the first check fails
pub of_event : {Counted Numbers InRange : Type 0} → (cause : Cause) → FailsFirst Counted Numbers InRange cause → IsOfEvent cause
of_event cause (miscounted h) = tt
of_event cause (no_number c h) = tt
of_event cause (out_of_range n h) = tt
of_event cause (no_op r) = tt

-- it is one, where each check asks for what those before it ask for
pub first_one : {Counted Numbers InRange : Type 0} → (Numbers → Counted) → (InRange → Numbers) → (a b : Cause) → FailsFirst Counted Numbers InRange a → FailsFirst Counted Numbers InRange b → a ≡ b
first_one counted numbers a b (miscounted h) (miscounted k) = refl
first_one counted numbers a b (miscounted h) (no_number c k) = absurd (h c)
first_one counted numbers a b (miscounted h) (out_of_range n k) = absurd (h (counted n))
first_one counted numbers a b (miscounted h) (no_op r) = absurd (h (counted (numbers r)))
first_one counted numbers a b (no_number c h) (miscounted k) = absurd (k c)
first_one counted numbers a b (no_number c h) (no_number d k) = refl
first_one counted numbers a b (no_number c h) (out_of_range n k) = absurd (h n)
first_one counted numbers a b (no_number c h) (no_op r) = absurd (h (numbers r))
first_one counted numbers a b (out_of_range n h) (miscounted k) = absurd (k (counted n))
first_one counted numbers a b (out_of_range n h) (no_number c k) = absurd (k n)
first_one counted numbers a b (out_of_range n h) (out_of_range o k) = refl
first_one counted numbers a b (out_of_range n h) (no_op r) = absurd (h r)
first_one counted numbers a b (no_op r) (miscounted k) = absurd (k (counted (numbers r)))
first_one counted numbers a b (no_op r) (no_number c k) = absurd (k (numbers r))
first_one counted numbers a b (no_op r) (out_of_range n k) = absurd (k r)
first_one counted numbers a b (no_op r) (no_op s) = refl
