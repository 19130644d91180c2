-- Updates that tests apply.
use Rattle.std.specs.Prelude.{◌≤◌, ℕ, List, slice_get}
use Rattle.std.specs.Option.{ForSome}
use Rattle.lr_base.specs.Logged.{AllLogged}
use Rattle.lr_base.specs.declared.messages.LogUpdate.{LogUpdate}
use Rattle.lr_value.specs.Waiting.{AreOfPlace}
use Rattle.svc_tally.specs.Tally.{tally_kind}
use Rattle.svc_tally.specs.declared.op.TallyOp.{TallyOp}

-- the updates are of one place, in the order of their numbers up to the last, which is at most 1000, and can be applied
-- where stamps have four parts
pub record AreSample (place last : ℕ) (updates : List (LogUpdate TallyOp)) : Type 0 where
  pub logged : AllLogged tally_kind 4 updates
  pub of_place : AreOfPlace place updates
  pub up_to : (k : ℕ) → ForSome (slice_get updates k) (λ u. u.spot.number ≤ last)
  pub most : last ≤ 1000
