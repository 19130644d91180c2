-- Shapes of logged items and of executed calls.
use Rattle.std.specs.Prelude.{◌≡◌, ◌<◌, ◌≤◌, ℕ, false, length, List}
use Rattle.std.specs.List.{slice_get}
use Rattle.std.specs.Option.{ForSome}
use Rattle.lr_base.specs.declared.names.Cid.{Cid}
use Rattle.lr_base.specs.declared.messages.Known.{Known}
use Rattle.lr_base.specs.declared.messages.LogAck.{LogAck}
use Rattle.lr_base.specs.declared.messages.LogUpdate.{LogUpdate}
use Rattle.lr_base.specs.declared.lr_service.Kind.{Kind}
use Rattle.lr_base.specs.Kinds.{IsUpdate}
use Rattle.lr_base.specs.Limits.{last_number}
use Rattle.lr_base.specs.Rules.{is_new, known_of}

-- an update with at most the last number, whose stamp has these many parts, one of them for its place
-- for example: 2 parts, and the update at `0:1`
pub record Fits {Op : Type 0} (parts : ℕ) (u : LogUpdate Op) : Type 0 where
  pub prev : length u.prev ≡ parts
  pub place : u.spot.place < parts
  pub number : u.spot.number ≤ last_number

-- a logged update that can be applied: its number is at most the last one, and its stamp has these many parts, one of
-- them for its place
-- for example: `add x 3` at `0:1`
pub record IsLogged {Op : Type 0} (kind_of : Op → Kind) (parts : ℕ) (u : LogUpdate Op) : Type 0 where
  pub prev : length u.prev ≡ parts
  pub place : u.spot.place < parts
  pub number : u.spot.number ≤ last_number
  pub update : IsUpdate (kind_of u.op)

-- each update of the list can be applied
abbrev pub AllLogged : {Op : Type 0} → (Op → Kind) → ℕ → List (LogUpdate Op) → Type 0
AllLogged kind_of parts updates = (k : ℕ) → ForSome (slice_get updates k) (IsLogged kind_of parts)

-- each update of the list has at most the last number, and a stamp of these many parts
abbrev pub AllFit : {Op : Type 0} → ℕ → List (LogUpdate Op) → Type 0
AllFit parts updates = (k : ℕ) → ForSome (slice_get updates k) (Fits parts)

-- the stamp of each executed call has these many parts
abbrev pub AllKnown : ℕ → List (Cid × Known) → Type 0
AllKnown parts calls = (cid : Cid) → ForSome (known_of calls cid) (λ known. length known.stamp ≡ parts)

-- no update of the list is new where so many items were received of each place
-- for example: `0:1` at `[1, 0]`, not `0:2`
abbrev pub AllReceived : {Op : Type 0} → List ℕ → List (LogUpdate Op) → Type 0
AllReceived rep_ts updates = (k : ℕ) → ForSome (slice_get updates k) (λ u. is_new rep_ts u.spot ≡ false)

-- and no acknowledgement
abbrev pub AllAcksReceived : List ℕ → List LogAck → Type 0
AllAcksReceived rep_ts acks = (k : ℕ) → ForSome (slice_get acks k) (λ a. is_new rep_ts a.spot ≡ false)
