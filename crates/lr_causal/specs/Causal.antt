-- Facts that a causal replica keeps.
use Rattle.std.specs.Prelude.{◌≡◌, ◌≢◌, ◌<◌, ℕ, true, false, filter, length, not, List, Option}
use Rattle.std.specs.Option.{ForSome}
use Rattle.lr_base.specs.Ascending.{is_before}
use Rattle.lr_base.specs.declared.messages.Call.{Call}
use Rattle.lr_base.specs.declared.messages.Fresh.{Fresh}
use Rattle.lr_base.specs.declared.messages.Fresh.TheVariants.{Again}
use Rattle.lr_base.specs.declared.messages.Gossip.{Gossip}
use Rattle.lr_base.specs.declared.messages.LogUpdate.{LogUpdate}
use Rattle.lr_base.specs.declared.lr_service.Kind.{Kind}
use Rattle.lr_base.specs.declared.messages.Known.{Known}
use Rattle.lr_base.specs.declared.names.Cid.{Cid}
use Rattle.lr_base.specs.declared.names.Spot.{Spot}
use Rattle.lr_base.specs.Kinds.{IsUpdate}
use Rattle.lr_base.specs.Logged.{AllAcksReceived, AllLogged, AllReceived}
use Rattle.lr_base.specs.Rules.{is_spent, stamp_of, undone_calls, unknown_updates}
use Rattle.lr_base.specs.Stamps.{stamp_le}
use Rattle.lr_base.specs.declared.messages.LogAck.{LogAck}
use Rattle.lr_log.specs.Items.{Items}
use Rattle.lr_value.specs.Applied.{Memory}
use Rattle.std.specs.List.{slice_get}

-- the stamp of a call that was taken before has these many parts
-- for example: 2 parts
abbrev pub AgainHasParts : ℕ → Fresh → Type 0
AgainHasParts parts (Again spot stamp) = length stamp ≡ parts
AgainHasParts parts _ = Unit {0}

-- each of these stands before all behind it
-- for example: `0:1`, `1:1`
abbrev pub EachBefore : {A : Type 0} → (A → Spot) → List A → Type 0
EachBefore {A} spot_of items = (j k : ℕ) → j < k → ForSome (slice_get items j) (λ a.
    ForSome (slice_get items k) (λ b. is_before (spot_of a) (spot_of b) ≡ true))

-- updates and acknowledgements stand in the order of their spots, each at a spot of its own
-- for example: the updates `0:1`, `1:1` and the acknowledgement `0:2`
pub record StandInOrder {Op : Type 0} (updates : List (LogUpdate Op)) (acks : List LogAck) : Type 0 where
  pub in_order : EachBefore (λ u. u.spot) updates
  pub acks_in_order : EachBefore (λ a. a.spot) acks
  pub apart : (j k : ℕ) → ForSome (slice_get updates j) (λ u. ForSome (slice_get acks k) (λ a. a.spot ≢ u.spot))

-- gossip of a run whose stamps have these many parts: each update of it can be applied, by its own stamp each item of
-- it was received, and its items stand in order, each at a spot of its own
-- for example: `[1, 0, 0]`, and the update at `0:1`
pub record IsGossip {Op : Type 0} (kind_of : Op → Kind) (parts : ℕ) (gossip : Gossip Op) : Type 0 where
  pub rep_parts : length gossip.rep_ts ≡ parts
  pub logged : AllLogged kind_of parts gossip.updates
  pub updates_received : AllReceived gossip.rep_ts gossip.updates
  pub acks_received : AllAcksReceived gossip.rep_ts gossip.acks
  pub ordered : StandInOrder gossip.updates gossip.acks

-- each stamp of a list has these many parts
abbrev pub AllStamps : ℕ → List (List ℕ) → Type 0
AllStamps parts stamps = (k : ℕ) → ForSome (slice_get stamps k) (λ stamp. length stamp ≡ parts)

-- the call of an update, whose label has these many parts
-- for example: `0.1`, `add x 3`, with the label `[0, 0]`
pub record IsUpdateCall {Op : Type 0} (kind_of : Op → Kind) (parts : ℕ) (call : Call Op) : Type 0 where
  pub label : length call.prev ≡ parts
  pub update : IsUpdate (kind_of call.op)

-- what is answered of an update that was accepted: its spot, and its stamp, which has these many parts
-- for example: `0:1`, `[1, 0]`
pub record IsAnswerOf {Op : Type 0} (parts : ℕ) (u : LogUpdate Op) (answer : Spot × List ℕ) : Type 0 where
  pub spot : answer.0 ≡ u.spot
  pub stamp : answer.1 ≡ stamp_of u
  pub stamp_parts : length answer.1 ≡ parts

-- no label of these queries is applied to a value with this stamp
-- for example: the label `[1, 0]` and the stamp `[0, 0]`
abbrev pub NoneApplied : {Op : Type 0} → List ℕ → List (Call Op) → Type 0
NoneApplied val_ts calls = (k : ℕ) → ForSome (slice_get calls k) (λ call. stamp_le call.prev val_ts ≡ false)

-- what a value remembers of a log was received
abbrev pub HasSeen : List ℕ → Option Memory → Type 0
HasSeen rep_ts memory = ForSome memory (λ it. stamp_le it.seen rep_ts ≡ true)

-- pruning drops none of these items and calls
-- for example: the update `0:2`, where the rows are `[1, 0, 0]` and `[2, 0, 0]`
pub record IsAtRest {Op : Type 0} (delta clock : ℕ) (rows : List (List ℕ)) (log : Items Op) (calls : List (Cid × Known))
    : Type 0 where
  pub updates : unknown_updates rows log.updates ≡ log.updates
  pub calls_stay : undone_calls log.updates log.acks calls ≡ calls
  pub acks : filter (λ ack. not (is_spent delta clock rows log.updates ack)) log.acks ≡ log.acks
