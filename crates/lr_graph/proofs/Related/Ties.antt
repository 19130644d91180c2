-- How a replica's state and its part of the graph belong together.
use Rattle.std.proofs.Common.{◌≡◌, ◌<◌, Bool, true, false, not, ◌&&◌, List, Some, is_some}
use Rattle.std.specs.Option.{option_map}
use Rattle.lr_base.specs.Ascending.{is_before}
use Rattle.lr_base.specs.Insertion.{Ascends}
use Rattle.lr_base.specs.Kinds.{IsUpdate, are_ordered}
use Rattle.lr_base.specs.Meaning.{Meaning}
use Rattle.lr_base.specs.Orders.{IsAmong}
use Rattle.lr_base.specs.Rules.{CausalState, known_of, stamp_of}
use Rattle.lr_base.specs.Stamps.{part, stamp_le}
use Rattle.lr_base.specs.declared.messages.Known.{Known}
use Rattle.lr_base.specs.declared.messages.LogUpdate.{LogUpdate}
use Rattle.lr_base.specs.declared.names.Cid.{Cid}
use Rattle.lr_base.specs.declared.names.Spot.{Spot}
use Rattle.lr_graph.specs.Closed.{Each, causes}
use Rattle.lr_graph.specs.Graph.{Acceptance, Kept, has_call, kept_spot, ready, value}
use Rattle.lr_graph.specs.Names.{IsCounted, Names}
use Rattle.lr_graph.specs.Sets.{SpotSet}

-- acceptances of one call have its operation and its causes
abbrev pub HasOneCall : {Op : Type 0} → List (Acceptance Op) → Type 0
HasOneCall {Op} l = (a b : Acceptance Op) → IsAmong a l → IsAmong b l → a.cid ≡ b.cid → (a.op ≡ b.op) × ((s : Spot) → causes a s ≡ causes b s)

-- each acceptance is of an update, and no two of them need one order
pub record IsFree {Value Op : Type 0} (m : Meaning Value Op) (l : List (Acceptance Op)) : Type 0 where
  pub updates : Each (λ a. IsUpdate (m.kind a.op)) l
  pub unordered : Each (λ a. Each (λ b. are_ordered (m.kind a.op) (m.kind b.op) ≡ false) l) l

-- an update stands for an acceptance
pub record StandsFor {Op : Type 0} (l : List (Acceptance Op)) (u : LogUpdate Op) (a : Acceptance Op) : Type 0 where
  pub among : IsAmong a l
  pub spot : u.spot ≡ a.spot
  pub cid : u.cid ≡ a.cid
  pub op : u.op ≡ a.op
  pub prev : Names u.prev (causes a)
  pub rises : part u.prev u.spot.place < u.spot.number

-- an update stands for an acceptance of the set g
abbrev pub IsUpdateOf : {Op : Type 0} → List (Acceptance Op) → SpotSet → LogUpdate Op → Type 0
IsUpdateOf {Op} l g u = (a : Acceptance Op) × StandsFor l u a × (g a.spot ≡ true)

-- an update of this spot is among these
abbrev pub HasUpdateAt : {Op : Type 0} → Spot → List (LogUpdate Op) → Type 0
HasUpdateAt {Op} spot us = (u : LogUpdate Op) × IsAmong u us × (u.spot ≡ spot)

-- the updates come in the order of their spots, each spot once
abbrev pub IsAscending : {Op : Type 0} → List (LogUpdate Op) → Type 0
IsAscending us = Ascends (λ a b. is_before a.spot b.spot) us

-- the updates are those of the acceptances of the set g, in order
pub record IsLogOf {Op : Type 0} (l : List (Acceptance Op)) (g : SpotSet) (us : List (LogUpdate Op)) : Type 0 where
  pub each : Each (IsUpdateOf l g) us
  pub all : Each (λ a. g a.spot ≡ true → HasUpdateAt a.spot us) l
  pub ascending : IsAscending us

-- the table has the calls of the set x but for those that left, at the spots that are kept of them, and with their stamps
pub record IsTableOf {Op : Type 0} (l : List (Acceptance Op)) (x : SpotSet) (left : Cid → Bool) (kept : List Kept) (calls : List (Cid × Known)) : Type 0 where
  pub spots : (cid : Cid) → left cid ≡ false → option_map (λ k. k.spot) (known_of calls cid) ≡ kept_spot kept cid
  pub known : (cid : Cid) → is_some (known_of calls cid) ≡ (has_call l x cid && not (left cid))
  pub were : (cid : Cid) → left cid ≡ true → has_call l x cid ≡ true
  pub stamps : (cid : Cid) (k : Known) → known_of calls cid ≡ Some k → (a : Acceptance Op) × IsAmong a l × (k.spot ≡ a.spot) × (a.cid ≡ cid) × Names k.stamp a.below

-- a state to which the acceptances of the set x are applied: its stamp, its value and its table are theirs
pub record HasApplied {Value Op : Type 0} (m : Meaning Value Op) (l : List (Acceptance Op)) (x : SpotSet) (left : Cid → Bool) (kept : List Kept) (state : CausalState Value Op) : Type 0 where
  pub names : Names state.val_ts x
  pub value_is : state.value ≡ value m l x
  pub table : IsTableOf l x left kept state.calls

-- a state at which more was received: what is ready isn't all applied, but each acceptance of a call that left is
pub record IsPending {Value Op : Type 0} (m : Meaning Value Op) (l : List (Acceptance Op)) (r g done : SpotSet) (left : Cid → Bool) (kept : List Kept) (state : CausalState Value Op) : Type 0 where
  pub counted : IsCounted r state.rep_ts
  pub log : IsLogOf l g state.updates
  pub received : (s : Spot) → g s ≡ true → r s ≡ true
  pub covered : Each (λ a. r a.spot ≡ true → done a.spot ≡ false → g a.spot ≡ true) l
  pub within : (s : Spot) → done s ≡ true → ready l r s ≡ true
  pub flagged : Each (λ u. stamp_le (stamp_of u) state.val_ts ≡ done u.spot) state.updates
  pub over : Each (λ a. left a.cid ≡ true → done a.spot ≡ true) l
  pub applied : HasApplied m l done left kept state
