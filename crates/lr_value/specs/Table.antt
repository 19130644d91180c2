-- Updates that wait, each under what it waits for.
-- Updates that wait, while applying: those whose causes are applied, and each other one under the first place that
-- lacks some of its causes, with the number needed there. In the examples the value's stamp is `[1, 0, 0]`.
use Rattle.std.specs.Prelude.{◌≡◌, ◌≢◌, ◌<◌, ◌≤◌, ◌⊎◌, ◌==◌, ◌&&◌, ℕ, suc, Bool, true, false, not}
use Rattle.std.specs.Prelude.{nat_le, filter, length, List, take, drop}
use Rattle.std.specs.List.{AllByRecursion}
use Rattle.std.specs.Borrow.{Bor}
use Rattle.lr_base.specs.Ascending.{is_before}
use Rattle.lr_base.specs.Insertion.{Ascends}
use Rattle.lr_base.specs.Logged.{AllFit}
use Rattle.lr_base.specs.Orders.{IsAmong}
use Rattle.lr_base.specs.Places.{AreInOrder}
use Rattle.lr_base.specs.Stamps.{Stamp, part, stamp_le}
use Rattle.lr_base.specs.declared.messages.LogUpdate.{LogUpdate}
use Rattle.lr_base.specs.declared.names.Spot.{Spot}
use Rattle.lr_value.specs.declared.waiting.Blocked.{Blocked}

-- a stamp has less than this number at the place
-- for example: `0:2`
abbrev pub Lacks : Stamp → Spot → Type 0
Lacks val_ts needs = part val_ts needs.place < needs.number

-- causes need this number at the place, and the stamp has what they need at each place before it
-- for example: `0:2` for the causes `[2, 5, 0]`, not `1:5`
pub record StandsAt (val_ts prev : Stamp) (needs : Spot) : Type 0 where
  pub number : needs.number ≡ part prev needs.place
  pub before : (q : ℕ) → q < needs.place → part prev q ≤ part val_ts q

-- whether what is needed is there, once the place has this number
-- for example: `0:2` once place 0 has 3
abbrev pub is_met : ℕ → ℕ → Spot → Bool
is_met place number needs = (needs.place == place) && nat_le needs.number number

-- how many need what is there, once the place has this number
abbrev pub count_met : {Op : Type 0} → ℕ → ℕ → List (Blocked Op) → ℕ
count_met place number blocked = length (filter (λ b. is_met place number b.needs) blocked)

-- the first so many are before the spot, and the others aren't
-- for example: 1 for `0:4` among `0:1`, `1:4`
pub record IsPlaceFor {A : Type 0} (spot_of : A → Spot) (spot : Spot) (items : List A) (at : ℕ) : Type 0 where
  pub within : at ≤ length items
  pub before : AllByRecursion (λ x. is_before (spot_of x) spot ≡ true) (take at items)
  pub behind : AllByRecursion (λ x. is_before (spot_of x) spot ≡ false) (drop at items)

-- of two that need something, the first doesn't need what comes behind what the second needs
-- for example: those that need `0:2`, `0:2`, `1:1`
abbrev pub AreByNeed : {Op : Type 0} → List (Blocked Op) → Type 0
AreByNeed blocked = Ascends (λ a b. not (is_before b.needs a.needs)) blocked

-- one of the items has this
abbrev pub Has : {A B : Type 0} → (A → B) → B → List A → Type 0
Has {A} what y items = (x : A) × IsAmong x items × (what x ≡ y)

-- the update is among the ready ones, or it needs something
abbrev pub IsHeld : {Op : Type 0} → LogUpdate Op → List (Bor (LogUpdate Op)) → List (Blocked Op) → Type 0
IsHeld u ready blocked = Has (λ r. r.now) u ready ⊎ Has (λ b. b.update.now) u blocked

-- the update is among these, which are those of before with no others
pub record IsPut {Op : Type 0} (u : LogUpdate Op) (old new : List (Bor (LogUpdate Op))) : Type 0 where
  pub among : (v : LogUpdate Op) → (v ≡ u) ⊎ Has (λ r. r.now) v old → Has (λ r. r.now) v new
  pub from : (v : LogUpdate Op) → Has (λ r. r.now) v new → (v ≡ u) ⊎ Has (λ r. r.now) v old
  pub count : length new ≤ suc (length old)

-- A table of updates that are left, which are in the order of their spots: the ready ones stand in that order, and
-- their causes are applied; the others stand in the order of what they need, each at the first place that it lacks.
-- for example: `1:4` with the causes `[1, 0, 0]` is ready, `0:3` with `[2, 5, 0]` needs `0:2`
pub record IsTableBy {Op : Type 0} (Lacking : Spot → Type 0) (val_ts : Stamp) (left : List (LogUpdate Op))
    (ready : List (Bor (LogUpdate Op))) (blocked : List (Blocked Op)) : Type 0 where
  pub order : AreInOrder (λ u. u.spot) left
  pub fit : AllFit (length val_ts) left
  pub held : (u : LogUpdate Op) → IsHeld u ready blocked → IsAmong u left
  pub in_order : AreInOrder (λ r. r.now.spot) ready
  pub causes : (r : Bor (LogUpdate Op)) → IsAmong r ready → stamp_le r.now.prev val_ts ≡ true
  pub by_need : AreByNeed blocked
  pub filed : (b : Blocked Op) → IsAmong b blocked → Lacking b.needs × StandsAt val_ts b.update.now.prev b.needs

-- each that needs something lacks it
abbrev pub IsTable : {Op : Type 0} → Stamp → List (LogUpdate Op) → List (Bor (LogUpdate Op)) → List (Blocked Op)
    → Type 0
IsTable val_ts = IsTableBy (Lacks val_ts) val_ts

-- the same, but for what is needed at a place that was raised
-- for example: place 0, once it has 2
abbrev pub IsTableBut : {Op : Type 0} → ℕ → Stamp → List (LogUpdate Op) → List (Bor (LogUpdate Op))
    → List (Blocked Op) → Type 0
IsTableBut raised val_ts = IsTableBy (λ needs. needs.place ≢ raised → Lacks val_ts needs) val_ts
