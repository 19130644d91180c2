-- What a replica's savepoint remembers, and the state that it gives back.
-- Before a step a replica makes a savepoint, by which the step can be undone as long as nothing has left the state: no
-- item, no call and no held query. It keeps the one row of the table that the step may change: what the sender of
-- gossip was last heard to have received. In the examples a replica with the stamp `[1, 0]`, one executed call and no
-- held query makes one.
use Rattle.std.specs.Prelude.{◌≡◌, ◌<◌, ◌≤◌, ℕ, true, List, Option, Some, None, filter, length, not, set, take}
use Rattle.std.specs.Option.{ForSome}
use Rattle.lr_base.specs.Replicas.{ReplicaState}
use Rattle.lr_base.specs.Rules.{CausalState, is_new}
use Rattle.lr_base.specs.Stamps.{stamp_le}
use Rattle.lr_base.specs.declared.names.Cid.{Cid}
use Rattle.lr_calls.specs.Tables.{without}
use Rattle.lr_value.specs.Applied.{Applied, Lagging}

-- what a savepoint remembers of a replica's state: whose it is, the clock, the stamps and the one row that a step may
-- overwrite, which calls were entered since, how many queries were held, and the value where it was changed
-- for example: replica 0, clock 5, `[1, 0]`, the number 1, row 0 with its stamp, no call, no query, no value
pub record Saved (Value : Type 0) : Type 0 where
  pub me : ℕ
  pub clock : ℕ
  pub rep_ts : List ℕ
  pub top : ℕ
  pub heard : ℕ
  pub row : List ℕ
  pub entered : List Cid
  pub held : ℕ
  pub applied : Option (Lagging Value)

-- of two older values the first is kept, which can't be caught up with the other's operations
abbrev pub kept_first : {Value : Type 0} → Option (Lagging Value) → Lagging Value → Lagging Value
kept_first (Some first) older = record first { newer = None }
kept_first None older = older

-- the value that was kept, and else the one of now; in both cases nothing of a log is remembered
-- for example: x is 3, where nothing was kept and x is 3 now
abbrev pub put_back_in : {Value : Type 0} → Option (Lagging Value) → Applied Value → Applied Value
put_back_in (Some older) now = record { value = older.value; val_ts = older.val_ts; memory = None }
put_back_in None now = record now { memory = None }

-- the state that a savepoint gives back: what is new since then leaves, and the row and the value are those of before
-- for example: `0:2` leaves and `0:1` stays
abbrev pub restored : {Value Op : Type 0} → Saved Value → CausalState Value Op → CausalState Value Op
restored p state =
    let before = put_back_in p.applied (record { value = state.value; val_ts = state.val_ts; memory = None }) in
    record state {
      clock = p.clock;
      rep_ts = p.rep_ts;
      val_ts = before.val_ts;
      value = before.value;
      updates = filter (λ u. not (is_new p.rep_ts u.spot)) state.updates;
      acks = filter (λ a. not (is_new p.rep_ts a.spot)) state.acks;
      calls = without p.entered state.calls;
      table = set (set state.table p.heard p.row) p.me p.rep_ts;
      top = p.top;
      held = take p.held state.held;
    }

-- a savepoint is of this replica, has a row of its table, and its stamps have as many parts as the replica's
-- for example: replica 0, row 0 of 1, 2 parts
pub record HasShapeOf {Value Op : Type 0} (p : Saved Value) (it : ReplicaState Value Op) : Type 0 where
  pub own : p.me ≡ it.me
  pub rep_parts : length p.rep_ts ≡ length it.causal.rep_ts
  pub within : p.heard < length it.causal.table
  pub row_parts : length p.row ≡ length it.causal.rep_ts
  pub val_parts : ForSome p.applied (λ before. length before.val_ts ≡ length it.causal.rep_ts)

-- an older value comes to the one of now with the operations executed since, where these were kept
-- for example: x is 3, `add x 4`, and 7 now
abbrev pub Lags : {Value : Type 0} → Option (Lagging Value) → Value → Type 0
Lags applied now = ForSome applied (λ older. ForSome older.newer (λ value. value ≡ now))

-- from the state of this replica the savepoint gives back the one before
-- for example: so after `0:2` was accepted and applied
pub record IsPointOf {Value Op : Type 0} (p : Saved Value) (it : ReplicaState Value Op) (before : CausalState Value Op)
    : Type 0 where
  pub restores : restored p it.causal ≡ before
  pub received : stamp_le p.rep_ts it.causal.rep_ts ≡ true
  pub held_most : p.held ≤ length it.causal.held
  pub lags : Lags p.applied it.causal.value
  pub shape : HasShapeOf p it

-- it is still the same replica of the same run
-- for example: replica 0
pub record IsSame {Value Op : Type 0} (before after : ReplicaState Value Op) : Type 0 where
  pub setting : after.config ≡ before.config
  pub number : after.me ≡ before.me

-- whatever came of a part of a step, it is the same replica, and a savepoint with this row gives back what it did
-- for example: so with row 1, after gossip of `r1` was taken
pub record CanUndo {Value Op : Type 0} (row : ℕ) (before after : ReplicaState Value Op) : Type 0 where
  pub same : IsSame before after
  pub points : (p : Saved Value) (start : CausalState Value Op) → p.heard ≡ row
      → IsPointOf p before start → IsPointOf p after start
