-- The causal rules of a replica, as functions of its state.
-- What one replica does with causal operations, as functions of its state.
use Rattle.std.specs.Prelude.{ℕ, ◌+◌, max, find, filter, get_or, length, set, not, zero, suc, replicate, Bool}
use Rattle.std.specs.Prelude.{◌&&◌, nat_lt, if◌then◌else◌, List, [], ◌∷◌, ◌++◌, Option, Some, None, is_some}
use Rattle.std.specs.List.{list_all, list_any}
use Rattle.std.specs.Option.{option_map, option_map_or}
use Rattle.lr_base.specs.Ascending.{is_before, same_cid}
use Rattle.lr_base.specs.Bytes.{Bytes}
use Rattle.lr_base.specs.Calls.{enter_call}
pub use Rattle.lr_base.specs.Config.{is_late}
use Rattle.lr_base.specs.declared.names.Cid.{Cid}
use Rattle.lr_base.specs.declared.names.Spot.{Spot}
use Rattle.lr_base.specs.declared.messages.Call.{Call}
use Rattle.lr_base.specs.declared.messages.Fresh.{Fresh}
use Rattle.lr_base.specs.declared.messages.Gossip.{Gossip}
use Rattle.lr_base.specs.declared.messages.Fresh.TheVariants.{New, Late, Again, Settled}
use Rattle.lr_base.specs.declared.messages.Known.{Known}
use Rattle.lr_base.specs.declared.messages.LogAck.{LogAck}
use Rattle.lr_base.specs.declared.messages.LogUpdate.{LogUpdate}
use Rattle.lr_base.specs.Insertion.{insert_all_by, insert_by}
use Rattle.lr_base.specs.Meaning.{Meaning}
use Rattle.lr_base.specs.Stamps.{Stamp, part, join, stamp_le, set_part}

-- what is known of a call in a table of executed calls
-- for example: nothing of `0.9` in an empty table
abbrev pub known_of : List (Cid × Known) → Cid → Option Known
known_of [] cid = None
known_of (e ∷ table) cid = if same_cid cid e.0 then Some e.1 else known_of table cid

-- what a replica keeps of causal operations
-- for example: see `first_state`
pub record CausalState (Value Op : Type 0) : Type 0 where
  pub clock : ℕ
  pub rep_ts : Stamp
  pub val_ts : Stamp
  pub value : Value
  pub updates : List (LogUpdate Op)
  pub acks : List LogAck
  pub calls : List (Cid × Known)
  pub table : List Stamp
  pub order_ts : Stamp
  pub imm_ts : Stamp
  pub top : ℕ
  pub held : List (Call Op)

-- the state of a replica at which nothing has happened
-- for example: `rep_ts` is `[0, 0]`
abbrev pub first_state : {Value Op : Type 0} → Meaning Value Op → ℕ → ℕ → CausalState Value Op
first_state m replicas parts = record {
  clock = 0;
  rep_ts = replicate parts 0;
  val_ts = replicate parts 0;
  value = m.start;
  updates = [];
  acks = [];
  calls = [];
  table = replicate replicas (replicate parts 0);
  order_ts = replicate parts 0;
  imm_ts = replicate parts 0;
  top = 0;
  held = [];
}

-- the stamp of a logged update: its causes, and its own number at its place
-- for example: causes `[2, 0]` at `0:3` give `[3, 0]`
abbrev pub stamp_of : {Op : Type 0} → LogUpdate Op → Stamp
stamp_of u = set_part u.prev u.spot.place u.spot.number

-- a call was taken before where the table has it, and else where an update of it is logged
-- for example: executed as `0:1`
abbrev pub taken_before : {Op : Type 0} → Option Known → Option (LogUpdate Op) → Option Known
taken_before (Some known) logged = Some known
taken_before None (Some u) = Some (record { spot = u.spot; stamp = stamp_of u })
taken_before None None = None

-- what a replica says of an update's call that isn't late
-- for example: a second copy of `0.1` is `Again 0:1`
abbrev pub fresh_when : Option Known → Option LogAck → Fresh
fresh_when (Some known) ack = Again known.spot known.stamp
fresh_when None (Some ack) = Settled
fresh_when None None = New

-- the first checks of an update: late, taken before, or acknowledged
abbrev pub fresh_of : {Value Op : Type 0} → ℕ → CausalState Value Op → Cid → ℕ → Fresh
fresh_of delta state cid time =
    if is_late time delta state.clock
    then Late time state.clock
    else fresh_when
    (taken_before (known_of state.calls cid) (find (λ u. same_cid u.cid cid) state.updates))
    (find (λ ack. same_cid ack.cid cid) state.acks)

-- the list with one more update, in the order of spots
-- for example: `0:2` goes behind `0:1`
abbrev pub insert_update : {Op : Type 0} → LogUpdate Op → List (LogUpdate Op) → List (LogUpdate Op)
insert_update u updates = insert_by (λ a b. is_before a.spot b.spot) u updates

-- the update that a replica at this place makes of a call: it takes the next number, and comes after the last
-- immediate update
-- for example: at `[2, 0]` the call becomes `0:3`
abbrev pub update_of_call : {Value Op : Type 0} → ℕ → CausalState Value Op → Call Op → LogUpdate Op
update_of_call me state call = record {
  spot = record { place = me; number = part state.rep_ts me + 1 };
  cid = call.cid;
  prev = join call.prev state.imm_ts;
  op = call.op;
}

-- a replica has received so many items of each place, which its own row of the table says too
-- for example: `[3, 0]` in place of `[2, 0]`
abbrev pub received_now : {Value Op : Type 0} → ℕ → Stamp → CausalState Value Op → CausalState Value Op
received_now me rep_ts state = record state { rep_ts = rep_ts; table = set state.table me rep_ts }

-- accepting a call: its update is logged, and its number is the last one taken here
-- for example: `rep_ts` from `[2, 0]` to `[3, 0]`
abbrev pub accepted : {Value Op : Type 0} → ℕ → CausalState Value Op → Call Op → CausalState Value Op
accepted me state call =
    let u = update_of_call me state call in
    record (received_now me (set_part state.rep_ts me u.spot.number) state) {
      updates = insert_update u state.updates;
      top = u.spot.number;
    }

-- the list with one more acknowledgement, in the order of spots
abbrev pub insert_ack : LogAck → List LogAck → List LogAck
insert_ack ack acks = insert_by (λ a b. is_before a.spot b.spot) ack acks

-- the acknowledgement that a replica at this place notes of a call: it takes the next number
-- for example: at `[2, 0]` that of `0.1` becomes `0:3`
abbrev pub ack_of : {Value Op : Type 0} → ℕ → CausalState Value Op → Cid → ℕ → LogAck
ack_of me state cid time = record {
  spot = record { place = me; number = part state.rep_ts me + 1 };
  cid = cid;
  time = time;
}

-- noting an acknowledgement: it is logged with its time
-- for example: `rep_ts` from `[2, 0]` to `[3, 0]`
abbrev pub noted : {Value Op : Type 0} → ℕ → CausalState Value Op → Cid → ℕ → CausalState Value Op
noted me state cid time =
    let ack = ack_of me state cid time in
    record (received_now me (set_part state.rep_ts me ack.spot.number) state) { acks = insert_ack ack state.acks }

-- a replica reads its clock, which never goes back
-- for example: clock 5 and the reading 3 give 5
abbrev pub ticked : {Value Op : Type 0} → ℕ → CausalState Value Op → CausalState Value Op
ticked reading state = record state { clock = max state.clock reading }

-- whether an item at this spot is new where so many items were received of each place
-- for example: `0:2` at `[1, 0, 0]`, not `0:1`
abbrev pub is_new : Stamp → Spot → Bool
is_new rep_ts spot = nat_lt (part rep_ts spot.place) spot.number

-- the updates that are new
-- for example: of `0:1`, `0:2` at `[1, 0, 0]`: `0:2`
abbrev pub new_updates : {Op : Type 0} → Stamp → List (LogUpdate Op) → List (LogUpdate Op)
new_updates rep_ts updates = filter (λ u. is_new rep_ts u.spot) updates

-- the acknowledgements that are new
abbrev pub new_acks : Stamp → List LogAck → List LogAck
new_acks rep_ts acks = filter (λ a. is_new rep_ts a.spot) acks

-- what a replica tells another: how many items it received of each place, and of its log what is new for that one, by
-- what it was told
-- for example: `[1, 0, 0]`, and the update at `0:1`, unless replica 1 told that it has it
abbrev pub gossip_of : {Value Op : Type 0} → ℕ → CausalState Value Op → Gossip Op
gossip_of to state =
    let theirs = get_or state.table to [] in
    record { rep_ts = state.rep_ts; updates = new_updates theirs state.updates; acks = new_acks theirs state.acks }

-- the list with these updates too, in the order of spots
-- for example: `0:1` goes before `1:1`
abbrev pub insert_updates : {Op : Type 0} → List (LogUpdate Op) → List (LogUpdate Op) → List (LogUpdate Op)
insert_updates more updates = insert_all_by (λ a b. is_before a.spot b.spot) more updates

-- the list with these acknowledgements too
abbrev pub insert_acks : List LogAck → List LogAck → List LogAck
insert_acks more acks = insert_all_by (λ a b. is_before a.spot b.spot) more acks

-- taking gossip of a replica: what is new is logged, and its stamp is joined to the own one and to the one kept of its
-- sender
-- for example: `[1, 0, 0]` at `[0, 2, 0]` gives `[1, 2, 0]`
abbrev pub gossip_taken : {Value Op : Type 0} → ℕ → ℕ → CausalState Value Op → Gossip Op → CausalState Value Op
gossip_taken me from state gossip =
    let told = set state.table from (join (get_or state.table from []) gossip.rep_ts) in
    record (received_now me (join state.rep_ts gossip.rep_ts) (record state { table = told })) {
      updates = insert_updates (new_updates state.rep_ts gossip.updates) state.updates;
      acks = insert_acks (new_acks state.rep_ts gossip.acks) state.acks;
    }

-- how many items of gossip are new
-- for example: 1
abbrev pub new_count : {Value Op : Type 0} → CausalState Value Op → Gossip Op → ℕ
new_count state gossip = length (new_updates state.rep_ts gossip.updates) + length (new_acks state.rep_ts gossip.acks)

-- how far applying has come: the value, the stamp of what was applied, the executed calls
-- for example: the start, `[0, 0]`, none
pub record Progress (Value : Type 0) : Type 0 where
  pub value : Value
  pub val_ts : Stamp
  pub calls : List (Cid × Known)

-- applying an update: its call is executed unless it was before, and its stamp is covered either way
-- for example: after `0:3` the value's stamp has 3 at place 0
abbrev pub apply_one : {Value Op : Type 0} → Meaning Value Op → Progress Value → LogUpdate Op → Progress Value
apply_one m p u =
    let covered = join p.val_ts (stamp_of u) in
    if is_some (known_of p.calls u.cid)
    then record p { val_ts = covered }
    else record {
      value = m.apply p.value u.op;
      val_ts = covered;
      calls = enter_call (u.cid, record { spot = u.spot; stamp = stamp_of u }) p.calls;
    }

-- whether an update counts as applied to a value with this stamp
-- for example: `0:2` with causes `[1, 0]` at the stamp `[2, 0]`
abbrev pub is_covered : {Op : Type 0} → Stamp → LogUpdate Op → Bool
is_covered val_ts u = stamp_le (stamp_of u) val_ts

-- the first update whose causes are applied, and the others
-- for example: of causes `[5, 0]`, `[0, 0]` at the stamp `[1, 0]`: the second
abbrev pub take_ready : {Op : Type 0} → Stamp → List (LogUpdate Op) → Option (LogUpdate Op × List (LogUpdate Op))
take_ready val_ts [] = None
take_ready val_ts (u ∷ todo) =
    if stamp_le u.prev val_ts
    then Some (u, todo)
    else option_map (λ taken. (taken.0, u ∷ taken.1)) (take_ready val_ts todo)

-- applying the first update whose causes are applied, again and again, so many times at the most
-- for example: two turns for two updates
abbrev pub apply_ready : {Value Op : Type 0} → Meaning Value Op → ℕ → List (LogUpdate Op) → Progress Value
    → Progress Value
apply_ready m zero todo p = p
apply_ready m (suc turns) todo p =
    option_map_or (λ taken. apply_ready m turns taken.1 (apply_one m p taken.0)) (take_ready p.val_ts todo) p

-- the logged updates that don't count as applied as the part begins
-- for example: all of them at a stamp of zeros
abbrev pub waiting : {Op : Type 0} → Stamp → List (LogUpdate Op) → List (LogUpdate Op)
waiting val_ts updates = filter (λ u. not (is_covered val_ts u)) updates

-- how far applying had come in a state
-- for example: the start, `[0, 0]`, none in `first_state`
abbrev pub progress_of : {Value Op : Type 0} → CausalState Value Op → Progress Value
progress_of state = record { value = state.value; val_ts = state.val_ts; calls = state.calls }

-- applying all that is ready: of those that wait, the least place and number whose causes are applied comes first
-- for example: `add x 3` is applied, and x is 3
abbrev pub applied : {Value Op : Type 0} → Meaning Value Op → CausalState Value Op → CausalState Value Op
applied m state =
    let todo = waiting state.val_ts state.updates in
    let p = apply_ready m (length todo) todo (progress_of state) in
    record state { value = p.value; val_ts = p.val_ts; calls = p.calls }

-- whether each replica has the item at this spot, by what it told: it is new for none
-- for example: `0:1` where the rows are `[1, 0, 0]` and `[2, 0, 0]`, not `0:2`
abbrev pub known_in : List Stamp → Spot → Bool
known_in table spot = list_all (λ row. not (is_new row spot)) table

-- whether an update of this call is logged
abbrev pub logs_update : {Op : Type 0} → List (LogUpdate Op) → Cid → Bool
logs_update updates cid = list_any (λ u. same_cid u.cid cid) updates

-- whether an acknowledgement of this call is logged
abbrev pub logs_ack : List LogAck → Cid → Bool
logs_ack acks cid = list_any (λ ack. same_cid ack.cid cid) acks

-- the updates that not all replicas have
-- for example: of `0:1`, `0:2` where the rows are `[1, 0, 0]` and `[2, 0, 0]`: `0:2`
abbrev pub unknown_updates : {Op : Type 0} → List Stamp → List (LogUpdate Op) → List (LogUpdate Op)
unknown_updates table updates = filter (λ u. not (known_in table u.spot)) updates

-- the calls but for those that are done: an acknowledgement is logged, and no update
-- for example: `0.1` leaves once its acknowledgement is logged and `0:1` isn't
abbrev pub undone_calls : {Op : Type 0} → List (LogUpdate Op) → List LogAck → List (Cid × Known) → List (Cid × Known)
undone_calls updates acks calls = filter (λ e. not (logs_ack acks e.0 && not (logs_update updates e.0))) calls

-- whether an acknowledgement is of no use any more: all replicas have it, it is late, and no update of its call is
-- logged
-- for example: that of `0.1` at 7 once the clock is 18, with a delta of 10
abbrev pub is_spent : {Op : Type 0} → ℕ → ℕ → List Stamp → List (LogUpdate Op) → LogAck → Bool
is_spent delta clock table updates ack =
    known_in table ack.spot && (is_late ack.time delta clock && not (logs_update updates ack.cid))

-- pruning: updates that all replicas have leave, then calls that are done, then acknowledgements that are of no use
-- for example: a lone replica's log has no update after a step
abbrev pub pruned : {Value Op : Type 0} → ℕ → CausalState Value Op → CausalState Value Op
pruned delta state =
    let updates = unknown_updates state.table state.updates in
    record state {
      updates = updates;
      calls = undone_calls updates state.acks state.calls;
      acks = filter (λ ack. not (is_spent delta state.clock state.table updates ack)) state.acks;
    }

-- holding a query: it comes behind those that are held
-- for example: `0.2` behind `0.1`
abbrev pub held_more : {Value Op : Type 0} → CausalState Value Op → Call Op → CausalState Value Op
held_more state call = record state { held = state.held ++ call ∷ [] }

-- what a query with this label is answered: nothing while something of its label isn't applied
-- for example: label `[2, 0]` at the stamp `[1, 0]`: nothing
abbrev pub answer_of : {Value Op : Type 0} → Meaning Value Op → Value → Stamp → Stamp → Op → Option Bytes
answer_of m value val_ts label op = if stamp_le label val_ts then Some (m.read value op) else None
