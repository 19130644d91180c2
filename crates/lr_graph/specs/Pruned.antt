-- To be believed: what a replica still keeps of what it received: all but what it knows that no replica needs.
use Rattle.std.specs.Prelude.{ℕ, zero, suc, Bool, true, ◌+◌, ◌&&◌, ◌==◌, not, if◌then◌else◌, List, length}
use Rattle.lr_base.specs.Config.{is_late}
use Rattle.lr_base.specs.declared.messages.LogAck.{LogAck}
use Rattle.lr_base.specs.declared.names.Cid.{Cid}
use Rattle.lr_base.specs.declared.names.Config.{Config}
use Rattle.lr_base.specs.declared.names.Spot.{Spot}
use Rattle.lr_graph.specs.Graph.{Facts, acks_of, has_ack, has_call, ready}
use Rattle.lr_graph.specs.Sets.{SpotSet, how_many}

-- what a replica knows that replica k has: of itself what it received, of another what that one told it
-- for example: `0:1` of `r0` at `r1`, once `r1` took gossip from `r0`
abbrev pub told_by : {Op : Type 0} → Facts Op → ℕ → ℕ → SpotSet
told_by w i k = if k == i then w.received i else w.told i k

-- whether each of the first so many sets has the spot
-- for example: `only 0:1` and `nothing`: the first one has `0:1`, the first two haven't
abbrev pub in_first : (ℕ → SpotSet) → ℕ → Spot → Bool
in_first sets zero spot = true
in_first sets (suc k) spot = in_first sets k spot && sets k spot

-- whether a replica was told by all others that they have the item of this spot, and has it
-- for example: with one replica, all that it received
abbrev pub known_everywhere : {Op : Type 0} → Config → Facts Op → ℕ → Spot → Bool
known_everywhere config w i spot = in_first (told_by w i) config.replicas spot

-- what a replica still logs: what it received, but for what is known everywhere
-- for example: nothing with `small`
abbrev pub logged : {Op : Type 0} → Config → Facts Op → ℕ → SpotSet
logged config w i spot = w.received i spot && not (known_everywhere config w i spot)

-- whether a replica logs an update of this call
-- for example: of `0.1` until all replicas told that they have `0:1`
abbrev pub logs_call : {Op : Type 0} → Config → Facts Op → ℕ → Cid → Bool
logs_call config w i cid = has_call w.accepted (logged config w i) cid

-- whether a call is done at a replica: it is acknowledged there, and no update of it is logged
-- for example: `0.1` after `note 0:2 0.1` with `small`
abbrev pub is_done : {Op : Type 0} → Config → Facts Op → ℕ → Cid → Bool
is_done config w i cid = has_ack w.acks (w.received i) cid && not (logs_call config w i cid)

-- whether an acceptance of this call is ready at a replica
-- for example: of `0.1` after the addition
abbrev pub is_ready : {Op : Type 0} → Facts Op → ℕ → Cid → Bool
is_ready w i cid = has_call w.accepted (ready w.accepted (w.received i)) cid

-- the calls that a replica still knows: those with a ready acceptance, but for what is done
-- for example: `0.1` until it is done
abbrev pub is_known : {Op : Type 0} → Config → Facts Op → ℕ → Cid → Bool
is_known config w i cid = is_ready w i cid && not (is_done config w i cid)

-- the calls that left: those with a ready acceptance that are done
-- for example: `0.1` after `note 0:2 0.1` with `small`
abbrev pub is_left : {Op : Type 0} → Config → Facts Op → ℕ → Cid → Bool
is_left config w i cid = is_ready w i cid && is_done config w i cid

-- whether an acknowledgement is of no use any more: it is known everywhere and late, and no update of its call is
-- logged
-- for example: that of `0.1` at 7 once the clock is 18, with a delta of 10
abbrev pub is_spent : {Op : Type 0} → Config → Facts Op → ℕ → LogAck → Bool
is_spent config w i a =
    known_everywhere config w i a.spot && (is_late a.time config.delta (w.clock i) && not (logs_call config w i a.cid))

-- whether a replica logs an acknowledgement: it received it, and it isn't spent
-- for example: that of `0.1` at `r0` after `note 0:2 0.1`
abbrev pub is_acked : {Op : Type 0} → Config → Facts Op → ℕ → LogAck → Bool
is_acked config w i a = w.received i a.spot && not (is_spent config w i a)

-- the acknowledgements that a replica logs, in the order of their spots
-- for example: that of `0.1` at `0:2`
abbrev pub acked : {Op : Type 0} → Config → Facts Op → ℕ → List LogAck
acked config w i = acks_of (is_acked config w i) w.acks

-- how many items a replica logs
-- for example: 1 after `note 0:2 0.1` with `small`
abbrev pub log_size : {Op : Type 0} → Config → Facts Op → ℕ → ℕ
log_size config w i = how_many (λ a. logged config w i a.spot) w.accepted + length (acked config w i)
