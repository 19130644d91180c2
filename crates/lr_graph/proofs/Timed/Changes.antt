-- What changes in the facts, one thing at a time, as far as times go.
use Rattle.std.proofs.Common.{◌≡◌, ℕ, false, List, ◌∷◌, Some, None}
use Rattle.lr_base.specs.declared.names.Cid.{Cid}
use Rattle.lr_base.specs.declared.names.Spot.{Spot}
use Rattle.lr_graph.specs.After.{call_read, clock_read, notes, takes_reply, with_front}
use Rattle.lr_graph.specs.Graph.{AckCopy, Acceptance, Carried, Facts, Kept, LabelledCall, SentMessage, UpdateCopy}
use Rattle.lr_graph.specs.Sets.{SpotSet}
use Rattle.lr_graph.specs.Timed.{WasSent}

-- what may be sent: a copy of an update while it is its client's open call, and an acknowledgement of its client's last
-- answered update, both with the time of that client's clock; and all else
abbrev pub MaySend : {Op : Type 0} → Facts Op → Carried Op → Type 0
MaySend w (UpdateCopy call time) =
    ((w.front call.cid.client).open_call ≡ Some call) × (time ≡ (w.front call.cid.client).clock)
MaySend w (AckCopy cid time) = ((w.front cid.client).answered ≡ Some cid) × (time ≡ (w.front cid.client).clock)
MaySend w _ = Unit {0}

-- one thing that changes; what changes at replicas but for acknowledgements is no matter here
pub data Change {Op : Type 0} (w : Facts Op) : Facts Op → Type 0 where
  clock_raised : (client reading : ℕ) → Change w (with_front w client (clock_read reading (w.front client)))
  call_opened : (client reading : ℕ) (op : Op)
      → Change w (with_front w client (call_read client reading op (w.front client) None false))
  message_sent : (x : SentMessage Op) → MaySend w x.what → Change w (record w { messages = x ∷ w.messages })
  ack_noted : (i : ℕ) (spot : Spot) (cid : Cid) (time : ℕ) → WasSent w.messages (AckCopy cid time)
      → Change w (notes w i spot cid time)
  update_answered : (client : ℕ) (names : SpotSet) (call : LabelledCall Op) (cid : Cid)
      → (w.front client).open_call ≡ Some call → call.cid ≡ cid → Change w (takes_reply w client names (Some cid))
  query_answered : (client : ℕ) (names : SpotSet) → Change w (takes_reply w client names (w.front client).answered)
  replica_changed : (accepted : List (Acceptance Op)) (received : ℕ → SpotSet) (told : ℕ → ℕ → SpotSet) (kept : ℕ → List Kept)
      (held : ℕ → List (LabelledCall Op)) (clock : ℕ → ℕ)
      → Change w (record w {
        accepted = accepted;
        received = received;
        told = told;
        kept = kept;
        held = held;
        clock = clock;
      })

-- several changes, one after another
pub data Changes {Op : Type 0} (w : Facts Op) : Facts Op → Type 0 where
  no_change : Changes w w
  one_more : (v u : Facts Op) → Changes w v → Change v u → Changes w u
