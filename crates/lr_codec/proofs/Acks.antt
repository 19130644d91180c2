-- What an acknowledgement is read as.
use Rattle.std.specs.Prelude.{ℕ, Result}
use Rattle.std.specs.Borrow.{Bor}
use mathlib.Core.Logic.{◌⊎◌, inr}
use Rattle.lr_base.specs.Bytes.{Bytes, Reading, Found, Wrong, Reads, and_then}
use Rattle.lr_base.specs.Stamps.{Stamp}
use Rattle.lr_base.specs.declared.bytes.FieldFault.{FieldFault}
use Rattle.lr_base.specs.declared.names.Cid.{Cid}
use Rattle.lr_base.specs.declared.names.Spot.{Spot}
use Rattle.lr_codec.specs.declared.items.Item.{Item}
use Rattle.lr_codec.specs.Lists.{item_with}

-- the time of an acknowledgement is the rest of its item
pub ack-behind : {Op : Type 0} (key : ℕ × Spot) (cid : Cid) (time : Reading ℕ)
    (result : Result (Item Op × Bor Bytes) FieldFault)
    → Reads (and_then time (λ time rest. Found (item_with key.1 cid (inr time)) rest)) result
    → Reads (and_then {A = (ℕ × Spot) × (Cid × ((Stamp × Op) ⊎ ℕ))} (and_then {A = Cid × ((Stamp × Op) ⊎ ℕ)}
    (and_then (and_then {B = (Stamp × Op) ⊎ ℕ} time (λ value rest. Found (inr value) rest))
    (λ second end. Found (cid, second) end)) (λ second end. Found (key, second) end))
    (λ parts rest. Found (item_with parts.0.1 parts.1.0 parts.1.1) rest)) result
ack-behind key cid (Found time rest) result reads = reads
ack-behind key cid (Wrong left what) result reads = reads
