-- What is read of bytes is a state in the ranges.
use Rattle.std.proofs.Common.{◌≡◌, ◌<◌, ◌+◌, ◌==◌, ◌&&◌, ℕ, suc, Bool, true, List, [], ◌∷◌, length, get_or, nat_le, nat_lt, refl}
use Rattle.std.specs.Prelude.{None, Some, Option}
use Rattle.std.proofs.lemmas.Bool.{and_parts, and_from, lt-ltb}
use Rattle.lr_base.specs.Bytes.{Bytes, are_bytes, each_may}
use Rattle.lr_base.specs.Formats.{both, known_test, leading, number_of, only_where, repeated}
use Rattle.lr_base.specs.Kinds.{is_immediate}
use Rattle.lr_base.specs.Limits.{most_replicas}
use Rattle.lr_base.specs.Meaning.{Encoding, Meaning}
use Rattle.lr_base.specs.Stamps.{Stamp, part}
use Rattle.lr_base.specs.declared.bytes.BadWhat.TheVariants.{Magic, Order}
use Rattle.lr_base.specs.declared.messages.Call.{Call}
use Rattle.lr_base.specs.declared.messages.Entry.{Entry}
use Rattle.lr_base.specs.declared.messages.LogAck.{LogAck}
use Rattle.lr_base.specs.declared.messages.LogUpdate.{LogUpdate}
use Rattle.lr_codec.specs.declared.items.Item.{Item}
use Rattle.lr_codec.specs.declared.items.Item.TheVariants.{Update, Ack}
use Rattle.lr_codec.specs.declared.state.StableState.{StableState}
use Rattle.lr_codec.specs.Lists.{calls_format, entry_count_format, entry_format, item_format, log_format, marks_format}
use Rattle.lr_codec.specs.Lists.{is_next_spot, merged, order_format, spot_format, tag_format}
use Rattle.lr_codec.specs.Parts.{byte_where, cid_format, is_update, op_format, part_format, stamp_format, value_format}
use Rattle.lr_codec.specs.Ranges.{is_in_ranges, unchecked}
use Rattle.lr_codec.specs.States.{free_cid_format, frozen_number_format, may_freeze}
use Rattle.lr_codec.specs.States.{Whose, front_format, front_of, frozen_format, head_format, head_of, is_count_of}
use Rattle.lr_codec.specs.States.{is_replica_of, lists_format, lists_of, magic, stamps_format, stamps_of, state_format}
use Rattle.lr_codec.specs.States.{table_format, views_format, views_of}

-- bytes are below 256 each
pub all-bytes : (bytes : Bytes) → ((i : ℕ) → get_or bytes i 0 < 256) → are_bytes bytes ≡ true
all-bytes [] below = refl
all-bytes (byte ∷ bytes) below = and_from _ _ (lt-ltb byte 256 (below 0)) (all-bytes bytes (λ i. below (suc i)))

module _ {V Op : Type 0} (m : Meaning V Op) (e : Encoding V) where
  -- items that are written are in the ranges
  ranged-items : (replicas : ℕ) (rep_ts : Stamp) (last : Option (Item Op)) (items : List (Item Op))
      → each_may (λ last. (item_format m replicas rep_ts last).is_value) last items ≡ true
      → each_may (λ last. (item_format (unchecked m) replicas rep_ts last).is_value) last items ≡ true
  ranged-items replicas rep_ts last [] may = refl
  ranged-items replicas rep_ts last (Update u ∷ items) may =
      let parts = and_parts _ _ may in
      let op = (op_format m is_update).is_value u.op in
      let label = (stamp_format (replicas + 1)).is_value u.prev in
      let spot = leading tag_format (spot_format replicas rep_ts) in
      let key = (only_where (λ key. is_next_spot last key.1) Order spot).is_value (1, u.spot) in
      let behind = and_parts key (cid_format.is_value u.cid && (label && op)) parts.0 in
      let rest = and_parts (cid_format.is_value u.cid) (label && op) behind.1 in
      let own : m.is_op u.op ≡ true =
      (and_parts (m.is_op u.op) (is_update (m.kind u.op)) (and_parts label op rest.1).1).0 in
      and_from _ _ (rw own at parts.0) (ranged-items replicas rep_ts (Some (Update u)) items parts.1)
  ranged-items replicas rep_ts last (Ack a ∷ items) may =
      let parts = and_parts _ _ may in
      and_from _ _ parts.0 (ranged-items replicas rep_ts (Some (Ack a)) items parts.1)

  -- and entries
  ranged-entries : (parts : ℕ) (last : Option (Entry Op)) (entries : List (Entry Op))
      → each_may (λ last. (entry_format m parts).is_value) last entries ≡ true
      → each_may (λ last. (entry_format (unchecked m) parts).is_value) last entries ≡ true
  ranged-entries parts last [] may = refl
  ranged-entries parts last (entry ∷ entries) may =
      let each = and_parts _ _ may in
      let call = entry.call in
      let op = (op_format m is_update).is_value call.op in
      let flag = (known_test (is_immediate (m.kind call.op))).is_value entry.immediate in
      let extra = (stamp_format parts).is_value entry.extra in
      let label = (stamp_format parts).is_value call.prev in
      let cid = cid_format.is_value call.cid in
      let one = and_parts (part_format.is_value entry.birth) (cid && (label && (extra && (op && flag)))) each.0 in
      let two = and_parts cid (label && (extra && (op && flag))) one.1 in
      let three = and_parts label (extra && (op && flag)) two.1 in
      let four = and_parts extra (op && flag) three.1 in
      let own : m.is_op call.op ≡ true =
      (and_parts (m.is_op call.op) (is_update (m.kind call.op)) (and_parts op flag four.1).0).0 in
      and_from _ _ (rw own at each.0) (ranged-entries parts (Some entry) entries each.1)

  -- and the call being frozen
  ranged-frozen : (parts : ℕ) (opened : Bool) (received : ℕ) (order : ℕ × List (Entry Op))
      (frozen : Option (ℕ × Call Op))
      → (frozen_format m parts opened received order).is_value frozen ≡ true
      → (frozen_format (unchecked m) parts opened received order).is_value frozen ≡ true
  ranged-frozen parts opened received order None may = refl
  ranged-frozen parts opened received order (Some numbered) may =
      let call = numbered.1 in
      let op = (op_format m is_immediate).is_value call.op in
      let label = (stamp_format parts).is_value call.prev in
      let cid = (free_cid_format order.1).is_value call.cid in
      let number = (frozen_number_format order).is_value numbered.0 in
      let one = and_parts (may_freeze opened received order) (number && (cid && (label && op))) may in
      let two = and_parts number (cid && (label && op)) one.1 in
      let three = and_parts cid (label && op) two.1 in
      let own : m.is_op call.op ≡ true =
      (and_parts (m.is_op call.op) (is_immediate (m.kind call.op)) (and_parts label op three.1).1).0 in
      rw own at may

  -- and the log
  ranged-log : (replicas : ℕ) (rep_ts : Stamp) (updates : List (LogUpdate Op)) (acks : List LogAck)
      → (log_format m replicas rep_ts).is_value (updates, acks) ≡ true
      → (log_format (unchecked m) replicas rep_ts).is_value (updates, acks) ≡ true
  ranged-log replicas rep_ts updates acks may =
      let items = merged updates acks in
      let sides = and_parts _ _ may in
      let each = and_parts (length items == length items)
      (each_may (λ last. (item_format m replicas rep_ts last).is_value) None items) sides.1 in
      and_from _ _ sides.0 (and_from _ _ each.0 (ranged-items replicas rep_ts None items each.1))

  -- and the order log
  ranged-order : (parts : ℕ) (base : ℕ) (entries : List (Entry Op))
      → (order_format m parts).is_value (base, entries) ≡ true
      → (order_format (unchecked m) parts).is_value (base, entries) ≡ true
  ranged-order parts base entries may =
      let sides = and_parts _ _ may in
      let counts = and_parts ((entry_count_format base).is_value (length entries))
      ((repeated (λ (last : Option (Entry Op)). entry_format m parts) (length entries)).is_value entries) sides.1 in
      let each = and_parts (length entries == length entries)
      (each_may (λ last. (entry_format m parts).is_value) None entries) counts.1 in
      and_from _ _ sides.0 (and_from _ _ counts.0 (and_from _ _ each.0 (ranged-entries parts None entries each.1)))

  -- what stands before the lists is in the ranges whosever it is
  ranged-front : (number : ℕ) (whose : Whose) (s : StableState V Op)
      → (front_format number whose).is_value (front_of s) ≡ true
      → (front_format 0 None).is_value (front_of s) ≡ true
  ranged-front number whose s may =
      let n = s.replicas in
      let rest = both (views_format (head_of s)) (both (stamps_format (n + 1)) (table_format n)) in
      let counts = nat_lt n 256 && (nat_le 1 n && nat_le n most_replicas && is_count_of whose n) in
      let places = nat_lt s.me 256 && (nat_lt s.me n && is_replica_of whose s.me) in
      let service = (byte_where (λ one. one == number)).is_value number in
      let sides = and_parts ((head_format number whose).is_value (head_of s))
      (rest.is_value (views_of s, (stamps_of s, s.table))) may in
      let head = and_parts ((only_where (λ one. one == magic) Magic (number_of 4)).is_value magic)
      (service && (counts && places)) sides.0 in
      let replica = and_parts counts places (and_parts service (counts && places) head.1).1 in
      let count = and_parts (nat_lt n 256) _ replica.0 in
      let counted : is_count_of whose n ≡ true = (and_parts (nat_le 1 n && nat_le n most_replicas) _ count.1).1 in
      let place = and_parts (nat_lt s.me 256) _ replica.1 in
      let own : is_replica_of whose s.me ≡ true = (and_parts (nat_lt s.me n) _ place.1).1 in
      and_from _ _ (and_from _ _ head.0 (and_from _ _ (rw counted at replica.0) (rw own at replica.1))) sides.1

  -- a state that is written, whosever it is, is in the ranges
  pub ranged-state : (number : ℕ) (whose : Whose) (s : StableState V Op)
      → (state_format m e number whose).is_value s ≡ true → is_in_ranges m e s ≡ true
  ranged-state number whose s is =
      let n = s.replicas in
      let lists = lists_format m n s.rep_ts s.opened in
      let behind = both (frozen_format m (n + 1) s.opened (part s.rep_ts n) (s.base, s.entries)) marks_format in
      let one = and_parts ((front_format number whose).is_value (front_of s))
      (lists.is_value (lists_of s) && (value_format e).is_value s.value) is in
      let two = and_parts (lists.is_value (lists_of s)) ((value_format e).is_value s.value) one.1 in
      let three = and_parts ((log_format m n s.rep_ts).is_value (s.updates, s.acks))
      ((calls_format n).is_value s.calls && ((order_format m (n + 1)).is_value (s.base, s.entries)
      && behind.is_value (s.frozen, s.marks))) two.0 in
      let four = and_parts ((calls_format n).is_value s.calls)
      ((order_format m (n + 1)).is_value (s.base, s.entries) && behind.is_value (s.frozen, s.marks))
      three.1 in
      let five = and_parts ((order_format m (n + 1)).is_value (s.base, s.entries))
      (behind.is_value (s.frozen, s.marks)) four.1 in
      let six = and_parts
      ((frozen_format m (n + 1) s.opened (part s.rep_ts n) (s.base, s.entries)).is_value s.frozen)
      (marks_format.is_value s.marks) five.1 in
      let log = ranged-log n s.rep_ts s.updates s.acks three.0 in
      let order = ranged-order (n + 1) s.base s.entries five.0 in
      let frozen = ranged-frozen (n + 1) s.opened (part s.rep_ts n) (s.base, s.entries) s.frozen six.0 in
      and_from _ _ (ranged-front number whose s one.0) (and_from _ _ (and_from _ _ log (and_from _ _ four.0
      (and_from _ _ order (and_from _ _ frozen six.1)))) refl)
