-- The lists of stable bytes are exact.
use Rattle.std.proofs.Common.{◌≡◌, ◌+◌, ◌==◌, ◌&&◌, ◌||◌, not, cond, ℕ, Bool, true, false, List, [], ◌∷◌, length}
use Rattle.std.proofs.Common.{refl, sym, ◌∙◌, ap}
use Rattle.std.specs.Prelude.{Option, Some, None, ◌⊎◌}
use mathlib.Core.Logic.{inl, inr}
use Rattle.std.proofs.lemmas.Bool.{and_parts, and_from, eqb-true}
use Rattle.lr_base.specs.NameLaws.{before-once, before-trans}
use Rattle.lr_base.specs.Ascending.{is_before}
use Rattle.lr_base.specs.Bytes.{each_may}
use Rattle.lr_base.specs.FormatLaws.{both-exact, count_format-exact, either-exact, keyed-exact, known_test-exact}
use Rattle.lr_base.specs.FormatLaws.{leading-exact, listed-exact, number_of-exact, number_format-exact}
use Rattle.lr_base.specs.FormatLaws.{only_where-exact, renamed-exact}
use Rattle.lr_base.specs.Formats.{Format, IsExactFormat, number_of, number_format, count_format, leading, both}
use Rattle.lr_base.specs.Formats.{known_test, keyed, listed, repeated}
use Rattle.lr_base.specs.Kinds.{is_immediate}
use Rattle.lr_base.specs.Meaning.{Encoding, Meaning, Lawful}
use Rattle.lr_base.specs.Stamps.{Stamp}
use Rattle.lr_base.specs.declared.bytes.BadWhat.TheVariants.{Range}
use Rattle.lr_base.specs.declared.lr_service.Kind.{Kind}
use Rattle.lr_base.specs.declared.messages.LogAck.{LogAck}
use Rattle.lr_base.specs.declared.messages.LogUpdate.{LogUpdate}
use Rattle.lr_base.specs.declared.names.Cid.{Cid}
use Rattle.lr_base.specs.declared.names.Spot.{Spot}
use Rattle.lr_codec.specs.declared.items.Item.{Item}
use Rattle.lr_codec.specs.declared.items.Item.TheVariants.{Update, Ack}
use Rattle.lr_codec.specs.Parts.{byte_where, part_format, item_number_format, stamp_format, cid_format, is_update}
use Rattle.lr_codec.specs.Parts.{op_format}
use Rattle.lr_codec.specs.PartLaws.{byte-exact, number_where-exact, part-exact, item_number-exact, stamp-exact}
use Rattle.lr_codec.specs.PartLaws.{cid-exact, op-exact}
use Rattle.lr_codec.specs.Lists.{spot_of, is_next_spot, tag_format, place_format, received_format}
use Rattle.lr_codec.specs.Lists.{spot_format, rest_format, item_parts, item_with, item_format, updates_of, acks_of}
use Rattle.lr_codec.specs.Lists.{only_acks, placed, merged, log_format, is_next_cid, known_format, calls_format}
use Rattle.lr_codec.specs.Lists.{entry_format, entry_count_format, order_format, marks_format}

module _ (Op : Type 0) where
  -- acknowledgements alone have no updates
  updates-only : (acks : List LogAck) → updates_of {Op = Op} (only_acks acks) ≡ []
  updates-only [] = refl
  updates-only (a ∷ acks) = updates-only acks

  -- and are all acknowledgements
  acks-only : (acks : List LogAck) → acks_of (only_acks {Op = Op} acks) ≡ acks
  acks-only [] = refl
  acks-only (a ∷ acks) = ap (λ (l : List LogAck). a ∷ l) (acks-only acks)

  -- either way of the choice, the updates are the same
  updates-choice : (before : Bool) (u : LogUpdate Op) (a : LogAck) (first second : List (Item Op))
      (updates : List (LogUpdate Op)) → updates_of first ≡ updates → updates_of second ≡ updates
      → updates_of (cond before (Ack a ∷ first) second) ≡ updates
  updates-choice true u a first second updates one other = one
  updates-choice false u a first second updates one other = other

  -- and the acknowledgements
  acks-choice : (before : Bool) (a : LogAck) (first second : List (Item Op)) (acks : List LogAck)
      → acks_of first ≡ acks → acks_of second ≡ a ∷ acks → acks_of (cond before (Ack a ∷ first) second) ≡ a ∷ acks
  acks-choice true a first second acks one other = ap (λ (l : List LogAck). a ∷ l) one
  acks-choice false a first second acks one other = other

  -- the updates of what is placed behind acknowledgements
  updates-placed : (u : LogUpdate Op) (acks : List LogAck) (behind : List LogAck → List (Item Op))
      (updates : List (LogUpdate Op)) → ((rest : List LogAck) → updates_of (behind rest) ≡ updates)
      → updates_of (placed u acks behind) ≡ u ∷ updates
  updates-placed u [] behind updates are = ap (λ (l : List (LogUpdate Op)). u ∷ l) (are [])
  updates-placed u (a ∷ acks) behind updates are = updates-choice (is_before a.spot u.spot) u a
      (placed u acks behind) (Update u ∷ behind (a ∷ acks)) (u ∷ updates) (updates-placed u acks behind updates are)
      (ap (λ (l : List (LogUpdate Op)). u ∷ l) (are (a ∷ acks)))

  -- the acknowledgements before and behind what is placed
  acks-placed : (u : LogUpdate Op) (acks : List LogAck) (behind : List LogAck → List (Item Op))
      → ((rest : List LogAck) → acks_of (behind rest) ≡ rest) → acks_of (placed u acks behind) ≡ acks
  acks-placed u [] behind are = are []
  acks-placed u (a ∷ acks) behind are = acks-choice (is_before a.spot u.spot) a (placed u acks behind)
      (Update u ∷ behind (a ∷ acks)) acks (acks-placed u acks behind are) (are (a ∷ acks))

  -- two lists in one have these updates
  pub updates-merged : (updates : List (LogUpdate Op)) (acks : List LogAck) → updates_of (merged updates acks) ≡ updates
  updates-merged [] acks = updates-only acks
  updates-merged (u ∷ updates) acks =
      updates-placed u acks (merged updates) updates (λ rest. updates-merged updates rest)

  -- and these acknowledgements
  pub acks-merged : (updates : List (LogUpdate Op)) (acks : List LogAck) → acks_of (merged updates acks) ≡ acks
  acks-merged [] acks = acks-only acks
  acks-merged (u ∷ updates) acks = acks-placed u acks (merged updates) (λ rest. acks-merged updates rest)

-- a spot stands before that of the first update, if there is one
abbrev before_update : {Op : Type 0} → Spot → List (LogUpdate Op) → Bool
before_update spot [] = true
before_update spot (u ∷ updates) = is_before spot u.spot

-- and before that of the first acknowledgement
abbrev before_ack : Spot → List LogAck → Bool
before_ack spot [] = true
before_ack spot (a ∷ acks) = is_before spot a.spot

-- what stands before a spot stands before the first acknowledgement behind that
earlier-ack : (a b : Spot) (acks : List LogAck) → is_before a b ≡ true → before_ack b acks ≡ true
    → before_ack a acks ≡ true
earlier-ack a b [] first second = refl
earlier-ack a b (k ∷ acks) first second = before-trans a b k.spot first second

module _ {Op : Type 0} where
  -- items in strict order of their spots
  abbrev pub are_behind : Option (Item Op) → List (Item Op) → Bool
  are_behind last [] = true
  are_behind last (item ∷ items) = is_next_spot last (spot_of item) && are_behind (Some item) items

  -- what stands before a spot stands before the first update behind that
  earlier-update : (a b : Spot) (updates : List (LogUpdate Op)) → is_before a b ≡ true
      → before_update b updates ≡ true → before_update a updates ≡ true
  earlier-update a b [] first second = refl
  earlier-update a b (u ∷ updates) first second = before-trans a b u.spot first second

  -- an item stands before the first update behind it
  first-update : (item : Item Op) (items : List (Item Op)) → are_behind (Some item) items ≡ true
      → before_update (spot_of item) (updates_of items) ≡ true
  first-update item [] are = refl
  first-update item (Update u ∷ items) are = (and_parts _ (are_behind (Some (Update u)) items) are).0
  first-update item (Ack a ∷ items) are =
      let parts = and_parts (is_before (spot_of item) a.spot) (are_behind (Some (Ack a)) items) are in
      earlier-update (spot_of item) a.spot (updates_of items) parts.0 (first-update (Ack a) items parts.1)

  -- and before the first acknowledgement
  first-ack : (item : Item Op) (items : List (Item Op)) → are_behind (Some item) items ≡ true
      → before_ack (spot_of item) (acks_of items) ≡ true
  first-ack item [] are = refl
  first-ack item (Ack a ∷ items) are = (and_parts _ (are_behind (Some (Ack a)) items) are).0
  first-ack item (Update u ∷ items) are =
      let parts = and_parts (is_before (spot_of item) u.spot) (are_behind (Some (Update u)) items) are in
      earlier-ack (spot_of item) u.spot (acks_of items) parts.0 (first-ack (Update u) items parts.1)

  -- an update before all acknowledgements is placed first
  placed-first : (u : LogUpdate Op) (acks : List LogAck) (behind : List LogAck → List (Item Op))
      → before_ack u.spot acks ≡ true → placed u acks behind ≡ Update u ∷ behind acks
  placed-first u [] behind before = refl
  placed-first u (a ∷ acks) behind before =
      ap (λ b. cond b (Ack a ∷ placed u acks behind) (Update u ∷ behind (a ∷ acks))) (before-once u.spot a.spot before)

  -- an acknowledgement before all updates is first
  merged-ack : (a : LogAck) (updates : List (LogUpdate Op)) (acks : List LogAck)
      → before_update a.spot updates ≡ true → merged updates (a ∷ acks) ≡ Ack a ∷ merged updates acks
  merged-ack a [] acks before = refl
  merged-ack a (u ∷ updates) acks before =
      ap (λ b. cond b (Ack a ∷ placed u acks (merged updates)) (Update u ∷ merged updates (a ∷ acks))) before

  -- items in strict order are their updates and their acknowledgements in one list
  pub merged-split : (last : Option (Item Op)) (items : List (Item Op)) → are_behind last items ≡ true
      → merged (updates_of items) (acks_of items) ≡ items
  merged-split last [] are = refl
  merged-split last (Update u ∷ items) are =
      let parts = and_parts (is_next_spot last u.spot) (are_behind (Some (Update u)) items) are in
      placed-first u (acks_of items) (merged (updates_of items)) (first-ack (Update u) items parts.1)
      ∙ ap (λ (l : List (Item Op)). Update u ∷ l) (merged-split (Some (Update u)) items parts.1)
  merged-split last (Ack a ∷ items) are =
      let parts = and_parts (is_next_spot last a.spot) (are_behind (Some (Ack a)) items) are in
      merged-ack a (updates_of items) (acks_of items) (first-update (Ack a) items parts.1)
      ∙ ap (λ (l : List (Item Op)). Ack a ∷ l) (merged-split (Some (Ack a)) items parts.1)

module _ {V Op : Type 0} (m : Meaning V Op) {e : Encoding V} (kind_of : Op → Kind)
    (lawful : Lawful m e kind_of) where
  -- what stands behind a spot is exact
  rest-exact : (replicas tag : ℕ) → IsExactFormat (rest_format m replicas tag)
  rest-exact replicas tag = both-exact cid_format _ cid-exact (either-exact (tag == 1)
      (both (stamp_format (replicas + 1)) (op_format m is_update)) number_format
      (both-exact (stamp_format (replicas + 1)) (op_format m is_update) (stamp-exact (replicas + 1))
      (op-exact m kind_of is_update lawful)) number_format-exact)

  spot-exact : (replicas : ℕ) (rep_ts : Stamp) (tag : ℕ) → IsExactFormat (spot_format replicas rep_ts tag)
  spot-exact replicas rep_ts tag = renamed-exact (λ parts. record { place = parts.0; number = parts.1 })
      (λ spot. (spot.place, spot.number)) (leading (place_format replicas tag) (received_format rep_ts))
      (λ spot is. refl) (λ parts is. refl)
      (leading-exact (place_format replicas tag) (received_format rep_ts) (byte-exact _)
      (λ place. number_where-exact _))

  -- the tag of a rest that is an update's is 1, and else 2
  tag-one : (tag : ℕ) (rest : Bool) → ((tag == 1) && rest) ≡ true → 1 ≡ tag
  tag-one tag rest is = sym (eqb-true tag 1 (and_parts (tag == 1) rest is).0)

  tag-two : (tag : ℕ) (rest : Bool) → ((tag == 1) || (tag == 2)) ≡ true → (not (tag == 1) && rest) ≡ true → 2 ≡ tag
  tag-two tag rest may is = sym (eqb-true tag 2 (go (tag == 1) may (and_parts (not (tag == 1)) rest is).0))
    where
      go : (one : Bool) → (one || (tag == 2)) ≡ true → not one ≡ true → (tag == 2) ≡ true
      go true may other = cc
      go false may other = may

  -- an item is exact
  pub item-exact : (replicas : ℕ) (rep_ts : Stamp) (last : Option (Item Op))
      → IsExactFormat (item_format m replicas rep_ts last)
  item-exact replicas rep_ts last = renamed-exact (λ parts. item_with parts.0.1 parts.1.0 parts.1.1) item_parts
      (keyed next key rest) there here (keyed-exact next key rest
      (leading-exact tag_format (spot_format replicas rep_ts) (byte-exact _) (spot-exact replicas rep_ts))
      (λ k. rest-exact replicas k.0))
    where
      next : ℕ × Spot → Bool
      next k = is_next_spot last k.1

      key : Format (ℕ × Spot)
      key = leading tag_format (spot_format replicas rep_ts)

      rest : ℕ × Spot → Format (Cid × ((Stamp × Op) ⊎ ℕ))
      rest k = rest_format m replicas k.0

      there : (item : Item Op) → (keyed next key rest).is_value (item_parts item) ≡ true
          → item_with (item_parts item).0.1 (item_parts item).1.0 (item_parts item).1.1 ≡ item
      there (Update u) is = refl
      there (Ack a) is = refl

      here : (parts : (ℕ × Spot) × (Cid × ((Stamp × Op) ⊎ ℕ))) → (keyed next key rest).is_value parts ≡ true
          → item_parts (item_with parts.0.1 parts.1.0 parts.1.1) ≡ parts
      here ((tag, spot), (cid, inl update)) is =
          let tests = and_parts _ _ (and_parts _ _ is).1 in
          ap (λ t. ((t, spot), (cid, inl update))) (tag-one tag _ tests.1)
      here ((tag, spot), (cid, inr time)) is =
          let sides = and_parts _ _ is in
          let tests = and_parts _ _ sides.1 in
          let tags = and_parts _ _ (and_parts _ _ (and_parts _ _ sides.0).0).0 in
          ap (λ t. ((t, spot), (cid, inr time))) (tag-two tag _ tags.1 tests.1)

  -- items that may follow one another are in strict order of their spots
  order-of : (replicas : ℕ) (rep_ts : Stamp) (last : Option (Item Op)) (items : List (Item Op))
      → each_may (λ last. (item_format m replicas rep_ts last).is_value) last items ≡ true
      → are_behind last items ≡ true
  order-of replicas rep_ts last [] may = refl
  order-of replicas rep_ts last (Update u ∷ items) may =
      let parts = and_parts _ _ may in
      let keys = and_parts _ _ (and_parts _ _ parts.0).0 in
      and_from _ _ keys.1 (order-of replicas rep_ts (Some (Update u)) items parts.1)
  order-of replicas rep_ts last (Ack a ∷ items) may =
      let parts = and_parts _ _ may in
      let keys = and_parts _ _ (and_parts _ _ parts.0).0 in
      and_from _ _ keys.1 (order-of replicas rep_ts (Some (Ack a)) items parts.1)

  -- the log is exact
  pub log-exact : (replicas : ℕ) (rep_ts : Stamp) → IsExactFormat (log_format m replicas rep_ts)
  log-exact replicas rep_ts = renamed-exact (λ items. (updates_of items, acks_of items)) (λ log. merged log.0 log.1)
      (listed count_format (item_format m replicas rep_ts)) there here
      (listed-exact count_format (item_format m replicas rep_ts) count_format-exact (item-exact replicas rep_ts))
    where
      there : (log : List (LogUpdate Op) × List LogAck)
          → (listed count_format (item_format m replicas rep_ts)).is_value (merged log.0 log.1) ≡ true
          → (updates_of (merged log.0 log.1), acks_of (merged log.0 log.1)) ≡ log
      there (updates, acks) is = rw (updates-merged Op updates acks, acks-merged Op updates acks) refl

      here : (items : List (Item Op))
          → (listed count_format (item_format m replicas rep_ts)).is_value items ≡ true
          → merged (updates_of items) (acks_of items) ≡ items
      here items is =
          let one = item_format m replicas rep_ts in
          let all = (and_parts (count_format.is_value (length items))
          ((repeated one (length items)).is_value items) is).1 in
          let each = and_parts (length items == length items) (each_may (λ last. (one last).is_value) None items) all in
          merged-split None items (order-of replicas rep_ts None items each.1)

  -- an entry is exact
  pub entry-exact : (parts : ℕ) → IsExactFormat (entry_format m parts)
  entry-exact parts = renamed-exact
      (λ it. record {
        birth = it.0;
        call = record { cid = it.1.0; prev = it.1.1.0; op = it.1.1.1.1.0 };
        immediate = it.1.1.1.1.1;
        extra = it.1.1.1.0;
      })
      (λ entry. (entry.birth, (entry.call.cid, (entry.call.prev, (entry.extra, (entry.call.op, entry.immediate))))))
      _ (λ entry is. refl) (λ it is. refl)
      (both-exact part_format _ part-exact (both-exact cid_format _ cid-exact
      (both-exact (stamp_format parts) _ (stamp-exact parts) (both-exact (stamp_format parts) _ (stamp-exact parts)
      (leading-exact (op_format m is_update) (λ op. known_test (is_immediate (m.kind op)))
      (op-exact m kind_of is_update lawful) (λ op. known_test-exact _))))))

  -- the order log is exact
  pub order-exact : (parts : ℕ) → IsExactFormat (order_format m parts)
  order-exact parts = leading-exact number_format (λ base. listed (entry_count_format base)
      (λ last. entry_format m parts)) number_format-exact
      (λ base. listed-exact (entry_count_format base) (λ last. entry_format m parts)
      (only_where-exact _ Range (number_of 4) (number_of-exact 4)) (λ last. entry-exact parts))

-- what is known of a call is exact
known-exact : (replicas : ℕ) → IsExactFormat (known_format replicas)
known-exact replicas = renamed-exact
    (λ parts. record { spot = record { place = parts.0; number = parts.1.0 }; stamp = parts.1.1 })
    (λ known. (known.spot.place, (known.spot.number, known.stamp))) _ (λ known is. refl) (λ parts is. refl)
    (both-exact (byte_where _) _ (byte-exact _) (both-exact item_number_format (stamp_format (replicas + 1))
    item_number-exact (stamp-exact (replicas + 1))))

-- the table of executed calls is exact
pub calls-exact : (replicas : ℕ) → IsExactFormat (calls_format replicas)
calls-exact replicas = listed-exact count_format
    (λ last. keyed (is_next_cid last) cid_format (λ cid. known_format replicas)) count_format-exact
    (λ last. keyed-exact (is_next_cid last) cid_format (λ cid. known_format replicas) cid-exact
    (λ cid. known-exact replicas))

-- marks are exact
pub marks-exact : IsExactFormat marks_format
marks-exact = listed-exact count_format (λ last. both part_format part_format) count_format-exact
    (λ last. both-exact part_format part_format part-exact part-exact)
