-- How a log is written, item after item.
use Rattle.std.proofs.Common.{◌≡◌, ◌<◌, ◌≤◌, ◌+◌, ℕ, suc, Bool, true, false, cond, List, [], ◌∷◌, ◌++◌, length, get_or}
use Rattle.std.proofs.Common.{drop, refl, sym, ◌∙◌, ap, append_assoc, add-one, drop-cons, flat_map, arith}
use Rattle.std.proofs.lemmas.List.{drop_all}
use Rattle.lr_base.specs.Ascending.{is_before}
use Rattle.lr_base.specs.Bytes.{Bytes}
use Rattle.lr_base.specs.declared.messages.LogAck.{LogAck}
use Rattle.lr_base.specs.declared.messages.LogUpdate.{LogUpdate}
use Rattle.lr_codec.specs.declared.items.Item.{Item}
use Rattle.lr_codec.specs.declared.items.Item.TheVariants.{Update, Ack}
use Rattle.lr_codec.specs.Lists.{merged, only_acks, placed}

-- a list from an index on
cut-at : {A : Type 0} (xs : List A) (i : ℕ) (d : A) → i < length xs → drop i xs ≡ get_or xs i d ∷ drop (i + 1) xs
cut-at xs i d below = rw (add-one, drop-cons xs i d) refl

-- what stands for an acknowledgement that there isn't
abbrev pub no_ack : LogAck
no_ack = record { spot = record { place = 0; number = 0 }; cid = record { client = 0; seq = 0 }; time = 0 }

module _ {Op : Type 0} (bytes : Item Op → Bytes) where
  -- an item that is put, and those behind it
  item-put : (out new : Bytes) (item : Item Op) (items : List (Item Op)) → new ≡ out ++ bytes item
      → new ++ flat_map bytes items ≡ out ++ flat_map bytes (item ∷ items)
  item-put out new item items put =
      ap (λ t. t ++ flat_map bytes items) put ∙ append_assoc out (bytes item) (flat_map bytes items)

  -- an acknowledgement alone
  pub ack-alone : (acks : List LogAck) (i : ℕ) (d : LogAck) (out new : Bytes) → i < length acks
      → new ≡ out ++ bytes (Ack (get_or acks i d))
      → new ++ flat_map bytes (only_acks (drop (i + 1) acks)) ≡ out ++ flat_map bytes (only_acks (drop i acks))
  ack-alone acks i d out new below put =
      item-put out new (Ack (get_or acks i d)) (only_acks (drop (i + 1) acks)) put
      ∙ sym (ap (λ l. out ++ flat_map bytes (only_acks l)) (cut-at acks i d below))

  module _ (u : LogUpdate Op) (acks : List LogAck) (behind : List LogAck → List (Item Op)) where
    -- the acknowledgement at an index, which stands before the update
    pub ack-before : (i : ℕ) (d : LogAck) (out new : Bytes) → i < length acks
        → is_before (get_or acks i d).spot u.spot ≡ true → new ≡ out ++ bytes (Ack (get_or acks i d))
        → new ++ flat_map bytes (placed u (drop (i + 1) acks) behind)
        ≡ out ++ flat_map bytes (placed u (drop i acks) behind)
    ack-before i d out new below before put =
        let rest = drop (i + 1) acks in
        item-put out new (Ack (get_or acks i d)) (placed u rest behind) put
        ∙ sym (ap (λ l. out ++ flat_map bytes (placed u l behind)) (cut-at acks i d below)
        ∙ ap (λ b. out ++ flat_map bytes (cond b (Ack (get_or acks i d) ∷ placed u rest behind)
        (Update u ∷ behind (get_or acks i d ∷ rest)))) before)

    -- the update before the acknowledgement at an index
    pub update-here : (i : ℕ) (d : LogAck) → i < length acks → is_before (get_or acks i d).spot u.spot ≡ false
        → Update u ∷ behind (drop i acks) ≡ placed u (drop i acks) behind
    update-here i d below after =
        let rest = drop (i + 1) acks in
        ap (λ l. Update u ∷ behind l) (cut-at acks i d below)
        ∙ sym (ap (λ l. placed u l behind) (cut-at acks i d below)
        ∙ ap (λ b. cond b (Ack (get_or acks i d) ∷ placed u rest behind) (Update u ∷ behind (get_or acks i d ∷ rest)))
        after)

    -- the update behind all acknowledgements
    pub update-last : (i j : ℕ) → length acks ≤ i → length acks ≤ j
        → Update u ∷ behind (drop j acks) ≡ placed u (drop i acks) behind
    update-last i j first second =
        ap (λ l. Update u ∷ behind l) (drop_all j acks second)
        ∙ sym (ap (λ l. placed u l behind) (drop_all i acks first))

-- how many acknowledgements alone are
length-only : (Op : Type 0) (acks : List LogAck) → length (only_acks {Op = Op} acks) ≡ length acks
length-only Op [] = refl
length-only Op (a ∷ acks) = ap suc (length-only Op acks)

module _ {Op : Type 0} (u : LogUpdate Op) (behind : List LogAck → List (Item Op)) (count : ℕ) where
  -- either way of the choice, as many items
  length-choice : (before : Bool) (a : LogAck) (acks : List LogAck)
      → length (placed u acks behind) ≡ suc count + length acks → length (behind (a ∷ acks)) ≡ count + suc (length acks)
      → length (cond before (Ack a ∷ placed u acks behind) (Update u ∷ behind (a ∷ acks)))
      ≡ suc count + length (a ∷ acks)
  length-choice true a acks one other = omega (arith, one)
  length-choice false a acks one other = omega (arith, other)

  -- how many items are placed
  length-placed : ((rest : List LogAck) → length (behind rest) ≡ count + length rest) → (acks : List LogAck)
      → length (placed u acks behind) ≡ suc count + length acks
  length-placed are [] = omega (arith, are [])
  length-placed are (a ∷ acks) =
      length-choice (is_before a.spot u.spot) a acks (length-placed are acks) (are (a ∷ acks))

-- how many items two lists in one have
pub length-merged : {Op : Type 0} (updates : List (LogUpdate Op)) (acks : List LogAck)
    → length (merged updates acks) ≡ length updates + length acks
length-merged {Op} [] acks = let all : length acks ≡ 0 + length acks = omega arith in length-only Op acks ∙ all
length-merged (u ∷ updates) acks =
    length-placed u (merged updates) (length updates) (λ rest. length-merged updates rest) acks
