-- The order of what gossip tells, and gossip that tells nothing.
use Rattle.std.proofs.Common.{◌≡◌, ◌≢◌, ℕ, zero, suc, true, false, List, [], ◌∷◌, length}
use Rattle.std.proofs.Common.{None, Some, refl, subst, arith}
use Rattle.std.specs.Prelude.{Bool, filter, slice_get}
use Rattle.std.specs.List.{AllByRecursion}
use Rattle.std.specs.Option.{ForSome}
use Rattle.lr_base.specs.Ascending.{is_before}
use Rattle.lr_base.specs.Logged.{IsLogged}
use Rattle.lr_base.specs.Places.{AreInOrder}
use Rattle.lr_base.specs.Rules.{is_new, new_acks, new_updates}
use Rattle.lr_base.specs.declared.lr_service.Kind.{Kind}
use Rattle.lr_base.specs.declared.messages.Gossip.{Gossip}
use Rattle.lr_base.specs.declared.messages.LogAck.{LogAck}
use Rattle.lr_base.specs.declared.messages.LogUpdate.{LogUpdate}
use Rattle.lr_base.specs.declared.names.Spot.{Spot}
use Rattle.lr_causal.specs.Causal.{EachBefore, IsGossip, StandInOrder}
use Rattle.lr_log.specs.ItemLaws.{IsOrdered-new, each-by_index, each-filter}
use Rattle.lr_log.specs.Items.{IsOrdered, Items, NoneAt, items_of}

-- what holds of each element holds at each index
each-at : {A : Type 0} (P : A → Type 0) (xs : List A) → AllByRecursion P xs → (k : ℕ) → ForSome (slice_get xs k) P
each-at P [] all k = λ x e. let none : None ≡ Some x = e in cc
each-at P (x ∷ xs) all zero = λ y e. let same : x ≡ y = cc in subst P same all.0
each-at P (x ∷ xs) all (suc k) = each-at P xs all.1 k

-- what holds at each index holds so too of the elements that pass a test
filtered-at : {A : Type 0} (P : A → Type 0) (test : A → Bool) (xs : List A) → ((k : ℕ) → ForSome (slice_get xs k) P)
    → (k : ℕ) → ForSome (slice_get (filter test xs) k) P
filtered-at P test xs all = each-at P (filter test xs) (each-filter P test xs (each-by_index P xs all))

module _ {A : Type 0} (spot_of : A → Spot) where
  -- items in the order of their spots, by index
  pub EachBefore-of : (items : List A) → AreInOrder spot_of items → EachBefore spot_of items
  EachBefore-of [] order j k less = λ a e. let none : None ≡ Some a = e in cc
  EachBefore-of (x ∷ items) order zero zero less = absurd (omega (arith, less))
  EachBefore-of (x ∷ items) order zero (suc k) less = λ a e.
      let same : x ≡ a = cc in
      subst (λ (y : A). ForSome (slice_get items k) (λ b. is_before (spot_of y) (spot_of b) ≡ true)) same
      (each-at (λ b. is_before (spot_of x) (spot_of b) ≡ true) items order.0 k)
  EachBefore-of (x ∷ items) order (suc j) zero less = absurd (omega (arith, less))
  EachBefore-of (x ∷ items) order (suc j) (suc k) less = EachBefore-of items order.1 j k (omega (arith, less))

  -- and back
  pub in_order-of : (items : List A) → EachBefore spot_of items → AreInOrder spot_of items
  in_order-of [] each = tt
  in_order-of (x ∷ items) each = (
    each-by_index (λ b. is_before (spot_of x) (spot_of b) ≡ true) items
        (λ k b e. each 0 (suc k) (omega arith) x refl b e),
    in_order-of items (λ j k less. each (suc j) (suc k) (omega (arith, less))),
  )

module _ {Op : Type 0} (updates : List (LogUpdate Op)) (acks : List LogAck) where
  -- what a log keeps of its items
  pub StandInOrder-of : IsOrdered (items_of updates acks) → StandInOrder updates acks
  StandInOrder-of ordered = record {
    in_order = EachBefore-of (λ (u : LogUpdate Op). u.spot) updates ordered.in_order;
    acks_in_order = EachBefore-of (λ (a : LogAck). a.spot) acks ordered.acks_in_order;
    apart = λ j k u e.
        each-at (λ (a : LogAck). a.spot ≢ u.spot) acks
        (each-at (λ (v : LogUpdate Op). NoneAt (λ a. a.spot) v.spot acks) updates ordered.apart j u e) k;
  }

  -- and what a log can take
  pub IsOrdered-of : StandInOrder updates acks → IsOrdered (items_of updates acks)
  IsOrdered-of told = record {
    in_order = in_order-of (λ (u : LogUpdate Op). u.spot) updates told.in_order;
    acks_in_order = in_order-of (λ (a : LogAck). a.spot) acks told.acks_in_order;
    apart =
        each-by_index (λ (u : LogUpdate Op). NoneAt (λ a. a.spot) u.spot acks) updates
        (λ j u e. each-by_index (λ (a : LogAck). a.spot ≢ u.spot) acks (λ k. told.apart j k u e));
  }

-- the same of a log by the names of its items
pub StandInOrder-along : {Op : Type 0} (log : Items Op) (updates : List (LogUpdate Op)) (acks : List LogAck)
    → log.updates ≡ updates → log.acks ≡ acks → IsOrdered log → StandInOrder updates acks
StandInOrder-along {Op} log updates acks is acks_are ordered =
    StandInOrder-of updates acks (subst (λ (us : List (LogUpdate Op)). IsOrdered (items_of us acks)) is
    (subst (λ (as' : List LogAck). IsOrdered (items_of log.updates as')) acks_are ordered))

-- no item, and a stamp that has all its parts
pub IsGossip-empty : {Op : Type 0} (kind_of : Op → Kind) (parts : ℕ) (rep_ts : List ℕ) → length rep_ts ≡ parts
    → IsGossip {Op = Op} kind_of parts (record { rep_ts = rep_ts; updates = []; acks = [] })
IsGossip-empty kind_of parts rep_ts long = record {
  rep_parts = long;
  logged = λ k u e. cc;
  updates_received = λ k u e. cc;
  acks_received = λ k a e. cc;
  ordered = StandInOrder-of [] [] (record { in_order = tt; acks_in_order = tt; apart = tt });
}

-- gossip is gossip still without the items that its receiver has
pub IsGossip-new : {Op : Type 0} (kind_of : Op → Kind) (parts : ℕ) (theirs : List ℕ) (gossip : Gossip Op)
    → IsGossip kind_of parts gossip
    → IsGossip kind_of parts (record gossip {
      updates = new_updates theirs gossip.updates;
      acks = new_acks theirs gossip.acks;
    })
IsGossip-new {Op} kind_of parts theirs gossip whole =
    let new = λ (u : LogUpdate Op). is_new theirs u.spot in
    let ack_new = λ (a : LogAck). is_new theirs a.spot in
    let ordered = IsOrdered-of gossip.updates gossip.acks whole.ordered in
    record {
      rep_parts = whole.rep_parts;
      logged = filtered-at (IsLogged kind_of parts) new gossip.updates whole.logged;
      updates_received =
          filtered-at (λ u. is_new gossip.rep_ts u.spot ≡ false) new gossip.updates whole.updates_received;
      acks_received = filtered-at (λ a. is_new gossip.rep_ts a.spot ≡ false) ack_new gossip.acks whole.acks_received;
      ordered = StandInOrder-of (new_updates theirs gossip.updates) (new_acks theirs gossip.acks)
          (IsOrdered-new theirs (items_of gossip.updates gossip.acks) ordered);
    }
