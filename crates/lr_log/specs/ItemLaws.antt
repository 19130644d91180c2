-- What keeps a log's items in their order, and which items a log can take.
-- What keeps a log's items in their order.
use Rattle.std.proofs.Common.{◌≡◌, ◌≢◌, ◌+◌, ℕ, suc, Bool, true, false, cond, List, [], ◌∷◌, filter, refl, sym, ap}
use Rattle.std.proofs.Common.{◌∙◌, arith, lt-ltb}
use Rattle.std.specs.Prelude.{slice_get}
use Rattle.std.specs.List.{AllByRecursion}
use Rattle.std.specs.Option.{ForSome}
use Rattle.lr_base.specs.Ascending.{is_before}
use Rattle.lr_base.specs.declared.names.Spot.{Spot}
use Rattle.lr_base.specs.declared.messages.LogAck.{LogAck}
use Rattle.lr_base.specs.declared.messages.LogUpdate.{LogUpdate}
use Rattle.lr_base.specs.Insertion.{Ascends, insert_all_by, insert_by}
use Rattle.lr_base.specs.InsertionLaws.{ascends-inserted, each-inserted}
use Rattle.lr_base.specs.Logged.{AllAcksReceived, AllReceived}
use Rattle.lr_base.specs.Places.{AreInOrder}
use Rattle.lr_base.specs.Rules.{insert_ack, insert_acks, insert_update, insert_updates, is_new, new_acks}
use Rattle.lr_base.specs.Rules.{new_updates}
use Rattle.lr_base.specs.Stamps.{part}
use Rattle.lr_log.specs.Items.{CanTake, IsFree, IsOrdered, Items, NoneAt, items_of}
use Rattle.lr_base.specs.NameLaws.{before-apart, before-trans, behind-shown}

module _ {A : Type 0} where
  -- what holds of everything holds of each element
  pub each-all : (P : A → Type 0) (xs : List A) → ((x : A) → P x) → AllByRecursion P xs
  each-all P [] all = tt
  each-all P (x ∷ xs) all = (all x, each-all P xs all)

  -- what follows for each element of a list holds of each
  pub each-map : (P Q : A → Type 0) (xs : List A) → ((x : A) → P x → Q x) → AllByRecursion P xs → AllByRecursion Q xs
  each-map P Q [] into all = tt
  each-map P Q (x ∷ xs) into all = (into x all.0, each-map P Q xs into all.1)

  -- what follows from two facts of each element
  pub each-both : (P Q R : A → Type 0) (xs : List A) → ((x : A) → P x → Q x → R x) → AllByRecursion P xs
      → AllByRecursion Q xs → AllByRecursion R xs
  each-both P Q R [] into all also = tt
  each-both P Q R (x ∷ xs) into all also = (into x all.0 also.0, each-both P Q R xs into all.1 also.1)

  -- what holds of each element holds of those that pass a test
  pub each-filter : (P : A → Type 0) (test : A → Bool) (xs : List A) → AllByRecursion P xs
      → AllByRecursion P (filter test xs)
  each-filter P test [] all = tt
  each-filter P test (x ∷ xs) all = go (test x) (each-filter P test xs all.1)
    where
      go : (s : Bool) → AllByRecursion P (filter test xs)
          → AllByRecursion P (cond s (x ∷ filter test xs) (filter test xs))
      go true rest = (all.0, rest)
      go false rest = rest

  -- what holds of each element that passes a test
  pub each-passes : (P : A → Type 0) (test : A → Bool) (xs : List A) → ((x : A) → test x ≡ true → P x)
      → AllByRecursion P (filter test xs)
  each-passes P test [] passes = tt
  each-passes P test (x ∷ xs) passes = go (test x) refl (each-passes P test xs passes)
    where
      go : (s : Bool) → test x ≡ s → AllByRecursion P (filter test xs)
          → AllByRecursion P (cond s (x ∷ filter test xs) (filter test xs))
      go true is rest = (passes x is, rest)
      go false is rest = rest

  -- what holds at each index holds of each element
  pub each-by_index : (P : A → Type 0) (xs : List A) → ((k : ℕ) → ForSome (slice_get xs k) P) → AllByRecursion P xs
  each-by_index P [] all = tt
  each-by_index P (x ∷ xs) all = (all 0 x refl, each-by_index P xs (λ k. all (suc k)))

  -- a list that ascends does so without some of its elements
  pub ascends-filter : (before : A → A → Bool) (test : A → Bool) (xs : List A) → Ascends before xs
      → Ascends before (filter test xs)
  ascends-filter before test [] all = tt
  ascends-filter before test (x ∷ xs) all = go (test x) (ascends-filter before test xs all.1)
    where
      go : (s : Bool) → Ascends before (filter test xs) → Ascends before (cond s (x ∷ filter test xs) (filter test xs))
      go true rest = (each-filter (λ y. before x y ≡ true) test xs all.0, rest)
      go false rest = rest

  -- what holds of each of some elements and of each of a list holds of each, once they are inserted
  pub each-inserted_all : (before : A → A → Bool) (P : A → Type 0) (more xs : List A) → AllByRecursion P more
      → AllByRecursion P xs → AllByRecursion P (insert_all_by before more xs)
  each-inserted_all before P [] xs own all = all
  each-inserted_all before P (x ∷ more) xs own all =
      each-inserted_all before P more (insert_by before x xs) own.1
      (each-inserted (λ y z. false) before x P xs own.0 all)

module _ {A B : Type 0} where
  -- what holds of each pair from two lists
  pub each-swap : (R : A → B → Type 0) (xs : List A) (ys : List B)
      → AllByRecursion (λ x. AllByRecursion (λ y. R x y) ys) xs → AllByRecursion
      (λ y. AllByRecursion (λ x. R x y) xs) ys
  each-swap R [] ys all = each-all (λ y. AllByRecursion (λ x. R x y) []) ys (λ y. tt)
  each-swap R (x ∷ xs) ys all =
      each-both (λ y. R x y) (λ y. AllByRecursion (λ z. R z y) xs) _ ys (λ y own others. (own, others)) all.0
      (each-swap R xs ys all.1)

module _ {A : Type 0} (spot_of : A → Spot) where
  -- items in the order of their spots with one more at a free spot
  pub in_order-inserted : (x : A) (xs : List A) → NoneAt spot_of (spot_of x) xs → AreInOrder spot_of xs
      → AreInOrder spot_of (insert_by (λ a b. is_before (spot_of a) (spot_of b)) x xs)
  in_order-inserted x xs free order =
      let before : A → A → Bool = λ a b. is_before (spot_of a) (spot_of b) in
      ascends-inserted (λ a b. false) before x before
      (λ y z first second. before-trans (spot_of x) (spot_of y) (spot_of z) first second) xs
      (each-map (λ y. spot_of y ≢ spot_of x) _ xs (λ y apart t other is. side y apart t is) free) order
    where
      side : (y : A) → spot_of y ≢ spot_of x → (t : Bool) → is_before (spot_of x) (spot_of y) ≡ t
          → cond t (is_before (spot_of x) (spot_of y)) (is_before (spot_of y) (spot_of x)) ≡ true
      side y apart true is = is
      side y apart false is = behind-shown (spot_of x) (spot_of y) (λ e. apart (sym e)) is

module _ {A : Type 0} (spot_of : A → Spot) where
  -- items in the order of their spots with more at free spots
  pub in_order-inserted_all : (more xs : List A) → AreInOrder spot_of more → AreInOrder spot_of xs
      → AllByRecursion (λ x. NoneAt spot_of (spot_of x) xs) more
      → AreInOrder spot_of (insert_all_by (λ a b. is_before (spot_of a) (spot_of b)) more xs)
  in_order-inserted_all [] xs order own free = own
  in_order-inserted_all (x ∷ more) xs order own free =
      let before : A → A → Bool = λ a b. is_before (spot_of a) (spot_of b) in
      in_order-inserted_all more (insert_by before x xs) order.1 (in_order-inserted spot_of x xs free.0 own)
      (each-both (λ y. is_before (spot_of x) (spot_of y) ≡ true) (λ y. NoneAt spot_of (spot_of y) xs)
      (λ y. NoneAt spot_of (spot_of y) (insert_by before x xs)) more
      (λ y first none. each-inserted (λ a b. false) before x (λ z. spot_of z ≢ spot_of y) xs
      (before-apart (spot_of x) (spot_of y) first) none)
      order.0 free.1)

module _ {Op : Type 0} where
  -- an ordered log with one more update at a free spot
  pub IsOrdered-update : (u : LogUpdate Op) (log : Items Op) → IsFree log u.spot → IsOrdered log
      → IsOrdered (items_of (insert_update u log.updates) log.acks)
  IsOrdered-update u log free ordered = record {
    in_order = in_order-inserted (λ (v : LogUpdate Op). v.spot) u log.updates free.updates ordered.in_order;
    acks_in_order = ordered.acks_in_order;
    apart = each-inserted (λ a b. false) (λ (a b : LogUpdate Op). is_before a.spot b.spot) u
        (λ (v : LogUpdate Op). NoneAt (λ a. a.spot) v.spot log.acks) log.updates free.acks ordered.apart;
  }

  -- an ordered log with one more acknowledgement at a free spot
  pub IsOrdered-ack : (a : LogAck) (log : Items Op) → IsFree log a.spot → IsOrdered log
      → IsOrdered (items_of log.updates (insert_ack a log.acks))
  IsOrdered-ack a log free ordered = record {
    in_order = ordered.in_order;
    acks_in_order = in_order-inserted (λ (b : LogAck). b.spot) a log.acks free.acks ordered.acks_in_order;
    apart = each-both (λ (v : LogUpdate Op). v.spot ≢ a.spot)
        (λ (v : LogUpdate Op). NoneAt (λ b. b.spot) v.spot log.acks)
        (λ (v : LogUpdate Op). NoneAt (λ b. b.spot) v.spot (insert_ack a log.acks)) log.updates
        (λ v other none. each-inserted (λ b c. false) (λ (b c : LogAck). is_before b.spot c.spot) a
        (λ (b : LogAck). b.spot ≢ v.spot) log.acks (λ e. other (sym e)) none)
        free.updates ordered.apart;
  }

  -- an ordered log with other ordered items at free spots
  pub IsOrdered-all : (log more : Items Op) → IsOrdered log → IsOrdered more → CanTake log more
      → IsOrdered (items_of (insert_updates more.updates log.updates) (insert_acks more.acks log.acks))
  IsOrdered-all log more ordered own free = record {
    in_order = in_order-inserted_all (λ (u : LogUpdate Op). u.spot) more.updates log.updates own.in_order
        ordered.in_order
        (each-map (λ (u : LogUpdate Op). IsFree log u.spot) _ more.updates (λ u is. is.updates) free.updates);
    acks_in_order = in_order-inserted_all (λ (a : LogAck). a.spot) more.acks log.acks own.acks_in_order
        ordered.acks_in_order
        (each-map (λ (a : LogAck). IsFree log a.spot) _ more.acks (λ a is. is.acks) free.acks);
    apart = each-inserted_all (λ (a b : LogUpdate Op). is_before a.spot b.spot)
        (λ (u : LogUpdate Op). NoneAt (λ a. a.spot) u.spot (insert_acks more.acks log.acks)) more.updates log.updates
        (each-both (λ (u : LogUpdate Op). NoneAt (λ a. a.spot) u.spot more.acks)
        (λ (u : LogUpdate Op). NoneAt (λ a. a.spot) u.spot log.acks) _ more.updates
        (λ u new old. acks u.spot new old) own.apart
        (each-map (λ (u : LogUpdate Op). IsFree log u.spot) _ more.updates (λ u is. is.acks) free.updates))
        (each-both (λ (u : LogUpdate Op). NoneAt (λ a. a.spot) u.spot more.acks)
        (λ (u : LogUpdate Op). NoneAt (λ a. a.spot) u.spot log.acks) _ log.updates (λ u new old. acks u.spot new old)
        (each-swap (λ (a : LogAck) (u : LogUpdate Op). a.spot ≢ u.spot) more.acks log.updates
        (each-map (λ (a : LogAck). IsFree log a.spot) _ more.acks
        (λ a is. each-map (λ (u : LogUpdate Op). u.spot ≢ a.spot) _ log.updates (λ u other same. other (sym same))
        is.updates)
        free.acks)) ordered.apart);
  }
    where
      acks : (spot : Spot) → NoneAt (λ a. a.spot) spot more.acks → NoneAt (λ a. a.spot) spot log.acks
          → NoneAt (λ a. a.spot) spot (insert_acks more.acks log.acks)
      acks spot new old = each-inserted_all (λ (a b : LogAck). is_before a.spot b.spot) (λ (a : LogAck). a.spot ≢ spot)
          more.acks log.acks new old

  -- an ordered log without some of its items
  pub IsOrdered-filter : (test : LogUpdate Op → Bool) (ack_test : LogAck → Bool) (log : Items Op) → IsOrdered log
      → IsOrdered (items_of (filter test log.updates) (filter ack_test log.acks))
  IsOrdered-filter test ack_test log ordered = record {
    in_order = ascends-filter (λ (a b : LogUpdate Op). is_before a.spot b.spot) test log.updates ordered.in_order;
    acks_in_order = ascends-filter (λ (a b : LogAck). is_before a.spot b.spot) ack_test log.acks ordered.acks_in_order;
    apart = each-filter (λ (v : LogUpdate Op). NoneAt (λ a. a.spot) v.spot (filter ack_test log.acks)) test log.updates
        (each-map (λ (v : LogUpdate Op). NoneAt (λ a. a.spot) v.spot log.acks)
        (λ (v : LogUpdate Op). NoneAt (λ a. a.spot) v.spot (filter ack_test log.acks)) log.updates
        (λ v none. each-filter (λ (a : LogAck). a.spot ≢ v.spot) ack_test log.acks none) ordered.apart);
  }

  -- what is new of an ordered log
  pub IsOrdered-new : (rep_ts : List ℕ) (log : Items Op) → IsOrdered log
      → IsOrdered (items_of (new_updates rep_ts log.updates) (new_acks rep_ts log.acks))
  IsOrdered-new rep_ts log ordered =
      IsOrdered-filter (λ u. is_new rep_ts u.spot) (λ a. is_new rep_ts a.spot) log ordered

  -- a spot that is new where all of a log was received is free in the log
  pub IsFree-new : (rep_ts : List ℕ) (spot : Spot) (log : Items Op) → AllReceived rep_ts log.updates
      → AllAcksReceived rep_ts log.acks → is_new rep_ts spot ≡ true → IsFree log spot
  IsFree-new rep_ts spot log received acks_received new = record {
    updates = each-map (λ (u : LogUpdate Op). is_new rep_ts u.spot ≡ false) (λ (u : LogUpdate Op). u.spot ≢ spot)
        log.updates
        (λ u old same. let no : false ≡ true = sym old ∙ (ap (is_new rep_ts) same ∙ new) in cc)
        (each-by_index (λ (u : LogUpdate Op). is_new rep_ts u.spot ≡ false) log.updates received);
    acks = each-map (λ (a : LogAck). is_new rep_ts a.spot ≡ false) (λ (a : LogAck). a.spot ≢ spot) log.acks
        (λ a old same. let no : false ≡ true = sym old ∙ (ap (is_new rep_ts) same ∙ new) in cc)
        (each-by_index (λ (a : LogAck). is_new rep_ts a.spot ≡ false) log.acks acks_received);
  }

  -- so is the spot of a place's next number
  pub IsFree-next : (rep_ts : List ℕ) (place : ℕ) (log : Items Op) → AllReceived rep_ts log.updates
      → AllAcksReceived rep_ts log.acks → IsFree log (record { place = place; number = part rep_ts place + 1 })
  IsFree-next rep_ts place log received acks_received =
      IsFree-new rep_ts (record { place = place; number = part rep_ts place + 1 }) log received acks_received
      (lt-ltb (part rep_ts place) (part rep_ts place + 1) (omega arith))

  -- a log of which all was received can take what is new
  pub CanTake-new : (rep_ts : List ℕ) (log more : Items Op) → AllReceived rep_ts log.updates
      → AllAcksReceived rep_ts log.acks
      → CanTake log (items_of (new_updates rep_ts more.updates) (new_acks rep_ts more.acks))
  CanTake-new rep_ts log more received acks_received = record {
    updates = each-passes (λ (u : LogUpdate Op). IsFree log u.spot) (λ u. is_new rep_ts u.spot) more.updates
        (λ u new. IsFree-new rep_ts u.spot log received acks_received new);
    acks = each-passes (λ (a : LogAck). IsFree log a.spot) (λ a. is_new rep_ts a.spot) more.acks
        (λ a new. IsFree-new rep_ts a.spot log received acks_received new);
  }
