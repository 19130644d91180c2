-- Which items are new at a stamp, and which were received.
use Rattle.std.proofs.Common.{◌≡◌, ◌≤◌, ℕ, zero, suc, Bool, true, false, not, List, [], ◌∷◌, refl, arith, le-leb, lt-ltb, le-ltb, ltb-true, ltb-false}
use Rattle.std.specs.Prelude.{filter}
use Rattle.lr_base.specs.Ascending.{is_before}
use Rattle.lr_base.specs.declared.messages.LogAck.{LogAck}
use Rattle.lr_base.specs.declared.messages.LogUpdate.{LogUpdate}
use Rattle.lr_base.specs.declared.names.Spot.{Spot}
use Rattle.lr_base.specs.Rules.{insert_ack, is_new, new_acks, new_updates, insert_acks, insert_update, insert_updates}
use Rattle.lr_base.specs.Stamps.{join, part, set_part, stamp_le}
use Rattle.lr_base.specs.StampLaws.{join-least, part-set_part, parts-stamp_le, stamp_le-refl}
use Rattle.lr_base.specs.Logged.{AllAcksReceived, AllReceived}
use Rattle.lr_causal.proofs.Each.{Each-filter, Each-passes, Each-insert, Each-insert_all}
use Rattle.lr_log.specs.Items.{Items}

-- a stamp with a greater part is above
pub set_part-above : (a : List ℕ) (place n : ℕ) → part a place ≤ n → stamp_le a (set_part a place n) ≡ true
set_part-above [] place n more = refl
set_part-above (x ∷ a) zero n more = rw (le-leb x n more) (stamp_le-refl a)
set_part-above (x ∷ a) (suc place) n more = rw (le-leb x x (omega arith)) (set_part-above a place n more)

-- what was received at a stamp was received at each above it
pub received-later : (first later : List ℕ) (spot : Spot) → stamp_le first later ≡ true → is_new first spot ≡ false → is_new later spot ≡ false
received-later first later spot le was =
    let within = ltb-false (part first spot.place) spot.number was in
    let more = parts-stamp_le first later le spot.place in
    le-ltb (part later spot.place) spot.number (omega arith)

-- what is new at a stamp is new at each below it
pub new-earlier : (first later : List ℕ) (spot : Spot) → stamp_le first later ≡ true → is_new later spot ≡ true → is_new first spot ≡ true
new-earlier first later spot le new =
    let beyond = ltb-true (part later spot.place) spot.number new in
    let more = parts-stamp_le first later le spot.place in
    lt-ltb (part first spot.place) spot.number (omega arith)

-- what doesn't leave with the items that are new isn't new
pub stays-received : (rep_ts : List ℕ) (spot : Spot) → not (is_new rep_ts spot) ≡ true → is_new rep_ts spot ≡ false
stays-received rep_ts spot stays = go (is_new rep_ts spot) refl
  where
    go : (new : Bool) → is_new rep_ts spot ≡ new → new ≡ false
    go true is = let no : false ≡ true = rw is at stays in cc
    go false is = refl

module _ {Op : Type 0} where
  -- the same updates at a stamp above
  pub AllReceived-later : (first later : List ℕ) (updates same : List (LogUpdate Op)) → stamp_le first later ≡ true → same ≡ updates → AllReceived first updates → AllReceived later same
  AllReceived-later first later updates same le is all = rw is (λ k u e. received-later first later u.spot le (all k u e))

  -- the same updates at the same stamp
  pub AllReceived-along : (rep_ts stamp : List ℕ) (updates same : List (LogUpdate Op)) → stamp ≡ rep_ts → same ≡ updates → AllReceived rep_ts updates → AllReceived stamp same
  AllReceived-along rep_ts stamp updates same at is all = rw (at, is) all

  -- a log that gained the next update of a place
  pub AllReceived-next : (rep_ts stamp : List ℕ) (u : LogUpdate Op) (log new : Items Op) → stamp ≡ set_part rep_ts u.spot.place u.spot.number → part rep_ts u.spot.place ≤ u.spot.number → new ≡ record log { updates = insert_update u log.updates } → AllReceived rep_ts log.updates → AllReceived stamp new.updates
  AllReceived-next rep_ts stamp u log new at more is all =
      let own : is_new (set_part rep_ts u.spot.place u.spot.number) u.spot ≡ false =
      le-ltb (part (set_part rep_ts u.spot.place u.spot.number) u.spot.place) u.spot.number (let written = part-set_part rep_ts u.spot.place u.spot.number in omega arith) in
      rw (at, is)
      (Each-insert (λ (x : LogUpdate Op). is_new (set_part rep_ts u.spot.place u.spot.number) x.spot ≡ false) (λ (a b : LogUpdate Op). is_before a.spot b.spot) u log.updates own
      (AllReceived-later rep_ts (set_part rep_ts u.spot.place u.spot.number) log.updates log.updates (set_part-above rep_ts u.spot.place u.spot.number more) refl all))

  -- a log that gained what is new of some
  pub AllReceived-gained : (rep_ts told_ts stamp : List ℕ) (told new own updates : List (LogUpdate Op)) → stamp ≡ join rep_ts told_ts → new ≡ new_updates rep_ts told → updates ≡ insert_updates new own → AllReceived told_ts told → AllReceived rep_ts own → AllReceived stamp updates
  AllReceived-gained rep_ts told_ts stamp told new own updates at is gained all all_own =
      let above = join-least rep_ts told_ts in
      rw (at, gained, is)
      (Each-insert_all (λ (u : LogUpdate Op). is_new (join rep_ts told_ts) u.spot ≡ false) (λ (a b : LogUpdate Op). is_before a.spot b.spot) (new_updates rep_ts told) own
      (Each-filter (λ (u : LogUpdate Op). is_new (join rep_ts told_ts) u.spot ≡ false) (λ u. is_new rep_ts u.spot) told (AllReceived-later told_ts (join rep_ts told_ts) told told above.above_second refl all))
      (AllReceived-later rep_ts (join rep_ts told_ts) own own above.above_first refl all_own))

  -- a log that lost what is new
  pub AllReceived-stays : (rep_ts stamp : List ℕ) (updates kept : List (LogUpdate Op)) → stamp ≡ rep_ts → kept ≡ filter (λ u. not (is_new rep_ts u.spot)) updates → AllReceived stamp kept
  AllReceived-stays rep_ts stamp updates kept at is =
      rw (at, is) (Each-passes (λ (u : LogUpdate Op). is_new rep_ts u.spot ≡ false) (λ u. not (is_new rep_ts u.spot)) updates (λ u stays. stays-received rep_ts u.spot stays))

  -- those of a log that are new for another
  pub AllReceived-told : (rep_ts stamp theirs : List ℕ) (updates told : List (LogUpdate Op)) → stamp ≡ rep_ts → told ≡ filter (λ u. is_new theirs u.spot) updates → AllReceived rep_ts updates → AllReceived stamp told
  AllReceived-told rep_ts stamp theirs updates told at is all =
      rw (at, is) (Each-filter (λ (u : LogUpdate Op). is_new rep_ts u.spot ≡ false) (λ u. is_new theirs u.spot) updates all)

-- and so for acknowledgements
pub AllAcksReceived-later : (first later : List ℕ) (acks same : List LogAck) → stamp_le first later ≡ true → same ≡ acks → AllAcksReceived first acks → AllAcksReceived later same
AllAcksReceived-later first later acks same le is all = rw is (λ k a e. received-later first later a.spot le (all k a e))

pub AllAcksReceived-along : (rep_ts stamp : List ℕ) (acks same : List LogAck) → stamp ≡ rep_ts → same ≡ acks → AllAcksReceived rep_ts acks → AllAcksReceived stamp same
AllAcksReceived-along rep_ts stamp acks same at is all = rw (at, is) all

pub AllAcksReceived-next : (rep_ts stamp : List ℕ) (place n : ℕ) (acks same : List LogAck) → stamp ≡ set_part rep_ts place n → part rep_ts place ≤ n → same ≡ acks → AllAcksReceived rep_ts acks → AllAcksReceived stamp same
AllAcksReceived-next rep_ts stamp place n acks same at more is all = rw at (AllAcksReceived-later rep_ts (set_part rep_ts place n) acks same (set_part-above rep_ts place n more) is all)

-- a log that gained the next acknowledgement of a place
pub AllAcksReceived-noted : (rep_ts stamp : List ℕ) (a : LogAck) (acks same : List LogAck) → stamp ≡ set_part rep_ts a.spot.place a.spot.number → part rep_ts a.spot.place ≤ a.spot.number → same ≡ insert_ack a acks → AllAcksReceived rep_ts acks → AllAcksReceived stamp same
AllAcksReceived-noted rep_ts stamp a acks same at more is all =
    let own : is_new (set_part rep_ts a.spot.place a.spot.number) a.spot ≡ false =
    le-ltb (part (set_part rep_ts a.spot.place a.spot.number) a.spot.place) a.spot.number (let written = part-set_part rep_ts a.spot.place a.spot.number in omega arith) in
    rw (at, is)
    (Each-insert (λ (x : LogAck). is_new (set_part rep_ts a.spot.place a.spot.number) x.spot ≡ false) (λ (x y : LogAck). is_before x.spot y.spot) a acks own
    (AllAcksReceived-later rep_ts (set_part rep_ts a.spot.place a.spot.number) acks acks (set_part-above rep_ts a.spot.place a.spot.number more) refl all))

pub AllAcksReceived-gained : (rep_ts told_ts stamp : List ℕ) (told new own acks : List LogAck) → stamp ≡ join rep_ts told_ts → new ≡ new_acks rep_ts told → acks ≡ insert_acks new own → AllAcksReceived told_ts told → AllAcksReceived rep_ts own → AllAcksReceived stamp acks
AllAcksReceived-gained rep_ts told_ts stamp told new own acks at is gained all all_own =
    let above = join-least rep_ts told_ts in
    rw (at, gained, is)
    (Each-insert_all (λ (a : LogAck). is_new (join rep_ts told_ts) a.spot ≡ false) (λ (a b : LogAck). is_before a.spot b.spot) (new_acks rep_ts told) own
    (Each-filter (λ (a : LogAck). is_new (join rep_ts told_ts) a.spot ≡ false) (λ a. is_new rep_ts a.spot) told (AllAcksReceived-later told_ts (join rep_ts told_ts) told told above.above_second refl all))
    (AllAcksReceived-later rep_ts (join rep_ts told_ts) own own above.above_first refl all_own))

pub AllAcksReceived-stays : (rep_ts stamp : List ℕ) (acks kept : List LogAck) → stamp ≡ rep_ts → kept ≡ filter (λ a. not (is_new rep_ts a.spot)) acks → AllAcksReceived stamp kept
AllAcksReceived-stays rep_ts stamp acks kept at is =
    rw (at, is) (Each-passes (λ (a : LogAck). is_new rep_ts a.spot ≡ false) (λ a. not (is_new rep_ts a.spot)) acks (λ a stays. stays-received rep_ts a.spot stays))

pub AllAcksReceived-told : (rep_ts stamp theirs : List ℕ) (acks told : List LogAck) → stamp ≡ rep_ts → told ≡ filter (λ a. is_new theirs a.spot) acks → AllAcksReceived rep_ts acks → AllAcksReceived stamp told
AllAcksReceived-told rep_ts stamp theirs acks told at is all =
    rw (at, is) (Each-filter (λ (a : LogAck). is_new rep_ts a.spot ≡ false) (λ a. is_new theirs a.spot) acks all)
