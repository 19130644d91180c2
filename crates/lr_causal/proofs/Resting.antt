-- Pruning that drops nothing.
use Rattle.std.proofs.Common.{◌≡◌, Bool, true, false, not, ◌&&◌, List, [], ◌∷◌, ℕ, refl}
use Rattle.std.specs.Prelude.{filter}
use Rattle.lr_base.specs.Ascending.{same_cid}
use Rattle.lr_base.specs.Rules.{is_spent, known_in, logs_ack, logs_update, undone_calls, unknown_updates}
use Rattle.lr_base.specs.declared.messages.Known.{Known}
use Rattle.lr_base.specs.declared.messages.LogAck.{LogAck}
use Rattle.lr_base.specs.declared.messages.LogUpdate.{LogUpdate}
use Rattle.lr_base.specs.declared.names.Cid.{Cid}
use Rattle.lr_causal.specs.Causal.{IsAtRest}
use Rattle.lr_causal.proofs.Each.{Each-passes}
use Rattle.lr_causal.proofs.Kept.{filter-none}
use Rattle.lr_log.specs.Items.{Items}

-- what passes the contrary of a test fails it
not-true : (b : Bool) → not b ≡ true → b ≡ false
not-true true is = let no : false ≡ true = is in cc
not-true false is = refl

-- what was left out once is left out, and so is what is left out of less
filter-again : {X : Type 0} (leaves fewer : X → Bool) → ((x : X) → leaves x ≡ false → fewer x ≡ false) → (xs : List X)
    → filter (λ x. not (fewer x)) (filter (λ x. not (leaves x)) xs) ≡ filter (λ x. not (leaves x)) xs
filter-again {X} leaves fewer less xs =
    filter-none fewer (filter (λ x. not (leaves x)) xs)
    (Each-passes (λ (x : X). fewer x ≡ false) (λ x. not (leaves x)) xs
    (λ x stays. less x (not-true (leaves x) stays)))

-- an acknowledgement that isn't logged isn't among some of those that are
logs_ack-fewer : (keep : LogAck → Bool) (acks : List LogAck) (cid : Cid) → logs_ack acks cid ≡ false
    → logs_ack (filter keep acks) cid ≡ false
logs_ack-fewer keep [] cid none = refl
logs_ack-fewer keep (a ∷ acks) cid none = go (same_cid a.cid cid) refl (keep a) refl (logs_ack-fewer keep acks cid)
  where
    go : (same : Bool) → same_cid a.cid cid ≡ same → (kept : Bool) → keep a ≡ kept
        → (logs_ack acks cid ≡ false → logs_ack (filter keep acks) cid ≡ false)
        → logs_ack (filter keep (a ∷ acks)) cid ≡ false
    go true is kept at later = let no : true ≡ false = rw is at none in cc
    go false is true at later = let fewer : logs_ack acks cid ≡ false = rw is at none in rw (at, is) (later fewer)
    go false is false at later = let fewer : logs_ack acks cid ≡ false = rw is at none in rw at (later fewer)

-- where one fails, both do
both-false : (a b : Bool) → b ≡ false → (a && b) ≡ false
both-false true b is = is
both-false false b is = refl

-- so a call that isn't done isn't done by fewer acknowledgements
undone-fewer : {Op : Type 0} (keep : LogAck → Bool) (updates : List (LogUpdate Op)) (acks : List LogAck) (cid : Cid)
    → (logs_ack acks cid && not (logs_update updates cid)) ≡ false
    → (logs_ack (filter keep acks) cid && not (logs_update updates cid)) ≡ false
undone-fewer keep updates acks cid undone = go (logs_ack acks cid) refl (logs_ack-fewer keep acks cid)
  where
    go : (logs : Bool) → logs_ack acks cid ≡ logs
        → (logs_ack acks cid ≡ false → logs_ack (filter keep acks) cid ≡ false)
        → (logs_ack (filter keep acks) cid && not (logs_update updates cid)) ≡ false
    go false is fewer = rw (fewer is) refl
    go true is fewer =
        let last : not (logs_update updates cid) ≡ false = rw is at undone in
        both-false (logs_ack (filter keep acks) cid) (not (logs_update updates cid)) last

module _ {Op : Type 0} (delta clock : ℕ) (rows : List (List ℕ)) where
  -- pruning twice is pruning once
  pub IsAtRest-pruned : (log unknown left : Items Op) (calls undone : List (Cid × Known))
      → unknown ≡ record log { updates = unknown_updates rows log.updates }
      → undone ≡ undone_calls unknown.updates unknown.acks calls
      → left ≡ record unknown {
        acks = filter (λ ack. not (is_spent delta clock rows unknown.updates ack)) unknown.acks;
      }
      → IsAtRest delta clock rows left undone
  IsAtRest-pruned log unknown left calls undone unknown_is undone_is left_is =
      let updates = unknown_updates rows log.updates in
      let keep : LogAck → Bool = λ ack. not (is_spent delta clock rows updates ack) in
      rw (left_is, undone_is, unknown_is) record {
        updates = filter-again (λ (u : LogUpdate Op). known_in rows u.spot) (λ u. known_in rows u.spot)
            (λ u stays. stays) log.updates;
        calls_stay = filter-again
            (λ (e : Cid × Known). logs_ack log.acks e.0 && not (logs_update updates e.0))
            (λ (e : Cid × Known). logs_ack (filter keep log.acks) e.0 && not (logs_update updates e.0))
            (λ e. undone-fewer keep updates log.acks e.0) calls;
        acks = filter-again (is_spent delta clock rows updates) (is_spent delta clock rows updates)
            (λ a stays. stays) log.acks;
      }

  -- the same table, items and calls by other names
  pub IsAtRest-along : (same : List (List ℕ)) (log now : Items Op) (calls after : List (Cid × Known)) → same ≡ rows
      → now ≡ log → after ≡ calls → IsAtRest delta clock rows log calls → IsAtRest delta clock same now after
  IsAtRest-along same log now calls after at is calls_are rests = rw (at, is, calls_are) rests
