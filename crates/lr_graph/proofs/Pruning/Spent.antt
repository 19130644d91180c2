-- What a replica received and doesn't log.
use Rattle.std.proofs.Common.{◌≡◌, ◌≤◌, ◌+◌, ℕ, suc, Bool, true, false, not, ◌&&◌, refl, sym, ap, ◌∙◌, arith, leb-true, le-leb, true≢false}
use Rattle.lr_base.specs.Ascending.{same_cid}
use Rattle.lr_base.specs.Config.{is_late}
use Rattle.lr_base.specs.Orders.{IsAmong}
use Rattle.lr_base.specs.declared.messages.LogAck.{LogAck}
use Rattle.lr_base.specs.declared.names.Cid.{Cid}
use Rattle.lr_base.specs.declared.names.Config.{Config}
use Rattle.lr_base.specs.declared.names.Spot.{Spot}
use Rattle.lr_graph.specs.Graph.{Facts, has_ack}
use Rattle.lr_graph.specs.Pruned.{is_acked, is_done, is_known, is_left, is_ready, is_spent, known_everywhere, logged, logs_call}
use Rattle.lr_graph.proofs.Lists.Members.{among-list_any}
use Rattle.lr_graph.proofs.Lists.Tests.{and-false, and-intro, and-right, never-false, not-false, same_cid-self}

-- a late time is late at a later clock
pub late-later : (time delta clock next : ℕ) → clock ≤ next → is_late time delta clock ≡ true → is_late time delta next ≡ true
late-later time delta clock next le late = let lt = leb-true (suc (time + delta)) clock late in le-leb (suc (time + delta)) next (omega arith)

-- of two tests the second must hold where the first does and they don't pass together
left-out : (a b : Bool) → a ≡ true → (a && not b) ≡ false → b ≡ true
left-out a b here out = never-false b (λ e. true≢false (sym (and-intro a _ here (ap not e)) ∙ out))

module _ {Op : Type 0} (config : Config) (w : Facts Op) (i : ℕ) where
  -- what is received and not logged is known everywhere
  pub unlogged-known : (s : Spot) → w.received i s ≡ true → logged config w i s ≡ false → known_everywhere config w i s ≡ true
  unlogged-known s here out = left-out (w.received i s) _ here out

  -- an acknowledgement that is received and not logged is spent
  pub unacked-spent : (a : LogAck) → w.received i a.spot ≡ true → is_acked config w i a ≡ false → is_spent config w i a ≡ true
  unacked-spent a here out = left-out (w.received i a.spot) _ here out

  -- of its call no update is logged
  pub spent-unlogged : (a : LogAck) → is_spent config w i a ≡ true → not (logs_call config w i a.cid) ≡ true
  spent-unlogged a spent = and-right (is_late a.time config.delta (w.clock i)) _ (and-right (known_everywhere config w i a.spot) _ spent)

  -- its call is done, and has left where it is ready
  pub acked-done : (a : LogAck) → IsAmong a w.acks → w.received i a.spot ≡ true → not (logs_call config w i a.cid) ≡ true → is_done config w i a.cid ≡ true
  acked-done a member here none = and-intro (has_ack w.acks (w.received i) a.cid) _
      (among-list_any (λ (x : LogAck). w.received i x.spot && same_cid a.cid x.cid) a w.acks member (and-intro (w.received i a.spot) _ here (same_cid-self a.cid))) none

  pub spent-left : (a : LogAck) → IsAmong a w.acks → w.received i a.spot ≡ true → is_spent config w i a ≡ true → is_ready w i a.cid ≡ true → is_left config w i a.cid ≡ true
  spent-left a member here spent is_there = and-intro (is_ready w i a.cid) _ is_there (acked-done a member here (spent-unlogged a spent))

  -- what is ready and didn't leave is known
  pub known-left : (cid : Cid) → (is_ready w i cid && not (is_left config w i cid)) ≡ is_known config w i cid
  known-left cid = by_test (is_ready w i cid)
    where
      by_test : (t : Bool) → (t && not (t && is_done config w i cid)) ≡ (t && not (is_done config w i cid))
      by_test true = refl
      by_test false = refl

  -- what is known didn't leave
  pub known-stays : (cid : Cid) → is_known config w i cid ≡ true → is_left config w i cid ≡ false
  known-stays cid e = ap (λ t. is_ready w i cid && t) (not-false (is_done config w i cid) (and-right (is_ready w i cid) _ e)) ∙ and-false (is_ready w i cid)
