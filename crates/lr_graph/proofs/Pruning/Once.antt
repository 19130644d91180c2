-- A replica that received an item of a call refuses each copy of the call.
use Rattle.std.proofs.Common.{◌≡◌, ◌≤◌, ◌<◌, ◌+◌, ℕ, suc, true, false, cond, not, ◌⊎◌, inl, inr, Option, Some, None, is_some, find, refl, sym, ap, ◌∙◌, arith, leb-true, le-leb, true≢false}
use Rattle.std.specs.Option.{option_map}
use Rattle.lr_base.specs.Ascending.{same_cid}
use Rattle.lr_base.specs.Config.{is_late}
use Rattle.lr_base.specs.Orders.{IsAmong}
use Rattle.lr_base.specs.declared.messages.LogAck.{LogAck}
use Rattle.lr_base.specs.declared.names.Cid.{Cid}
use Rattle.lr_base.specs.declared.names.Config.{Config}
use Rattle.lr_graph.specs.Closed.{Each, IsSound}
use Rattle.lr_graph.specs.Graph.{Acceptance, Facts, has_ack, has_call, kept_spot, least_spot, ready}
use Rattle.lr_graph.specs.Legal.{kept_at, noted_at}
use Rattle.lr_graph.specs.Pruned.{acked, is_acked, is_done, is_known, is_ready, known_everywhere, logged, logs_call}
use Rattle.lr_graph.specs.Spread.{IsSpread, has_item}
use Rattle.lr_graph.proofs.Lists.Members.{each-at, find-none}
use Rattle.lr_graph.proofs.Lists.Tests.{and-intro, and-left, and-right, never, or-cases, same_cid-self}
use Rattle.lr_graph.proofs.Logs.Acks.{among-acks}
use Rattle.lr_graph.proofs.Pruning.Known.{known-ready, unlogged-call}
use Rattle.lr_graph.proofs.Pruning.Spent.{unacked-spent}
use Rattle.lr_graph.proofs.Pruning.Spreading.{has_ack-holds}
use Rattle.lr_graph.proofs.Sets.KeptSpots.{least_spot-some}
use Rattle.lr_graph.proofs.Sets.Values.{has_call-holds, holds-has_call}

-- nothing is no spot
some-none : {A : Type 0} (o : Option A) → o ≡ None → is_some o ≡ true → ⊥
some-none None e h = true≢false (sym h)
some-none (Some a) e h = cc

-- an acknowledgement that isn't earlier than a copy in time is in time too
late-before : (time other delta clock : ℕ) → time ≤ other → is_late other delta clock ≡ true → is_late time delta clock ≡ true
late-before time other delta clock le late = let lt = leb-true (suc (other + delta)) clock late in le-leb (suc (time + delta)) clock (omega arith)

module _ {Op : Type 0} (config : Config) (w : Facts Op) (sound : IsSound w.accepted) (places : Each (λ a. a.spot.place < config.replicas) w.accepted)
    (own : (a : Acceptance Op) → IsAmong a w.accepted → w.received a.spot.place a.spot ≡ true) (spread : IsSpread config w)
    (i : ℕ) (inside : i < config.replicas) (kept_are : (cid : Cid) → is_ready w i cid ≡ true → is_some (kept_spot (w.kept i) cid) ≡ true)
    (cid : Cid) (time : ℕ) (in_time : Each (λ a. a.cid ≡ cid → time ≤ a.time) w.acks) where
  -- a call of which a copy is in time, and which was neither taken nor noted, is new: no item of it was received
  pub new-here : is_late time config.delta (w.clock i) ≡ false → kept_at config w i cid ≡ None → least_spot w.accepted (logged config w i) cid ≡ None → noted_at config w i cid ≡ None
      → has_item w (w.received i) cid ≡ false
  new-here early unkept unlogged unnoted = never (has_item w (w.received i) cid) (λ has. by_item (or-cases (has_call w.accepted (w.received i) cid) _ has))
    where
      none : not (logs_call config w i cid) ≡ true
      none = ap not (never (logs_call config w i cid) (λ e. some-none _ unlogged (least_spot-some w.accepted (logged config w i) cid e)))

      -- none of its acknowledgements was received
      no_ack : has_ack w.acks (w.received i) cid ≡ true → ⊥
      no_ack e =
          let a = has_ack-holds w.acks (w.received i) cid e in
          let unlisted : is_acked config w i a.0 ≡ false = never (is_acked config w i a.0) (λ listed.
          true≢false (sym (ap (λ c. same_cid c cid) a.3 ∙ same_cid-self cid) ∙ each-at _ a.0 (acked config w i) (find-none (λ b. same_cid b.cid cid) (acked config w i) (unfound (find (λ b. same_cid b.cid cid) (acked config w i)) unnoted)) (among-acks (is_acked config w i) w.acks a.0 a.1 listed))) in
          let spent = unacked-spent config w i a.0 a.2 unlisted in
          let late = and-left (is_late a.0.time config.delta (w.clock i)) _ (and-right (known_everywhere config w i a.0.spot) _ spent) in
          true≢false (sym (late-before time a.0.time config.delta (w.clock i) (each-at _ a.0 w.acks in_time a.1 a.3) late) ∙ early)
        where
          unfound : (o : Option LogAck) → option_map (λ a. a.spot) o ≡ None → o ≡ None
          unfound None e = refl
          unfound (Some a) e = cc

      -- nor was any of its acceptances: it would be ready, and then known or done
      no_call : has_call w.accepted (w.received i) cid ≡ true → ⊥
      no_call e =
          let a = has_call-holds w.accepted (w.received i) cid e in
          let known = unlogged-call config w sound places own spread i inside cid none a.0 a.1 a.3 a.2 in
          let is_there : is_ready w i cid ≡ true = holds-has_call w.accepted (ready w.accepted (w.received i)) cid a.0 a.1 (known-ready config w sound places own spread i a.0 a.1 a.2 known) a.3 in
          let undone : is_done config w i cid ≡ false = never (is_done config w i cid) (λ done. no_ack (and-left (has_ack w.acks (w.received i) cid) _ done)) in
          let is_kept : is_known config w i cid ≡ true = and-intro (is_ready w i cid) _ is_there (ap not undone) in
          some-none _ unkept (ap (λ t. is_some (cond t (kept_spot (w.kept i) cid) None)) is_kept ∙ kept_are cid is_there)

      by_item : (has_call w.accepted (w.received i) cid ≡ true) ⊎ (has_ack w.acks (w.received i) cid ≡ true) → ⊥
      by_item (inl e) = no_call e
      by_item (inr e) = no_ack e
