-- An update that was taken before, and a message that was sent.
use Rattle.std.proofs.Common.{◌≡◌, ℕ, ◌<◌, ◌==◌, find}
use Rattle.std.proofs.Common.{List, Option, Some, None, refl, sym, ◌∙◌, subst}
use Rattle.std.specs.Option.{option_map}
use Rattle.lr_base.specs.Meaning.{Meaning}
use Rattle.lr_base.specs.Orders.{IsAmong}
use Rattle.lr_base.specs.Rules.{known_of}
use Rattle.lr_base.specs.declared.acts.Posted.{Posted}
use Rattle.lr_base.specs.declared.messages.Known.{Known}
use Rattle.lr_base.specs.declared.names.Cid.{Cid}
use Rattle.lr_base.specs.declared.names.Config.{Config}
use Rattle.lr_base.specs.declared.names.Spot.{Spot}
use Rattle.lr_graph.specs.Graph.{Acceptance, Facts, SentMessage}
use Rattle.lr_graph.specs.Graph.{ready}
use Rattle.lr_graph.specs.Legal.{taken_at}
use Rattle.lr_graph.specs.Runs.{RunState, message_at}
use Rattle.lr_graph.specs.Pruned.{is_left, logged}
use Rattle.lr_graph.specs.Legal.{kept_at}
use Rattle.lr_graph.proofs.Pruning.Tables.{kept-known}
use Rattle.lr_graph.proofs.Related.Relation.{IsSame, IsThere, SameMessage, SameOption, calls_in}
use Rattle.lr_graph.proofs.Related.Ties.{IsTableOf}
use Rattle.lr_graph.proofs.Sets.KeptSpots.{least_spot-is}

-- a replica took a call at an acceptance of it
abbrev pub IsDone : {Op : Type 0} → List (Acceptance Op) → Cid → Spot → Type 0
IsDone {Op} l cid spot = (a : Acceptance Op) × IsAmong a l × (a.cid ≡ cid) × (a.spot ≡ spot)

module _ {Value Op : Type 0} (m : Meaning Value Op) (config : Config) (w : Facts Op) (v : RunState Value Op)
    (same : IsSame m config w v) where
  pub taken-again : (i : ℕ) → i < config.replicas → (cid : Cid) (spot : Spot)
      → taken_at config w i cid (kept_at config w i cid) ≡ Some spot → IsDone w.accepted cid spot
  taken-again i here cid spot e = by_kept (kept_at config w i cid) refl e
    where
      none_some : ◌≡◌ {A = Option Spot} None (Some spot) → ⊥
      none_some e = cc

      by_kept : (o : Option Spot) → kept_at config w i cid ≡ o → taken_at config w i cid o ≡ Some spot
          → IsDone w.accepted cid spot
      by_kept None kept e =
          let a = least_spot-is w.accepted (logged config w i) cid spot e in
          (a.0, a.1, a.3, a.4)
      by_kept (Some s) kept e = let tied = same.replicas i here in by_table tied.0.calls tied.2.applied.table
        where
          by_table : (calls : List (Cid × Known))
              → IsTableOf w.accepted (ready w.accepted (w.received i)) (is_left config w i) (w.kept i) calls
              → IsDone w.accepted cid spot
          by_table calls table =
              by_known (known_of calls cid) refl (kept-known config w i (w.kept i) calls table cid ∙ kept ∙ e)
            where
              by_known : (o : Option Known) → known_of calls cid ≡ o → option_map (λ k. k.spot) o ≡ Some spot
                  → IsDone w.accepted cid spot
              by_known None known e = absurd (none_some e)
              by_known (Some k) known e =
                  let a = table.stamps cid k known in
                  let is : k.spot ≡ spot = cc in
                  (a.0, a.1, a.3, sym a.2 ∙ is)

  -- a message was sent to somebody
  pub sent-there : (n : ℕ) (x : SentMessage Op) → find (λ x. x.number == n) w.messages ≡ Some x → IsThere config x.to
  sent-there n x e =
      there (message_at v.posted n) (subst (λ o. SameOption Same o (message_at v.posted n)) e (same.shared.messages n))
    where
      Same : SentMessage Op → Posted Op → Type 0
      Same x p = SameMessage m config w.accepted w.acks w.received same.issued (calls_in w) x p

      there : (p : Option (Posted Op)) → SameOption Same (Some x) p → IsThere config x.to
      there None s = absurd s
      there (Some p) s = s.there
