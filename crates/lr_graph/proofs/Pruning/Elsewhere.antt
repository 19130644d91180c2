-- What goes on to hold of a replica where something happened elsewhere.
use Rattle.std.proofs.Common.{◌≡◌, ℕ, Bool, false, cond, not, ◌&&◌, ◌||◌, List, ◌∷◌, sym, ap, ◌∙◌, subst}
use Rattle.lr_base.specs.Ascending.{same_cid}
use Rattle.lr_base.specs.Config.{is_late}
use Rattle.lr_base.specs.Meaning.{Meaning}
use Rattle.lr_base.specs.Replicas.{ReplicaState}
use Rattle.lr_base.specs.Rules.{insert_ack}
use Rattle.lr_base.specs.declared.messages.LogAck.{LogAck}
use Rattle.lr_base.specs.declared.names.Cid.{Cid}
use Rattle.lr_base.specs.declared.names.Config.{Config}
use Rattle.lr_graph.specs.Closed.{IsAccepted, IsSound}
use Rattle.lr_graph.specs.Graph.{Acceptance, Facts, Kept, LabelledCall, acks_of, has_ack, ready}
use Rattle.lr_graph.specs.Pruned.{is_acked, is_left, is_ready, is_spent, known_everywhere, logged, logs_call}
use Rattle.lr_graph.specs.Sets.{SpotSet}
use Rattle.lr_graph.proofs.Lists.Members.{each-from}
use Rattle.lr_graph.proofs.Logs.Acks.{acks-same}
use Rattle.lr_graph.proofs.Related.More.{has_call-more, not-ready, ready-more, replica-more}
use Rattle.lr_graph.proofs.Related.Relation.{IsReplicaAt, IsTied}
use Rattle.lr_graph.proofs.Sets.Values.{has_call-same}

module _ {Value Op : Type 0} (m : Meaning Value Op) (config : Config) (replicas : List (ReplicaState Value Op)) (j : ℕ) where
  -- a replica is tied to what the facts have of it alone, beside acceptances and acknowledgements
  pub tied-elsewhere : (w : Facts Op) (received : ℕ → SpotSet) (told : ℕ → ℕ → SpotSet) (kept : ℕ → List Kept) (held : ℕ → List (LabelledCall Op)) (clock : ℕ → ℕ)
      → received j ≡ w.received j → told j ≡ w.told j → kept j ≡ w.kept j → held j ≡ w.held j → clock j ≡ w.clock j
      → IsTied m config w replicas j → IsTied m config (record w { received = received; told = told; kept = kept; held = held; clock = clock }) replicas j
  tied-elsewhere w received told kept held clock e f g h k tied = subst (λ (v : Facts Op). IsTied m config v replicas j)
      (λ t. record w { received = λ n. sym e t; told = λ n. sym f t; kept = λ n. sym g t; held = λ n. sym h t; clock = λ n. sym k t }) tied

  module _ (w : Facts Op) where
    -- one more acceptance, which the replica didn't receive, and of no call that left there
    module _ (a : Acceptance Op) (fresh : IsAccepted w.accepted a.spot → ⊥) (sound : IsSound w.accepted) (out : w.received j a.spot ≡ false) where
      abbrev more : Facts Op
      more = record w { accepted = a ∷ w.accepted }

      logs-same : (cid : Cid) → logs_call config more j cid ≡ logs_call config w j cid
      logs-same cid = has_call-more w.accepted a fresh (logged config w j) cid (ap (λ t. t && not (known_everywhere config w j a.spot)) out)

      ready-same : (cid : Cid) → is_ready more j cid ≡ is_ready w j cid
      ready-same cid =
          has_call-more w.accepted a fresh (ready (a ∷ w.accepted) (w.received j)) cid (ready-more w.accepted a fresh sound (w.received j) out a.spot ∙ not-ready w.accepted a fresh (w.received j))
          ∙ has_call-same w.accepted (ready (a ∷ w.accepted) (w.received j)) (ready w.accepted (w.received j)) cid (each-from _ w.accepted (λ b member. ready-more w.accepted a fresh sound (w.received j) out b.spot))

      pub left-same : (cid : Cid) → is_left config more j cid ≡ is_left config w j cid
      left-same cid = λ k. ready-same cid k && (has_ack w.acks (w.received j) cid && not (logs-same cid k))

      pub tied-accepted : is_left config w j a.cid ≡ false → IsTied m config w replicas j → IsTied m config more replicas j
      tied-accepted stays tied = (
        tied.0,
        tied.1,
        subst (λ (left : Cid → Bool). IsReplicaAt m config (a ∷ w.accepted) (w.received j) (logged config w j) left (w.kept j) (w.held j) tied.0) (λ k cid. sym (left-same cid) k)
            (replica-more w.accepted a fresh m config sound (w.received j) (logged config w j) (is_left config w j) (w.kept j) (w.held j) tied.0 out stays tied.2),
        record { clock_is = tied.3.clock_is; acks_are = tied.3.acks_are ∙ acks-same _ _ w.acks (each-from _ w.acks (λ b member. acked-same b)); rows = tied.3.rows },
      )
        where
          acked-same : (b : LogAck) → is_acked config w j b ≡ is_acked config more j b
          acked-same b = λ k. w.received j b.spot && not (known_everywhere config w j b.spot && (is_late b.time config.delta (w.clock j) && not (sym (logs-same b.cid) k)))

    -- one more acknowledgement, which the replica didn't receive
    module _ (a : LogAck) (out : w.received j a.spot ≡ false) where
      abbrev noting : Facts Op
      noting = record w { acks = a ∷ w.acks }

      left-noted : (cid : Cid) → is_left config noting j cid ≡ is_left config w j cid
      left-noted cid = ap (λ t. is_ready w j cid && ((t && same_cid cid a.cid || has_ack w.acks (w.received j) cid) && not (logs_call config w j cid))) out

      pub tied-noted : IsTied m config w replicas j → IsTied m config noting replicas j
      tied-noted tied = (
        tied.0,
        tied.1,
        subst (λ (left : Cid → Bool). IsReplicaAt m config w.accepted (w.received j) (logged config w j) left (w.kept j) (w.held j) tied.0) (λ k cid. sym (left-noted cid) k) tied.2,
        record {
          clock_is = tied.3.clock_is;
          acks_are = tied.3.acks_are ∙ sym (ap (λ t. cond (t && not (is_spent config w j a)) (insert_ack a (acks_of (is_acked config w j) w.acks)) (acks_of (is_acked config w j) w.acks)) out);
          rows = tied.3.rows;
        },
      )
