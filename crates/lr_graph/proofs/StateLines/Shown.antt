-- The state line of a replica, and whether it may log and number one more.
use Rattle.std.proofs.Common.{◌≡◌, ◌<◌, ℕ, suc, true, List, [], ◌∷◌, map, refl, sym, ◌∙◌, arith}
use Rattle.lr_base.specs.Meaning.{Meaning}
use Rattle.lr_base.specs.Replicas.{ReplicaState, state_line_of}
use Rattle.lr_base.specs.declared.messages.Call.{Call}
use Rattle.lr_base.specs.declared.messages.LogAck.{LogAck}
use Rattle.lr_base.specs.declared.names.Config.{Config}
use Rattle.lr_base.specs.declared.names.Spot.{Spot}
use Rattle.lr_base.specs.Orders.{IsAmong}
use Rattle.lr_graph.specs.Closed.{Each, IsSound}
use Rattle.lr_graph.specs.Graph.{Acceptance, Facts, LabelledCall, item_spots, ready}
use Rattle.lr_graph.specs.Legal.{replica_line}
use Rattle.lr_graph.specs.Pruned.{is_acked, is_known, is_left, is_ready, logged, told_by}
use Rattle.lr_graph.proofs.StateLines.CallLists.{calls-table}
use Rattle.lr_graph.proofs.StateLines.Listing.{spots-log}
use Rattle.lr_graph.proofs.Lists.Tests.{and-left}
use Rattle.lr_graph.proofs.Logs.Items.{AreApart}
use Rattle.lr_graph.proofs.Pruning.Spent.{known-left}
use Rattle.lr_graph.proofs.Related.Relation.{HasNoted, IsReplicaAt, SameHeld, SameList}
use Rattle.lr_graph.proofs.Logs.Tallying.{counts-are}

-- the same calls are held
held-cids : {Op : Type 0} (clients : ℕ) (l : List (Acceptance Op)) (cs : List (LabelledCall Op)) (ds : List (Call Op)) → SameList (SameHeld clients l) cs ds → map (λ c. c.cid) cs ≡ map (λ d. d.cid) ds
held-cids clients l [] [] h = refl
held-cids clients l [] (d ∷ ds) h = absurd h
held-cids clients l (c ∷ cs) [] h = absurd h
held-cids clients l (c ∷ cs) (d ∷ ds) h = λ i. h.0.call.cid i ∷ held-cids clients l cs ds h.1 i

-- what is printed of a replica is the same in the graph and by the rules
pub same-line : {Value Op : Type 0} (m : Meaning Value Op) (config : Config) (w : Facts Op) (i : ℕ) → IsSound w.accepted → AreApart (item_spots w) → Each (λ s. 0 < s.number) (item_spots w) → ((s : Spot) → w.received i s ≡ true → IsAmong s (item_spots w))
    → (replica : ReplicaState Value Op) → replica.me ≡ i → IsReplicaAt m config w.accepted (w.received i) (logged config w i) (is_left config w i) (w.kept i) (w.held i) replica.causal → HasNoted config.replicas w.acks (is_acked config w i) (w.clock i) (told_by w i) replica.causal
    → replica_line config w i ≡ state_line_of replica
same-line m config w i sound apart numbered exist replica number ok noted =
    let received = counts-are (item_spots w) apart numbered (w.received i) replica.causal.rep_ts ok.counted exist (suc config.replicas) (ok.still.parts ∙ omega arith) in
    let log = spots-log w.accepted (logged config w i) replica.causal.updates sound ok.log in
    let calls = calls-table w.accepted (ready w.accepted (w.received i)) (is_known config w i) replica.causal.calls ok.still.keys
    (λ cid. ok.applied.table.known cid ∙ known-left config w i cid) (λ cid known. and-left (is_ready w i cid) _ known) in
    let held = held-cids config.clients w.accepted (w.held i) replica.causal.held ok.held_are in
    λ k. record {
      replica = sym number k;
      view = 0;
      clock = sym noted.clock_is k;
      received = received k;
      log = log k;
      acks = map (λ (a : LogAck). a.spot) (sym noted.acks_are k);
      calls = calls k;
      held = held k;
      marks = [];
    }
