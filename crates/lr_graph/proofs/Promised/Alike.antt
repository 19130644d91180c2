-- What is ready has its causes, and is the same where the same is received.
use Rattle.std.proofs.Common.{◌≡◌, ℕ, true, List, sym, ap, ◌∙◌}
use Rattle.lr_base.specs.Meaning.{Encoding, Lawful, Meaning}
use Rattle.lr_base.specs.Orders.{IsAmong}
use Rattle.lr_base.specs.declared.events.Step.{Step}
use Rattle.lr_base.specs.declared.lr_service.Kind.{Kind}
use Rattle.lr_base.specs.declared.names.Config.{Config}
use Rattle.lr_graph.specs.Closed.{Each}
use Rattle.lr_graph.specs.Graph.{Acceptance, Facts, ready}
use Rattle.lr_graph.specs.Legal.{IsLegal}
use Rattle.lr_graph.specs.Promises.{◌⊆◌, HaveReceivedAlike, facts_of}
use Rattle.lr_graph.specs.Sets.{SpotSet}
use Rattle.lr_graph.proofs.Histories.Law.{legal-same}
use Rattle.lr_graph.proofs.Lists.Members.{each-at, each-from, each-map}
use Rattle.lr_graph.proofs.Lists.Tests.{same-test}
use Rattle.lr_graph.proofs.Sets.ReadySets.{below-accepted, holds-ready, ready-closed, ready-holds}

-- with each acceptance all that is below it is ready
pub ready-causes : {Value Op : Type 0} (m : Meaning Value Op) {e : Encoding Value} (kind_of : Op → Kind) (lawful : Lawful m e kind_of)
    (config : Config) (steps : List (Step Op)) → IsLegal m config steps
    → (i : ℕ) (a : Acceptance Op) → IsAmong a (facts_of m config steps).accepted
    → ready (facts_of m config steps).accepted ((facts_of m config steps).received i) a.spot ≡ true
    → a.below ⊆ ready (facts_of m config steps).accepted ((facts_of m config steps).received i)
ready-causes m kind_of lawful config steps legal i a member here s below =
    let w = facts_of m config steps in
    let sound = (legal-same m kind_of lawful config steps legal).1.shared.sound in
    let b = below-accepted w.accepted sound a member s below in
    ap (ready w.accepted (w.received i)) (sym b.2)
    ∙ each-at _ b.0 w.accepted
    (each-at _ a w.accepted (ready-closed w.accepted (w.received i) sound) member here) b.1 (ap a.below b.2 ∙ below)

module _ {Op : Type 0} where
  ready-into : (l : List (Acceptance Op)) (r q : SpotSet) → Each (λ a. r a.spot ≡ q a.spot) l → ready l r ⊆ ready l q
  ready-into l r q alike s here =
      let h = ready-holds l r s here in
      let same = λ (b : Acceptance Op) (in_b : IsAmong b l) (e : r b.spot ≡ true). sym (each-at _ b l alike in_b) ∙ e in
      ap (ready l q) h.2
      ∙ holds-ready l q h.0 h.1 (same h.0 h.1 h.3)
      (each-from _ l (λ b in_b below. same b in_b (each-at _ b l h.4 in_b below)))

  -- what is ready is the same where the same is received
  pub ready-alike : (w : Facts Op) (i j : ℕ) → HaveReceivedAlike w i j
      → ready w.accepted (w.received i) ≡ ready w.accepted (w.received j)
  ready-alike w i j alike = λ k s. same-test _ _ (ready-into w.accepted (w.received i) (w.received j) alike s)
      (ready-into w.accepted (w.received j) (w.received i) (each-map _ _ w.accepted (λ a e. sym e) alike) s) k
