-- What replicas tell one another, and why no more need be kept than what not all know.
-- The contracts of the laws on what is forgotten cite these. In the examples `r0` accepted `0.1` at `0:1` and told
-- `r1`.
use Rattle.std.specs.Prelude.{◌≡◌, ◌<◌, ◌||◌, ℕ, Bool, true, List}
use Rattle.lr_base.specs.declared.names.Actor.{Actor}
use Rattle.lr_base.specs.declared.names.Actor.TheVariants.{Replica}
use Rattle.lr_base.specs.declared.names.Cid.{Cid}
use Rattle.lr_base.specs.declared.names.Config.{Config}
use Rattle.lr_base.specs.declared.names.Spot.{Spot}
use Rattle.lr_graph.specs.Closed.{Each}
use Rattle.lr_graph.specs.Graph.{Acceptance, Carried, Facts, GossipOf, has_ack, has_call}
use Rattle.lr_graph.specs.Sets.{SpotSet}

-- whether an item of this call, an acceptance or an acknowledgement, is in the set
-- for example: of `0.1` in `only 0:1`
abbrev pub has_item : {Op : Type 0} → Facts Op → SpotSet → Cid → Bool
has_item w x cid = has_call w.accepted x cid || has_ack w.acks x cid

-- with each acceptance a set has those of its causes that were made at this place
-- for example: what `r0` received, at place 0
abbrev pub HasOwnCauses : {Op : Type 0} → List (Acceptance Op) → ℕ → SpotSet → Type 0
HasOwnCauses accepted k x = Each (λ a. x a.spot ≡ true
    → Each (λ b. b.spot.place ≡ k → a.below b.spot ≡ true → x b.spot ≡ true) accepted) accepted

-- with an item of a call a set has all acceptances of the call that were made at this place
-- for example: what `r0` received, at place 0
abbrev pub HasOwnAcceptances : {Op : Type 0} → Facts Op → ℕ → SpotSet → Type 0
HasOwnAcceptances w k x = (cid : Cid) → has_item w x cid ≡ true
    → Each (λ b. b.spot.place ≡ k → b.cid ≡ cid → x b.spot ≡ true) w.accepted

-- what a replica told once: it has received it, and as far as its own acceptances go it was whole
-- for example: `only 0:1`, told by `r0`
pub record IsSpreadBy {Op : Type 0} (w : Facts Op) (k : ℕ) (x : SpotSet) : Type 0 where
  pub within : (spot : Spot) → x spot ≡ true → w.received k spot ≡ true
  pub causes : HasOwnCauses w.accepted k x
  pub calls : HasOwnAcceptances w k x

-- gossip carries what its sender told, which is a replica that there is
-- for example: `gossip 0 1` after the addition
abbrev pub IsGossipSpread : {Op : Type 0} → Config → Facts Op → Actor → Carried Op → Type 0
IsGossipSpread config w (Replica k) (GossipOf names) = (k < config.replicas) × IsSpreadBy w k names
IsGossipSpread config w _ _ = Unit {0}

-- what replicas were told was told so and was received, and so is what is under way
-- for example: `first_facts`
pub record IsSpread {Op : Type 0} (config : Config) (w : Facts Op) : Type 0 where
  pub told : (i k : ℕ) → k < config.replicas → IsSpreadBy w k (w.told i k)
  pub taken : (i k : ℕ) (spot : Spot) → w.told i k spot ≡ true → w.received i spot ≡ true
  pub sent : Each (λ x. IsGossipSpread config w x.from x.what) w.messages
