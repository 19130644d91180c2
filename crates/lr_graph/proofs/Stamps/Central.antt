-- A stamp is at most that of what is ready exactly where its set is received.
use Rattle.std.proofs.Common.{◌≡◌, ℕ, zero, suc, ◌<◌, ◌≤◌, true, nat_lt, List, refl, sym, ap, ◌∙◌, arith, leb-true, le-leb}
use Rattle.lr_base.specs.Orders.{IsAmong}
use Rattle.lr_base.specs.StampLaws.{parts-stamp_le, stamp_le-parts}
use Rattle.lr_base.specs.Stamps.{part, stamp_le}
use Rattle.lr_base.specs.declared.names.Spot.{Spot}
use Rattle.lr_graph.specs.Closed.{IsSetOf, IsSound, IsWithin}
use Rattle.lr_graph.specs.Graph.{Acceptance, is_within, ready}
use Rattle.lr_graph.specs.Names.{IsCounted, Names, spot_at}
use Rattle.lr_graph.specs.Sets.{SpotSet}
use Rattle.lr_graph.proofs.Lists.Members.{each-at, each-from}
use Rattle.lr_graph.proofs.Sets.ReadySets.{below-accepted, holds-within, ready-greatest, ready-received, within-holds}
use Rattle.lr_graph.proofs.Lists.Tests.{and-intro, and-left, and-right, same-test}

-- what a counted set has is from 1 up to the stamp's part
pub counted-least : (r : SpotSet) (rep : List ℕ) → IsCounted r rep → (s : Spot) → r s ≡ true → 1 ≤ s.number
counted-least r rep counted s e = leb-true 1 s.number (and-left (nat_lt 0 s.number) _ (sym (counted s) ∙ e))

pub counted-most : (r : SpotSet) (rep : List ℕ) → IsCounted r rep → (s : Spot) → r s ≡ true → s.number ≤ part rep s.place
counted-most r rep counted s e = leb-true s.number _ (and-right (nat_lt 0 s.number) _ (sym (counted s) ∙ e))

pub counted-has : (r : SpotSet) (rep : List ℕ) → IsCounted r rep → (s : Spot) → 1 ≤ s.number → s.number ≤ part rep s.place → r s ≡ true
counted-has r rep counted s least most = counted s ∙ and-intro (nat_lt 0 s.number) _ (le-leb 1 s.number least) (le-leb s.number _ most)

-- all that is below an acceptance is a set of acceptances
pub below-set : {Op : Type 0} (l : List (Acceptance Op)) → IsSound l → (a : Acceptance Op) → IsAmong a l → IsSetOf l a.below
below-set l sound a member = record { exist = below-accepted l sound a member; closed = each-at _ a l sound.closed member }

module _ {Op : Type 0} (l : List (Acceptance Op)) (sound : IsSound l) (r : SpotSet) (rep : List ℕ) (counted : IsCounted r rep) (v : List ℕ) (ready_names : Names v (ready l r)) where
  -- the greatest ready spot of a place is received
  pub top-received : (place : ℕ) → 0 < part v place → part v place ≤ part rep place
  top-received place some =
      counted-most r rep counted (spot_at place (part v place)) (ready-received l r _ (ready_names.reached place some))

  module _ (s : List ℕ) (x : SpotSet) (names : Names s x) where
    le-received : stamp_le s v ≡ true → IsWithin l x r
    le-received le = each-from _ l (λ b member here.
        let most : b.spot.number ≤ part s b.spot.place = names.above b.spot here in
        let up : part s b.spot.place ≤ part v b.spot.place = parts-stamp_le s v le b.spot.place in
        let least : 0 < b.spot.number = each-at _ b l sound.numbered member in
        let top = top-received b.spot.place (omega arith) in
        counted-has r rep counted b.spot (omega arith) (omega arith))

    received-le : IsSetOf l x → IsWithin l x r → stamp_le s v ≡ true
    received-le set inside = stamp_le-parts s v (λ place. at_place place (part s place) refl)
      where
        at_place : (place n : ℕ) → part s place ≡ n → part s place ≤ part v place
        at_place place zero e = omega arith
        at_place place (suc n) e =
            let here : x (spot_at place (part s place)) ≡ true = names.reached place (omega arith) in
            let b = set.exist _ here in
            let in_x : x b.0.spot ≡ true = ap x b.2 ∙ here in
            let is_ready : ready l r b.0.spot ≡ true = each-at _ b.0 l (ready-greatest l r x inside set.closed) b.1 in_x in
            ready_names.above (spot_at place (part s place)) (ap (ready l r) (sym b.2) ∙ is_ready)

    -- the test of stamps is the test of sets
    pub stamp_le-within : IsSetOf l x → stamp_le s v ≡ is_within l x r
    stamp_le-within set = same-test _ _ (λ le. holds-within l x r (le-received le)) (λ h. received-le set (within-holds l x r h))
