-- The spots of all items: of acceptances and of acknowledgements.
use Rattle.std.proofs.Common.{◌≡◌, ◌⊎◌, inl, inr, false, List, [], ◌∷◌, ◌++◌, map, refl, sym, ap, ◌∙◌, subst, true≢false}
use Rattle.lr_base.specs.Orders.{IsAmong}
use Rattle.lr_base.specs.declared.messages.LogAck.{LogAck}
use Rattle.lr_base.specs.declared.names.Spot.{Spot}
use Rattle.lr_graph.specs.Closed.{Each}
use Rattle.lr_graph.specs.Graph.{Acceptance, Facts, item_spots}
use Rattle.lr_graph.specs.Sets.{same_spot}
use Rattle.lr_graph.proofs.Lists.Members.{among-left, among-right, each-from, each-map}
use Rattle.lr_graph.proofs.Lists.Tests.{same_spot-self, same_spot-sym, spots-apart}
use Rattle.lr_graph.proofs.Logs.Acks.{HasApartAcks}

-- no two spots of the list are one
abbrev pub AreApart : List Spot → Type 0
AreApart [] = Unit {0}
AreApart (s ∷ spots) = Each (λ t. same_spot t s ≡ false) spots × AreApart spots

-- what stands before and behind a spot, and is apart from it, stands apart with it
pub apart-between : (xs ys : List Spot) (s : Spot) → Each (λ t. same_spot t s ≡ false) (xs ++ ys) → AreApart (xs ++ ys) → AreApart (xs ++ s ∷ ys)
apart-between [] ys s out apart = (out, apart)
apart-between (x ∷ xs) ys s out apart = (go xs out.0 apart.0, apart-between xs ys s out.1 apart.1)
  where
    go : (zs : List Spot) → same_spot x s ≡ false → Each (λ t. same_spot t x ≡ false) (zs ++ ys) → Each (λ t. same_spot t x ≡ false) (zs ++ s ∷ ys)
    go [] e h = (same_spot-sym s x ∙ e, h)
    go (z ∷ zs) e h = (h.0, go zs e h.1)

pub each-between : (P : Spot → Type 0) (xs ys : List Spot) (s : Spot) → P s → Each P (xs ++ ys) → Each P (xs ++ s ∷ ys)
each-between P [] ys s own h = (own, h)
each-between P (x ∷ xs) ys s own h = (h.0, each-between P xs ys s own h.1)

pub among-between : (t : Spot) (xs ys : List Spot) (s : Spot) → IsAmong t (xs ++ ys) → IsAmong t (xs ++ s ∷ ys)
among-between t [] ys s member = inr member
among-between t (x ∷ xs) ys s (inl e) = inl e
among-between t (x ∷ xs) ys s (inr member) = inr (among-between t xs ys s member)

pub between-among : (t : Spot) (xs ys : List Spot) (s : Spot) → IsAmong t (xs ++ s ∷ ys) → (t ≡ s) ⊎ IsAmong t (xs ++ ys)
between-among t [] ys s (inl e) = inl e
between-among t [] ys s (inr member) = inr member
between-among t (x ∷ xs) ys s (inl e) = inr (inl e)
between-among t (x ∷ xs) ys s (inr member) = go (between-among t xs ys s member)
  where
    go : (t ≡ s) ⊎ IsAmong t (xs ++ ys) → (t ≡ s) ⊎ IsAmong t (x ∷ xs ++ ys)
    go (inl e) = inl e
    go (inr h) = inr (inr h)

pub apart-behind : (xs ys : List Spot) → AreApart (xs ++ ys) → AreApart ys
apart-behind [] ys apart = apart
apart-behind (x ∷ xs) ys apart = apart-behind xs ys apart.1

pub each-behind : (P : Spot → Type 0) (xs ys : List Spot) → Each P (xs ++ ys) → Each P ys
each-behind P [] ys h = h
each-behind P (x ∷ xs) ys h = each-behind P xs ys h.1

module _ {A : Type 0} (spot_of : A → Spot) where
  among-spots : (a : A) (xs : List A) → IsAmong a xs → IsAmong (spot_of a) (map spot_of xs)
  among-spots a [] member = absurd member
  among-spots a (x ∷ xs) (inl e) = inl (ap spot_of e)
  among-spots a (x ∷ xs) (inr member) = inr (among-spots a xs member)

  spots-among : (s : Spot) (xs : List A) → IsAmong s (map spot_of xs) → (a : A) × IsAmong a xs × (spot_of a ≡ s)
  spots-among s [] member = absurd member
  spots-among s (x ∷ xs) (inl e) = (x, inl refl, sym e)
  spots-among s (x ∷ xs) (inr member) = let h = spots-among s xs member in (h.0, inr h.1, h.2)

  pub each-spots : (P : Spot → Type 0) (xs : List A) → Each P (map spot_of xs) → Each (λ a. P (spot_of a)) xs
  each-spots P [] h = tt
  each-spots P (x ∷ xs) h = (h.0, each-spots P xs h.1)

apart-acks : (acks : List LogAck) → AreApart (map (λ a. a.spot) acks) → HasApartAcks acks
apart-acks [] h = tt
apart-acks (a ∷ acks) h = (
  each-map _ _ acks (λ b out same. true≢false (sym (same_spot-self a.spot) ∙ ap (λ s. same_spot s a.spot) same ∙ out)) (each-spots (λ b. b.spot) (λ t. same_spot t a.spot ≡ false) acks h.0),
  apart-acks acks h.1,
)

module _ {Op : Type 0} (w : Facts Op) where
  pub accepted-item : (a : Acceptance Op) → IsAmong a w.accepted → IsAmong a.spot (item_spots w)
  accepted-item a member = among-left a.spot (map (λ b. b.spot) w.accepted) _ (among-spots (λ b. b.spot) a w.accepted member)

  pub noted-item : (a : LogAck) → IsAmong a w.acks → IsAmong a.spot (item_spots w)
  noted-item a member = among-right a.spot (map (λ b. b.spot) w.accepted) _ (among-spots (λ b. b.spot) a w.acks member)

  pub apart-noted : AreApart (item_spots w) → HasApartAcks w.acks
  apart-noted apart = apart-acks w.acks (apart-behind (map (λ a. a.spot) w.accepted) _ apart)

  -- a spot that isn't an item's is that of no acknowledgement
  pub not-noted : (s : Spot) → (IsAmong s (item_spots w) → ⊥) → Each (λ a. same_spot a.spot s ≡ false) w.acks
  not-noted s fresh = each-from _ w.acks (λ a member. spots-apart a.spot s (λ same. fresh (subst (λ t. IsAmong t (item_spots w)) same (noted-item a member))))
