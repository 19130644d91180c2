-- Copies of a call at a replica that has received an item of it, an acceptance or an acknowledgement.
-- The contract of `a_call_is_taken_once_at_a_replica` cites these. In the examples `r0` accepted `0.1` at `0:1`.
use Rattle.std.specs.Prelude.{◌≡◌, ◌⊎◌, ℕ, true, List, ◌∷◌, is_some}
use Rattle.lr_base.specs.Config.{is_late}
use Rattle.lr_base.specs.Orders.{IsAmong}
use Rattle.lr_base.specs.declared.events.Outcome.{Outcome}
use Rattle.lr_base.specs.declared.events.Outcome.TheVariants.{Refuse}
use Rattle.lr_base.specs.declared.names.Cid.{Cid}
use Rattle.lr_base.specs.declared.names.Config.{Config}
use Rattle.lr_graph.specs.Graph.{Acceptance, Facts}
use Rattle.lr_graph.specs.Legal.{kept_at, noted_at, taken_at}

-- a copy of a call with this time isn't new at a replica: it is late, the call was taken there before, or it is settled
-- for example: `0.1` at 5, at `r0`
abbrev pub IsRefusedAt : {Op : Type 0} → Config → Facts Op → ℕ → Cid → ℕ → Type 0
IsRefusedAt config w i cid time =
    (is_late time config.delta (w.clock i) ≡ true)
    ⊎ (is_some (taken_at config w i cid (kept_at config w i cid)) ≡ true)
    ⊎ (is_some (noted_at config w i cid) ≡ true)

-- the first of these lines is a refusal
-- for example: `refuse again 0:1`, and the reply behind it
abbrev pub BeginsRefused : List Outcome → Type 0
BeginsRefused (Refuse why ∷ lines) = Unit {0}
BeginsRefused _ = ⊥

-- two acceptances of one call at one place are one
-- for example: `0.1` at `0:1` and at `1:1`; not at `0:1` and at `0:2`
abbrev pub AcceptsOnce : {Op : Type 0} → List (Acceptance Op) → Type 0
AcceptsOnce {Op} accepted = (a b : Acceptance Op) → IsAmong a accepted → IsAmong b accepted
    → a.spot.place ≡ b.spot.place → a.cid ≡ b.cid → a ≡ b
