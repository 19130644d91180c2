-- Queries of which none's label is applied.
use Rattle.std.proofs.Common.{◌≡◌, ℕ, suc, Bool, true, false, not, List, [], ◌∷◌, ◌++◌, refl}
use Rattle.std.specs.Prelude.{filter}
use Rattle.lr_base.specs.declared.messages.Call.{Call}
use Rattle.lr_base.specs.Stamps.{stamp_le}
use Rattle.lr_causal.specs.Causal.{NoneApplied}
use Rattle.lr_causal.proofs.Each.{Each-front, Each-passes}
use Rattle.lr_causal.proofs.Kept.{filter-none}

module _ {Op : Type 0} (val_ts : List ℕ) where
  -- those that stay where all whose label is applied leave
  pub NoneApplied-stay : (calls : List (Call Op))
      → NoneApplied val_ts (filter (λ call. not (stamp_le call.prev val_ts)) calls)
  NoneApplied-stay calls =
      Each-passes (λ (call : Call Op). stamp_le call.prev val_ts ≡ false) (λ call. not (stamp_le call.prev val_ts))
      calls (λ call stays. go call (stamp_le call.prev val_ts) refl stays)
    where
      go : (call : Call Op) → (le : Bool) → stamp_le call.prev val_ts ≡ le → not (stamp_le call.prev val_ts) ≡ true
          → le ≡ false
      go call true is stays = let no : false ≡ true = rw is at stays in cc
      go call false is stays = refl

  -- all of them stay
  pub NoneApplied-all : (calls : List (Call Op)) → NoneApplied val_ts calls
      → filter (λ call. not (stamp_le call.prev val_ts)) calls ≡ calls
  NoneApplied-all calls none = filter-none (λ (call : Call Op). stamp_le call.prev val_ts) calls none

  -- one more behind the others
  pub NoneApplied-push : (calls : List (Call Op)) (call : Call Op) → stamp_le call.prev val_ts ≡ false
      → NoneApplied val_ts calls → NoneApplied val_ts (calls ++ call ∷ [])
  NoneApplied-push [] call own none =
      Each-front (λ (c : Call Op). stamp_le c.prev val_ts ≡ false) call [] own (λ k c e. absurd (cc))
  NoneApplied-push (first ∷ calls) call own none =
      Each-front (λ (c : Call Op). stamp_le c.prev val_ts ≡ false) first (calls ++ call ∷ []) (none 0 first refl)
      (NoneApplied-push calls call own (λ k. none (suc k)))

-- the same queries and the same stamp under other names
pub NoneApplied-along : {Op : Type 0} (val_ts stamp : List ℕ) (calls same : List (Call Op)) → stamp ≡ val_ts
    → same ≡ calls → NoneApplied val_ts calls → NoneApplied stamp same
NoneApplied-along val_ts stamp calls same at is none = rw (at, is) none
