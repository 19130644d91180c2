-- What every logged update keeps.
use Rattle.std.proofs.Common.{◌≡◌, ℕ, zero, suc, Bool, true, false, List, [], ◌∷◌, refl, subst}
use Rattle.std.specs.Prelude.{filter, remove}
use Rattle.lr_base.specs.declared.lr_service.Kind.{Kind}
use Rattle.lr_base.specs.declared.messages.LogUpdate.{LogUpdate}
use Rattle.lr_base.specs.Logged.{IsLogged, AllFit, AllLogged}

module _ {Op : Type 0} (kind_of : Op → Kind) (parts : ℕ) where
  -- a list of such updates with one more in front
  pub AllLogged-front : (u : LogUpdate Op) (updates : List (LogUpdate Op)) → IsLogged kind_of parts u
      → AllLogged kind_of parts updates → AllLogged kind_of parts (u ∷ updates)
  AllLogged-front u updates own all zero = λ x e.
      let same : u ≡ x = cc in
      subst (λ (y : LogUpdate Op). IsLogged kind_of parts y) same own
  AllLogged-front u updates own all (suc k) = all k

  -- such updates without one of them
  pub AllLogged-remove : (updates : List (LogUpdate Op)) (at : ℕ) → AllLogged kind_of parts updates
      → AllLogged kind_of parts (remove updates at)
  AllLogged-remove [] zero all = all
  AllLogged-remove [] (suc at) all = all
  AllLogged-remove (u ∷ updates) zero all = λ k. all (suc k)
  AllLogged-remove (u ∷ updates) (suc at) all =
      AllLogged-front u (remove updates at) (all 0 u refl) (AllLogged-remove updates at (λ k. all (suc k)))

  -- their stamps fit
  pub AllFit-logged : (most : ℕ) (updates same : List (LogUpdate Op)) → same ≡ updates → most ≡ parts
      → AllLogged kind_of parts updates → AllFit most same
  AllFit-logged most updates same is long all =
      rw (is, long) (λ k u e. record { prev = (all k u e).prev; place = (all k u e).place; number = (all k u e).number })

  -- such updates under another name
  pub AllLogged-along : (count : ℕ) (updates same : List (LogUpdate Op)) → same ≡ updates → count ≡ parts
      → AllLogged kind_of parts updates → AllLogged kind_of count same
  AllLogged-along count updates same is long all = rw (is, long) all

  -- those that pass a test
  pub AllLogged-filter : (test : LogUpdate Op → Bool) (updates : List (LogUpdate Op))
      → AllLogged kind_of parts updates → AllLogged kind_of parts (filter test updates)
  AllLogged-filter test [] all = all
  AllLogged-filter test (u ∷ updates) all = go (test u) refl (AllLogged-filter test updates (λ k. all (suc k)))
    where
      go : (passes : Bool) → test u ≡ passes → AllLogged kind_of parts (filter test updates)
          → AllLogged kind_of parts (filter test (u ∷ updates))
      go true is later = rw is (AllLogged-front u (filter test updates) (all 0 u refl) later)
      go false is later = rw is later
