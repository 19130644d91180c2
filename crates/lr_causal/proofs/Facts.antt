-- What every logged update keeps.
use Rattle.std.proofs.Common.{◌≡◌, ℕ, suc, Bool, true, false, List, [], ◌∷◌, refl, Some, None}
use Rattle.std.specs.Prelude.{filter, find}
use Rattle.std.specs.Option.{ForSome}
use Rattle.lr_base.specs.Ascending.{is_before}
use Rattle.lr_base.specs.declared.lr_service.Kind.{Kind}
use Rattle.lr_base.specs.declared.messages.LogUpdate.{LogUpdate}
use Rattle.lr_base.specs.Rules.{is_new, new_updates, insert_update, insert_updates}
use Rattle.lr_base.specs.Logged.{IsLogged, AllLogged}
use Rattle.lr_causal.proofs.Each.{Each-filter, Each-insert, Each-insert_all}
use Rattle.lr_log.specs.Items.{Items}

module _ {Op : Type 0} (kind_of : Op → Kind) (parts : ℕ) where
  -- the first of such updates that passes a test is one
  pub AllLogged-find : (test : LogUpdate Op → Bool) (updates : List (LogUpdate Op)) → AllLogged kind_of parts updates → ForSome (find test updates) (IsLogged kind_of parts)
  AllLogged-find test [] all = λ x e. let e' : None ≡ Some x = e in cc
  AllLogged-find test (u ∷ updates) all = go (test u) refl (AllLogged-find test updates (λ k. all (suc k)))
    where
      go : (passes : Bool) → test u ≡ passes → ForSome (find test updates) (IsLogged kind_of parts) → ForSome (find test (u ∷ updates)) (IsLogged kind_of parts)
      go true is later = rw is (all 0)
      go false is later = rw is later

  -- a log that gained such an update
  pub AllLogged-more : (log new : Items Op) (u : LogUpdate Op) → new ≡ record log { updates = insert_update u log.updates } → IsLogged kind_of parts u → AllLogged kind_of parts log.updates → AllLogged kind_of parts new.updates
  AllLogged-more log new u is own all = rw is (Each-insert (IsLogged kind_of parts) (λ (a b : LogUpdate Op). is_before a.spot b.spot) u log.updates own all)

  -- a log that stayed
  pub AllLogged-same : (log new : Items Op) → new ≡ log → AllLogged kind_of parts log.updates → AllLogged kind_of parts new.updates
  AllLogged-same log new is all = rw is all

  -- such updates under another name
  pub AllLogged-along : (count : ℕ) (updates same : List (LogUpdate Op)) → same ≡ updates → count ≡ parts → AllLogged kind_of parts updates → AllLogged kind_of count same
  AllLogged-along count updates same is long all = rw (is, long) all

  -- those that pass a test
  pub AllLogged-filter : (test : LogUpdate Op → Bool) (updates kept : List (LogUpdate Op)) → kept ≡ filter test updates → AllLogged kind_of parts updates → AllLogged kind_of parts kept
  AllLogged-filter test updates kept is all = rw is (Each-filter (IsLogged kind_of parts) test updates all)

  -- a log that gained what is new of some
  pub AllLogged-gained : (rep_ts : List ℕ) (told new : List (LogUpdate Op)) (own : List (LogUpdate Op)) (log : Items Op) → new ≡ new_updates rep_ts told → log.updates ≡ insert_updates new own → AllLogged kind_of parts told → AllLogged kind_of parts own → AllLogged kind_of parts log.updates
  AllLogged-gained rep_ts told new own log is gained all all_own =
      rw (gained, is) (Each-insert_all (IsLogged kind_of parts) (λ (a b : LogUpdate Op). is_before a.spot b.spot) (new_updates rep_ts told) own (Each-filter (IsLogged kind_of parts) (λ u. is_new rep_ts u.spot) told all) all_own)
