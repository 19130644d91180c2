-- What applying comes to: which updates were executed, and that none that could be was left out.
use Rattle.std.proofs.Common.{◌≡◌, ◌∙◌, ◌≤◌, ℕ, zero, suc, Bool, true, false, inl, inr, List, [], ◌∷◌}
use Rattle.std.proofs.Common.{length, map, take, refl, sym, ap, Option, Some, None, is_some, arith, subst, true≢false}
use Rattle.std.proofs.Common.{◌||◌}
use Rattle.std.specs.Prelude.{fold, slice_get}
use Rattle.std.specs.Option.{ForSome}
use Rattle.lr_base.specs.declared.names.Cid.{Cid}
use Rattle.lr_base.specs.declared.messages.Known.{Known}
use Rattle.lr_base.specs.declared.messages.LogUpdate.{LogUpdate}
use Rattle.lr_base.specs.CallLaws.{some-entered, some-entered_all}
use Rattle.lr_base.specs.Calls.{enter_call, enter_calls}
use Rattle.lr_base.specs.Meaning.{Meaning}
use Rattle.lr_base.specs.NameLaws.{same_cid-self}
use Rattle.lr_base.specs.Orders.{IsAmong}
use Rattle.lr_base.specs.Rules.{Progress, apply_one, apply_ready, is_covered, known_of, take_ready, waiting}
use Rattle.lr_base.specs.Stamps.{stamp_le}
use Rattle.lr_value.specs.Applied.{all_ready}
use Rattle.lr_value.specs.Executing.{HasApplied, entry_of}
use Rattle.lr_value.proofs.Ended.{Each, Each-taken, none-taken, taken-length}
use Rattle.lr_value.proofs.Settled.{found}

-- what is known of no call is nothing
none-known : (o : Option Known) → is_some o ≡ false → o ≡ None
none-known None is = refl
none-known (Some known) is = absurd (true≢false is)

module _ {Op : Type 0} where
  -- what is among the others is among all
  among-taken : (val_ts : List ℕ) (todo : List (LogUpdate Op)) (taken : LogUpdate Op × List (LogUpdate Op))
      → take_ready val_ts todo ≡ Some taken
      → IsAmong taken.0 todo × ((u : LogUpdate Op) → IsAmong u taken.1 → IsAmong u todo)
  among-taken val_ts [] taken is = let none : None ≡ Some taken = is in cc
  among-taken val_ts (x ∷ todo) taken is =
      go (λ t first. among-taken val_ts todo t first) (stamp_le x.prev val_ts) refl (take_ready val_ts todo) refl
    where
      those : {t : LogUpdate Op × List (LogUpdate Op)} → taken ≡ t
          → IsAmong t.0 (x ∷ todo) × ((u : LogUpdate Op) → IsAmong u t.1 → IsAmong u (x ∷ todo))
          → IsAmong taken.0 (x ∷ todo) × ((u : LogUpdate Op) → IsAmong u taken.1 → IsAmong u (x ∷ todo))
      those same all = subst
          (λ (s : LogUpdate Op × List (LogUpdate Op)). IsAmong s.0 (x ∷ todo) × ((u : LogUpdate Op) → IsAmong u s.1
          → IsAmong u (x ∷ todo))) (sym same) all

      go : ((t : LogUpdate Op × List (LogUpdate Op)) → take_ready val_ts todo ≡ Some t
          → IsAmong t.0 todo × ((u : LogUpdate Op) → IsAmong u t.1 → IsAmong u todo))
          → (ready : Bool) → stamp_le x.prev val_ts ≡ ready
          → (later : Option (LogUpdate Op × List (LogUpdate Op))) → take_ready val_ts todo ≡ later
          → IsAmong taken.0 (x ∷ todo) × ((u : LogUpdate Op) → IsAmong u taken.1 → IsAmong u (x ∷ todo))
      go hyp true ready later first =
          let it : Some (x, todo) ≡ Some taken = rw ready at is in
          let same : taken ≡ (x, todo) = cc in
          those same (inl refl, λ u among. inr among)
      go hyp false ready None first = let it : None ≡ Some taken = rw (ready, first) at is in cc
      go hyp false ready (Some t) first =
          let it : Some (t.0, x ∷ t.1) ≡ Some taken = rw (ready, first) at is in
          let same : taken ≡ (t.0, x ∷ t.1) = cc in
          let rest = hyp t first in
          those same (inr rest.0, λ u among. out rest.1 u among)
        where
          out : ((u : LogUpdate Op) → IsAmong u t.1 → IsAmong u todo) → (u : LogUpdate Op) → IsAmong u (x ∷ t.1)
              → IsAmong u (x ∷ todo)
          out more u (inl same) = inl same
          out more u (inr among) = inr (more u among)

  -- what waits in a list is in it, and isn't covered
  among-waiting : (val_ts : List ℕ) (updates : List (LogUpdate Op)) (u : LogUpdate Op)
      → IsAmong u (waiting val_ts updates) → IsAmong u updates × (is_covered val_ts u ≡ false)
  among-waiting val_ts [] u among = absurd among
  among-waiting val_ts (x ∷ updates) u among = go (is_covered val_ts x) refl (among-waiting val_ts updates u)
    where
      go : (c : Bool) → is_covered val_ts x ≡ c
          → (IsAmong u (waiting val_ts updates) → IsAmong u updates × (is_covered val_ts u ≡ false))
          → IsAmong u (x ∷ updates) × (is_covered val_ts u ≡ false)
      go true is rest =
          let among' : IsAmong u (waiting val_ts updates) = rw is at among in
          let it = rest among' in
          (inr it.0, it.1)
      go false is rest =
          let among' : IsAmong u (x ∷ waiting val_ts updates) = rw is at among in
          out rest among'
        where
          out : (IsAmong u (waiting val_ts updates) → IsAmong u updates × (is_covered val_ts u ≡ false))
              → IsAmong u (x ∷ waiting val_ts updates) → IsAmong u (x ∷ updates) × (is_covered val_ts u ≡ false)
          out rest (inl same) = (inl same, rw same is)
          out rest (inr among) = let it = rest among in (inr it.0, it.1)

-- some of the updates that waited were executed, one after another, each for a new call
record Ran {Value Op : Type 0} (m : Meaning Value Op) (todo : List (LogUpdate Op)) (p q : Progress Value)
    : Type 0 where
  ran : List (LogUpdate Op)
  of_them : (k : ℕ) → ForSome (slice_get ran k) (λ u. IsAmong u todo)
  value : q.value ≡ fold m.apply p.value (map (λ u. u.op) ran)
  entered : q.calls ≡ enter_calls (map entry_of ran) p.calls
  once : (k : ℕ)
      → ForSome (slice_get ran k) (λ u. known_of (enter_calls (map entry_of (take k ran)) p.calls) u.cid ≡ None)

module _ {Value Op : Type 0} (m : Meaning Value Op) where
  -- nothing was executed
  ran-none : (todo : List (LogUpdate Op)) (p : Progress Value) → Ran m todo p p
  ran-none todo p = record {
    ran = [];
    of_them = λ k u e. let none : None ≡ Some u = e in cc;
    value = refl;
    entered = refl;
    once = λ k u e. let none : None ≡ Some u = e in cc;
  }

  -- what is executed after the one that is taken
  ran-more : (todo rest : List (LogUpdate Op)) (u : LogUpdate Op) (p q : Progress Value) → IsAmong u todo
      → ((x : LogUpdate Op) → IsAmong x rest → IsAmong x todo) → Ran m rest (apply_one m p u) q → Ran m todo p q
  ran-more todo rest u p q own others later = go (is_some (known_of p.calls u.cid)) refl
    where
      front : (p' : Progress Value) → p'.value ≡ m.apply p.value u.op → p'.calls ≡ enter_call (entry_of u) p.calls
          → known_of p.calls u.cid ≡ None → Ran m rest p' q → Ran m todo p q
      front p' value calls new later = record {
        ran = u ∷ later.ran;
        of_them = each;
        value = later.value ∙ ap (λ (v : Value). fold m.apply v (map (λ u. u.op) later.ran)) value;
        entered = later.entered ∙ ap (enter_calls (map entry_of later.ran)) calls;
        once = alone;
      }
        where
          each : (k : ℕ) → ForSome (slice_get (u ∷ later.ran) k) (λ x. IsAmong x todo)
          each zero = λ x e. let same : u ≡ x = cc in subst (λ (y : LogUpdate Op). IsAmong y todo) same own
          each (suc k) = λ x e. others x (later.of_them k x e)

          alone : (k : ℕ) → ForSome (slice_get (u ∷ later.ran) k)
              (λ x. known_of (enter_calls (map entry_of (take k (u ∷ later.ran))) p.calls) x.cid ≡ None)
          alone zero = λ x e.
              let same : u ≡ x = cc in
              subst (λ (y : LogUpdate Op). known_of p.calls y.cid ≡ None) same new
          alone (suc k) = λ x e.
              ap (λ (l : List (Cid × Known)). known_of (enter_calls (map entry_of (take k later.ran)) l) x.cid)
              (sym calls)
              ∙ later.once k x e

      known : (p' : Progress Value) → p'.value ≡ p.value → p'.calls ≡ p.calls → Ran m rest p' q → Ran m todo p q
      known p' value calls later = record {
        ran = later.ran;
        of_them = λ k x e. others x (later.of_them k x e);
        value = later.value ∙ ap (λ (v : Value). fold m.apply v (map (λ u. u.op) later.ran)) value;
        entered = later.entered ∙ ap (enter_calls (map entry_of later.ran)) calls;
        once = λ k x e.
            ap (λ (l : List (Cid × Known)). known_of (enter_calls (map entry_of (take k later.ran)) l) x.cid)
            (sym calls)
            ∙ later.once k x e;
      }

      go : (was : Bool) → is_some (known_of p.calls u.cid) ≡ was → Ran m todo p q
      go true is = known (apply_one m p u) (rw is refl) (rw is refl) later
      go false is = front (apply_one m p u) (rw is refl) (rw is refl) (none-known (known_of p.calls u.cid) is) later

  -- applying what is ready executes some of what waited
  ran-all : (turns : ℕ) (todo : List (LogUpdate Op)) (p : Progress Value) → Ran m todo p (apply_ready m turns todo p)
  ran-all zero todo p = ran-none todo p
  ran-all (suc turns) todo p = go (take_ready p.val_ts todo) refl (λ todo p. ran-all turns todo p)
    where
      go : (taken : Option (LogUpdate Op × List (LogUpdate Op))) → take_ready p.val_ts todo ≡ taken
          → ((todo : List (LogUpdate Op)) (p : Progress Value) → Ran m todo p (apply_ready m turns todo p))
          → Ran m todo p (apply_ready m (suc turns) todo p)
      go None is hyp = rw is (ran-none todo p)
      go (Some t) is hyp =
          let those = among-taken p.val_ts todo t is in
          rw is
          (ran-more todo t.1 t.0 p (apply_ready m turns t.1 (apply_one m p t.0)) those.0 those.1
          (hyp t.1 (apply_one m p t.0)))

  -- the call of an update that was applied is in the table
  one-known : (p : Progress Value) (u : LogUpdate Op) → is_some (known_of (apply_one m p u).calls u.cid) ≡ true
  one-known p u = go (is_some (known_of p.calls u.cid)) refl
    where
      go : (was : Bool) → is_some (known_of p.calls u.cid) ≡ was
          → is_some (known_of (apply_one m p u).calls u.cid) ≡ true
      go true is = rw is is
      go false is =
          let own = same_cid-self u.cid in
          rw is (some-entered (entry_of u) p.calls u.cid ∙ ap (λ b. b || is_some (known_of p.calls u.cid)) own)

  -- with a turn for each that waits, none is left out whose causes are applied
  all-executed : (turns : ℕ) (todo : List (LogUpdate Op)) (p : Progress Value) → length todo ≤ turns
      → Each (λ u. stamp_le u.prev (apply_ready m turns todo p).val_ts ≡ true
      → is_some (known_of (apply_ready m turns todo p).calls u.cid) ≡ true) todo
  all-executed zero [] p most = λ k u e. let none : None ≡ Some u = e in cc
  all-executed zero (x ∷ todo) p most = absurd (omega arith)
  all-executed (suc turns) todo p most =
      go (take_ready p.val_ts todo) refl (λ todo p most. all-executed turns todo p most)
    where
      go : (taken : Option (LogUpdate Op × List (LogUpdate Op))) → take_ready p.val_ts todo ≡ taken
          → ((todo : List (LogUpdate Op)) (p : Progress Value) → length todo ≤ turns
          → Each (λ u. stamp_le u.prev (apply_ready m turns todo p).val_ts ≡ true
          → is_some (known_of (apply_ready m turns todo p).calls u.cid) ≡ true) todo)
          → Each (λ u. stamp_le u.prev (apply_ready m (suc turns) todo p).val_ts ≡ true
          → is_some (known_of (apply_ready m (suc turns) todo p).calls u.cid) ≡ true) todo
      go None is hyp = rw is (λ k u e ready. absurd (true≢false (sym ready ∙ none-taken p.val_ts todo is k u e)))
      go (Some t) is hyp =
          let next = apply_one m p t.0 in
          let last = apply_ready m turns t.1 next in
          let fewer = taken-length p.val_ts todo t is in
          let entered : last.calls ≡ enter_calls (map entry_of (ran-all turns t.1 next).ran) next.calls =
          (ran-all turns t.1 next).entered in
          let known : is_some (known_of last.calls t.0.cid) ≡ true =
          rw entered
          (some-entered_all (map entry_of (ran-all turns t.1 next).ran) next.calls t.0.cid (one-known p t.0)) in
          rw is
          (Each-taken (λ u. stamp_le u.prev last.val_ts ≡ true → is_some (known_of last.calls u.cid) ≡ true)
          p.val_ts todo t is (λ ready. known) (hyp t.1 next (omega arith)))

  -- what applying all that is ready did
  pub has-applied : (updates : List (LogUpdate Op)) (p q : Progress Value) → q ≡ all_ready m updates p
      → HasApplied m updates p q
  has-applied updates p q is =
      let todo = waiting p.val_ts updates in
      let it = ran-all (length todo) todo p in
      subst (λ (r : Progress Value). HasApplied m updates p r) (sym is)
      (record {
        ran = it.ran;
        logged = λ k u e. among-waiting p.val_ts updates u (it.of_them k u e);
        value = it.value;
        entered = it.entered;
        once = it.once;
        executed = λ k u e unapplied ready.
            let here = found p.val_ts updates k u e unapplied in
            all-executed (length todo) todo p (omega arith) here.0 u here.1 ready;
      })
