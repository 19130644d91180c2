-- Where applying ends.
use Rattle.std.proofs.Common.{◌≡◌, ◌≤◌, ℕ, zero, suc, Bool, true, false, List, [], ◌∷◌, length, refl, sym, ◌∙◌}
use Rattle.std.proofs.Common.{Option, Some, None, is_some, arith, subst}
use Rattle.std.specs.Prelude.{filter, not, slice_get}
use Rattle.std.specs.Option.{ForSome}
use Rattle.lr_base.specs.declared.messages.LogUpdate.{LogUpdate}
use Rattle.lr_base.specs.Meaning.{Meaning}
use Rattle.lr_base.specs.Rules.{Progress, apply_one, apply_ready, is_covered, known_of, stamp_of, take_ready, waiting}
use Rattle.lr_base.specs.StampLaws.{join-least, stamp_le-refl, stamp_le-trans}
use Rattle.lr_base.specs.Stamps.{join, stamp_le}
use Rattle.lr_value.specs.Waiting.{NoneReady}
use Rattle.lr_value.proofs.Ready.{take_ready-none}

-- something holds of each update of a list
abbrev pub Each : {Op : Type 0} → (LogUpdate Op → Type 0) → List (LogUpdate Op) → Type 0
Each P updates = (k : ℕ) → ForSome (slice_get updates k) P

module _ {Op : Type 0} (P : LogUpdate Op → Type 0) where
  Each-front : (u : LogUpdate Op) (updates : List (LogUpdate Op)) → P u → Each P updates → Each P (u ∷ updates)
  Each-front u updates own all zero = λ x e. let same : u ≡ x = cc in subst P same own
  Each-front u updates own all (suc k) = all k

  -- what holds of the one that is taken and of the others holds of all
  pub Each-taken : (val_ts : List ℕ) (todo : List (LogUpdate Op)) (taken : LogUpdate Op × List (LogUpdate Op))
      → take_ready val_ts todo ≡ Some taken → P taken.0 → Each P taken.1 → Each P todo
  Each-taken val_ts [] taken is own all = let none : None ≡ Some taken = is in λ k x e. cc
  Each-taken val_ts (u ∷ todo) taken is own all =
      go (λ t found own all. Each-taken val_ts todo t found own all) (stamp_le u.prev val_ts) refl
      (take_ready val_ts todo) refl
    where
      go : ((t : LogUpdate Op × List (LogUpdate Op)) → take_ready val_ts todo ≡ Some t → P t.0 → Each P t.1
          → Each P todo) → (ready : Bool) → stamp_le u.prev val_ts ≡ ready
          → (later : Option (LogUpdate Op × List (LogUpdate Op))) → take_ready val_ts todo ≡ later → Each P (u ∷ todo)
      go hyp true ready later found =
          let it : Some (u, todo) ≡ Some taken = rw ready at is in
          let same : taken ≡ (u, todo) = cc in
          subst (λ (t : LogUpdate Op × List (LogUpdate Op)). P t.0 → Each P t.1
          → Each P (u ∷ todo)) (sym same) (λ own all. Each-front u todo own all) own all
      go hyp false ready None found =
          let it : None ≡ Some taken = rw (ready, found) at is in λ k x e. cc
      go hyp false ready (Some t) found =
          let it : Some (t.0, u ∷ t.1) ≡ Some taken = rw (ready, found) at is in
          let same : taken ≡ (t.0, u ∷ t.1) = cc in
          subst (λ (s : LogUpdate Op × List (LogUpdate Op)). P s.0 → Each P s.1 → Each P (u ∷ todo)) (sym same)
          (λ own all. Each-front u todo (all 0 u refl) (hyp t found own (λ k. all (suc k)))) own all

  -- what holds of those that pass a test, and of each that doesn't, holds of all
  Each-filter : (test : LogUpdate Op → Bool) (updates : List (LogUpdate Op))
      → ((u : LogUpdate Op) → test u ≡ false → P u) → Each P (filter test updates) → Each P updates
  Each-filter test [] others all = all
  Each-filter test (u ∷ updates) others all = go (λ all. Each-filter test updates others all) (test u) refl
    where
      go : (Each P (filter test updates) → Each P updates) → (passes : Bool) → test u ≡ passes → Each P (u ∷ updates)
      go hyp true is =
          let all' : Each P (u ∷ filter test updates) =
          rw is at all in Each-front u updates (all' 0 u refl) (hyp (λ k. all' (suc k)))
      go hyp false is =
          let all' : Each P (filter test updates) = rw is at all in Each-front u updates (others u is) (hyp all')

module _ {Op : Type 0} where
  -- where none is taken, no causes are applied
  pub none-taken : (val_ts : List ℕ) (todo : List (LogUpdate Op)) → take_ready val_ts todo ≡ None
      → Each (λ u. stamp_le u.prev val_ts ≡ false) todo
  none-taken val_ts [] is = λ k x e. let none : None ≡ Some x = e in cc
  none-taken val_ts (u ∷ todo) is =
      go (λ none. none-taken val_ts todo none) (stamp_le u.prev val_ts) refl (take_ready val_ts todo) refl
    where
      go : (take_ready val_ts todo ≡ None → Each (λ u. stamp_le u.prev val_ts ≡ false) todo) → (ready : Bool)
          → stamp_le u.prev val_ts ≡ ready → (later : Option (LogUpdate Op × List (LogUpdate Op)))
          → take_ready val_ts todo ≡ later → Each (λ u. stamp_le u.prev val_ts ≡ false) (u ∷ todo)
      go hyp true ready later found = let it : Some (u, todo) ≡ None = rw ready at is in λ k x e. cc
      go hyp false ready None found = Each-front (λ u. stamp_le u.prev val_ts ≡ false) u todo ready (hyp found)
      go hyp false ready (Some t) found = let it : Some (t.0, u ∷ t.1) ≡ None = rw (ready, found) at is in λ k x e. cc

  -- one fewer waits where one is taken
  pub taken-length : (val_ts : List ℕ) (todo : List (LogUpdate Op)) (taken : LogUpdate Op × List (LogUpdate Op))
      → take_ready val_ts todo ≡ Some taken → length todo ≡ suc (length taken.1)
  taken-length val_ts [] taken is = let none : None ≡ Some taken = is in cc
  taken-length val_ts (u ∷ todo) taken is =
      go (λ t found. taken-length val_ts todo t found) (stamp_le u.prev val_ts) refl (take_ready val_ts todo) refl
    where
      go : ((t : LogUpdate Op × List (LogUpdate Op)) → take_ready val_ts todo ≡ Some t
          → length todo ≡ suc (length t.1)) → (ready : Bool) → stamp_le u.prev val_ts ≡ ready
          → (later : Option (LogUpdate Op × List (LogUpdate Op))) → take_ready val_ts todo ≡ later
          → length (u ∷ todo) ≡ suc (length taken.1)
      go hyp true ready later found =
          let it : Some (u, todo) ≡ Some taken = rw ready at is in
          let same : taken ≡ (u, todo) = cc in
          rw same refl
      go hyp false ready None found = let it : None ≡ Some taken = rw (ready, found) at is in cc
      go hyp false ready (Some t) found =
          let it : Some (t.0, u ∷ t.1) ≡ Some taken = rw (ready, found) at is in
          let same : taken ≡ (t.0, u ∷ t.1) = cc in
          let fewer = hyp t found in
          rw (same, fewer) refl

module _ {Value Op : Type 0} (m : Meaning Value Op) where
  -- applying an update joins its stamp
  pub one-joins : (p : Progress Value) (u : LogUpdate Op) → (apply_one m p u).val_ts ≡ join p.val_ts (stamp_of u)
  one-joins p u = go (is_some (known_of p.calls u.cid)) refl
    where
      go : (was : Bool) → is_some (known_of p.calls u.cid) ≡ was → (apply_one m p u).val_ts ≡ join p.val_ts (stamp_of u)
      go true is = rw is refl
      go false is = rw is refl

  pub one-grows : (p : Progress Value) (u : LogUpdate Op) → stamp_le p.val_ts (apply_one m p u).val_ts ≡ true
  one-grows p u = rw (one-joins p u) (join-least p.val_ts (stamp_of u)).above_first

  pub one-covers : (p : Progress Value) (u : LogUpdate Op) → is_covered (apply_one m p u).val_ts u ≡ true
  one-covers p u = rw (one-joins p u) (join-least p.val_ts (stamp_of u)).above_second

  -- the same at progress that came to the same
  pub one-grows-at : (p q : Progress Value) (u : LogUpdate Op) → q ≡ apply_one m p u → stamp_le p.val_ts q.val_ts ≡ true
  one-grows-at p q u is = rw is (one-grows p u)

  pub one-covers-at : (p q : Progress Value) (u : LogUpdate Op) → q ≡ apply_one m p u → is_covered q.val_ts u ≡ true
  one-covers-at p q u is = rw is (one-covers p u)

  -- what was applied stays so
  pub all-grows : (turns : ℕ) (todo : List (LogUpdate Op)) (p : Progress Value)
      → stamp_le p.val_ts (apply_ready m turns todo p).val_ts ≡ true
  all-grows zero todo p = stamp_le-refl p.val_ts
  all-grows (suc turns) todo p = go (λ todo p. all-grows turns todo p) (take_ready p.val_ts todo) refl
    where
      go : ((todo : List (LogUpdate Op)) (p : Progress Value)
          → stamp_le p.val_ts (apply_ready m turns todo p).val_ts ≡ true)
          → (found : Option (LogUpdate Op × List (LogUpdate Op))) → take_ready p.val_ts todo ≡ found
          → stamp_le p.val_ts (apply_ready m (suc turns) todo p).val_ts ≡ true
      go hyp None is = rw is (stamp_le-refl p.val_ts)
      go hyp (Some t) is =
          rw is (stamp_le-trans p.val_ts (apply_one m p t.0).val_ts
          (apply_ready m turns t.1 (apply_one m p t.0)).val_ts (one-grows p t.0) (hyp t.1 (apply_one m p t.0)))

  -- with a turn for each that waits, none is left whose causes are applied
  all-ended : (turns : ℕ) (todo : List (LogUpdate Op)) (p : Progress Value) → length todo ≤ turns
      → NoneReady (apply_ready m turns todo p).val_ts todo
  all-ended zero [] p most = λ k x e. let none : None ≡ Some x = e in cc
  all-ended zero (u ∷ todo) p most = absurd (omega arith)
  all-ended (suc turns) todo p most = go (λ todo p most. all-ended turns todo p most) (take_ready p.val_ts todo) refl
    where
      go : ((todo : List (LogUpdate Op)) (p : Progress Value) → length todo ≤ turns
          → NoneReady (apply_ready m turns todo p).val_ts todo)
          → (found : Option (LogUpdate Op × List (LogUpdate Op))) → take_ready p.val_ts todo ≡ found
          → NoneReady (apply_ready m (suc turns) todo p).val_ts todo
      go hyp None is = rw is (λ k x e unapplied. none-taken p.val_ts todo is k x e)
      go hyp (Some t) is =
          let next = apply_one m p t.0 in
          let last = (apply_ready m turns t.1 next).val_ts in
          let fewer = taken-length p.val_ts todo t is in
          let covered : is_covered last t.0 ≡ true =
          stamp_le-trans (stamp_of t.0) next.val_ts last (one-covers p t.0) (all-grows turns t.1 next) in
          rw is
          (Each-taken (λ u. is_covered last u ≡ false → stamp_le u.prev last ≡ false) p.val_ts todo t is
          (λ unapplied. let no : true ≡ false = sym covered ∙ unapplied in cc)
          (hyp t.1 next (omega arith)))

  -- where applying ends, no logged update that isn't applied has its causes applied
  pub none-ready : (updates : List (LogUpdate Op)) (p : Progress Value)
      → NoneReady (apply_ready m (length (waiting p.val_ts updates)) (waiting p.val_ts updates) p).val_ts updates
  none-ready updates p =
      let todo = waiting p.val_ts updates in
      let last = (apply_ready m (length todo) todo p).val_ts in
      Each-filter (λ u. is_covered last u ≡ false
      → stamp_le u.prev last ≡ false) (λ u. not (is_covered p.val_ts u)) updates
      (λ u was unapplied. was-covered u (is_covered p.val_ts u) refl was unapplied)
      (all-ended (length todo) todo p (omega arith))
    where
      was-covered : (u : LogUpdate Op) (covered : Bool) → is_covered p.val_ts u ≡ covered
          → not (is_covered p.val_ts u) ≡ false
          → is_covered (apply_ready m (length (waiting p.val_ts updates)) (waiting p.val_ts updates) p).val_ts u
          ≡ false → stamp_le u.prev
          (apply_ready m (length (waiting p.val_ts updates)) (waiting p.val_ts updates) p).val_ts ≡ false
      was-covered u true is was unapplied =
          let covered =
          stamp_le-trans (stamp_of u) p.val_ts
          (apply_ready m (length (waiting p.val_ts updates)) (waiting p.val_ts updates) p).val_ts is
          (all-grows (length (waiting p.val_ts updates)) (waiting p.val_ts updates) p) in
          let no : true ≡ false = sym covered ∙ unapplied in cc
      was-covered u false is was unapplied = let no : true ≡ false = rw is at was in cc

  -- the same at progress that came to the same
  pub none-ready-at : (updates : List (LogUpdate Op)) (p q : Progress Value)
      → q ≡ apply_ready m (length (waiting p.val_ts updates)) (waiting p.val_ts updates) p → NoneReady q.val_ts updates
  none-ready-at updates p q is = rw is (none-ready updates p)

-- ---- where nothing is ready

module _ {Op : Type 0} (val_ts : List ℕ) where
  -- of those that wait none has its causes applied
  waiting-blocked : (updates : List (LogUpdate Op)) → NoneReady val_ts updates → (k : ℕ) (u : LogUpdate Op)
      → slice_get (waiting val_ts updates) k ≡ Some u → stamp_le u.prev val_ts ≡ false
  waiting-blocked [] none k u e = let no : None ≡ Some u = e in cc
  waiting-blocked (x ∷ updates) none k u e =
      go (waiting-blocked updates (λ j. none (suc j))) (is_covered val_ts x) refl k e
    where
      go : ((k : ℕ) (u : LogUpdate Op) → slice_get (waiting val_ts updates) k ≡ Some u
          → stamp_le u.prev val_ts ≡ false) → (covered : Bool) → is_covered val_ts x ≡ covered → (k : ℕ)
          → slice_get (waiting val_ts (x ∷ updates)) k ≡ Some u → stamp_le u.prev val_ts ≡ false
      go hyp true is k e = let e' : slice_get (waiting val_ts updates) k ≡ Some u = rw is at e in hyp k u e'
      go hyp false is zero e =
          let e' : Some x ≡ Some u = rw is at e in
          let same : x ≡ u = cc in
          subst (λ (y : LogUpdate Op). stamp_le y.prev val_ts ≡ false) same (none 0 x refl is)
      go hyp false is (suc j) e = let e' : slice_get (waiting val_ts updates) j ≡ Some u = rw is at e in hyp j u e'

module _ {Value Op : Type 0} (m : Meaning Value Op) where
  pub blocked-idle : (turns : ℕ) (todo : List (LogUpdate Op)) (p : Progress Value) → take_ready p.val_ts todo ≡ None
      → apply_ready m turns todo p ≡ p
  blocked-idle zero todo p none = refl
  blocked-idle (suc turns) todo p none = rw none refl

  -- where nothing is ready, applying changes nothing
  pub idle : (updates : List (LogUpdate Op)) (p : Progress Value) → NoneReady p.val_ts updates
      → apply_ready m (length (waiting p.val_ts updates)) (waiting p.val_ts updates) p ≡ p
  idle updates p none =
      blocked-idle (length (waiting p.val_ts updates)) (waiting p.val_ts updates) p
      (take_ready-none p.val_ts (waiting p.val_ts updates) (waiting-blocked p.val_ts updates none))
