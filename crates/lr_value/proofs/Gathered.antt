-- What is gathered by what is remembered of a log is what waits in it.
use Rattle.std.proofs.Common.{◌≡◌, ◌<◌, ◌≤◌, ℕ, zero, suc, Bool, true, false, not, ◌&&◌, ◌||◌, List, [], ◌∷◌, ◌++◌}
use Rattle.std.proofs.Common.{length, get_or, take, drop, refl, sym, ap, ◌∙◌, Some, None, arith, true≢false}
use Rattle.std.proofs.Common.{ltb-true, eqb-true, eq-eqb, leb-true, le-ltb, le-leb, ltb-false, ◌+◌, append_assoc}
use Rattle.std.specs.Prelude.{◌==◌, filter, nat_lt, nat_le, slice_get}
use Rattle.std.specs.List.{AllByRecursion, AllWithin}
use Rattle.std.specs.Option.{ForSome}
use Rattle.std.proofs.lemmas.Option.{slice_get-get_or}
use Rattle.std.proofs.lemmas.List.Elements.{filter-append}
use Rattle.std.proofs.lemmas.List.{append-nil, take-append-drop}
use Rattle.lr_base.specs.Ascending.{is_before}
use Rattle.lr_base.specs.declared.messages.LogUpdate.{LogUpdate}
use Rattle.lr_base.specs.declared.names.Spot.{Spot}
use Rattle.lr_base.specs.Insertion.{Ascends}
pub use Rattle.lr_base.specs.InsertionLaws.{ascends-filter, each-filter, filter-both}
use Rattle.lr_base.specs.Rules.{is_covered, is_new, waiting}
use Rattle.lr_base.specs.Stamps.{Stamp, part}
use Rattle.lr_value.specs.Applied.{Memory}
use Rattle.lr_value.specs.Remembered.{AreSeen, Recalls, is_among, is_at}
use Rattle.lr_value.specs.Waiting.{AreOfPlace, at_spot, picked}

-- ---- filters

module _ {A : Type 0} where
  -- tests that agree on each element of a list keep the same
  filter-same : (a b : A → Bool) (xs : List A) → AllByRecursion (λ x. a x ≡ b x) xs → filter a xs ≡ filter b xs
  filter-same a b [] same = refl
  filter-same a b (x ∷ xs) same = go (b x) refl (filter-same a b xs same.1)
    where
      go : (t : Bool) → b x ≡ t → filter a xs ≡ filter b xs → filter a (x ∷ xs) ≡ filter b (x ∷ xs)
      go true is rest = let first : a x ≡ true = same.0 ∙ is in rw (first, is) (ap (λ (l : List A). x ∷ l) rest)
      go false is rest = let first : a x ≡ false = same.0 ∙ is in rw (first, is) rest

  -- tests that agree where a third one passes keep the same of what passes it
  filter-under : (q a b : A → Bool) (xs : List A) → AllByRecursion (λ x. q x ≡ true → a x ≡ b x) xs
      → filter q (filter a xs) ≡ filter q (filter b xs)
  filter-under q a b [] same = refl
  filter-under q a b (x ∷ xs) same =
      go (q x) refl (a x) refl (b x) refl (filter-under q a b xs same.1)
    where
      go : (s : Bool) → q x ≡ s → (t : Bool) → a x ≡ t → (u : Bool) → b x ≡ u
          → filter q (filter a xs) ≡ filter q (filter b xs)
          → filter q (filter a (x ∷ xs)) ≡ filter q (filter b (x ∷ xs))
      go true is true first true second rest = rw (first, second, is) (ap (λ (l : List A). x ∷ l) rest)
      go true is true first false second rest = absurd (true≢false (sym first ∙ same.0 is ∙ second))
      go true is false first true second rest = absurd (true≢false (sym (sym first ∙ same.0 is ∙ second)))
      go true is false first false second rest = rw (first, second) rest
      go false is true first true second rest = rw (first, second, is) rest
      go false is true first false second rest = rw (first, second, is) rest
      go false is false first true second rest = rw (first, second, is) rest
      go false is false first false second rest = rw (first, second) rest

  -- the order of two filters makes no difference
  pub filter-swap : (p q : A → Bool) (xs : List A) → filter p (filter q xs) ≡ filter q (filter p xs)
  filter-swap p q [] = refl
  filter-swap p q (x ∷ xs) = go (p x) refl (q x) refl (filter-swap p q xs)
    where
      go : (s : Bool) → p x ≡ s → (t : Bool) → q x ≡ t → filter p (filter q xs) ≡ filter q (filter p xs)
          → filter p (filter q (x ∷ xs)) ≡ filter q (filter p (x ∷ xs))
      go true first true second rest = rw (first, second, first) (ap (λ (l : List A). x ∷ l) rest)
      go true first false second rest = rw (first, second) rest
      go false first true second rest = rw (first, second, first) rest
      go false first false second rest = rw (first, second) rest

  -- where the first elements pass a test and the others don't, it keeps the first ones
  pub cut-filter : (p : A → Bool) (xs : List A) (i : ℕ) → AllWithin (λ x. p x ≡ true) xs 0 i
      → AllWithin (λ x. p x ≡ false) xs i (length xs)
      → (take i xs ≡ filter p xs) × (drop i xs ≡ filter (λ x. not (p x)) xs)
  cut-filter p [] zero low high = (refl, refl)
  cut-filter p [] (suc i) low high = (refl, refl)
  cut-filter p (x ∷ xs) zero low high =
      let first : p x ≡ false = high 0 x (omega arith) (omega arith) in
      let rest : (take 0 xs ≡ filter p xs) × (drop 0 xs ≡ filter (λ x. not (p x)) xs) =
      cut-filter p xs zero (λ k d over under. absurd (omega arith))
      (λ k d over under. high (suc k) d (omega arith) (omega arith)) in
      (rw first rest.0, rw first (ap (λ (l : List A). x ∷ l) rest.1))
  cut-filter p (x ∷ xs) (suc i) low high =
      let first : p x ≡ true = low 0 x (omega arith) (omega arith) in
      let rest : (take i xs ≡ filter p xs) × (drop i xs ≡ filter (λ x. not (p x)) xs) =
      cut-filter p xs i (λ k d over under. low (suc k) d (omega arith) (omega arith))
      (λ k d over under. high (suc k) d (omega arith) (omega arith)) in
      (rw first (ap (λ (l : List A). x ∷ l) rest.0), rw first rest.1)

  -- what holds at each index holds by recursion
  pub by-recursion : (P : A → Type 0) (xs : List A) → ((k : ℕ) → ForSome (slice_get xs k) P) → AllByRecursion P xs
  by-recursion P [] all = tt
  by-recursion P (x ∷ xs) all = (all 0 x refl, by-recursion P xs (λ k. all (suc k)))

  -- two facts of each element
  pub both : (P Q R : A → Type 0) (xs : List A) → ((x : A) → P x → Q x → R x) → AllByRecursion P xs
      → AllByRecursion Q xs
      → AllByRecursion R xs
  both P Q R [] into first second = tt
  both P Q R (x ∷ xs) into first second =
      (into x first.0 second.0, both P Q R xs into first.1 second.1)

-- ---- spots

-- of two spots of one place the first has the lower number
pub before-number : (a b : Spot) → a.place ≡ b.place → is_before a b ≡ true → a.number < b.number
before-number a b same before = out (nat_lt a.place b.place) refl (a.place == b.place) refl before
  where
    out : (u : Bool) → nat_lt a.place b.place ≡ u → (v : Bool) → (a.place == b.place) ≡ v
        → (u || (v && nat_lt a.number b.number)) ≡ true → a.number < b.number
    out true less v equal is =
        let low : a.place < b.place = ltb-true a.place b.place less in
        absurd (omega arith)
    out false less true equal is = ltb-true a.number b.number is
    out false less false equal is = absurd (true≢false (sym is))

-- a spot of this place among some that come behind another has the greater number
among-past : (place : ℕ) (s : Spot) (spots : List Spot) (spot : Spot) → s.place ≡ place → spot.place ≡ place
    → AllByRecursion (λ t. is_before s t ≡ true) spots → is_among spots spot ≡ true → s.number < spot.number
among-past place s [] spot own other behind is = absurd (true≢false (sym is))
among-past place s (t ∷ spots) spot own other behind is =
    go (λ at. among-past place s spots spot own other behind.1 at) (t.place == spot.place) refl
    (t.number == spot.number) refl is
  where
    go : (is_among spots spot ≡ true → s.number < spot.number) → (b : Bool) → (t.place == spot.place) ≡ b → (d : Bool)
        → (t.number == spot.number) ≡ d
        → ((b && d) || is_among spots spot) ≡ true → s.number < spot.number
    go later true first true second at =
        let same : t.place ≡ spot.place = eqb-true t.place spot.place first in
        let number : t.number ≡ spot.number = eqb-true t.number spot.number second in
        let past : s.number < t.number = before-number s t (omega arith) behind.0 in
        omega arith
    go later true first false second at = later at
    go later false first d second at = later at

-- where none of some spots is new, a spot among them isn't
listed : (seen : Stamp) (waits : List Spot) → AllByRecursion (λ s. is_new seen s ≡ false) waits → (spot : Spot)
    → is_among waits spot ≡ true → is_new seen spot ≡ false
listed seen [] each spot is = absurd (true≢false (sym is))
listed seen (t ∷ waits) each spot is =
    go (λ at. listed seen waits each.1 spot at) (t.place == spot.place) refl (t.number == spot.number) refl is
  where
    go : (is_among waits spot ≡ true → is_new seen spot ≡ false) → (b : Bool) → (t.place == spot.place) ≡ b
        → (d : Bool) → (t.number == spot.number) ≡ d
        → ((b && d) || is_among waits spot) ≡ true → is_new seen spot ≡ false
    go later true first true second at =
        let same : t.place ≡ spot.place = eqb-true t.place spot.place first in
        let number : t.number ≡ spot.number = eqb-true t.number spot.number second in
        rw (← same, ← number) each.0
    go later true first false second at = later at
    go later false first d second at = later at

-- ---- what was remembered of one place

module _ {Op : Type 0} (place : ℕ) where
  -- the updates are of this place
  abbrev Here : List (LogUpdate Op) → Type 0
  Here updates = AllByRecursion (λ u. u.spot.place ≡ place) updates

  -- their numbers ascend
  abbrev Ascend : List (LogUpdate Op) → Type 0
  Ascend updates = Ascends (λ a b. nat_lt a.spot.number b.spot.number) updates

  -- where what passes the first test comes before what passes the second, either keeps the ones and then the others
  either-filter : (a b : LogUpdate Op → Bool)
      → ((x y : LogUpdate Op) → x.spot.place ≡ place → y.spot.place ≡ place → a x ≡ true → b y ≡ true
      → x.spot.number < y.spot.number)
      → (updates : List (LogUpdate Op)) → Here updates → Ascend updates
      → filter (λ u. a u || b u) updates ≡ filter a updates ++ filter b updates
  either-filter a b apart [] here ascends = refl
  either-filter a b apart (x ∷ updates) here ascends =
      go (a x) refl (b x) refl (either-filter a b apart updates here.1 ascends.1)
    where
      -- behind one that passes the second test none passes the first
      none : b x ≡ true → (rest : List (LogUpdate Op)) → Here rest
          → AllByRecursion (λ v. nat_lt x.spot.number v.spot.number ≡ true) rest → filter a rest ≡ []
      none is [] at later = refl
      none is (y ∷ rest) at later = out (a y) refl (none is rest at.1 later.1)
        where
          out : (t : Bool) → a y ≡ t → filter a rest ≡ [] → filter a (y ∷ rest) ≡ []
          out true passes more =
              let low : y.spot.number < x.spot.number = apart y x at.0 here.0 passes is in
              let high : x.spot.number < y.spot.number = ltb-true x.spot.number y.spot.number later.0 in
              absurd (omega arith)
          out false passes more = rw passes more

      go : (s : Bool) → a x ≡ s → (t : Bool) → b x ≡ t
          → filter (λ u. a u || b u) updates ≡ filter a updates ++ filter b updates
          → filter (λ u. a u || b u) (x ∷ updates) ≡ filter a (x ∷ updates) ++ filter b (x ∷ updates)
      go true first true second rest =
          let low : x.spot.number < x.spot.number = apart x x here.0 here.0 first second in
          absurd (omega arith)
      go true first false second rest = rw (first, second) (ap (λ (l : List (LogUpdate Op)). x ∷ l) rest)
      go false first true second rest =
          let nothing : filter a updates ≡ [] = none second updates here.1 ascends.0 in
          let others : filter (λ u. a u || b u) updates ≡ filter b updates =
          rest ∙ ap (λ (l : List (LogUpdate Op)). l ++ filter b updates) nothing in
          rw (first, second, nothing) (ap (λ (l : List (LogUpdate Op)). x ∷ l) others)
      go false first false second rest = rw (first, second) rest

  -- the ones of this place that are picked by spots are those whose spot is among them
  picked-among : (spots : List Spot) → Ascends is_before spots → (updates : List (LogUpdate Op)) → Here updates
      → Ascend updates → picked place spots updates ≡ filter (λ u. is_among spots u.spot) updates
  picked-among [] order updates here ascends = none updates
    where
      none : (us : List (LogUpdate Op)) → [] ≡ filter (λ u. false) us
      none [] = refl
      none (u ∷ us) = none us
  picked-among (s ∷ spots) order updates here ascends =
      go (s.place == place) refl (picked-among spots order.1 updates here ascends)
    where
      numbers : (t : Bool) → (s.place == place) ≡ t → (us : List (LogUpdate Op)) → Here us
          → AllByRecursion (λ u. (t && (u.spot.number == s.number)) ≡ is_at s u.spot) us
      numbers t is [] at = tt
      numbers t is (u ∷ us) at = (same t is, numbers t is us at.1)
        where
          same : (t : Bool) → (s.place == place) ≡ t → (t && (u.spot.number == s.number)) ≡ is_at s u.spot
          same true is' =
              let e : (s.place == u.spot.place) ≡ true = rw at.0 is' in
              rw e (sides (u.spot.number == s.number) refl (s.number == u.spot.number) refl)
            where
              sides : (v : Bool) → (u.spot.number == s.number) ≡ v → (w : Bool) → (s.number == u.spot.number) ≡ w
                  → (u.spot.number == s.number) ≡ (s.number == u.spot.number)
              sides true a true b = a ∙ sym b
              sides true a false b =
                  let e : u.spot.number ≡ s.number = eqb-true u.spot.number s.number a in
                  let f : (s.number == u.spot.number) ≡ true = eq-eqb s.number u.spot.number (sym e) in
                  a ∙ sym f
              sides false a true b =
                  let e : s.number ≡ u.spot.number = eqb-true s.number u.spot.number b in
                  let f : (u.spot.number == s.number) ≡ true = eq-eqb u.spot.number s.number (sym e) in
                  f ∙ sym b
              sides false a false b = a ∙ sym b
          same false is' = let e : (s.place == u.spot.place) ≡ false = rw at.0 is' in rw e refl

      apart : s.place ≡ place → (x y : LogUpdate Op) → x.spot.place ≡ place → y.spot.place ≡ place
          → (x.spot.number == s.number) ≡ true → is_among spots y.spot ≡ true → x.spot.number < y.spot.number
      apart own x y first second equal among =
          let e : x.spot.number ≡ s.number = eqb-true x.spot.number s.number equal in
          let past : s.number < y.spot.number = among-past place s spots y.spot own second order.0 among in
          omega arith

      ored : (t : Bool) → (s.place == place) ≡ t
          → filter (λ u. (t && (u.spot.number == s.number)) || is_among spots u.spot) updates
          ≡ filter (λ u. is_at s u.spot || is_among spots u.spot) updates
      ored t is = filter-same
          (λ u. (t && (u.spot.number == s.number)) || is_among spots u.spot)
          (λ u. is_at s u.spot || is_among spots u.spot) updates
          (both (λ u. (t && (u.spot.number == s.number)) ≡ is_at s u.spot)
          (λ u. u.spot.place ≡ place)
          (λ u. ((t && (u.spot.number == s.number)) || is_among spots u.spot)
          ≡ (is_at s u.spot || is_among spots u.spot)) updates
          (λ u e own. ap (λ (b : Bool). b || is_among spots u.spot) e) (numbers t is updates here) here)

      go : (t : Bool) → (s.place == place) ≡ t
          → picked place spots updates ≡ filter (λ u. is_among spots u.spot) updates
          → picked place (s ∷ spots) updates ≡ filter (λ u. is_among (s ∷ spots) u.spot) updates
      go true is rest =
          let own : s.place ≡ place = eqb-true s.place place is in
          rw (is, rest)
          (sym (either-filter (λ u. u.spot.number == s.number) (λ u. is_among spots u.spot) (apart own) updates here
          ascends) ∙ ored true is)
      go false is rest = rw (is, rest) (ored false is)

  -- what waited of one place, and what is new of it, are what waits of it
  pub recalled : (val_ts : Stamp) (memory : Memory) (updates : List (LogUpdate Op)) (new : ℕ) → AreSeen memory
      → Here updates → Ascend updates
      → AllByRecursion (λ u. is_new memory.seen u.spot ≡ false → is_covered val_ts u ≡ false
      → is_among memory.waits u.spot ≡ true) updates
      → take new updates ≡ filter (λ u. nat_le u.spot.number (part memory.seen place)) updates
      → waiting val_ts (picked place memory.waits updates) ++ waiting val_ts (drop new updates)
      ≡ waiting val_ts updates
  recalled val_ts memory updates new seen here ascends recalls cut =
      let unapplied = λ (u : LogUpdate Op). not (is_covered val_ts u) in
      let old = λ (u : LogUpdate Op). nat_le u.spot.number (part memory.seen place) in
      let among = λ (u : LogUpdate Op). is_among memory.waits u.spot in
      let front : waiting val_ts (picked place memory.waits updates) ≡ waiting val_ts (take new updates) =
      ap (waiting val_ts) (picked-among memory.waits seen.in_order updates here ascends)
      ∙ filter-under unapplied among old updates
      (both (λ u. is_new memory.seen u.spot ≡ false → is_covered val_ts u ≡ false → among u ≡ true)
      (λ u. u.spot.place ≡ place) (λ u. unapplied u ≡ true → among u ≡ old u) updates agree recalls here)
      ∙ sym (ap (waiting val_ts) cut) in
      ap (λ (l : List (LogUpdate Op)). l ++ waiting val_ts (drop new updates)) front
      ∙ sym (filter-append unapplied (take new updates) (drop new updates))
      ∙ ap (waiting val_ts) (take-append-drop new updates)
    where
      agree : (u : LogUpdate Op)
          → (is_new memory.seen u.spot ≡ false → is_covered val_ts u ≡ false → is_among memory.waits u.spot ≡ true)
          → u.spot.place ≡ place → not (is_covered val_ts u) ≡ true
          → is_among memory.waits u.spot ≡ nat_le u.spot.number (part memory.seen place)
      agree u recall own unapplied =
          go (is_among memory.waits u.spot) refl (nat_le u.spot.number (part memory.seen place)) refl
          (is_covered val_ts u) refl
        where
          go : (s : Bool) → is_among memory.waits u.spot ≡ s
              → (t : Bool) → nat_le u.spot.number (part memory.seen place) ≡ t
              → (c : Bool) → is_covered val_ts u ≡ c
              → is_among memory.waits u.spot ≡ nat_le u.spot.number (part memory.seen place)
          go s first t second true covered =
              let no : false ≡ true = rw covered at unapplied in absurd (true≢false (sym no))
          go true first true second false covered = first ∙ sym second
          go false first false second false covered = first ∙ sym second
          go true first false second false covered =
              let old : is_new memory.seen u.spot ≡ false =
              listed memory.seen memory.waits
              (by-recursion (λ s. is_new memory.seen s ≡ false) memory.waits seen.seen) u.spot
              first in
              let old' : nat_lt (part memory.seen place) u.spot.number ≡ false = rw own at old in
              let low : u.spot.number ≤ part memory.seen place =
              ltb-false (part memory.seen place) u.spot.number old' in
              let e : nat_le u.spot.number (part memory.seen place) ≡ true =
              le-leb u.spot.number (part memory.seen place) low in
              first ∙ sym e
          go false first true second false covered =
              let low : u.spot.number ≤ part memory.seen place =
              leb-true u.spot.number (part memory.seen place) second in
              let low' : u.spot.number ≤ part memory.seen u.spot.place = rw own low in
              let old : is_new memory.seen u.spot ≡ false =
              le-ltb (part memory.seen u.spot.place) u.spot.number low' in
              absurd (true≢false (sym (recall old covered) ∙ first))

  -- one spot more adds what stands at it
  picked-more : (spots : List Spot) (i : ℕ) (s : Spot) (updates : List (LogUpdate Op)) → slice_get spots i ≡ Some s
      → picked place (take (i + 1) spots) updates ≡ picked place (take i spots) updates ++ at_spot place s updates
  picked-more [] i s updates here = let none : None ≡ Some s = here in cc
  picked-more (t ∷ spots) zero s updates here =
      let same : t ≡ s = cc in
      rw same (append-nil (at_spot place s updates))
  picked-more (t ∷ spots) (suc i) s updates here =
      let more : suc i + 1 ≡ suc (i + 1) = omega arith in
      rw more
      (ap (λ (l : List (LogUpdate Op)). at_spot place t updates ++ l) (picked-more spots i s updates here)
      ∙ sym (append_assoc (at_spot place t updates) (picked place (take i spots) updates) (at_spot place s updates)))

  -- the same of those that wait
  pub remembered-more : (val_ts : Stamp) (spots : List Spot) (i : ℕ) (s : Spot) (updates : List (LogUpdate Op))
      → slice_get spots i ≡ Some s
      → waiting val_ts (picked place (take (i + 1) spots) updates)
      ≡ waiting val_ts (picked place (take i spots) updates) ++ waiting val_ts (at_spot place s updates)
  remembered-more val_ts spots i s updates here =
      ap (waiting val_ts) (picked-more spots i s updates here)
      ∙ filter-append (λ u. not (is_covered val_ts u)) (picked place (take i spots) updates) (at_spot place s updates)

  -- a loop over the spots goes on so
  pub remembered-step : (val_ts : Stamp) (spots : List Spot) (i : ℕ) (updates start before after : List (LogUpdate Op))
      (d : Spot) → i < length spots
      → before ≡ start ++ waiting val_ts (picked place (take i spots) updates)
      → after ≡ before ++ waiting val_ts (at_spot place (get_or spots i d) updates)
      → after ≡ start ++ waiting val_ts (picked place (take (i + 1) spots) updates)
  remembered-step val_ts spots i updates start before after d within begun added =
      let more = waiting val_ts (at_spot place (get_or spots i d) updates) in
      added
      ∙ ap (λ (l : List (LogUpdate Op)). l ++ more) begun
      ∙ append_assoc start (waiting val_ts (picked place (take i spots) updates)) more
      ∙ ap (λ (l : List (LogUpdate Op)). start ++ l)
      (sym (remembered-more val_ts spots i (get_or spots i d) updates (slice_get-get_or spots i d within)))

  -- after what waited what is new is added
  pub add-recalled : (val_ts seen : Stamp) (memory : Memory) (updates first second last rest : List (LogUpdate Op))
      (waits : List Spot) (new : ℕ) → AreSeen memory → AreOfPlace place updates → Recalls val_ts updates memory
      → waits ≡ memory.waits → take new updates ≡ filter (λ u. nat_le u.spot.number (part seen place)) updates
      → seen ≡ memory.seen → second ≡ first ++ waiting val_ts (picked place waits updates)
      → last ≡ second ++ waiting val_ts rest → rest ≡ drop new updates → last ≡ first ++ waiting val_ts updates
  add-recalled val_ts seen memory updates first second last rest waits new are of_place recalls same cut own begun
      ended past =
      let here = by-recursion (λ (u : LogUpdate Op). u.spot.place ≡ place) updates of_place.together in
      let each = by-recursion (λ (u : LogUpdate Op). is_new memory.seen u.spot ≡ false → is_covered val_ts u ≡ false
      → is_among memory.waits u.spot ≡ true) updates (λ k u e old unapplied. (recalls k u e old unapplied).listed)
      in
      let cut' : take new updates ≡ filter (λ u. nat_le u.spot.number (part memory.seen place)) updates =
      rw own at cut in
      let begun' : second ≡ first ++ waiting val_ts (picked place memory.waits updates) = rw same at begun in
      let ended' : last ≡ second ++ waiting val_ts (drop new updates) = rw past at ended in
      ended'
      ∙ ap (λ (l : List (LogUpdate Op)). l ++ waiting val_ts (drop new updates)) begun'
      ∙ append_assoc first (waiting val_ts (picked place memory.waits updates)) (waiting val_ts (drop new updates))
      ∙ ap (λ (l : List (LogUpdate Op)). first ++ l)
      (recalled val_ts memory updates new are here of_place.ascends each cut')
