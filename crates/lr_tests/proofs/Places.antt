-- Updates of three places, place after place.
use Rattle.std.proofs.Common.{◌≡◌, ◌≢◌, ◌∙◌, ◌<◌, ◌≤◌, ℕ, zero, suc, Bool, true, false, List, [], ◌∷◌, ◌++◌, length}
use Rattle.std.proofs.Common.{get_or, refl, sym, ap, Option, Some, None, arith, subst, eq-eqb, ne_eqb, lt-ltb, le-ltb}
use Rattle.std.proofs.Common.{eqb-true}
use Rattle.std.specs.Prelude.{◌==◌, ◌||◌, ◌&&◌, filter, nat_lt, slice_get}
use Rattle.std.specs.List.{AllByRecursion}
use Rattle.std.specs.Option.{ForSome}
use Rattle.std.proofs.lemmas.List.{append-nil}
use Rattle.std.proofs.lemmas.List.Elements.{filter-append}
use Rattle.lr_base.specs.Ascending.{is_before}
use Rattle.lr_base.specs.Insertion.{Ascends}
use Rattle.lr_base.specs.Places.{AreInOrder, items_at}
use Rattle.lr_base.specs.Rules.{is_new}
use Rattle.lr_base.specs.declared.messages.LogUpdate.{LogUpdate}
use Rattle.lr_base.specs.declared.names.Spot.{Spot}
use Rattle.lr_value.specs.Waiting.{AreOfPlace}
use Rattle.lr_base.specs.Logged.{AllLogged, AllReceived, IsLogged}
use Rattle.lr_base.specs.Stamps.{part}
use Rattle.lr_value.specs.Applied.{Applied}
use Rattle.lr_value.specs.Remembered.{IsLogOf, IsSettledAt}
use Rattle.lr_tests.specs.Sample.{AreSample}
use Rattle.svc_tally.specs.Tally.{tally_kind}
use Rattle.svc_tally.specs.declared.op.TallyOp.{TallyOp}

-- a spot of a lower place comes first
before-lower : (a b : Spot) → a.place < b.place → is_before a b ≡ true
before-lower a b low = let less : nat_lt a.place b.place ≡ true = lt-ltb a.place b.place low in rw less refl

before-same : (a b : Spot) → a.place ≡ b.place → nat_lt a.number b.number ≡ true → is_before a b ≡ true
before-same a b same less =
    let not_low : nat_lt a.place b.place ≡ false = le-ltb a.place b.place (omega arith) in
    let equal : (a.place == b.place) ≡ true = eq-eqb a.place b.place same in
    rw (not_low, equal, less) refl

module _ {Op : Type 0} where
  own-front : (place : ℕ) (u : LogUpdate Op) (us : List (LogUpdate Op)) → AreOfPlace place (u ∷ us)
      → (u.spot.place ≡ place) × AreOfPlace place us
  own-front place u us are =
      (are.together 0 u refl, record { ascends = are.ascends.1; together = λ k. are.together (suc k) })

  -- the updates of a place among its own are all, and among those of another none
  at-own : (place : ℕ) (us : List (LogUpdate Op)) → AreOfPlace place us → items_at (λ u. u.spot) place us ≡ us
  at-own place [] are = refl
  at-own place (u ∷ us) are =
      let it = own-front place u us are in
      let is : (u.spot.place == place) ≡ true = eq-eqb u.spot.place place it.0 in
      rw is (ap (λ (l : List (LogUpdate Op)). u ∷ l) (at-own place us it.1))

  at-other : (place q : ℕ) (us : List (LogUpdate Op)) → AreOfPlace place us → place ≢ q
      → items_at (λ u. u.spot) q us ≡ []
  at-other place q [] are apart = refl
  at-other place q (u ∷ us) are apart =
      let it = own-front place u us are in
      let is : (u.spot.place == q) ≡ false = ne_eqb u.spot.place q (λ same. apart (sym it.0 ∙ same)) in
      rw is (at-other place q us it.1 apart)

  -- those of one place among those of three
  pub at-three : (q : ℕ) (a b c : List (LogUpdate Op))
      → items_at (λ u. u.spot) q (a ++ (b ++ c))
      ≡ items_at (λ u. u.spot) q a ++ (items_at (λ u. u.spot) q b ++ items_at (λ u. u.spot) q c)
  at-three q a b c =
      filter-append (λ u. u.spot.place == q) a (b ++ c)
      ∙ ap (λ (l : List (LogUpdate Op)). items_at (λ u. u.spot) q a ++ l) (filter-append (λ u. u.spot.place == q) b c)

  pub at-zero : (a b c : List (LogUpdate Op)) → AreOfPlace 0 a → AreOfPlace 1 b → AreOfPlace 2 c
      → a ≡ items_at (λ u. u.spot) 0 (a ++ (b ++ c))
  at-zero a b c first second third =
      sym (at-three 0 a b c
      ∙ rw (at-own 0 a first, at-other 1 0 b second (λ e. omega arith), at-other 2 0 c third (λ e. omega arith))
      (append-nil a))

  pub at-one : (a b c : List (LogUpdate Op)) → AreOfPlace 0 a → AreOfPlace 1 b → AreOfPlace 2 c
      → b ≡ items_at (λ u. u.spot) 1 (a ++ (b ++ c))
  at-one a b c first second third =
      sym (at-three 1 a b c
      ∙ rw (at-own 1 b second, at-other 0 1 a first (λ e. omega arith), at-other 2 1 c third (λ e. omega arith))
      (append-nil b))

  pub at-two : (a b c : List (LogUpdate Op)) → AreOfPlace 0 a → AreOfPlace 1 b → AreOfPlace 2 c
      → c ≡ items_at (λ u. u.spot) 2 (a ++ (b ++ c))
  at-two a b c first second third =
      sym (at-three 2 a b c
      ∙ rw (at-own 2 c third, at-other 0 2 a first (λ e. omega arith), at-other 1 2 b second (λ e. omega arith)) refl)

  pub at-none : (q : ℕ) (a b c : List (LogUpdate Op)) → AreOfPlace 0 a → AreOfPlace 1 b → AreOfPlace 2 c
      → q ≢ 0 → q ≢ 1 → q ≢ 2 → [] ≡ items_at (λ u. u.spot) q (a ++ (b ++ c))
  at-none q a b c first second third apart one two =
      sym (at-three q a b c
      ∙ rw (
        at-other 0 q a first (λ e. apart (sym e)),
        at-other 1 q b second (λ e. one (sym e)),
        at-other 2 q c third (λ e. two (sym e)),
      ) refl)

  -- an update comes before each of those of a higher place
  before-all : (u : LogUpdate Op) (place : ℕ) (us : List (LogUpdate Op)) → AreOfPlace place us → u.spot.place < place
      → AllByRecursion (λ v. is_before u.spot v.spot ≡ true) us
  before-all u place [] are low = tt
  before-all u place (v ∷ us) are low =
      let it = own-front place v us are in
      (before-lower u.spot v.spot (omega (arith, it.0)), before-all u place us it.1 low)

  both-all : (P : LogUpdate Op → Type 0) (us vs : List (LogUpdate Op)) → AllByRecursion P us → AllByRecursion P vs
      → AllByRecursion P (us ++ vs)
  both-all P [] vs first second = second
  both-all P (u ∷ us) vs first second = (first.0, both-all P us vs first.1 second)

  own-all : (u : LogUpdate Op) (place : ℕ) (us : List (LogUpdate Op)) → u.spot.place ≡ place → AreOfPlace place us
      → AllByRecursion (λ v. nat_lt u.spot.number v.spot.number ≡ true) us
      → AllByRecursion (λ v. is_before u.spot v.spot ≡ true) us
  own-all u place [] own are all = tt
  own-all u place (v ∷ us) own are all =
      let it = own-front place v us are in
      (before-same u.spot v.spot (own ∙ sym it.0) all.0, own-all u place us own it.1 all.1)

  -- those of a place stand in order before what is in order and of higher places
  order-more : (place : ℕ) (us rest : List (LogUpdate Op)) → AreOfPlace place us → AreInOrder (λ u. u.spot) rest
      → ((u : LogUpdate Op) → u.spot.place ≡ place → AllByRecursion (λ v. is_before u.spot v.spot ≡ true) rest)
      → AreInOrder (λ u. u.spot) (us ++ rest)
  order-more place [] rest are order later = order
  order-more place (u ∷ us) rest are order later =
      let it = own-front place u us are in (
        both-all (λ v. is_before u.spot v.spot ≡ true) us rest (own-all u place us it.0 it.1 are.ascends.0)
            (later u it.0),
        order-more place us rest it.1 order later,
      )

  pub three-in-order : (a b c : List (LogUpdate Op)) → AreOfPlace 0 a → AreOfPlace 1 b → AreOfPlace 2 c
      → AreInOrder (λ u. u.spot) (a ++ (b ++ c))
  three-in-order a b c first second third =
      let last : AreInOrder (λ u. u.spot) c =
      subst (λ (l : List (LogUpdate Op)). AreInOrder (λ u. u.spot) l) (append-nil c)
      (order-more 2 c [] third tt (λ u own. tt)) in
      order-more 0 a (b ++ c) first
      (order-more 1 b c second last (λ u own. before-all u 2 c third (omega (arith, own))))
      (λ u own. both-all (λ v. is_before u.spot v.spot ≡ true) b c (before-all u 1 b second (omega (arith, own)))
      (before-all u 2 c third (omega (arith, own))))

  -- what holds of the updates of each of three places holds of all
  join-some : (P : LogUpdate Op → Type 0) (us vs : List (LogUpdate Op)) → ((k : ℕ) → ForSome (slice_get us k) P)
      → ((k : ℕ) → ForSome (slice_get vs k) P) → (k : ℕ) → ForSome (slice_get (us ++ vs) k) P
  join-some P [] vs first second = second
  join-some P (u ∷ us) vs first second = front (join-some P us vs (λ k. first (suc k)) second)
    where
      front : ((k : ℕ) → ForSome (slice_get (us ++ vs) k) P) → (k : ℕ) → ForSome (slice_get (u ∷ (us ++ vs)) k) P
      front rest zero = first 0
      front rest (suc k) = rest k

  pub of-three : (P : LogUpdate Op → Type 0) (a b c : List (LogUpdate Op)) → ((k : ℕ) → ForSome (slice_get a k) P)
      → ((k : ℕ) → ForSome (slice_get b k) P) → ((k : ℕ) → ForSome (slice_get c k) P)
      → (k : ℕ) → ForSome (slice_get (a ++ (b ++ c)) k) P
  of-three P a b c first second third = join-some P a (b ++ c) first (join-some P b c second third)

-- one update more at the end
all-push : {A : Type 0} (P : A → Type 0) (xs : List A) (x : A) → AllByRecursion P xs → P x
    → AllByRecursion P (xs ++ x ∷ [])
all-push P [] x all own = (own, tt)
all-push P (y ∷ xs) x all own = (all.0, all-push P xs x all.1 own)

ascends-push : {A : Type 0} (before : A → A → Bool) (xs : List A) (x : A) → Ascends before xs
    → AllByRecursion (λ y. before y x ≡ true) xs → Ascends before (xs ++ x ∷ [])
ascends-push before [] x up all = (tt, tt)
ascends-push before (y ∷ xs) x up all =
    (all-push (λ z. before y z ≡ true) xs x up.0 all.0, ascends-push before xs x up.1 all.1)

some-push : {A : Type 0} (P : A → Type 0) (xs : List A) (x : A) → ((k : ℕ) → ForSome (slice_get xs k) P) → P x
    → (k : ℕ) → ForSome (slice_get (xs ++ x ∷ []) k) P
some-push P [] x all own zero = λ y e. let same : x ≡ y = cc in subst P same own
some-push P [] x all own (suc k) = λ y e. let none : None ≡ Some y = e in cc
some-push P (y ∷ xs) x all own zero = all 0
some-push P (y ∷ xs) x all own (suc k) = some-push P xs x (λ k. all (suc k)) own k

by-all : {A : Type 0} (P : A → Type 0) (xs : List A) → ((k : ℕ) → ForSome (slice_get xs k) P) → AllByRecursion P xs
by-all P [] all = tt
by-all P (x ∷ xs) all = (all 0 x refl, by-all P xs (λ k. all (suc k)))

-- a sample up to a greater number
pub sample-up : (place last more : ℕ) (us same : List (LogUpdate TallyOp)) → same ≡ us → last ≤ more → more ≤ 1000
    → AreSample place last us → AreSample place more same
sample-up place last more us same is low most are =
    rw is
    (record {
      logged = are.logged;
      of_place = are.of_place;
      up_to = λ k u e. let n = are.up_to k u e in omega arith;
      most = most;
    })

-- a sample with one update more
pub sample-push : (place last : ℕ) (us same : List (LogUpdate TallyOp)) (u : LogUpdate TallyOp) → same ≡ us ++ u ∷ []
    → IsLogged tally_kind 4 u → u.spot.place ≡ place → last < u.spot.number → u.spot.number ≤ 1000
    → AreSample place last us → AreSample place u.spot.number same
sample-push place last us same u is logged own past most are =
    rw is
    (record {
      logged = some-push (IsLogged tally_kind 4) us u are.logged logged;
      of_place = record {
        ascends =
            ascends-push (λ a b. nat_lt a.spot.number b.spot.number) us u are.of_place.ascends
            (by-all (λ v. nat_lt v.spot.number u.spot.number ≡ true) us
            (λ k v e. let n = are.up_to k v e in lt-ltb v.spot.number u.spot.number (omega arith)));
        together = some-push (λ v. v.spot.place ≡ place) us u are.of_place.together own;
      };
      up_to =
          some-push (λ v. v.spot.number ≤ u.spot.number) us u
          (λ k v e. let n = are.up_to k v e in omega arith) (omega arith);
      most = most;
    })

-- what holds of all of them: they can be applied, and none is new where 1000 were received of each place
pub three-logged : (a b c : List (LogUpdate TallyOp)) (p q r : ℕ) → AreSample p 1000 a → AreSample q 1000 b
    → AreSample r 1000 c → AllLogged tally_kind 4 (a ++ (b ++ c))
three-logged a b c p q r first second third =
    of-three (IsLogged tally_kind 4) a b c first.logged second.logged third.logged

pub three-received : (a b c : List (LogUpdate TallyOp)) (p q r : ℕ) (seen : List ℕ)
    → seen ≡ 1000 ∷ 1000 ∷ 1000 ∷ 1000 ∷ [] → AreSample p 1000 a → AreSample q 1000 b → AreSample r 1000 c
    → AllReceived seen (a ++ (b ++ c))
three-received a b c p q r seen is first second third =
    rw is
    (of-three (λ u. is_new (1000 ∷ 1000 ∷ 1000 ∷ 1000 ∷ []) u.spot ≡ false) a b c (each a p first) (each b q second)
    (each c r third))
  where
    low : (place number : ℕ) → place < 4 → number ≤ 1000
        → nat_lt (part (1000 ∷ 1000 ∷ 1000 ∷ 1000 ∷ []) place) number ≡ false
    low zero number within most = le-ltb 1000 number most
    low (suc zero) number within most = le-ltb 1000 number most
    low (suc (suc zero)) number within most = le-ltb 1000 number most
    low (suc (suc (suc zero))) number within most = le-ltb 1000 number most
    low (suc (suc (suc (suc place)))) number within most = absurd (omega arith)

    each : (us : List (LogUpdate TallyOp)) (p : ℕ) → AreSample p 1000 us
        → (k : ℕ) → ForSome (slice_get us k) (λ u. is_new (1000 ∷ 1000 ∷ 1000 ∷ 1000 ∷ []) u.spot ≡ false)
    each us p are k u e = low u.spot.place u.spot.number (are.logged k u e).place (are.up_to k u e)

-- what stands at each place, where the samples are of the first three
pub sample-zero : (q p0 p1 p2 : ℕ) (a b c result : List (LogUpdate TallyOp)) → q ≡ 0 → p0 ≡ 0 → p1 ≡ 1 → p2 ≡ 2
    → AreSample p0 1000 a → AreSample p1 1000 b → AreSample p2 1000 c → result ≡ a
    → result ≡ items_at (λ u. u.spot) q (a ++ (b ++ c))
sample-zero q p0 p1 p2 a b c result own none one two first second third is =
    let of_zero : AreOfPlace 0 a = rw (← none) first.of_place in
    let of_one : AreOfPlace 1 b = rw (← one) second.of_place in
    let of_two : AreOfPlace 2 c = rw (← two) third.of_place in
    rw (own, is) (at-zero a b c of_zero of_one of_two)

pub sample-one : (q p0 p1 p2 : ℕ) (a b c result : List (LogUpdate TallyOp)) → q ≡ 1 → p0 ≡ 0 → p1 ≡ 1 → p2 ≡ 2
    → AreSample p0 1000 a → AreSample p1 1000 b → AreSample p2 1000 c → result ≡ b
    → result ≡ items_at (λ u. u.spot) q (a ++ (b ++ c))
sample-one q p0 p1 p2 a b c result own none one two first second third is =
    let of_zero : AreOfPlace 0 a = rw (← none) first.of_place in
    let of_one : AreOfPlace 1 b = rw (← one) second.of_place in
    let of_two : AreOfPlace 2 c = rw (← two) third.of_place in
    rw (own, is) (at-one a b c of_zero of_one of_two)

pub sample-two : (q p0 p1 p2 : ℕ) (a b c result : List (LogUpdate TallyOp)) → q ≡ 2 → p0 ≡ 0 → p1 ≡ 1 → p2 ≡ 2
    → AreSample p0 1000 a → AreSample p1 1000 b → AreSample p2 1000 c → result ≡ c
    → result ≡ items_at (λ u. u.spot) q (a ++ (b ++ c))
sample-two q p0 p1 p2 a b c result own none one two first second third is =
    let of_zero : AreOfPlace 0 a = rw (← none) first.of_place in
    let of_one : AreOfPlace 1 b = rw (← one) second.of_place in
    let of_two : AreOfPlace 2 c = rw (← two) third.of_place in
    rw (own, is) (at-two a b c of_zero of_one of_two)

pub sample-past : (q p0 p1 p2 : ℕ) (a b c : List (LogUpdate TallyOp)) → q ≢ 0 → q ≢ 1 → q ≢ 2 → p0 ≡ 0 → p1 ≡ 1
    → p2 ≡ 2 → AreSample p0 1000 a → AreSample p1 1000 b → AreSample p2 1000 c
    → [] ≡ items_at (λ u. u.spot) q (a ++ (b ++ c))
sample-past q p0 p1 p2 a b c not_zero not_one not_two none one two first second third =
    let of_zero : AreOfPlace 0 a = rw (← none) first.of_place in
    let of_one : AreOfPlace 1 b = rw (← one) second.of_place in
    let of_two : AreOfPlace 2 c = rw (← two) third.of_place in
    at-none q a b c of_zero of_one of_two not_zero not_one not_two

pub sample-in-order : (p0 p1 p2 : ℕ) (a b c : List (LogUpdate TallyOp)) → p0 ≡ 0 → p1 ≡ 1 → p2 ≡ 2
    → AreSample p0 1000 a → AreSample p1 1000 b → AreSample p2 1000 c → AreInOrder (λ u. u.spot) (a ++ (b ++ c))
sample-in-order p0 p1 p2 a b c none one two first second third =
    let of_zero : AreOfPlace 0 a = rw (← none) first.of_place in
    let of_one : AreOfPlace 1 b = rw (← one) second.of_place in
    let of_two : AreOfPlace 2 c = rw (← two) third.of_place in
    three-in-order a b c of_zero of_one of_two

-- a value that remembers nothing may look at any log
pub first-look : {Value : Type 0} (seen : List ℕ) (updates : List (LogUpdate TallyOp)) (v : Applied Value)
    (value : Value) (val_ts : List ℕ) → v ≡ record { value = value; val_ts = val_ts; memory = None }
    → length val_ts ≡ 4 → AllLogged tally_kind 4 updates → AllReceived seen updates → length seen ≡ 4
    → IsLogOf tally_kind seen updates v
first-look seen updates v value val_ts is long logged received parts =
    rw is
    (record {
      logged = rw long logged;
      all_received = received;
      remembered = λ m e. let none : None ≡ Some m = e in cc;
      parts = parts ∙ sym long;
    })

-- and one that has looked at a log at that one
pub second-look : {Value : Type 0} (seen : List ℕ) (updates : List (LogUpdate TallyOp)) (v : Applied Value)
    → IsSettledAt seen updates v → length v.val_ts ≡ 4 → AllLogged tally_kind 4 updates → AllReceived seen updates
    → length seen ≡ 4 → IsLogOf tally_kind seen updates v
second-look seen updates v settled long logged received parts = record {
  logged = rw long logged;
  all_received = received;
  remembered = settled.remembers;
  parts = parts ∙ sym long;
}
