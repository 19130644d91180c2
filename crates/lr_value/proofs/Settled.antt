-- What is remembered after applying is so of the log.
use Rattle.std.proofs.Common.{◌≡◌, ◌∙◌, ℕ, zero, suc, Bool, true, false, not, inl, inr, List, [], ◌∷◌, length, map}
use Rattle.std.proofs.Common.{refl, sym, Option, Some, None, subst, true≢false, ◌||◌, eq-eqb}
use Rattle.std.specs.Prelude.{◌==◌, slice_get}
use Rattle.std.specs.Option.{option_map}
use Rattle.lr_base.specs.declared.messages.LogUpdate.{LogUpdate}
use Rattle.lr_base.specs.declared.messages.Known.{Known}
use Rattle.lr_base.specs.declared.names.Cid.{Cid}
use Rattle.lr_base.specs.declared.names.Spot.{Spot}
use Rattle.lr_base.specs.Logged.{AllReceived}
use Rattle.lr_base.specs.Meaning.{Meaning}
use Rattle.lr_base.specs.Orders.{IsAmong}
use Rattle.lr_base.specs.Rules.{Progress, apply_ready, is_covered, is_new, stamp_of, waiting}
use Rattle.lr_base.specs.Stamps.{Stamp, stamp_le}
use Rattle.lr_base.specs.StampLaws.{stamp_le-trans}
use Rattle.lr_value.specs.Applied.{Applied, Memory, all_ready, progress, progress_at}
use Rattle.lr_value.specs.Remembered.{IsSettledAt, Recalls, Remembers, is_among, is_at}
use Rattle.lr_value.specs.Waiting.{AreLeft, NoneReady}
use Rattle.lr_value.proofs.Ended.{all-grows}
use Rattle.lr_value.proofs.Numbered.{index-filter}

-- a spot is that of one among some updates where the update is
is_at-self : (s : Spot) → is_at s s ≡ true
is_at-self s =
    let place : (s.place == s.place) ≡ true = eq-eqb s.place s.place refl in
    let number : (s.number == s.number) ≡ true = eq-eqb s.number s.number refl in
    rw (place, number) refl

among-spots : {Op : Type 0} (u : LogUpdate Op) (updates : List (LogUpdate Op)) → IsAmong u updates
    → is_among (map (λ v. v.spot) updates) u.spot ≡ true
among-spots u [] among = absurd among
among-spots u (v ∷ updates) (inl same) =
    let e : is_at v.spot u.spot ≡ true = rw same (is_at-self v.spot) in
    rw e refl
among-spots u (v ∷ updates) (inr among) = go (is_at v.spot u.spot) refl (among-spots u updates among)
  where
    go : (t : Bool) → is_at v.spot u.spot ≡ t → is_among (map (λ w. w.spot) updates) u.spot ≡ true
        → (is_at v.spot u.spot || is_among (map (λ w. w.spot) updates) u.spot) ≡ true
    go true is rest = rw is refl
    go false is rest = rw is rest

module _ {Op : Type 0} where
  -- a memory that has seen all that was received recalls what it has of a log where nothing is ready
  none-new : (val_ts : Stamp) (updates : List (LogUpdate Op)) (memory : Memory) (received : Stamp)
      → memory.seen ≡ received → AllReceived received updates → Recalls val_ts updates memory
      → NoneReady val_ts updates
  none-new val_ts updates memory received same all recalls = λ k u e unapplied.
      (recalls k u e (rw same (all k u e)) unapplied).blocked

  -- an update that wasn't applied is among those that waited
  pub found : (before : Stamp) (us : List (LogUpdate Op)) (k : ℕ) (u : LogUpdate Op) → slice_get us k ≡ Some u
      → is_covered before u ≡ false
      → (j : ℕ) × (slice_get (waiting before us) j ≡ Some u)
  found before [] k u e unapplied = let no : None ≡ Some u = e in cc
  found before (x ∷ us) k u e unapplied =
      at k e (is_covered before x) refl (λ j f. found before us j u f unapplied)
    where
      at : (k : ℕ) → slice_get (x ∷ us) k ≡ Some u → (c : Bool) → is_covered before x ≡ c
          → ((j : ℕ) → slice_get us j ≡ Some u → (i : ℕ) × (slice_get (waiting before us) i ≡ Some u))
          → (j : ℕ) × (slice_get (waiting before (x ∷ us)) j ≡ Some u)
      at zero e true is later =
          let same : x ≡ u = cc in
          let yes : is_covered before u ≡ true = rw (← same) is in
          absurd (true≢false (sym yes ∙ unapplied))
      at zero e false is later = (0, rw is e)
      at (suc k) e true is later = let it = later k e in (it.0, rw is it.1)
      at (suc k) e false is later = let it = later k e in (suc it.0, rw is it.1)

  -- what waits among updates that were received was received
  pub waiting-received : (val_ts received : Stamp) (updates same : List (LogUpdate Op)) → same ≡ waiting val_ts updates
      → AllReceived received updates → AllReceived received same
  waiting-received val_ts received updates same is all =
      index-filter (λ u. is_new received u.spot ≡ false) (λ u. not (is_covered val_ts u)) updates same is all

module _ {Value Op : Type 0} where
  -- where the memory is of all that was received, nothing is to do
  pub settled-before : (v : Applied Value) (updates : List (LogUpdate Op)) (received : Stamp)
      → option_map (λ m. m.seen) v.memory ≡ Some received → AllReceived received updates → Remembers v updates
      → IsSettledAt received updates v
  settled-before v updates received looked all remembers = go v.memory refl
    where
      go : (m : Option Memory) → v.memory ≡ m → IsSettledAt received updates v
      go None is = let none : None ≡ Some received = rw is at looked in cc
      go (Some memory) is =
          let seen : Some memory.seen ≡ Some received = rw is at looked in
          let same : memory.seen ≡ received = cc in
          record {
            none_ready = none-new v.val_ts updates memory received same all (remembers memory is);
            remembers = remembers;
            looked = looked;
          }

  -- after applying the updates that are left are those that wait
  pub settled-after : (before after : Stamp) (v : Applied Value) (updates todo left : List (LogUpdate Op))
      (memory : Memory) (received : Stamp) → todo ≡ waiting before updates → stamp_le before after ≡ true
      → NoneReady after updates → AreLeft after todo left
      → memory.seen ≡ received → memory.waits ≡ map (λ u. u.spot) left
      → v.val_ts ≡ after → v.memory ≡ Some memory → IsSettledAt received updates v
  settled-after before after v updates todo left memory received are grown none of_left seen waits stamp has = record {
    none_ready = rw stamp none;
    remembers = λ m e.
        let same : memory ≡ m = cc in
        subst (λ (m : Memory). Recalls v.val_ts updates m) same (rw stamp recalls);
    looked = rw (has, seen) refl;
  }
    where
      unapplied-before : (u : LogUpdate Op) → is_covered after u ≡ false → (c : Bool) → is_covered before u ≡ c
          → is_covered before u ≡ false
      unapplied-before u unapplied true is =
          let yes : is_covered after u ≡ true = stamp_le-trans (stamp_of u) before after is grown in
          absurd (true≢false (sym yes ∙ unapplied))
      unapplied-before u unapplied false is = is

      recalls : Recalls after updates memory
      recalls k u e old unapplied =
          let it = found before updates k u e (unapplied-before u unapplied (is_covered before u) refl) in
          let here : slice_get todo it.0 ≡ Some u = rw are it.1 in
          record {
            blocked = none k u e unapplied;
            listed = rw waits (among-spots u left (of_left.others it.0 u here unapplied));
          }

  -- how far the stamp comes where all that is ready is applied
  pub ready-grows : (m : Meaning Value Op) (updates : List (LogUpdate Op)) (p q : Progress Value)
      → q ≡ all_ready m updates p → stamp_le p.val_ts q.val_ts ≡ true
  ready-grows m updates p q is =
      rw is (all-grows m (length (waiting p.val_ts updates)) (waiting p.val_ts updates) p)

  -- how far a copy of a value comes the value comes
  pub ready-at : (m : Meaning Value Op) (updates todo : List (LogUpdate Op)) (v : Applied Value) (value : Value)
      (val_ts : Stamp) (calls : List (Cid × Known)) (q : Progress Value) → todo ≡ waiting v.val_ts updates
      → value ≡ v.value → val_ts ≡ v.val_ts → q ≡ apply_ready m (length todo) todo (progress_at value val_ts calls)
      → q ≡ all_ready m updates (progress v calls)
  ready-at m updates todo v value val_ts calls q are same stamp is = is ∙ rw (are, same, stamp) refl
