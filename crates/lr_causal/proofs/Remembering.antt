-- What a value remembers of a log stays so as the log gains what is new.
use Rattle.std.proofs.Common.{◌≡◌, ℕ, true, false, List, Option, None, Some, ◌∙◌}
use Rattle.std.specs.Option.{option_map}
use Rattle.lr_base.specs.Ascending.{is_before}
use Rattle.lr_base.specs.declared.messages.LogUpdate.{LogUpdate}
use Rattle.lr_base.specs.Rules.{insert_update, insert_updates, is_covered, is_new, new_updates}
use Rattle.lr_base.specs.StampLaws.{stamp_le-refl, stamp_le-trans}
use Rattle.lr_base.specs.Stamps.{stamp_le}
use Rattle.lr_causal.specs.Causal.{HasSeen}
use Rattle.lr_causal.proofs.Each.{Each-insert, Each-insert_all, Each-passes}
use Rattle.lr_causal.proofs.Received.{new-earlier}
use Rattle.lr_value.specs.Applied.{Applied, Memory}
use Rattle.lr_value.specs.Remembered.{Remembers, Waits}

-- what was seen was received, and so it was later
pub HasSeen-later : (rep_ts later : List ℕ) (memory : Option Memory) → stamp_le rep_ts later ≡ true
    → HasSeen rep_ts memory → HasSeen later memory
HasSeen-later rep_ts later memory above seen = λ it e. stamp_le-trans it.seen rep_ts later (seen it e) above

-- all that was received was looked at
pub HasSeen-looked : (rep_ts received : List ℕ) (memory : Option Memory) → received ≡ rep_ts
    → option_map (λ it. it.seen) memory ≡ Some received → HasSeen rep_ts memory
HasSeen-looked rep_ts received None at looked = λ it e. let none : None ≡ Some it = e in cc
HasSeen-looked rep_ts received (Some memory) at looked = λ it e.
    let same : memory ≡ it = cc in
    let seen : memory.seen ≡ rep_ts = (let here : memory.seen ≡ received = cc in here) ∙ at in
    rw (← same, seen) (stamp_le-refl rep_ts)

module _ {Value Op : Type 0} (v : Applied Value) (rep_ts : List ℕ) (seen : HasSeen rep_ts v.memory) where
  -- what is remembered of one update
  abbrev Recalled : Memory → LogUpdate Op → Type 0
  Recalled it u = is_new it.seen u.spot ≡ false → is_covered v.val_ts u ≡ false → Waits v.val_ts it.waits u

  -- of one that is new nothing is asked
  recalled-new : (it : Memory) → v.memory ≡ Some it → (u : LogUpdate Op) → is_new rep_ts u.spot ≡ true → Recalled it u
  recalled-new it e u new = λ old uncovered.
      let earlier : is_new it.seen u.spot ≡ true = new-earlier it.seen rep_ts u.spot (seen it e) new in
      absurd (cc)

  -- a log that gained an update that is new
  pub Remembers-more : (u : LogUpdate Op) (updates now : List (LogUpdate Op)) → now ≡ insert_update u updates
      → is_new rep_ts u.spot ≡ true → Remembers v updates → Remembers v now
  Remembers-more u updates now is new all = λ it e.
      rw is (Each-insert (Recalled it) (λ (a b : LogUpdate Op). is_before a.spot b.spot) u updates
      (recalled-new it e u new) (all it e))

  -- a log that gained what is new of some
  pub Remembers-gained : (told new updates now : List (LogUpdate Op)) → new ≡ new_updates rep_ts told
      → now ≡ insert_updates new updates → Remembers v updates → Remembers v now
  Remembers-gained told new updates now is gained all = λ it e.
      rw (gained, is) (Each-insert_all (Recalled it) (λ (a b : LogUpdate Op). is_before a.spot b.spot)
      (new_updates rep_ts told) updates
      (Each-passes (Recalled it) (λ u. is_new rep_ts u.spot) told (λ u new. recalled-new it e u new)) (all it e))

-- the same updates under another name
pub Remembers-along : {Value Op : Type 0} (v : Applied Value) (updates now : List (LogUpdate Op)) → now ≡ updates
    → Remembers v updates → Remembers v now
Remembers-along v updates now is all = rw is all
