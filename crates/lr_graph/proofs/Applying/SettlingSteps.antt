-- One step of applying what is ready: what holds of the updates that wait, of the value and of the table.
use Rattle.std.proofs.Common.{◌≡◌, ℕ, zero, suc, ◌<◌, ◌≤◌, nat_lt, leb-true, le-leb, Bool, true, false, cond, not, ◌&&◌, ◌||◌, ◌⊎◌, inl, inr, List, Some, None, is_some, refl, sym, ap, ◌∙◌, subst, true≢false, arith}
use Rattle.std.proofs.lemmas.Bool.{lt-ltb}
use Rattle.std.specs.Option.{option_or}
use Rattle.lr_base.specs.Ascending.{is_before, same_cid}
use Rattle.lr_base.specs.CallLaws.{some-entered}
use Rattle.lr_base.specs.Calls.{enter_call}
use Rattle.lr_base.specs.Meaning.{Meaning}
use Rattle.lr_base.specs.Orders.{IsAmong}
use Rattle.lr_base.specs.Rules.{Progress, apply_one, known_of, stamp_of}
use Rattle.lr_base.specs.StampLaws.{parts-stamp_le, stamp_le-parts, stamp_le-trans}
use Rattle.lr_base.specs.Stamps.{join, part, stamp_le}
use Rattle.lr_base.specs.declared.messages.Known.{Known}
use Rattle.lr_base.specs.declared.messages.LogUpdate.{LogUpdate}
use Rattle.lr_base.specs.declared.names.Cid.{Cid}
use Rattle.lr_base.specs.declared.names.Spot.{Spot}
use Rattle.lr_graph.specs.Closed.{Each, HasApartSpots, IsSound, causes}
use Rattle.lr_graph.specs.Graph.{Acceptance, Kept, has_call, kept_spot, least_spot, ready, value}
use Rattle.lr_graph.specs.Names.{IsCounted, Names, spot_at}
use Rattle.lr_graph.specs.Sets.{SpotSet, only, same_spot, ◌∪◌}
use Rattle.lr_graph.proofs.Sets.KeptSpots.{IsFirst, least_spot-first, spot_to_keep}
use Rattle.lr_graph.proofs.Lists.Members.{each-at, each-from, each-map}
use Rattle.lr_graph.proofs.Sets.ReadySets.{apart-same, below-accepted, below-parts, causes-accepted, holds-ready, names-join, ready-closed, ready-received, self-below, update-stamp}
use Rattle.lr_graph.proofs.Applying.Taking.{IsTaken, known_of-either}
use Rattle.lr_graph.proofs.Lists.Tests.{and-intro, and-right, and-true, never, or-cases, or-false, or-false_left, or-false_right, or-left, or-right, same_cid-is, same_spot-is, same_spot-self}
use Rattle.lr_graph.proofs.Related.Ties.{HasOneCall, HasUpdateAt, IsAscending, IsUpdateOf, StandsFor}
use Rattle.lr_graph.proofs.Sets.Values.{Commute, CommutesWithNewer, commutes-newer, has_call-more, has_call-wider, holds-has_call, value-again, value-new}

-- ---- what holds between two steps

-- what waits: the stamp stands for the named spots, the applied ones are among them, and each received one that isn't applied waits
pub record IsWaiting {Op : Type 0} (l : List (Acceptance Op)) (r done : SpotSet) (todo : List (LogUpdate Op)) (val_ts : List ℕ) (applied named : SpotSet) : Type 0 where
  pub names : Names val_ts named
  pub within : (s : Spot) → named s ≡ true → ready l r s ≡ true
  pub held : (s : Spot) → applied s ≡ true → named s ≡ true
  pub still : (s : Spot) → done s ≡ true → applied s ≡ true
  pub updates : Each (IsUpdateOf l r) todo
  pub fresh : Each (λ u. applied u.spot ≡ false) todo
  pub covered : Each (λ a. r a.spot ≡ true → applied a.spot ≡ false → HasUpdateAt a.spot todo) l
  pub ascending : IsAscending todo

-- the table has the calls of the applied ones but for those that left, each at the spot that is kept of it in the end
pub record IsTableSoFar {Op : Type 0} (l : List (Acceptance Op)) (r applied : SpotSet) (left : Cid → Bool) (kept : List Kept) (calls : List (Cid × Known)) : Type 0 where
  pub spots : (cid : Cid) (k : Known) → known_of calls cid ≡ Some k → spot_to_keep l (ready l r) kept cid ≡ Some k.spot
  pub known : (cid : Cid) → is_some (known_of calls cid) ≡ (has_call l applied cid && not (left cid))
  pub stamps : (cid : Cid) (k : Known) → known_of calls cid ≡ Some k → (a : Acceptance Op) × IsAmong a l × (k.spot ≡ a.spot) × (a.cid ≡ cid) × Names k.stamp a.below

-- applying has come so far: these updates wait, of no call that left, and the value and the table are those of the applied ones
pub record Settling {Value Op : Type 0} (m : Meaning Value Op) (l : List (Acceptance Op)) (r done : SpotSet) (left : Cid → Bool) (kept : List Kept) (todo : List (LogUpdate Op)) (p : Progress Value) (applied named : SpotSet) : Type 0 where
  pub waiting : IsWaiting l r done todo p.val_ts applied named
  pub value_is : p.value ≡ value m l applied
  pub known : Each (λ u. left u.cid ≡ false) todo
  pub table : IsTableSoFar l r applied left kept p.calls

-- ---- stamps and what is received

-- the stamp of a set is at most that of a wider set
pub names-within : (s t : List ℕ) (x y : SpotSet) → Names s x → Names t y → ((a : Spot) → x a ≡ true → y a ≡ true) → stamp_le s t ≡ true
names-within s t x y f g into = stamp_le-parts s t (λ place. at_place place (part s place) refl)
  where
    at_place : (place n : ℕ) → part s place ≡ n → part s place ≤ part t place
    at_place place zero e = omega arith
    at_place place (suc n) e = g.above (spot_at place (part s place)) (into _ (f.reached place (omega arith)))

-- with a number of a place a counted set has the lower numbers
pub counted-lower : (x : SpotSet) (stamp : List ℕ) → IsCounted x stamp → (s : Spot) (n : ℕ) → x (spot_at s.place n) ≡ true → 0 < s.number → s.number ≤ n → x s ≡ true
counted-lower x stamp counted s n here some low =
    let top : n ≤ part stamp s.place = leb-true n (part stamp s.place) (and-right (nat_lt 0 n) _ (sym (counted (spot_at s.place n)) ∙ here)) in
    counted s ∙ and-intro (nat_lt 0 s.number) _ (lt-ltb 0 s.number some) (le-leb s.number (part stamp s.place) (omega arith))

module _ {Op : Type 0} (l : List (Acceptance Op)) (r : SpotSet) (sound : IsSound l) where
  -- all that is below a ready acceptance is ready
  pub below-ready : (a : Acceptance Op) → IsAmong a l → ready l r a.spot ≡ true → (s : Spot) → a.below s ≡ true → ready l r s ≡ true
  below-ready a member is_ready s h =
      let b = below-accepted l sound a member s h in
      ap (ready l r) (sym b.2) ∙ each-at _ b.0 l (each-at _ a l (ready-closed l r sound) member is_ready) b.1 (ap a.below b.2 ∙ h)

  -- an acceptance is ready where it and its causes are received
  pub causes-ready : (a : Acceptance Op) → IsAmong a l → r a.spot ≡ true → ((s : Spot) → causes a s ≡ true → r s ≡ true) → ready l r a.spot ≡ true
  causes-ready a member here received = holds-ready l r a member here (each-from _ l (λ b in_l h. by_part b.spot (or-cases (causes a b.spot) _ (sym (below-parts a (self-below l sound.older a member) b.spot) ∙ h))))
    where
      by_part : (s : Spot) → (causes a s ≡ true) ⊎ (same_spot s a.spot ≡ true) → r s ≡ true
      by_part s (inl k) = received s k
      by_part s (inr k) = ap r (same_spot-is s a.spot k) ∙ here

  -- an update whose causes are at most the stamp of ready ones is ready itself
  pub applicable-ready : (rep_ts val_ts : List ℕ) (named : SpotSet) → IsCounted r rep_ts → Names val_ts named → ((s : Spot) → named s ≡ true → ready l r s ≡ true)
      → (u : LogUpdate Op) (a : Acceptance Op) → StandsFor l u a → stamp_le u.prev val_ts ≡ true → r a.spot ≡ true → ready l r a.spot ≡ true
  applicable-ready rep_ts val_ts named counted names within u a stands low here = causes-ready a stands.among here (λ s h.
      let b = causes-accepted l sound.older a stands.among s h in
      let some : 0 < s.number = subst (λ (k : Spot). 0 < k.number) b.2 (each-at _ b.0 l sound.numbered b.1) in
      let above : s.number ≤ part u.prev s.place = stands.prev.above s h in
      let lower : part u.prev s.place ≤ part val_ts s.place = parts-stamp_le u.prev val_ts low s.place in
      counted-lower r rep_ts counted s (part val_ts s.place) (ready-received l r _ (within _ (names.reached s.place (omega arith)))) some (omega arith))

-- ---- the table

module _ {Op : Type 0} (l : List (Acceptance Op)) (r applied : SpotSet) (left : Cid → Bool) (kept : List Kept) (calls : List (Cid × Known)) (t : IsTableSoFar l r applied left kept calls) (apart : HasApartSpots l) (a : Acceptance Op) (member : IsAmong a l) where
  -- an acceptance of a call that is known changes nothing
  table-again : has_call l applied a.cid ≡ true → IsTableSoFar l r (applied ∪ only a.spot) left kept calls
  table-again has = record {
    spots = t.spots;
    known = λ cid. t.known cid ∙ ap (λ b. b && not (left cid)) (absorbed cid (same_cid cid a.cid) refl ∙ sym (has_call-more l applied a apart member cid));
    stamps = t.stamps;
  }
    where
      absorbed : (cid : Cid) (same : Bool) → same_cid cid a.cid ≡ same → has_call l applied cid ≡ (same || has_call l applied cid)
      absorbed cid true e = ap (has_call l applied) (same_cid-is cid a.cid e) ∙ has
      absorbed cid false e = refl

  -- a call that isn't known is entered, at the spot that is kept of it
  table-new : (u : LogUpdate Op) → StandsFor l u a → left u.cid ≡ false → Names (stamp_of u) a.below → spot_to_keep l (ready l r) kept a.cid ≡ Some a.spot
      → IsTableSoFar l r (applied ∪ only a.spot) left kept (enter_call (u.cid, record { spot = u.spot; stamp = stamp_of u }) calls)
  table-new u stands stays stamp keeps = record {
    spots = λ cid k h. elim (known_of-either calls u.cid _ cid k h) [
      | inl before ↦ t.spots cid k before
      | inr new ↦ ap (spot_to_keep l (ready l r) kept) (new.0 ∙ stands.cid) ∙ keeps ∙ ap Some (sym stands.spot) ∙ ap (λ (j : Known). Some j.spot) new.1
    ];
    known = λ cid. some-entered _ calls cid ∙ (λ i. same_cid cid (stands.cid i) || t.known cid i)
        ∙ entered cid (same_cid cid a.cid) refl ∙ ap (λ b. b && not (left cid)) (sym (has_call-more l applied a apart member cid));
    stamps = λ cid k h. elim (known_of-either calls u.cid _ cid k h) [
      | inl before ↦ t.stamps cid k before
      | inr new ↦ (a, member, ap (λ (j : Known). j.spot) (sym new.1) ∙ stands.spot, sym (new.0 ∙ stands.cid), subst (λ (j : Known). Names j.stamp a.below) new.1 stamp)
    ];
  }
    where
      entered : (cid : Cid) (same : Bool) → same_cid cid a.cid ≡ same
          → (same || (has_call l applied cid && not (left cid))) ≡ ((same || has_call l applied cid) && not (left cid))
      entered cid false e = refl
      entered cid true e = sym (ap not (ap left (same_cid-is cid a.cid e ∙ sym stands.cid) ∙ stays))

-- ---- one step

-- of a call that isn't applied yet the update that is taken has the least ready spot
least-taken : {Op : Type 0} (l : List (Acceptance Op)) (r done : SpotSet) → IsSound l → HasOneCall l
    → (todo : List (LogUpdate Op)) (val_ts : List ℕ) (applied named : SpotSet) → IsWaiting l r done todo val_ts applied named
    → (u : LogUpdate Op) (rest : List (LogUpdate Op)) → IsTaken val_ts todo u rest → (a : Acceptance Op) → StandsFor l u a
    → ready l r a.spot ≡ true → has_call l applied a.cid ≡ false → least_spot l (ready l r) a.cid ≡ Some a.spot
least-taken {Op} l r done sound one_call todo val_ts applied named w u rest taken a stands is_ready lacks = least_spot-first l (ready l r) a stands.among is_ready first
  where
    first : (b : Acceptance Op) → IsAmong b l → ready l r b.spot ≡ true → b.cid ≡ a.cid → IsFirst a.spot b.spot
    first b in_l b_ready one =
        let out : applied b.spot ≡ false = never _ (λ here. true≢false (sym (holds-has_call l applied a.cid b in_l here one) ∙ lacks)) in
        let found = each-at _ b l w.covered in_l (ready-received l r b.spot b_ready) out in
        let x = found.0 in
        let of = each-at _ x todo w.updates found.1 in
        let same : of.0 ≡ b = apart-same l sound.apart of.0 b of.1.among in_l (sym of.1.spot ∙ found.2) in
        let low : stamp_le x.prev u.prev ≡ true = names-within x.prev u.prev (causes of.0) (causes a) of.1.prev stands.prev (λ s h. sym ((one_call b a in_l stands.among one).1 s) ∙ ap (λ (c : Acceptance Op). causes c s) (sym same) ∙ h) in
        by_order x found.2 (taken.first x found.1 (stamp_le-trans x.prev u.prev val_ts low taken.applicable))
      where
        by_order : (x : LogUpdate Op) → x.spot ≡ b.spot → (x ≡ u) ⊎ (is_before u.spot x.spot ≡ true) → IsFirst a.spot b.spot
        by_order x at (inl e) = inl (sym at ∙ ap (λ (y : LogUpdate Op). y.spot) e ∙ stands.spot)
        by_order x at (inr before) = inr (sym (λ i. is_before (stands.spot i) (at i)) ∙ before)

-- what waits after a step
waiting-step : {Op : Type 0} (l : List (Acceptance Op)) (r done : SpotSet) → IsSound l
    → (todo : List (LogUpdate Op)) (val_ts : List ℕ) (applied named : SpotSet) → IsWaiting l r done todo val_ts applied named
    → (u : LogUpdate Op) (rest : List (LogUpdate Op)) → IsTaken val_ts todo u rest → (a : Acceptance Op) → StandsFor l u a
    → ready l r a.spot ≡ true → IsWaiting l r done rest (join val_ts (stamp_of u)) (applied ∪ only a.spot) (named ∪ a.below)
waiting-step {Op} l r done sound todo val_ts applied named w u rest taken a stands is_ready = record {
  names = names-join val_ts (stamp_of u) named a.below w.names (update-stamp l sound u a stands);
  within = λ s h. elim (or-cases (named s) _ h) [ inl k ↦ w.within s k | inr k ↦ below-ready l r sound a stands.among is_ready s k ];
  held = λ s h. elim (or-cases (applied s) _ h) [
    | inl k ↦ or-left (named s) _ (w.held s k)
    | inr k ↦ or-right (named s) _ (ap a.below (same_spot-is s a.spot k) ∙ self-below l sound.older a stands.among)
  ];
  still = λ s h. or-left (applied s) _ (w.still s h);
  updates = each-from _ rest (λ x left. each-at _ x todo w.updates (taken.others x left));
  fresh = each-from _ rest (λ x left.
      or-false (applied x.spot) _ (ap (same_spot x.spot) (sym stands.spot) ∙ each-at _ x rest taken.apart left)
      ∙ each-at _ x todo w.fresh (taken.others x left));
  covered = each-map _ _ l (λ b at here out. behind b (or-false_right (applied b.spot) _ out) (at here (or-false_left (applied b.spot) _ out))) w.covered;
  ascending = taken.ascending;
}
  where
    behind : (b : Acceptance Op) → same_spot b.spot a.spot ≡ false → HasUpdateAt b.spot todo → HasUpdateAt b.spot rest
    behind b other found = by_part found.0 found.2 (taken.parted found.0 found.1)
      where
        by_part : (x : LogUpdate Op) → x.spot ≡ b.spot → (x ≡ u) ⊎ IsAmong x rest → HasUpdateAt b.spot rest
        by_part x at (inr left) = (x, left, at)
        by_part x at (inl e) =
            let one : b.spot ≡ a.spot = sym at ∙ ap (λ (y : LogUpdate Op). y.spot) e ∙ stands.spot in
            absurd (true≢false (sym (same_spot-self a.spot) ∙ ap (λ s. same_spot s a.spot) (sym one) ∙ other))

-- applying one update keeps what holds between two steps
pub settling-step : {Value Op : Type 0} (m : Meaning Value Op) (l : List (Acceptance Op)) (r done : SpotSet) (left : Cid → Bool) (kept : List Kept)
    → IsSound l → HasOneCall l → Each (λ a. Each (λ b. Commute m a.op b.op) l) l → ((cid : Cid) → left cid ≡ false → has_call l done cid ≡ false → kept_spot kept cid ≡ None)
    → (todo : List (LogUpdate Op)) (p : Progress Value) (applied named : SpotSet) → Settling m l r done left kept todo p applied named
    → (u : LogUpdate Op) (rest : List (LogUpdate Op)) → IsTaken p.val_ts todo u rest → (a : Acceptance Op) → StandsFor l u a → ready l r a.spot ≡ true
    → Settling m l r done left kept rest (apply_one m p u) (applied ∪ only a.spot) (named ∪ a.below)
settling-step {Value} {Op} m l r done left kept sound one_call commute unkept todo p applied named s u rest taken a stands is_ready =
    by_known (is_some (known_of p.calls u.cid)) refl
  where
    waits : IsWaiting l r done rest (join p.val_ts (stamp_of u)) (applied ∪ only a.spot) (named ∪ a.below)
    waits = waiting-step l r done sound todo p.val_ts applied named s.waiting u rest taken a stands is_ready

    commutes : CommutesWithNewer m applied a l
    commutes = commutes-newer m applied a l (each-at _ a l commute stands.among)

    out : applied a.spot ≡ false
    out = ap applied (sym stands.spot) ∙ each-at _ u todo s.waiting.fresh taken.among

    one_op : Each (λ b. a.cid ≡ b.cid → a.op ≡ b.op) l
    one_op = each-from _ l (λ b in_l one. (one_call a b stands.among in_l one).0)

    stays : left u.cid ≡ false
    stays = each-at _ u todo s.known taken.among

    keeps : has_call l applied a.cid ≡ false → spot_to_keep l (ready l r) kept a.cid ≡ Some a.spot
    keeps lacks =
        let lacked : has_call l done a.cid ≡ false = never _ (λ has. true≢false (sym (has_call-wider l done applied a.cid (λ b in_l here. s.waiting.still b.spot here) has) ∙ lacks)) in
        ap (λ k. option_or k (least_spot l (ready l r) a.cid)) (unkept a.cid (ap left (sym stands.cid) ∙ stays) lacked)
        ∙ least-taken l r done sound one_call todo p.val_ts applied named s.waiting u rest taken a stands is_ready lacks

    known_call : has_call l applied a.cid ≡ is_some (known_of p.calls u.cid)
    known_call = ap (has_call l applied) (sym stands.cid) ∙ sym (and-true (has_call l applied u.cid) _ (ap not stays)) ∙ sym (s.table.known u.cid)

    others : Each (λ x. left x.cid ≡ false) rest
    others = each-from _ rest (λ x in_rest. each-at _ x todo s.known (taken.others x in_rest))

    by_known : (t : Bool) → is_some (known_of p.calls u.cid) ≡ t → Settling m l r done left kept rest
        (cond {A = Progress Value} t (record p { val_ts = join p.val_ts (stamp_of u) })
        (record { value = m.apply p.value u.op; val_ts = join p.val_ts (stamp_of u); calls = enter_call (u.cid, record { spot = u.spot; stamp = stamp_of u }) p.calls }))
        (applied ∪ only a.spot) (named ∪ a.below)
    by_known true e = record {
      waiting = waits;
      known = others;
      value_is = s.value_is ∙ sym (value-again m l applied a sound.apart one_op stands.among out (known_call ∙ e) commutes);
      table = table-again l r applied left kept p.calls s.table sound.apart a stands.among (known_call ∙ e);
    }
    by_known false e = record {
      waiting = waits;
      known = others;
      value_is = (λ i. m.apply (s.value_is i) (stands.op i)) ∙ sym (value-new m l applied a sound.apart stands.among out (known_call ∙ e) commutes);
      table = table-new l r applied left kept p.calls s.table sound.apart a stands.among u stands stays (update-stamp l sound u a stands) (keeps (known_call ∙ e));
    }
