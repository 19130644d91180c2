-- Applying all that is ready: the value, its stamp and the table are those of the ready set.
use Rattle.std.proofs.Common.{◌≡◌, ℕ, zero, suc, ◌≤◌, Bool, true, false, not, ◌&&◌, inl, inr, List, [], ◌∷◌, length, Option, Some, None, is_some, refl, sym, ap, ◌∙◌, true≢false, arith}
use Rattle.std.specs.Option.{option_map, option_map_or, option_or}
use Rattle.lr_base.specs.Meaning.{Encoding, Lawful, Meaning}
use Rattle.lr_base.specs.Orders.{IsAmong}
use Rattle.lr_base.specs.Rules.{CausalState, Progress, applied as after_applying, apply_one, apply_ready, is_covered, known_of, progress_of, take_ready, waiting}
use Rattle.lr_base.specs.Stamps.{stamp_le}
use Rattle.lr_base.specs.declared.lr_service.Kind.{Kind}
use Rattle.lr_base.specs.declared.messages.Known.{Known}
use Rattle.lr_base.specs.declared.messages.LogUpdate.{LogUpdate}
use Rattle.lr_base.specs.declared.names.Cid.{Cid}
use Rattle.lr_base.specs.declared.names.Spot.{Spot}
use Rattle.lr_graph.specs.Closed.{Each, HasOlderCauses, IsSound, causes}
use Rattle.lr_graph.specs.Graph.{Acceptance, Kept, has_call, keep_new, kept_spot, least_spot, ready, value}
use Rattle.lr_graph.specs.Names.{IsCounted, Names}
use Rattle.lr_graph.specs.Sets.{SpotSet}
use Rattle.lr_graph.proofs.Sets.KeptSpots.{keep_new-is, least_spot-lacks, spot_to_keep}
use Rattle.lr_graph.proofs.Lists.Members.{among-filter, each-at, each-from, each-map, filter-each}
use Rattle.lr_graph.proofs.Sets.ReadySets.{apart-same, names-same, ready-holds, ready-received}
use Rattle.lr_graph.proofs.Applying.SettlingSteps.{IsTableSoFar, IsWaiting, Settling, applicable-ready, below-ready, names-within, settling-step}
use Rattle.lr_graph.proofs.Applying.Taking.{ascending-filter, take_ready-none, take_ready-some}
use Rattle.lr_graph.proofs.Lists.Tests.{and-left, and-right, and-true, never, not-false, same-test}
use Rattle.lr_graph.proofs.Related.Ties.{HasApplied, HasOneCall, HasUpdateAt, IsFree, IsPending, IsTableOf, IsUpdateOf}
use Rattle.lr_graph.proofs.Sets.Values.{Commute, has_call-same, has_call-wider, value-same}

-- ---- the end

-- where no update that waits has its causes applied, each ready acceptance is applied
all-applied : {Op : Type 0} (l : List (Acceptance Op)) (r done : SpotSet) → IsSound l → (todo : List (LogUpdate Op)) (val_ts : List ℕ) (applied named : SpotSet)
    → IsWaiting l r done todo val_ts applied named
    → Each (λ u. stamp_le u.prev val_ts ≡ false) todo → (s : Spot) → ready l r s ≡ true → applied s ≡ true
all-applied {Op} l r done sound todo val_ts applied named w none s h =
    let a = ready-holds l r s h in
    ap applied a.2 ∙ each-at _ a.0 l (from_oldest l sound.older (λ b in_l. in_l)) a.1 (ap (ready l r) (sym a.2) ∙ h)
  where
    -- an update of an acceptance whose causes are named would have been taken
    refuted : (a : Acceptance Op) → IsAmong a l → ((k : Spot) → causes a k ≡ true → named k ≡ true) → HasUpdateAt a.spot todo → ⊥
    refuted a member into found =
        let u = found.0 in
        let of = each-at _ u todo w.updates found.1 in
        let same : of.0 ≡ a = apart-same l sound.apart of.0 a of.1.among member (sym of.1.spot ∙ found.2) in
        let low : stamp_le u.prev val_ts ≡ true = names-within u.prev val_ts (causes of.0) named of.1.prev w.names (λ k here. into k (ap (λ (c : Acceptance Op). causes c k) (sym same) ∙ here)) in
        true≢false (sym low ∙ each-at _ u todo none found.1)

    from_oldest : (k : List (Acceptance Op)) → HasOlderCauses k → ((b : Acceptance Op) → IsAmong b k → IsAmong b l) → Each (λ a. ready l r a.spot ≡ true → applied a.spot ≡ true) k
    from_oldest [] older into = tt
    from_oldest (a ∷ k) older into =
        let rest = from_oldest k older.2 (λ b in_k. into b (inr in_k)) in
        ((λ is_ready. by_case rest is_ready (applied a.spot) refl), rest)
      where
        by_case : Each (λ b. ready l r b.spot ≡ true → applied b.spot ≡ true) k → ready l r a.spot ≡ true → (t : Bool) → applied a.spot ≡ t → t ≡ true
        by_case rest is_ready true e = refl
        by_case rest is_ready false e =
            let member = into a (inl refl) in
            absurd (refuted a member (is_named member) (each-at _ a l w.covered member (ready-received l r a.spot is_ready) e))
          where
            is_named : IsAmong a l → (c : Spot) → causes a c ≡ true → named c ≡ true
            is_named member c here =
                let b = older.1 c here in
                let b_ready : ready l r b.0.spot ≡ true = ap (ready l r) b.2 ∙ below-ready l r sound a member is_ready c (and-left (a.below c) _ here) in
                w.held c (ap applied (sym b.2) ∙ each-at _ b.0 k rest b.1 b_ready)

-- all that is ready is applied
pub record IsSettled {Value Op : Type 0} (m : Meaning Value Op) (l : List (Acceptance Op)) (r : SpotSet) (left : Cid → Bool) (kept : List Kept) (p : Progress Value) : Type 0 where
  pub names : Names p.val_ts (ready l r)
  pub value_is : p.value ≡ value m l (ready l r)
  pub table : IsTableOf l (ready l r) left (keep_new l (ready l r) l kept) p.calls

-- the table at the end is that of the ready set
table-end : {Op : Type 0} (l : List (Acceptance Op)) (r done applied : SpotSet) (left : Cid → Bool) (kept : List Kept) (calls : List (Cid × Known))
    → ((cid : Cid) → left cid ≡ false → has_call l done cid ≡ false → kept_spot kept cid ≡ None) → ((cid : Cid) → left cid ≡ true → has_call l done cid ≡ true)
    → IsTableSoFar l r applied left kept calls → ((s : Spot) → done s ≡ true → applied s ≡ true) → ((s : Spot) → applied s ≡ ready l r s) → IsTableOf l (ready l r) left (keep_new l (ready l r) l kept) calls
table-end l r done applied left kept calls unkept were t still same = record {
  spots = λ cid stays. by_known cid stays (known_of calls cid) refl ∙ sym (keep_new-is l (ready l r) kept cid);
  known = known;
  were = λ cid is. sym (has_call-same l applied (ready l r) cid (each-from _ l (λ a in_l. same a.spot))) ∙ wider cid (were cid is);
  stamps = t.stamps;
}
  where
    known : (cid : Cid) → is_some (known_of calls cid) ≡ (has_call l (ready l r) cid && not (left cid))
    known cid = t.known cid ∙ ap (λ b. b && not (left cid)) (has_call-same l applied (ready l r) cid (each-from _ l (λ a in_l. same a.spot)))

    wider : (cid : Cid) → has_call l done cid ≡ true → has_call l applied cid ≡ true
    wider cid has = has_call-wider l done applied cid (λ b in_l here. still b.spot here) has

    by_known : (cid : Cid) → left cid ≡ false → (o : Option Known) → known_of calls cid ≡ o → option_map (λ k. k.spot) o ≡ spot_to_keep l (ready l r) kept cid
    by_known cid stays (Some k) e = sym (t.spots cid k e)
    by_known cid stays None e =
        let absent : has_call l applied cid ≡ false = sym (and-true _ _ (ap not stays)) ∙ sym (t.known cid) ∙ ap is_some e in
        let lacked : has_call l done cid ≡ false = never _ (λ has. true≢false (sym (wider cid has) ∙ absent)) in
        let unready : has_call l (ready l r) cid ≡ false = sym (and-true _ _ (ap not stays)) ∙ sym (known cid) ∙ ap is_some e in
        sym (ap (λ k. option_or k (least_spot l (ready l r) cid)) (unkept cid stays lacked) ∙ least_spot-lacks l (ready l r) cid unready)

-- where nothing that waits can be applied, all is settled
settling-end : {Value Op : Type 0} (m : Meaning Value Op) (l : List (Acceptance Op)) (r done : SpotSet) (left : Cid → Bool) (kept : List Kept) → IsSound l
    → ((cid : Cid) → left cid ≡ false → has_call l done cid ≡ false → kept_spot kept cid ≡ None) → ((cid : Cid) → left cid ≡ true → has_call l done cid ≡ true)
    → (todo : List (LogUpdate Op)) (p : Progress Value) (applied named : SpotSet) → Settling m l r done left kept todo p applied named → Each (λ u. stamp_le u.prev p.val_ts ≡ false) todo → IsSettled m l r left kept p
settling-end m l r done left kept sound unkept were todo p applied named s none = record {
  names = names-same p.val_ts named (ready l r) (λ k. same-test _ _ (s.waiting.within k) (λ h. s.waiting.held k (all k h))) s.waiting.names;
  value_is = s.value_is ∙ value-same m l applied (ready l r) (each-from _ l (λ a in_l. same a.spot));
  table = table-end l r done applied left kept p.calls unkept were s.table s.waiting.still same;
}
  where
    all : (k : Spot) → ready l r k ≡ true → applied k ≡ true
    all = all-applied l r done sound todo p.val_ts applied named s.waiting none

    same : (k : Spot) → applied k ≡ ready l r k
    same k = same-test _ _ (λ h. s.waiting.within k (s.waiting.held k h)) (all k)

-- ---- the loop

-- with a turn for each update that waits, all that is ready is applied
pub settling-all : {Value Op : Type 0} (m : Meaning Value Op) (l : List (Acceptance Op)) (r done : SpotSet) (left : Cid → Bool) (kept : List Kept) (rep_ts : List ℕ)
    → IsSound l → HasOneCall l → Each (λ a. Each (λ b. Commute m a.op b.op) l) l → IsCounted r rep_ts → ((cid : Cid) → left cid ≡ false → has_call l done cid ≡ false → kept_spot kept cid ≡ None) → ((cid : Cid) → left cid ≡ true → has_call l done cid ≡ true)
    → (turns : ℕ) (todo : List (LogUpdate Op)) (p : Progress Value) (applied named : SpotSet) → Settling m l r done left kept todo p applied named → length todo ≤ turns → IsSettled m l r left kept (apply_ready m turns todo p)
settling-all {Value} {Op} m l r done left kept rep_ts sound one_call commute counted unkept were zero todo p applied named s enough =
    settling-end m l r done left kept sound unkept were todo p applied named s (none_left todo enough)
  where
    none_left : (us : List (LogUpdate Op)) → length us ≤ 0 → Each (λ u. stamp_le u.prev p.val_ts ≡ false) us
    none_left [] h = tt
    none_left (u ∷ us) h = absurd (omega arith)
settling-all {Value} {Op} m l r done left kept rep_ts sound one_call commute counted unkept were (suc turns) todo p applied named s enough =
    by_taken (take_ready p.val_ts todo) refl (λ taken. settling-all m l r done left kept rep_ts sound one_call commute counted unkept were turns taken.1 (apply_one m p taken.0))
  where
    by_taken : (o : Option (LogUpdate Op × List (LogUpdate Op))) → take_ready p.val_ts todo ≡ o
        → ((taken : LogUpdate Op × List (LogUpdate Op)) (applied named : SpotSet) → Settling m l r done left kept taken.1 (apply_one m p taken.0) applied named → length taken.1 ≤ turns → IsSettled m l r left kept (apply_ready m turns taken.1 (apply_one m p taken.0)))
        → IsSettled m l r left kept (option_map_or {T = LogUpdate Op × List (LogUpdate Op)} (λ taken. apply_ready m turns taken.1 (apply_one m p taken.0)) o p)
    by_taken None e go_on = settling-end m l r done left kept sound unkept were todo p applied named s (take_ready-none p.val_ts todo e)
    by_taken (Some taken) e go_on =
        let t = take_ready-some p.val_ts todo taken s.waiting.ascending e in
        let of = each-at _ taken.0 todo s.waiting.updates t.among in
        let is_ready : ready l r of.0.spot ≡ true = applicable-ready l r sound rep_ts p.val_ts named counted s.waiting.names s.waiting.within taken.0 of.0 of.1 t.applicable of.2 in
        let fewer = t.fewer in
        go_on taken _ _ (settling-step m l r done left kept sound one_call commute unkept todo p applied named s taken.0 taken.1 t of.0 of.1 is_ready) (omega arith)

-- ---- the start, and the whole

-- where more was received, applying begins with what waits
settling-start : {Value Op : Type 0} (m : Meaning Value Op) (l : List (Acceptance Op)) (r g done : SpotSet) (left : Cid → Bool) (kept : List Kept) (state : CausalState Value Op)
    → IsPending m l r g done left kept state
    → Settling m l r done left kept (waiting state.val_ts state.updates) (progress_of state) done done
settling-start {Value} {Op} m l r g done left kept state pending = record {
  waiting = record {
    names = pending.applied.names;
    within = pending.within;
    held = λ s h. h;
    still = λ s h. h;
    updates = each-map _ _ (waiting state.val_ts state.updates) (λ u h. h.0) (filter-each (IsUpdateOf l r) waits state.updates (each-map _ _ state.updates (λ u of. (of.0, of.1, pending.received of.0.spot of.2)) pending.log.each));
    fresh = each-map _ _ (waiting state.val_ts state.updates) (λ u h. sym h.0 ∙ not-false _ h.1) (filter-each _ waits state.updates pending.flagged);
    covered = each-from _ l (λ a in_l here out.
        let found = each-at _ a l pending.log.all in_l (each-at _ a l pending.covered in_l here out) in
        (found.0, among-filter waits found.0 state.updates found.1 (ap not (each-at _ found.0 state.updates pending.flagged found.1 ∙ ap done found.2 ∙ out)), found.2));
    ascending = ascending-filter waits state.updates pending.log.ascending;
  };
  value_is = pending.applied.value_is;
  known = each-map _ _ (waiting state.val_ts state.updates) (λ u h. h.0 (not-false _ h.1)) (filter-each (λ u. is_covered state.val_ts u ≡ false → left u.cid ≡ false) waits state.updates (each-from _ state.updates alive));
  table = record {
    spots = λ cid k e. ap (λ o. option_or o (least_spot l (ready l r) cid)) (sym (pending.applied.table.spots cid (stays cid k e)) ∙ ap (option_map (λ j. j.spot)) e);
    known = pending.applied.table.known;
    stamps = pending.applied.table.stamps;
  };
}
  where
    waits : LogUpdate Op → Bool
    waits u = not (is_covered state.val_ts u)

    -- an update that isn't applied is of no call that left
    alive : (u : LogUpdate Op) → IsAmong u state.updates → is_covered state.val_ts u ≡ false → left u.cid ≡ false
    alive u member out =
        let of = each-at _ u state.updates pending.log.each member in
        never (left u.cid) (λ gone. true≢false (sym (each-at _ of.0 l pending.over of.1.among (ap left (sym of.1.cid) ∙ gone))
        ∙ ap done (sym of.1.spot) ∙ sym (each-at _ u state.updates pending.flagged member) ∙ out))

    -- nor is a call of the table
    stays : (cid : Cid) (k : Known) → known_of state.calls cid ≡ Some k → left cid ≡ false
    stays cid k e = not-false (left cid) (and-right (has_call l done cid) _ (sym (pending.applied.table.known cid) ∙ ap is_some e))

-- acceptances of which none need one order commute
all-commute : {Value Op : Type 0} (m : Meaning Value Op) {e : Encoding Value} (kind_of : Op → Kind) → Lawful m e kind_of → (l : List (Acceptance Op)) → IsFree m l → Each (λ a. Each (λ b. Commute m a.op b.op) l) l
all-commute m kind_of lawful l free = each-from _ l (λ a in_a. each-from _ l (λ b in_b v.
    lawful.commute v a.op b.op (each-at _ a l free.updates in_a) (each-at _ b l free.updates in_b) (each-at _ b l (each-at _ a l free.unordered in_a) in_b)))

-- after applying, the value, its stamp and the table are those of all that is ready
pub settled : {Value Op : Type 0} (m : Meaning Value Op) {e : Encoding Value} (kind_of : Op → Kind) → Lawful m e kind_of
    → (l : List (Acceptance Op)) (r g done : SpotSet) (left : Cid → Bool) (kept : List Kept) (state : CausalState Value Op)
    → IsSound l → HasOneCall l → IsFree m l → IsPending m l r g done left kept state
    → HasApplied m l (ready l r) left (keep_new l (ready l r) l kept) (after_applying m state)
settled m kind_of lawful l r g done left kept state sound one_call free pending = record {
  names = whole.names;
  value_is = whole.value_is;
  table = whole.table;
}
  where
    unkept : (cid : Cid) → left cid ≡ false → has_call l done cid ≡ false → kept_spot kept cid ≡ None
    unkept cid stays lacks = by_known (known_of state.calls cid) (sym (pending.applied.table.spots cid stays)) (pending.applied.table.known cid ∙ ap (λ b. b && not (left cid)) lacks)
      where
        by_known : (o : Option Known) → kept_spot kept cid ≡ option_map (λ k. k.spot) o → is_some o ≡ false → kept_spot kept cid ≡ None
        by_known None e none = e
        by_known (Some k) e none = absurd (true≢false none)

    whole : IsSettled m l r left kept (apply_ready m (length (waiting state.val_ts state.updates)) (waiting state.val_ts state.updates) (progress_of state))
    whole = settling-all m l r done left kept state.rep_ts sound one_call (all-commute m kind_of lawful l free) pending.counted unkept pending.applied.table.were _ (waiting state.val_ts state.updates) (progress_of state) done done (settling-start m l r g done left kept state pending) (omega arith)
