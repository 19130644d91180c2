-- What a message itself does at a replica is the same in the graph and by the rules.
use Rattle.std.proofs.Common.{◌≡◌, ◌≢◌, ℕ, suc, ◌+◌, ◌<◌, ◌≤◌, ◌^◌, Bool, true, false, cond, nat_lt, find, List, [], ◌∷◌, length, Option, Some, None, refl, sym, ap, ◌∙◌, subst, subst₂, arith, true≢false}
use Rattle.std.specs.Option.{option_map}
use Rattle.lr_base.specs.Ascending.{same_cid}
use Rattle.lr_base.specs.Kinds.{IsUpdate, has_rules}
use Rattle.lr_base.specs.Meaning.{Meaning}
use Rattle.lr_base.specs.Orders.{IsAmong}
use Rattle.lr_base.specs.Rules.{CausalState, fresh_of, fresh_when, is_late, known_of, stamp_of, taken_before}
use Rattle.lr_base.specs.Stamps.{part, stamp_le}
use Rattle.lr_base.specs.Steps.{Ending, ack_taken, call_taken, has_number, has_room, own_taken, query_held, query_taken, update_taken}
use Rattle.lr_base.specs.declared.events.Outcome.{Outcome}
use Rattle.lr_base.specs.declared.events.Outcome.TheVariants.{Accept, Refuse}
use Rattle.lr_base.specs.declared.events.Refusal.TheVariants.{FullHeld, FullLog, Late as LateThere, Noted as NotedThere, Settled as SettledThere, Worn}
use Rattle.lr_base.specs.declared.messages.Call.{Call}
use Rattle.lr_base.specs.declared.messages.Fresh.{Fresh}
use Rattle.lr_base.specs.declared.messages.Fresh.TheVariants.{Late}
use Rattle.lr_base.specs.declared.messages.Known.{Known}
use Rattle.lr_base.specs.declared.messages.LogAck.{LogAck}
use Rattle.lr_base.specs.declared.messages.LogUpdate.{LogUpdate}
use Rattle.lr_base.specs.declared.messages.Message.{Message}
use Rattle.lr_base.specs.declared.names.Actor.{Actor}
use Rattle.lr_base.specs.declared.names.Actor.TheVariants.{Client, Replica}
use Rattle.lr_base.specs.declared.names.Cid.{Cid}
use Rattle.lr_base.specs.declared.names.Config.{Config}
use Rattle.lr_base.specs.declared.names.Spot.{Spot}
use Rattle.lr_graph.specs.Graph.{Acceptance, AckCopy, Carried, Facts, LabelledCall, QueryCopy, UpdateCopy, is_within, has_call, item_spots, least_spot, made}
use Rattle.lr_graph.specs.Legal.{has_number as has_number_here, has_room as has_room_here}
use Rattle.lr_graph.specs.Legal.{accept_lines, ack_lines, done_line, next_spot, kept_at, noted_at, message_lines, query_lines, taken_at, update_lines, copy_lines}
use Rattle.lr_graph.specs.Closed.{Each}
use Rattle.lr_graph.specs.Names.{spot_at}
use Rattle.lr_graph.specs.Runs.{RunState}
use Rattle.lr_graph.proofs.Stamps.Central.{stamp_le-within}
use Rattle.lr_graph.proofs.Replicas.GossipSteps.{own-taken}
use Rattle.lr_graph.proofs.Logs.LeastLogged.{least-find}
use Rattle.lr_graph.proofs.StateLines.Listing.{size-log}
use Rattle.lr_graph.proofs.Lists.Members.{each-at, each-map, find-some}
use Rattle.lr_graph.proofs.Logs.Items.{accepted-item}
use Rattle.lr_graph.proofs.Pruning.Known.{all-have, left-received, whole-at}
use Rattle.lr_graph.proofs.Pruning.Once.{new-here}
use Rattle.lr_graph.proofs.Pruning.Tables.{kept-known}
use Rattle.lr_graph.proofs.Replicas.Noting.{own-noted}
use Rattle.lr_graph.proofs.Replicas.Own.{own-again, own-answered, own-refused}
use Rattle.lr_graph.proofs.Sets.ReadySets.{update-stamp}
use Rattle.lr_graph.proofs.Replicas.Receiving.{own-accepted, own-held, spot}
use Rattle.lr_graph.proofs.Related.Relation.{HasNoted, IsIssued, IsReplicaAt, IsShared, IsTied, IsWay, SameCall, SameCarried, SameList, calls_in, same_ack, same_answer, same_done, same_gossip, same_query, same_update}
use Rattle.lr_graph.proofs.Replicas.Stepping.{IsOwnPart}
use Rattle.lr_graph.proofs.Logs.Tallying.{made-count}
use Rattle.lr_graph.proofs.Lists.Tests.{never, or-left, same_cid-is}
use Rattle.lr_graph.specs.After.{Handling}
use Rattle.lr_graph.specs.Spread.{IsGossipSpread, has_item}
use Rattle.lr_graph.specs.Pruned.{is_acked, is_left, logged, told_by}
use Rattle.lr_graph.proofs.Handled.{came_in}
use Rattle.lr_graph.proofs.Histories.Updates.{IsPlain}

same-length : {A B : Type 0} (R : A → B → Type 0) (xs : List A) (ys : List B) → SameList R xs ys → length xs ≡ length ys
same-length R [] [] h = refl
same-length R [] (y ∷ ys) h = absurd h
same-length R (x ∷ xs) [] h = absurd h
same-length R (x ∷ xs) (y ∷ ys) h = ap suc (same-length R xs ys h.1)

-- each acceptance is at a replica that there is, which received it
module _ {Value Op : Type 0} (m : Meaning Value Op) (config : Config) (issued : Cid → Option (LabelledCall Op)) (w : Facts Op) (v : RunState Value Op) (shared : IsShared m config issued w v.fronts v.posted) where
  pub item-places : Each (λ a. a.spot.place < config.replicas) w.accepted
  item-places = each-map _ _ w.accepted (λ a h. h.place) shared.each

  pub item-own : (a : Acceptance Op) → IsAmong a w.accepted → w.received a.spot.place a.spot ≡ true
  item-own a member = shared.own a.spot (accepted-item w a member)

module _ {Value Op : Type 0} (m : Meaning Value Op) (config : Config) (issued : Cid → Option (LabelledCall Op)) (w : Facts Op) (v : RunState Value Op) (shared : IsShared m config issued w v.fronts v.posted)
    (i : ℕ) (here : i < config.replicas) (state : CausalState Value Op) (ok : IsReplicaAt m config w.accepted (w.received i) (logged config w i) (is_left config w i) (w.kept i) (w.held i) state)
    (noted : HasNoted config.replicas w.acks (is_acked config w i) (w.clock i) (told_by w i) state) (others : (j : ℕ) → j ≢ i → j < config.replicas → IsTied m config w v.replicas j) (number : ℕ) (from : Actor) where
  abbrev came : Carried Op → Handling Op
  came what = came_in (Some (record { number = number; from = from; to = Replica i; what = what }))

  -- as many items were made at its place as the stamp counts
  own_made : made (item_spots w) i ≡ part state.rep_ts i
  own_made = made-count (item_spots w) shared.apart shared.numbered (w.received i) state.rep_ts ok.counted (shared.exist i) i (λ s member place. ap (λ k. w.received k s) (sym place) ∙ shared.own s member)

  number-same : has_number_here w i ≡ has_number i state
  number-same = ap (λ n. nat_lt n (2 ^ 62)) own_made

  -- and the log has as many items
  room-same : has_room_here config w i ≡ has_room state
  room-same =
      let updates = size-log w.accepted (logged config w i) state.updates shared.sound ok.log in
      let acks = ap length (sym noted.acks_are) in
      ap (λ n. nat_lt n 512) (λ k. updates k + acks k)

  -- an acknowledgement of a call is found alike
  noted-same : (c d : Cid) → c ≡ d → noted_at config w i c ≡ option_map (λ a. a.spot) (find (λ a. same_cid a.cid d) state.acks)
  noted-same c d same = λ k. option_map (λ a. a.spot) (find (λ a. same_cid a.cid (same k)) (sym noted.acks_are k))

  -- ---- a query

  module _ (c : LabelledCall Op) (d : Call Op) (same : SameCall w.accepted c d) (is_issued : IsIssued config.clients issued (calls_in w) c) where
    own-query : IsOwnPart m config issued w v i (came (QueryCopy c)) (query_lines m w i c (is_within w.accepted c.label (w.received i)) (nat_lt (length (w.held i)) 1024)) (query_taken m state d (stamp_le d.prev state.val_ts))
    own-query = by_test (is_within w.accepted c.label (w.received i)) (stamp_le d.prev state.val_ts)
        (sym (stamp_le-within w.accepted shared.sound (w.received i) state.rep_ts ok.counted state.val_ts ok.applied.names d.prev c.label same.names same.set))
      where
        by_room : (s t : Bool) → s ≡ t → IsOwnPart m config issued w v i (came (QueryCopy c)) (query_lines m w i c false s) (query_held state d t)
        by_room true true q = own-held m config issued w v shared i here state ok noted others number from c d same is_issued.client
        by_room false false q = own-refused m config issued w v shared i state ok noted others (came (QueryCopy c)) FullHeld
        by_room true false q = absurd (true≢false q)
        by_room false true q = absurd (true≢false (sym q))

        by_test : (s t : Bool) → s ≡ t → IsOwnPart m config issued w v i (came (QueryCopy c)) (query_lines m w i c s (nat_lt (length (w.held i)) 1024)) (query_taken m state d t)
        by_test true true q = own-answered m config issued w v shared i state ok noted others (came (QueryCopy c)) c d same is_issued.client
        by_test false false q = by_room (nat_lt (length (w.held i)) 1024) (nat_lt (length state.held) 1024) (ap (λ n. nat_lt n 1024) (same-length _ (w.held i) state.held ok.held_are))
        by_test true false q = absurd (true≢false q)
        by_test false true q = absurd (true≢false (sym q))

  -- ---- an update

  module _ (c : LabelledCall Op) (d : Call Op) (same : SameCall w.accepted c d) (is_issued : IsIssued config.clients issued (calls_in w) c) (update : IsUpdate (m.kind c.op)) (plain : has_rules (m.kind c.op) ≡ true) (t time : ℕ)
      (in_time : Each (λ a. a.cid ≡ c.cid → t ≤ a.time) w.acks) where
    abbrev Part : List Outcome → Ending Value Op → Type 0
    Part lines end = IsOwnPart m config issued w v i (came (UpdateCopy c t)) lines end

    -- of a call of which no item was received here none left anywhere
    nowhere : has_item w (w.received i) c.cid ≡ false → (j : ℕ) → j < config.replicas → is_left config w j c.cid ≡ false
    nowhere first j within = never (is_left config w j c.cid) (λ gone.
        true≢false (sym (or-left (has_call w.accepted (w.received i) c.cid) _ (left-received config w shared.sound (item-places m config issued w v shared) (item-own m config issued w v shared) shared.spread j within c.cid gone i here)) ∙ first))

    -- it is new
    own-new : has_item w (w.received i) c.cid ≡ false → Part (accept_lines w i c.cid (has_room_here config w i) (has_number_here w i)) (call_taken i state d (has_room state) (has_number i state))
    own-new first = by_tests (has_room_here config w i) (has_room state) room-same (has_number_here w i) (has_number i state) number-same
      where
        spot_is : spot m config issued w v shared i here state ok noted others c d same is_issued update plain first (nowhere first) ≡ next_spot w i
        spot_is = λ k. spot_at i (number_is k)
          where
            number_is : part state.rep_ts i + 1 ≡ suc (made (item_spots w) i)
            number_is = let n = own_made in omega arith

        by_tests : (r s : Bool) → r ≡ s → (p q : Bool) → p ≡ q → Part (accept_lines w i c.cid r p) (call_taken i state d s q)
        by_tests true true e true true f =
            subst (λ (at : Spot). Part (Accept at c.cid ∷ done_line w i c.cid at ∷ []) (call_taken i state d true true)) spot_is
            (own-accepted m config issued w v shared i here state ok noted others c d same is_issued update plain first (nowhere first) number from t)
        by_tests true true e false false f = own-refused m config issued w v shared i state ok noted others (came (UpdateCopy c t)) Worn
        by_tests false false e p q f = own-refused m config issued w v shared i state ok noted others (came (UpdateCopy c t)) FullLog
        by_tests true false e p q f = absurd (true≢false e)
        by_tests false true e p q f = absurd (true≢false (sym e))
        by_tests true true e true false f = absurd (true≢false f)
        by_tests true true e false true f = absurd (true≢false (sym f))

    -- the table has it, or it is logged, or neither
    own-known : is_late t config.delta (w.clock i) ≡ false → (known : Option Known) (at acked : Option Spot) (ack : Option LogAck) → kept_at config w i c.cid ≡ at → noted_at config w i c.cid ≡ acked → acked ≡ option_map (λ a. a.spot) ack → known_of state.calls d.cid ≡ known → option_map (λ k. k.spot) known ≡ at
        → Part (update_lines config w i c.cid t false (taken_at config w i c.cid at) acked) (update_taken i state d (fresh_when (taken_before known (find (λ u. same_cid u.cid d.cid) state.updates)) ack))
    own-known early (Some k) None acked ack kept_is noted_is both e f = absurd (some_none f)
      where
        some_none : Some k.spot ≡ None → ⊥
        some_none e = cc
    own-known early None (Some s) acked ack kept_is noted_is both e f = absurd (none_some f)
      where
        none_some : ◌≡◌ {A = Option Spot} None (Some s) → ⊥
        none_some e = cc
    own-known early (Some k) (Some s) acked ack kept_is noted_is both e f =
        let spots : k.spot ≡ s = cc in
        let a = ok.applied.table.stamps d.cid k e in
        subst (λ (cid : Cid). Part (update_lines config w i c.cid t false (Some s) acked) (update_taken i state (record d { cid = cid }) (fresh_when (Some k) ack))) same.cid
        (own-again m config issued w v shared i state ok noted others (came (UpdateCopy c t)) c.cid is_issued.client a.0 a.1 (a.3 ∙ sym same.cid) s k.spot (sym spots ∙ a.2) (sym spots) k.stamp a.4)
    own-known early None None acked ack kept_is noted_is both e f =
        by_found (find (λ u. same_cid u.cid d.cid) state.updates) refl (least_spot w.accepted (logged config w i) c.cid) refl
        (ap (least_spot w.accepted (logged config w i)) same.cid ∙ least-find w.accepted (logged config w i) state.updates shared.sound ok.log d.cid)
      where
        by_found : (found : Option (LogUpdate Op)) → find (λ u. same_cid u.cid d.cid) state.updates ≡ found → (least : Option Spot) → least_spot w.accepted (logged config w i) c.cid ≡ least → least ≡ option_map (λ u. u.spot) (find (λ u. same_cid u.cid d.cid) state.updates)
            → Part (update_lines config w i c.cid t false least acked) (update_taken i state d (fresh_when (taken_before None found) ack))
        by_found found p least least_is q = by_both found p least least_is (q ∙ ap (option_map (λ u. u.spot)) p)
          where
            by_both : (found : Option (LogUpdate Op)) → find (λ u. same_cid u.cid d.cid) state.updates ≡ found → (least : Option Spot) → least_spot w.accepted (logged config w i) c.cid ≡ least → least ≡ option_map (λ u. u.spot) found
                → Part (update_lines config w i c.cid t false least acked) (update_taken i state d (fresh_when (taken_before None found) ack))
            by_both None p None least_is q = by_ack acked ack noted_is both
              where
                by_ack : (a : Option Spot) (b : Option LogAck) → noted_at config w i c.cid ≡ a → a ≡ option_map (λ a. a.spot) b → Part (update_lines config w i c.cid t false None a) (update_taken i state d (fresh_when (taken_before {Op = Op} None None) b))
                by_ack None None no_ack e = own-new (new-here config w shared.sound (item-places m config issued w v shared) (item-own m config issued w v shared) shared.spread i here ok.kept_are c.cid t in_time early kept_is least_is no_ack)
                by_ack (Some s) (Some b) no_ack e = own-refused m config issued w v shared i state ok noted others (came (UpdateCopy c t)) SettledThere
                by_ack None (Some b) no_ack e = absurd (none_some e)
                  where
                    none_some : ◌≡◌ {A = Option Spot} None (Some b.spot) → ⊥
                    none_some e = cc
                by_ack (Some s) None no_ack e = absurd (some_none e)
                  where
                    some_none : Some s ≡ None → ⊥
                    some_none e = cc
            by_both None p (Some s) least_is q = absurd (some_none q)
              where
                some_none : Some s ≡ None → ⊥
                some_none e = cc
            by_both (Some u) p None least_is q = absurd (none_some q)
              where
                none_some : ◌≡◌ {A = Option Spot} None (Some u.spot) → ⊥
                none_some e = cc
            by_both (Some u) p (Some s) least_is q =
                let spots : s ≡ u.spot = cc in
                let found = find-some (λ u. same_cid u.cid d.cid) state.updates u p in
                let a = each-at _ u state.updates ok.log.each found.0 in
                subst (λ (cid : Cid). Part (update_lines config w i c.cid t false (Some s) acked) (update_taken i state (record d { cid = cid }) (fresh_when (taken_before None (Some u)) ack))) same.cid
                (own-again m config issued w v shared i state ok noted others (came (UpdateCopy c t)) c.cid is_issued.client a.0 a.1.among (sym a.1.cid ∙ same_cid-is u.cid d.cid found.1 ∙ sym same.cid) s u.spot (spots ∙ a.1.spot) spots (stamp_of u) (update-stamp w.accepted shared.sound u a.0 a.1))

    -- what is found of the call, if it isn't late
    abbrev found : Fresh
    found = fresh_when (taken_before (known_of state.calls d.cid) (find (λ u. same_cid u.cid d.cid) state.updates)) (find (λ ack. same_cid ack.cid d.cid) state.acks)

    -- the spot of a call that is known is that of the table
    kept-same : option_map (λ k. k.spot) (known_of state.calls d.cid) ≡ kept_at config w i c.cid
    kept-same = kept-known config w i (w.kept i) state.calls ok.applied.table d.cid ∙ ap (kept_at config w i) (sym same.cid)

    own-update : t ≡ time → Part (copy_lines config w i c t true) (update_taken i state d (fresh_of config.delta state d.cid time))
    own-update times = by_late (is_late t config.delta (w.clock i)) refl (is_late time config.delta state.clock) (λ k. is_late (times k) config.delta (sym noted.clock_is k))
      where
        by_late : (s : Bool) → is_late t config.delta (w.clock i) ≡ s → (u : Bool) → s ≡ u → Part (update_lines config w i c.cid t s (taken_at config w i c.cid (kept_at config w i c.cid)) (noted_at config w i c.cid)) (update_taken i state d (cond u (Late time state.clock) found))
        by_late true early true e = subst₂ (λ (n k : ℕ). Part (Refuse (LateThere n k) ∷ []) (update_taken i state d (Late time state.clock))) (sym times) noted.clock_is
            (own-refused m config issued w v shared i state ok noted others (came (UpdateCopy c t)) (LateThere time state.clock))
        by_late false early false e = own-known early (known_of state.calls d.cid) (kept_at config w i c.cid) (noted_at config w i c.cid) (find (λ ack. same_cid ack.cid d.cid) state.acks) refl refl (noted-same c.cid d.cid same.cid) refl kept-same
        by_late true early false e = absurd (true≢false e)
        by_late false early true e = absurd (true≢false (sym e))

  -- ---- an acknowledgement

  module _ (cid other : Cid) (t time : ℕ) (cids : cid ≡ other) (times : t ≡ time) where
    abbrev Ack : List Outcome → Ending Value Op → Type 0
    Ack lines end = IsOwnPart m config issued w v i (came (AckCopy cid t)) lines end

    own-ack : Ack (ack_lines w i cid (noted_at config w i cid) (has_room_here config w i) (has_number_here w i))
        (ack_taken i state other time (find (λ ack. same_cid ack.cid other) state.acks) (has_room state) (has_number i state))
    own-ack = by_found (noted_at config w i cid) (find (λ ack. same_cid ack.cid other) state.acks) (noted-same cid other cids) (has_room_here config w i) (has_room state) room-same (has_number_here w i) (has_number i state) number-same
      where
        by_found : (a : Option Spot) (b : Option LogAck) → a ≡ option_map (λ a. a.spot) b → (r s : Bool) → r ≡ s → (p q : Bool) → p ≡ q → Ack (ack_lines w i cid a r p) (ack_taken i state other time b s q)
        by_found None None e true true f true true g = own-noted m config issued w v shared i here state ok noted others number from cid other t time cids times own_made
        by_found None None e true true f false false g = own-refused m config issued w v shared i state ok noted others (came (AckCopy cid t)) Worn
        by_found None None e false false f p q g = own-refused m config issued w v shared i state ok noted others (came (AckCopy cid t)) FullLog
        by_found None None e true false f p q g = absurd (true≢false f)
        by_found None None e false true f p q g = absurd (true≢false (sym f))
        by_found None None e true true f true false g = absurd (true≢false g)
        by_found None None e true true f false true g = absurd (true≢false (sym g))
        by_found (Some s) (Some b) e r u f p q g =
            let spots : b.spot ≡ s = cc in
            subst (λ (x : Spot). Ack (Refuse (NotedThere x) ∷ []) (ack_taken i state other time (Some b) u q)) spots (own-refused m config issued w v shared i state ok noted others (came (AckCopy cid t)) (NotedThere b.spot))
        by_found None (Some b) e r u f p q g = absurd (none_some e)
          where
            none_some : ◌≡◌ {A = Option Spot} None (Some b.spot) → ⊥
            none_some e = cc
        by_found (Some s) None e r u f p q g = absurd (some_none e)
          where
            some_none : Some s ≡ None → ⊥
            some_none e = cc

-- ---- any message

-- a copy of an update isn't later than an acknowledgement of it
abbrev pub IsInTime : {Op : Type 0} → List LogAck → Carried Op → Type 0
IsInTime acks (UpdateCopy call time) = Each (λ a. a.cid ≡ call.cid → time ≤ a.time) acks
IsInTime acks _ = Unit {0}

module _ {Value Op : Type 0} (m : Meaning Value Op) (config : Config) (issued : Cid → Option (LabelledCall Op)) (w : Facts Op) (v : RunState Value Op) (shared : IsShared m config issued w v.fronts v.posted)
    (i : ℕ) (here : i < config.replicas) (state : CausalState Value Op) (ok : IsReplicaAt m config w.accepted (w.received i) (logged config w i) (is_left config w i) (w.kept i) (w.held i) state)
    (noted : HasNoted config.replicas w.acks (is_acked config w i) (w.clock i) (told_by w i) state) (others : (j : ℕ) → j ≢ i → j < config.replicas → IsTied m config w v.replicas j) (number : ℕ) where
  -- the message and where it comes from
  abbrev CameFrom : Actor → Carried Op → List Outcome → Ending Value Op → Type 0
  CameFrom from what lines end = IsOwnPart m config issued w v i (came_in (Some (record { number = number; from = from; to = Replica i; what = what }))) lines end

  pub own-part : (from : Actor) (what : Carried Op) (message : Message Op) → IsWay from (Replica i) what → IsPlain m what → IsInTime w.acks what → IsGossipSpread config w from what
      → SameCarried m config w.accepted w.acks (w.received i) issued (calls_in w) what message
      → CameFrom from what (message_lines m config w (Replica i) what) (own_taken m config i state from message)
  own-part (Client f) what message way plain in_time told (same_update c d t time call times by update) =
      subst (λ b. CameFrom (Client f) (UpdateCopy c t) (copy_lines config w i c t b) (own_taken m config i state (Client f) message)) (sym plain)
      (own-update m config issued w v shared i here state ok noted others number (Client f) c d call by update plain t time in_time times)
  own-part (Client f) what message way plain in_time told (same_query c d call by) = own-query m config issued w v shared i here state ok noted others number (Client f) c d call by
  own-part (Client f) what message way plain in_time told (same_ack cid other t time cids times client) = own-ack m config issued w v shared i here state ok noted others number (Client f) cid other t time cids times
  own-part (Replica k) what message way plain in_time told (same_ack cid other t time cids times client) = absurd way
  own-part (Replica k) what message way plain in_time told (same_gossip names g same) = own-taken m config issued w v shared i here state ok noted others number k way told.0 names told.1 g same (whole-at config w shared.sound (item-places m config issued w v shared) (item-own m config issued w v shared) shared.spread i here) (all-have config w shared.sound (item-places m config issued w v shared) (item-own m config issued w v shared) shared.spread i here)
  own-part (Client f) what message way plain in_time told (same_done cid other names at stamp cids named set done) = absurd way
  own-part (Client f) what message way plain in_time told (same_answer cid other names text stamp cids named set) = absurd way
  own-part (Client f) what message way plain in_time told (same_gossip names g same) = absurd way
  own-part (Replica k) what message way plain in_time told (same_update c d t time call times by update) = absurd way
  own-part (Replica k) what message way plain in_time told (same_query c d call by) = absurd way
  own-part (Replica k) what message way plain in_time told (same_done cid other names at stamp cids named set done) = absurd way
  own-part (Replica k) what message way plain in_time told (same_answer cid other names text stamp cids named set) = absurd way
