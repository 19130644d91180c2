-- A savepoint stays one of its state through the parts of a step.
use Rattle.std.proofs.Common.{◌≡◌, ◌+◌, ◌<◌, ℕ, zero, suc, true, not, List, [], ◌∷◌, length, get_or, set, refl, sym, ◌∙◌, ap, Option, Some, None, arith, lt-ltb}
use Rattle.std.specs.Prelude.{filter}
use Rattle.std.specs.Option.{ForSome}
use Rattle.std.proofs.Math.ListN.{length-set}
use Rattle.std.proofs.Math.Seq.{take-length}
use Rattle.std.proofs.lemmas.List.{set-get_or, set-set}
use Rattle.lr_base.specs.Ascending.{is_before}
use Rattle.lr_base.specs.Replicas.{ReplicaState}
use Rattle.lr_base.specs.declared.messages.Gossip.{Gossip}
use Rattle.lr_base.specs.declared.messages.Known.{Known}
use Rattle.lr_base.specs.declared.messages.LogAck.{LogAck}
use Rattle.lr_base.specs.declared.messages.LogUpdate.{LogUpdate}
use Rattle.lr_base.specs.declared.names.Cid.{Cid}
use Rattle.lr_base.specs.Rules.{CausalState, gossip_taken, received_now, is_new, new_acks, new_updates, insert_ack, insert_acks, insert_update}
use Rattle.lr_base.specs.Stamps.{join, part, set_part}
use Rattle.lr_base.specs.StampLaws.{join-least, length-join, length-set_part, parts-stamp_le, stamp_le-refl, stamp_le-trans}
use Rattle.lr_value.specs.Applied.{Applied, Lagging}
use Rattle.lr_base.specs.Logged.{AllAcksReceived, AllReceived}
use Rattle.lr_causal.specs.Savepoint.{HasShapeOf, IsPointOf, Lags, Saved, kept_first, put_back_in, restored}
use Rattle.lr_causal.proofs.Kept.{filter-none, filter-insert, filter-insert_all}
use Rattle.lr_causal.proofs.Each.{Each-passes}
use Rattle.lr_calls.specs.Tables.{without}
use Rattle.lr_calls.specs.TableLaws.{without-none}
use Rattle.lr_causal.proofs.Received.{new-earlier, set_part-above}

-- what is put back at two places is so whatever stood there
set-between : {A : Type 0} (xs : List A) (i j : ℕ) (a b c : A) → set (set (set xs i a) j b) i c ≡ set (set xs j b) i c
set-between [] i j a b c = refl
set-between (x ∷ xs) zero zero a b c = refl
set-between (x ∷ xs) zero (suc j) a b c = refl
set-between (x ∷ xs) (suc i) zero a b c = ap (λ (ys : List _). b ∷ ys) (set-set xs i a c)
set-between (x ∷ xs) (suc i) (suc j) a b c = ap (λ (ys : List _). x ∷ ys) (set-between xs i j a b c)

-- the own row was changed, and is put back behind another
own-back : (table : List (List ℕ)) (me own heard : ℕ) (now row first : List ℕ) → own ≡ me
    → set (set (set table me now) heard row) own first ≡ set (set table heard row) own first
own-back table me own heard now row first is = rw is (set-between table me heard now row first)

-- another row was changed before, and is put back
rows-back : (table : List (List ℕ)) (me own from heard : ℕ) (told now row first : List ℕ) → own ≡ me → heard ≡ from
    → set (set (set (set table from told) me now) heard row) own first ≡ set (set table heard row) own first
rows-back table me own from heard told now row first is from_is =
    own-back (set table from told) me own heard now row first is
    ∙ ap (λ rows. set rows own first) (rw from_is (set-set table from told row))

module _ {Value Op : Type 0} where
  -- a shape by stamps and rows that are as many
  shape-along : (p : Saved Value) (it new : ReplicaState Value Op) → new.me ≡ it.me
      → length new.causal.rep_ts ≡ length it.causal.rep_ts → length new.causal.table ≡ length it.causal.table
      → HasShapeOf p it → HasShapeOf p new
  shape-along p it new me parts rows shape = record {
    own = shape.own ∙ sym me;
    rep_parts = shape.rep_parts ∙ sym parts;
    within = rw rows shape.within;
    row_parts = shape.row_parts ∙ sym parts;
    val_parts = rw parts shape.val_parts;
  }

  -- a replica by another name
  pub point-same : (p : Saved Value) (it new : ReplicaState Value Op) (before : CausalState Value Op) → new ≡ it
      → IsPointOf p it before → IsPointOf p new before
  point-same p it new before is point = rw is point

  -- a savepoint that was just made
  pub point-saved : (rep_ts row : List ℕ) (heard held : ℕ) (entered : List Cid) (it : ReplicaState Value Op)
      → rep_ts ≡ it.causal.rep_ts → row ≡ get_or it.causal.table heard [] → entered ≡ []
      → held ≡ length it.causal.held → it.causal.rep_ts ≡ get_or it.causal.table it.me []
      → heard < length it.causal.table → length (get_or it.causal.table heard []) ≡ length it.causal.rep_ts
      → AllReceived it.causal.rep_ts it.causal.updates → AllAcksReceived it.causal.rep_ts it.causal.acks
      → IsPointOf (record {
        me = it.me;
        clock = it.causal.clock;
        rep_ts = rep_ts;
        top = it.causal.top;
        heard = heard;
        row = row;
        entered = entered;
        held = held;
        applied = None;
      }) it it.causal
  point-saved rep_ts row heard held entered it stamps own none waiting own_row within parts received acks_received =
      let state = it.causal in
      let updates = filter-none (λ (u : LogUpdate Op). is_new state.rep_ts u.spot) state.updates received in
      let acks = filter-none (λ (a : LogAck). is_new state.rep_ts a.spot) state.acks acks_received in
      let rows : set (set state.table heard (get_or state.table heard [])) it.me state.rep_ts ≡ state.table =
      ap (λ (t : List (List ℕ)). set t it.me state.rep_ts) (set-get_or state.table heard [])
      ∙ ap (set state.table it.me) own_row ∙ set-get_or state.table it.me [] in
      rw (stamps, own, none, waiting) record {
        restores = rw (updates, acks, without-none state.calls, take-length state.held, rows) refl;
        received = stamp_le-refl state.rep_ts;
        held_most = omega arith;
        lags = λ o e v f. absurd (cc);
        shape = record {
          own = refl;
          rep_parts = refl;
          within = within;
          row_parts = parts;
          val_parts = λ before e. let none : None ≡ Some before = e in cc;
        };
      }

  -- the next update of the own place is logged
  pub point-logged : (p : Saved Value) (u : LogUpdate Op) (it : ReplicaState Value Op) (before : CausalState Value Op)
      (now : CausalState Value Op) → u.spot.place ≡ it.me → it.me < length it.causal.rep_ts
      → u.spot.number ≡ part it.causal.rep_ts it.me + 1
      → now ≡ record (received_now it.me (set_part it.causal.rep_ts it.me u.spot.number) it.causal) {
        updates = insert_update u it.causal.updates;
        top = u.spot.number;
      }
      → IsPointOf p it before → IsPointOf p (record it { causal = now }) before
  point-logged p u it before now place within next is point =
      let state = it.causal in
      let most = parts-stamp_le p.rep_ts state.rep_ts point.received it.me in
      let new : is_new p.rep_ts u.spot ≡ true =
      lt-ltb (part p.rep_ts u.spot.place) u.spot.number
      (rw place (omega arith)) in
      let stamp = set_part state.rep_ts it.me u.spot.number in
      rw is record {
        restores =
            ap (λ (updates : List (LogUpdate Op)). record (restored p state) {
              updates = updates;
              table = set (set (set state.table it.me stamp) p.heard p.row) p.me p.rep_ts;
            }) (filter-insert (λ (x : LogUpdate Op). is_new p.rep_ts x.spot)
            (λ (a b : LogUpdate Op). is_before a.spot b.spot) u state.updates new)
            ∙ ap (λ (rows : List (List ℕ)). record (restored p state) { table = rows })
            (own-back state.table it.me p.me p.heard stamp p.row p.rep_ts point.shape.own)
            ∙ point.restores;
        received = stamp_le-trans p.rep_ts state.rep_ts stamp point.received
            (set_part-above state.rep_ts it.me u.spot.number (omega arith));
        held_most = point.held_most;
        lags = point.lags;
        shape = shape-along p it _ refl (length-set_part state.rep_ts it.me u.spot.number within)
            (length-set state.table it.me stamp) point.shape;
      }

  -- the next acknowledgement of the own place is logged
  pub point-noted : (p : Saved Value) (a : LogAck) (it : ReplicaState Value Op) (before : CausalState Value Op)
      (now : CausalState Value Op) → a.spot.place ≡ it.me → it.me < length it.causal.rep_ts
      → a.spot.number ≡ part it.causal.rep_ts it.me + 1
      → now ≡ record (received_now it.me (set_part it.causal.rep_ts it.me a.spot.number) it.causal) {
        acks = insert_ack a it.causal.acks;
      }
      → IsPointOf p it before → IsPointOf p (record it { causal = now }) before
  point-noted p a it before now place within next is point =
      let state = it.causal in
      let most = parts-stamp_le p.rep_ts state.rep_ts point.received it.me in
      let new : is_new p.rep_ts a.spot ≡ true =
      lt-ltb (part p.rep_ts a.spot.place) a.spot.number (rw place (omega arith)) in
      let stamp = set_part state.rep_ts it.me a.spot.number in
      rw is record {
        restores =
            ap (λ (acks : List LogAck). record (restored p state) {
              acks = acks;
              table = set (set (set state.table it.me stamp) p.heard p.row) p.me p.rep_ts;
            }) (filter-insert (λ (x : LogAck). is_new p.rep_ts x.spot)
            (λ (x y : LogAck). is_before x.spot y.spot) a state.acks new)
            ∙ ap (λ (rows : List (List ℕ)). record (restored p state) { table = rows })
            (own-back state.table it.me p.me p.heard stamp p.row p.rep_ts point.shape.own)
            ∙ point.restores;
        received = stamp_le-trans p.rep_ts state.rep_ts stamp point.received
            (set_part-above state.rep_ts it.me a.spot.number (omega arith));
        held_most = point.held_most;
        lags = point.lags;
        shape = shape-along p it _ refl (length-set_part state.rep_ts it.me a.spot.number within)
            (length-set state.table it.me stamp) point.shape;
      }

  -- the clock is read
  pub point-ticked : (p : Saved Value) (it : ReplicaState Value Op) (before : CausalState Value Op) (clock : ℕ)
      → IsPointOf p it before → IsPointOf p (record it { causal = record it.causal { clock = clock } }) before
  point-ticked p it before clock point = record {
    restores = point.restores;
    received = point.received;
    held_most = point.held_most;
    lags = point.lags;
    shape = shape-along p it _ refl refl refl point.shape;
  }

  -- gossip is taken of the replica whose row is kept
  pub point-taken : (p : Saved Value) (from : ℕ) (it : ReplicaState Value Op) (before : CausalState Value Op)
      (gossip : Gossip Op) → p.heard ≡ from
      → length gossip.rep_ts ≡ length it.causal.rep_ts → IsPointOf p it before
      → IsPointOf p (record it { causal = gossip_taken it.me from it.causal gossip }) before
  point-taken p from it before gossip heard long point =
      let state = it.causal in
      let told = join (get_or state.table from []) gossip.rep_ts in
      let stamp = join state.rep_ts gossip.rep_ts in
      let all_acks = insert_acks (new_acks state.rep_ts gossip.acks) state.acks in
      let updates =
      filter-insert_all (λ (u : LogUpdate Op). is_new p.rep_ts u.spot) (λ (a b : LogUpdate Op). is_before a.spot b.spot)
      (new_updates state.rep_ts gossip.updates) state.updates
      (Each-passes (λ (u : LogUpdate Op). is_new p.rep_ts u.spot ≡ true) (λ u. is_new state.rep_ts u.spot) gossip.updates
      (λ u new. new-earlier p.rep_ts state.rep_ts u.spot point.received new)) in
      let acks =
      filter-insert_all (λ (a : LogAck). is_new p.rep_ts a.spot) (λ (a b : LogAck). is_before a.spot b.spot)
      (new_acks state.rep_ts gossip.acks) state.acks
      (Each-passes (λ (a : LogAck). is_new p.rep_ts a.spot ≡ true) (λ a. is_new state.rep_ts a.spot) gossip.acks
      (λ a new. new-earlier p.rep_ts state.rep_ts a.spot point.received new)) in
      let table = set (set (set (set state.table from told) it.me stamp) p.heard p.row) p.me p.rep_ts in
      record {
        restores =
            ap (λ (us : List (LogUpdate Op)). record (restored p state) {
              updates = us;
              acks = filter (λ a. not (is_new p.rep_ts a.spot)) all_acks;
              table = table;
            }) updates
            ∙ ap (λ (as' : List LogAck). record (restored p state) { acks = as'; table = table }) acks
            ∙ ap (λ (rows : List (List ℕ)). record (restored p state) { table = rows })
            (rows-back state.table it.me p.me from p.heard told stamp p.row p.rep_ts point.shape.own heard)
            ∙ point.restores;
        received = stamp_le-trans p.rep_ts state.rep_ts stamp point.received
            (join-least state.rep_ts gossip.rep_ts).above_first;
        held_most = point.held_most;
        lags = point.lags;
        shape =
            shape-along p it _ refl (length-join state.rep_ts gossip.rep_ts (sym long))
            (length-set (set state.table from told) it.me stamp ∙ length-set state.table from told) point.shape;
      }

  -- what is ready is applied: the value of before is kept, and which calls were entered
  pub point-applied : (p kept : Saved Value) (it : ReplicaState Value Op) (before : CausalState Value Op)
      (older : Lagging Value)
      (next : Applied Value) (calls : List (Cid × Known))
      (entered : List Cid)
      → kept ≡ record p { entered = entered; applied = Some (kept_first p.applied older) }
      → older ≡ record { value = it.causal.value; val_ts = it.causal.val_ts; newer = Some next.value }
      → without entered calls ≡ without p.entered it.causal.calls
      → length it.causal.val_ts ≡ length it.causal.rep_ts
      → IsPointOf p it before
      → IsPointOf kept (record it {
        causal = record it.causal { value = next.value; val_ts = next.val_ts; calls = calls };
      }) before
  point-applied p kept it before older next calls entered keeps is same val_parts point =
      rw (keeps, is) record {
        restores =
            ap (λ (v : Applied Value). record (restored p it.causal) {
              value = v.value;
              val_ts = v.val_ts;
              calls = without entered calls;
            }) (back p.applied)
            ∙ ap (λ (cs : List (Cid × Known)). record (restored p it.causal) { calls = cs }) same ∙ point.restores;
        received = point.received;
        held_most = point.held_most;
        lags = lag p.applied;
        shape = record {
          own = point.shape.own;
          rep_parts = point.shape.rep_parts;
          within = point.shape.within;
          row_parts = point.shape.row_parts;
          val_parts = both p.applied point.shape.val_parts;
        };
      }
    where
      own : Lagging Value
      own = record { value = it.causal.value; val_ts = it.causal.val_ts; newer = Some next.value }

      now : Applied Value
      now = record { value = next.value; val_ts = next.val_ts; memory = None }

      was : Applied Value
      was = record { value = it.causal.value; val_ts = it.causal.val_ts; memory = None }

      back : (applied : Option (Lagging Value))
          → put_back_in (Some (kept_first applied own)) now ≡ put_back_in applied was
      back (Some a) = refl
      back None = refl

      lag : (applied : Option (Lagging Value)) → Lags (Some (kept_first applied own)) next.value
      lag (Some a) = λ o e v f. absurd (cc)
      lag None = λ o e v f. cc

      both : (applied : Option (Lagging Value)) → ForSome applied (λ a. length a.val_ts ≡ length it.causal.rep_ts)
          → ForSome (Some (kept_first applied own)) (λ a. length a.val_ts ≡ length it.causal.rep_ts)
      both (Some a) parts = λ o e. let same : record a { newer = None } ≡ o = cc in rw (← same) (parts a refl)
      both None parts = λ o e. let same : own ≡ o = cc in rw (← same) val_parts
