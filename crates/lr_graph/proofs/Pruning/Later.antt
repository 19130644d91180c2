-- What goes on to be known everywhere, spent and left at a replica that received more.
use Rattle.std.proofs.Common.{◌≡◌, ◌≢◌, ◌<◌, ◌==◌, ◌⊎◌, inl, inr, ℕ, Bool, true, false, cond, not, ◌&&◌, List, [], set, get_or, refl, sym, ap, ◌∙◌, subst, arith, true≢false, eqb-true, eq-eqb}
use Rattle.std.proofs.lemmas.List.{get_or-set_other, get_or-set_same, length-set}
use Rattle.lr_base.specs.Ascending.{same_cid}
use Rattle.lr_base.specs.Config.{is_late}
use Rattle.lr_base.specs.Orders.{IsAmong}
use Rattle.lr_base.specs.Meaning.{Meaning}
use Rattle.lr_base.specs.Rules.{CausalState, gossip_taken, received_now}
use Rattle.lr_base.specs.Stamps.{join}
use Rattle.lr_base.specs.declared.messages.Gossip.{Gossip}
use Rattle.lr_base.specs.declared.names.Actor.TheVariants.{Replica}
use Rattle.lr_graph.specs.After.{takes}
use Rattle.lr_base.specs.declared.messages.LogAck.{LogAck}
use Rattle.lr_base.specs.declared.names.Cid.{Cid}
use Rattle.lr_base.specs.declared.names.Config.{Config}
use Rattle.lr_base.specs.declared.names.Spot.{Spot}
use Rattle.lr_graph.specs.Graph.{Acceptance, Facts}
use Rattle.lr_graph.specs.Names.{IsCounted}
use Rattle.lr_graph.specs.Pruned.{is_spent, known_everywhere, logged, logs_call, told_by}
use Rattle.lr_graph.specs.Sets.{SpotSet, put_at, ◌∪◌}
use Rattle.lr_graph.proofs.Lists.Members.{among-list_any, list_any-among}
use Rattle.lr_graph.proofs.Lists.Tests.{and-intro, and-left, and-right, equal-or-not, never, not-false, same_cid-is}
use Rattle.lr_graph.proofs.Pruning.Rows.{first-each, first-from}
use Rattle.lr_graph.proofs.Related.Relation.{HasTold}
use Rattle.lr_graph.proofs.Replicas.Gossiping.{counted-join}
use Rattle.lr_graph.proofs.Sets.PutAt.{put-other, put-same}

module _ {Op : Type 0} (config : Config) (w now : Facts Op) (i : ℕ) where
  -- what each is known to have goes on to be known everywhere
  pub known-later : ((k : ℕ) (s : Spot) → told_by w i k s ≡ true → told_by now i k s ≡ true) → (s : Spot) → known_everywhere config w i s ≡ true → known_everywhere config now i s ≡ true
  known-later grows s known = first-from (told_by now i) config.replicas s (λ k less. grows k s (first-each (told_by w i) config.replicas s known k less))

  -- of a call of which no update was logged none is, where each of its acceptances that is logged was
  pub unlogged-later : (cid : Cid) → ((b : Acceptance Op) → IsAmong b now.accepted → b.cid ≡ cid → logged config now i b.spot ≡ true → IsAmong b w.accepted × (logged config w i b.spot ≡ true))
      → not (logs_call config w i cid) ≡ true → not (logs_call config now i cid) ≡ true
  unlogged-later cid was none = ap not (never (logs_call config now i cid) (λ e.
      let b = list_any-among (λ (x : Acceptance Op). logged config now i x.spot && same_cid cid x.cid) now.accepted e in
      let of = and-right (logged config now i b.0.spot) _ b.2 in
      let old = was b.0 b.1 (sym (same_cid-is cid b.0.cid of)) (and-left (logged config now i b.0.spot) _ b.2) in
      true≢false (sym (among-list_any (λ (x : Acceptance Op). logged config w i x.spot && same_cid cid x.cid) b.0 w.accepted old.0 (and-intro (logged config w i b.0.spot) _ old.1 of))
      ∙ not-false (logs_call config w i cid) none)))

  -- an acknowledgement that was spent is spent
  pub spent-later : (a : LogAck) → (known_everywhere config w i a.spot ≡ true → known_everywhere config now i a.spot ≡ true) → now.clock i ≡ w.clock i
      → not (logs_call config now i a.cid) ≡ true → is_spent config w i a ≡ true → is_spent config now i a ≡ true
  spent-later a grows clocks none spent =
      and-intro (known_everywhere config now i a.spot) _ (grows (and-left (known_everywhere config w i a.spot) _ spent))
      (and-intro (is_late a.time config.delta (now.clock i)) _
      (ap (is_late a.time config.delta) clocks ∙ and-left (is_late a.time config.delta (w.clock i)) _ (and-right (known_everywhere config w i a.spot) _ spent)) none)

module _ {Value Op : Type 0} (replicas i : ℕ) (here : i < replicas) (others : ℕ → SpotSet) where
  -- the table after the own row is written
  pub told-own : (own more : SpotSet) (rep_ts : List ℕ) (state : CausalState Value Op) → IsCounted more rep_ts
      → HasTold replicas (λ k. cond (k == i) own (others k)) state → HasTold replicas (λ k. cond (k == i) more (others k)) (received_now i rep_ts state)
  told-own own more rep_ts state counted has = record {
    rows = length-set state.table i rep_ts ∙ has.rows;
    counted = λ k less. by_place k less (equal-or-not k i);
  }
    where
      by_place : (k : ℕ) → k < replicas → (k ≡ i) ⊎ (k ≢ i) → IsCounted (cond (k == i) more (others k)) (get_or (set state.table i rep_ts) k [])
      by_place k less (inl e) = subst (λ (n : ℕ). IsCounted (cond (n == i) more (others n)) (get_or (set state.table i rep_ts) n [])) (sym e)
          (subst (λ (t : Bool). IsCounted (cond t more (others i)) (get_or (set state.table i rep_ts) i [])) (sym (eq-eqb i i refl))
          (subst (λ (row : List ℕ). IsCounted more row) (sym (get_or-set_same state.table i rep_ts [] (let n = has.rows in omega arith))) counted))
      by_place k less (inr apart) =
          let other : (k == i) ≡ false = never (k == i) (λ e. apart (eqb-true k i e)) in
          subst (λ (row : List ℕ). IsCounted (cond (k == i) more (others k)) row) (sym (get_or-set_other state.table i k rep_ts [] apart))
          (subst (λ (t : Bool). IsCounted (cond t more (others k)) (get_or state.table k [])) (sym other)
          (subst (λ (t : Bool). IsCounted (cond t own (others k)) (get_or state.table k [])) other (has.counted k less)))

module _ {Value Op : Type 0} (m : Meaning Value Op) (config : Config) (w : Facts Op) (i : ℕ) (here : i < config.replicas) (from : ℕ) (there : from < config.replicas) (other : (from == i) ≡ false)
    (names : SpotSet) (gossip : Gossip Op) (counted : IsCounted names gossip.rep_ts) (state : CausalState Value Op) where
  abbrev told : ℕ → SpotSet
  told = put_at from (w.told i from ∪ names) (w.told i)

  abbrev row : List ℕ
  row = get_or state.table from []

  abbrev table : List (List ℕ)
  table = set state.table from (join row gossip.rep_ts)

  -- the table after gossip: the sender's row counts what that one told too, and the own row what was received
  pub told-taken : HasTold config.replicas (told_by w i) state → IsCounted (w.received i ∪ names) (join state.rep_ts gossip.rep_ts)
      → HasTold config.replicas (told_by (takes w (Replica from) i names) i) (gossip_taken i from state gossip)
  told-taken has own = record { rows = last.rows; counted = λ k less. subst (λ (x : SpotSet). IsCounted x (get_or (set table i (join state.rep_ts gossip.rep_ts)) k [])) (both k (k == i)) (last.counted k less) }
    where
      heard : IsCounted (w.told i from) row
      heard = subst (λ (t : Bool). IsCounted (cond t (w.received i) (w.told i from)) row) other (has.counted from there)

      middle : HasTold config.replicas (λ k. cond (k == i) (w.received i) (told k)) (record state { table = table })
      middle = record {
        rows = length-set state.table from (join row gossip.rep_ts) ∙ has.rows;
        counted = λ k less. by_sender k less (equal-or-not k from);
      }
        where
          by_sender : (k : ℕ) → k < config.replicas → (k ≡ from) ⊎ (k ≢ from) → IsCounted (cond (k == i) (w.received i) (told k)) (get_or table k [])
          by_sender k less (inl e) = subst (λ (n : ℕ). IsCounted (cond (n == i) (w.received i) (told n)) (get_or table n [])) (sym e)
              (subst (λ (t : Bool). IsCounted (cond t (w.received i) (told from)) (get_or table from [])) (sym other)
              (subst (λ (x : SpotSet). IsCounted x (get_or table from [])) (sym (put-same from (w.told i from ∪ names) (w.told i)))
              (subst (λ (r : List ℕ). IsCounted (w.told i from ∪ names) r) (sym (get_or-set_same state.table from (join row gossip.rep_ts) [] (let n = has.rows in omega arith)))
              (counted-join (w.told i from) names row gossip.rep_ts heard counted))))
          by_sender k less (inr apart) =
              subst (λ (x : SpotSet). IsCounted (cond (k == i) (w.received i) x) (get_or table k [])) (sym (put-other from k (w.told i from ∪ names) (w.told i) apart))
              (subst (λ (r : List ℕ). IsCounted (cond (k == i) (w.received i) (w.told i k)) r) (sym (get_or-set_other state.table from k (join row gossip.rep_ts) [] apart)) (has.counted k less))

      last : HasTold config.replicas (λ k. cond (k == i) (w.received i ∪ names) (told k)) (record state { rep_ts = join state.rep_ts gossip.rep_ts; table = set table i (join state.rep_ts gossip.rep_ts) })
      last = let h = told-own config.replicas i here told (w.received i) (w.received i ∪ names) (join state.rep_ts gossip.rep_ts) (record state { table = table }) own middle in record { rows = h.rows; counted = h.counted }

      both : (k : ℕ) (t : Bool) → cond t (w.received i ∪ names) (told k) ≡ cond t (put_at i (w.received i ∪ names) w.received i) (put_at i told w.told i k)
      both k t = λ j. cond t (sym (put-same i (w.received i ∪ names) w.received) j) (sym (put-same i told w.told) j k)
