-- The end of a replica's step: what is ready is applied, and held queries are answered.
use Rattle.std.proofs.Common.{◌≡◌, ℕ, suc, ◌+◌, ◌<◌, Bool, true, false, cond, not, ◌&&◌, List, [], ◌∷◌, ◌++◌, filter, length, Option, Some, None, is_some, refl, sym, ap, ◌∙◌, subst, arith, true≢false}
use Rattle.std.proofs.lemmas.List.{append_assoc, append-nil, length-append}
use Rattle.std.specs.List.{list_any}
use Rattle.std.specs.Option.{option_map}
use Rattle.lr_base.specs.Ascending.{cid_before, same_cid}
use Rattle.lr_base.specs.Fronts.{FrontState}
use Rattle.lr_base.specs.InsertionLaws.{ascends-filter}
use Rattle.lr_base.specs.Meaning.{Meaning}
use Rattle.lr_base.specs.Rules.{CausalState, applied, is_late, is_spent as is_spent_by, known_in, known_of, logs_ack, logs_update, pruned, unknown_updates}
use Rattle.lr_base.specs.Stamps.{stamp_le}
use Rattle.lr_base.specs.Steps.{answer_act, held_acts, still_held}
use Rattle.lr_base.specs.declared.acts.Posted.{Posted}
use Rattle.lr_base.specs.declared.events.Outcome.TheVariants.{Send as SendLine}
use Rattle.lr_base.specs.declared.events.Sent.TheVariants.{Answer as AnswerSent}
use Rattle.lr_base.specs.declared.messages.Call.{Call}
use Rattle.lr_base.specs.declared.messages.Message.TheVariants.{Answer}
use Rattle.lr_base.specs.Orders.{IsAmong}
use Rattle.lr_base.specs.declared.messages.Known.{Known}
use Rattle.lr_base.specs.declared.messages.LogAck.{LogAck}
use Rattle.lr_base.specs.declared.messages.LogUpdate.{LogUpdate}
use Rattle.lr_base.specs.declared.names.Actor.TheVariants.{Client, Replica}
use Rattle.lr_base.specs.declared.names.Cid.{Cid}
use Rattle.lr_base.specs.declared.names.Config.{Config}
use Rattle.lr_base.specs.declared.names.Spot.{Spot}
use Rattle.lr_graph.specs.After.{lines_read, Handling}
use Rattle.lr_graph.specs.Closed.{Each, IsSetOf, IsSound}
use Rattle.lr_graph.specs.Graph.{Acceptance, AnswerReply, Facts, Kept, LabelledCall, SentMessage, has_ack, is_within, kept_spot, ready, value}
use Rattle.lr_graph.specs.Legal.{answer_line, answers}
use Rattle.lr_graph.specs.Names.{Names}
use Rattle.lr_graph.specs.Runs.{act_lines, act_posts}
use Rattle.lr_graph.specs.Sets.{SpotSet}
use Rattle.lr_graph.specs.Pruned.{is_acked, is_done, is_left, is_ready, is_spent, known_everywhere, logged, logs_call, told_by}
use Rattle.lr_graph.proofs.Stamps.Central.{stamp_le-within}
use Rattle.lr_graph.proofs.Applying.Keys.{keys-applied}
use Rattle.lr_graph.proofs.Applying.Taking.{ascending-filter}
use Rattle.lr_graph.proofs.Lists.Members.{among-filter, among-list_any, each-at, each-from, each-map, filter-each, list_any-among}
use Rattle.lr_graph.proofs.Lists.Tests.{and-false, and-intro, and-left, and-right, never, never-false, not-false, same-test, same_cid-is, same_cid-sym}
use Rattle.lr_graph.proofs.Logs.Acks.{HasApartAcks, acks-same, filter-acks}
use Rattle.lr_graph.proofs.Pruning.Lists.{acks-logs, known-filter, log-logs}
use Rattle.lr_graph.proofs.Pruning.Rows.{known-same}
use Rattle.lr_graph.proofs.Replicas.Posting.{message-sent, posting}
use Rattle.lr_graph.proofs.Sets.ReadySets.{ready-closed, ready-holds}
use Rattle.lr_graph.proofs.Related.Relation.{HasNoted, IsReplicaAt, IsShared, IsStill, SameCall, SameHeld, SameList, same_answer}
use Rattle.lr_graph.proofs.Related.Ties.{HasApplied, HasUpdateAt, IsLogOf, IsPending, IsTableOf, IsUpdateOf, StandsFor}

-- a replica within its step, at which more may be ready than is applied: what it received and doesn't log is known
-- everywhere or spent, and what left stays away
pub record IsMid {Value Op : Type 0} (m : Meaning Value Op) (config : Config) (w : Facts Op) (i : ℕ) (state : CausalState Value Op) : Type 0 where
  pub logs : SpotSet
  pub done : SpotSet
  pub left : Cid → Bool
  pub ack_logs : LogAck → Bool
  pub pending : IsPending m w.accepted (w.received i) logs done left (w.kept i) state
  pub still : IsStill config state
  pub noted : HasNoted config.replicas w.acks ack_logs (w.clock i) (told_by w i) state
  pub held_are : SameList (SameHeld config.clients w.accepted) (w.held i) state.held
  pub unlogged : (s : Spot) → w.received i s ≡ true → logs s ≡ false → known_everywhere config w i s ≡ true
  pub acks_within : Each (λ a. ack_logs a ≡ true → w.received i a.spot ≡ true) w.acks
  pub unnoted : Each (λ a. w.received i a.spot ≡ true → ack_logs a ≡ false → (is_spent config w i a ≡ true) × (is_ready w i a.cid ≡ true → left a.cid ≡ true)) w.acks
  pub away : (cid : Cid) → left cid ≡ true → is_left config w i cid ≡ true

-- what is known everywhere at a replica is ready there, and so is each acceptance of a call that left
pub record IsWhole {Op : Type 0} (config : Config) (w : Facts Op) (i : ℕ) : Type 0 where
  pub known : Each (λ a. known_everywhere config w i a.spot ≡ true → ready w.accepted (w.received i) a.spot ≡ true) w.accepted
  pub left : Each (λ a. is_left config w i a.cid ≡ true → ready w.accepted (w.received i) a.spot ≡ true) w.accepted

-- of an acknowledgement that is known everywhere at a replica all acceptances of its call were received there
pub record AllHave {Op : Type 0} (config : Config) (w : Facts Op) (i : ℕ) : Type 0 where
  pub acks : (a : LogAck) → IsAmong a w.acks → known_everywhere config w i a.spot ≡ true → Each (λ b. b.cid ≡ a.cid → w.received i b.spot ≡ true) w.accepted

-- what another replica told it received, and what is known everywhere it received too
pub record HasHeard {Op : Type 0} (config : Config) (w : Facts Op) (i to : ℕ) : Type 0 where
  pub told : (s : Spot) → w.told i to s ≡ true → w.received to s ≡ true
  pub known : (s : Spot) → known_everywhere config w i s ≡ true → w.received to s ≡ true

-- what is ready was made
pub ready-set : {Op : Type 0} (l : List (Acceptance Op)) → IsSound l → (r : SpotSet) → IsSetOf l (ready l r)
ready-set l sound r = record {
  exist = λ s e. (let h = ready-holds l r s e in (h.0, h.1, sym h.2));
  closed = ready-closed l r sound;
}

module _ {Value Op : Type 0} (m : Meaning Value Op) (config : Config) (w : Facts Op) (i : ℕ) (sound : IsSound w.accepted) (now : CausalState Value Op)
    (test : (c : LabelledCall Op) (d : Call Op) → SameCall w.accepted c d → stamp_le d.prev now.val_ts ≡ is_within w.accepted c.label (w.received i))
    (names : Names now.val_ts (ready w.accepted (w.received i)))
    (value_is : now.value ≡ value m w.accepted (ready w.accepted (w.received i))) where
  -- the same queries are answered with the same texts
  pub same-answers : (n k : ℕ) → k ≡ n + 1 → (cs : List (LabelledCall Op)) (ds : List (Call Op)) → SameList (SameHeld config.clients w.accepted) cs ds
      → answers m w k i cs ≡ act_lines n (Replica i) (held_acts m now ds)
  same-answers n k e [] [] h = refl
  same-answers n k e [] (d ∷ ds) h = absurd h
  same-answers n k e (c ∷ cs) [] h = absurd h
  same-answers n k e (c ∷ cs) (d ∷ ds) h =
      at_head (is_within w.accepted c.label (w.received i)) (stamp_le d.prev now.val_ts) (sym (test c d h.0.call))
      (same-answers n k e cs ds h.1) (same-answers (n + 1) (suc k) (omega arith) cs ds h.1)
    where
      line : answer_line m w k i c ≡ SendLine (n + 1) (Replica i) (Client d.cid.client) (AnswerSent d.cid (m.read now.value d.op))
      line = λ j. SendLine (e j) (Replica i) (Client (h.0.call.cid j).client) (AnswerSent (h.0.call.cid j) (m.read (sym value_is j) (h.0.call.op j)))

      at_head : (s t : Bool) → s ≡ t → answers m w k i cs ≡ act_lines n (Replica i) (held_acts m now ds) → answers m w (suc k) i cs ≡ act_lines (n + 1) (Replica i) (held_acts m now ds)
          → cond s (answer_line m w k i c ∷ answers m w (suc k) i cs) (answers m w k i cs) ≡ act_lines n (Replica i) (cond t (answer_act m now d ∷ held_acts m now ds) (held_acts m now ds))
      at_head true true q out in_first = λ j. line j ∷ in_first j
      at_head false false q out in_first = out
      at_head true false q out in_first = absurd (true≢false q)
      at_head false true q out in_first = absurd (true≢false (sym q))

  -- and the same queries stay
  pub same-kept : (cs : List (LabelledCall Op)) (ds : List (Call Op)) → SameList (SameHeld config.clients w.accepted) cs ds
      → SameList (SameHeld config.clients w.accepted) (filter (λ c. not (is_within w.accepted c.label (w.received i))) cs) (filter (λ d. not (stamp_le d.prev now.val_ts)) ds)
  same-kept [] [] h = tt
  same-kept [] (d ∷ ds) h = absurd h
  same-kept (c ∷ cs) [] h = absurd h
  same-kept (c ∷ cs) (d ∷ ds) h = at_head (is_within w.accepted c.label (w.received i)) (stamp_le d.prev now.val_ts) (sym (test c d h.0.call)) (same-kept cs ds h.1)
    where
      rest_of : List (LabelledCall Op)
      rest_of = filter (λ c. not (is_within w.accepted c.label (w.received i))) cs

      others : List (Call Op)
      others = filter (λ d. not (stamp_le d.prev now.val_ts)) ds

      at_head : (s t : Bool) → s ≡ t → SameList (SameHeld config.clients w.accepted) rest_of others → SameList (SameHeld config.clients w.accepted) (cond (not s) (c ∷ rest_of) rest_of) (cond (not t) (d ∷ others) others)
      at_head true true q rest = rest
      at_head false false q rest = (h.0, rest)
      at_head true false q rest = absurd (true≢false q)
      at_head false true q rest = absurd (true≢false (sym q))

  -- ---- the messages of the answers

  module _ (issued : Cid → Option (LabelledCall Op)) (fronts : List (FrontState Op)) (x : Handling Op) where
    -- after some lines there are more messages, as many as were posted, and nothing else changed
    pub record HasSent (after : Facts Op) (posted : List (Posted Op)) : Type 0 where
      pub messages : List (SentMessage Op)
      pub facts : after ≡ record w { messages = messages }
      pub shared : IsShared m config issued (record w { messages = messages }) fronts posted

    pub answers-sent : (k : ℕ) (cs : List (LabelledCall Op)) (ds : List (Call Op)) → SameList (SameHeld config.clients w.accepted) cs ds
        → (messages : List (SentMessage Op)) (posted : List (Posted Op)) → k ≡ length posted + 1 → IsShared m config issued (record w { messages = messages }) fronts posted
        → HasSent (lines_read m config x (record w { messages = messages }) (answers m w k i cs)) (posted ++ act_posts (Replica i) (held_acts m now ds))
    answers-sent k [] [] h messages posted e shared = record { messages = messages; facts = refl; shared = subst (λ (ps : List (Posted Op)). IsShared m config issued (record w { messages = messages }) fronts ps) (sym (append-nil posted)) shared }
    answers-sent k [] (d ∷ ds) h messages posted e shared = absurd h
    answers-sent k (c ∷ cs) [] h messages posted e shared = absurd h
    answers-sent k (c ∷ cs) (d ∷ ds) h messages posted e shared =
        at_head (is_within w.accepted c.label (w.received i)) (stamp_le d.prev now.val_ts) (sym (test c d h.0.call))
        (answers-sent k cs ds h.1 messages posted e shared)
        (λ s. answers-sent (suc k) cs ds h.1 (sent ∷ messages) (posted ++ post ∷ []) (omega (arith, length-append posted (post ∷ []))) s)
      where
        sent : SentMessage Op
        sent = record { number = k; from = Replica i; to = Client c.cid.client; what = AnswerReply c.cid (ready w.accepted (w.received i)) }

        post : Posted Op
        post = posting (Replica i) (Client d.cid.client) (Answer d.cid (m.read now.value d.op) now.val_ts)

        at_head : (s t : Bool) → s ≡ t
            → HasSent (lines_read m config x (record w { messages = messages }) (answers m w k i cs)) (posted ++ act_posts (Replica i) (held_acts m now ds))
            → (IsShared m config issued (record w { messages = sent ∷ messages }) fronts (posted ++ post ∷ [])
            → HasSent (lines_read m config x (record w { messages = sent ∷ messages }) (answers m w (suc k) i cs)) ((posted ++ post ∷ []) ++ act_posts (Replica i) (held_acts m now ds)))
            → HasSent (lines_read m config x (record w { messages = messages }) (cond s (answer_line m w k i c ∷ answers m w (suc k) i cs) (answers m w k i cs))) (posted ++ act_posts (Replica i) (cond t (answer_act m now d ∷ held_acts m now ds) (held_acts m now ds)))
        at_head true true q out in_first =
            subst (λ (ps : List (Posted Op)). HasSent (lines_read m config x (record w { messages = sent ∷ messages }) (answers m w (suc k) i cs)) ps) (append_assoc posted (post ∷ []) (act_posts (Replica i) (held_acts m now ds)))
            (in_first (message-sent m config issued (record w { messages = messages }) fronts posted shared sent post e
            (record { from = refl; to = ap (λ (cid : Cid). Client cid.client) h.0.call.cid; way = tt; there = h.0.client; what = same_answer c.cid d.cid (ready w.accepted (w.received i)) _ now.val_ts h.0.call.cid names (ready-set w.accepted sound (w.received i)) }) tt))
        at_head false false q out in_first = out
        at_head true false q out in_first = absurd (true≢false q)
        at_head false true q out in_first = absurd (true≢false (sym q))

-- ---- the state at the end

module _ {Value Op : Type 0} (m : Meaning Value Op) (config : Config) (w : Facts Op) (i : ℕ) (sound : IsSound w.accepted) (numbered : Each (λ a. 0 < a.spot.number) w.acks) (apart : HasApartAcks w.acks)
    (state : CausalState Value Op) (mid : IsMid m config w i state) (whole : IsWhole config w i)
    (kept : List Kept) (kept_are : (cid : Cid) → is_ready w i cid ≡ true → is_some (kept_spot kept cid) ≡ true)
    (done : HasApplied m w.accepted (ready w.accepted (w.received i)) mid.left kept (applied m state)) where
  -- the test of a held query's label
  pub mid-test : (c : LabelledCall Op) (d : Call Op) → SameCall w.accepted c d → stamp_le d.prev (applied m state).val_ts ≡ is_within w.accepted c.label (w.received i)
  mid-test c d same = stamp_le-within w.accepted sound (w.received i) state.rep_ts mid.pending.counted (applied m state).val_ts done.names d.prev c.label same.names same.set

  -- the updates that stay
  abbrev updates : List (LogUpdate Op)
  updates = unknown_updates state.table state.updates

  abbrev known : Spot → Bool
  known = known_everywhere config w i

  update-known : (u : LogUpdate Op) (a : Acceptance Op) → StandsFor w.accepted u a → known_in state.table u.spot ≡ known a.spot
  update-known u a stands =
      known-same config.replicas (told_by w i) state mid.noted.rows u.spot (subst (λ (k : Spot). 0 < k.number) (sym stands.spot) (each-at _ a w.accepted sound.numbered stands.among)) ∙ ap known stands.spot

  log_end : IsLogOf w.accepted (logged config w i) updates
  log_end = record {
    each = each-map _ _ updates (λ u h. stays u h.0.0 h.0.1 h.0.2 h.1) (filter-each (IsUpdateOf w.accepted mid.logs) (λ u. not (known_in state.table u.spot)) state.updates mid.pending.log.each);
    all = each-from _ w.accepted (λ a member e. found a (each-at _ a w.accepted mid.pending.log.all member (never-false (mid.logs a.spot) (λ out. true≢false (sym (mid.unlogged a.spot (and-left (w.received i a.spot) _ e) out) ∙ not-false (known a.spot) (and-right (w.received i a.spot) _ e)))))
        (and-right (w.received i a.spot) _ e));
    ascending = ascending-filter (λ u. not (known_in state.table u.spot)) state.updates mid.pending.log.ascending;
  }
    where
      stays : (u : LogUpdate Op) (a : Acceptance Op) → StandsFor w.accepted u a → mid.logs a.spot ≡ true → not (known_in state.table u.spot) ≡ true → IsUpdateOf w.accepted (logged config w i) u
      stays u a stands here out = (a, stands, and-intro (w.received i a.spot) _ (mid.pending.received a.spot here) (ap not (sym (update-known u a stands)) ∙ out))

      found : (a : Acceptance Op) → HasUpdateAt a.spot state.updates → not (known a.spot) ≡ true → HasUpdateAt a.spot updates
      found a u out =
          let of = each-at _ u.0 state.updates mid.pending.log.each u.1 in
          (u.0, among-filter (λ x. not (known_in state.table x.spot)) u.0 state.updates u.1 (ap not (update-known u.0 of.0 of.1 ∙ ap known (sym of.1.spot ∙ u.2)) ∙ out), u.2)

  -- a call is logged by the rules just where it is by the definitions
  logs-same : (cid : Cid) → logs_update updates cid ≡ logs_call config w i cid
  logs-same cid = log-logs w.accepted (logged config w i) updates sound.apart log_end cid

  -- a call's acknowledgement is found in the list just where the list has one
  abbrev listed : Cid → Bool
  listed cid = list_any (λ a. mid.ack_logs a && same_cid a.cid cid) w.acks

  listed-same : (cid : Cid) → logs_ack state.acks cid ≡ listed cid
  listed-same cid = ap (λ (acks : List LogAck). logs_ack acks cid) mid.noted.acks_are ∙ acks-logs mid.ack_logs w.acks cid

  -- of what is ready and didn't leave before, what is done is what the rules find so
  done-same : (cid : Cid) → is_ready w i cid ≡ true → mid.left cid ≡ false → (listed cid && not (logs_call config w i cid)) ≡ is_done config w i cid
  done-same cid is_there stays = same-test _ _ forth back
    where
      forth : (listed cid && not (logs_call config w i cid)) ≡ true → is_done config w i cid ≡ true
      forth e =
          let a = list_any-among (λ (a : LogAck). mid.ack_logs a && same_cid a.cid cid) w.acks (and-left (listed cid) _ e) in
          let here = each-at _ a.0 w.acks mid.acks_within a.1 (and-left (mid.ack_logs a.0) _ a.2) in
          and-intro (has_ack w.acks (w.received i) cid) _
          (among-list_any (λ (x : LogAck). w.received i x.spot && same_cid cid x.cid) a.0 w.acks a.1 (and-intro (w.received i a.0.spot) _ here (same_cid-sym cid a.0.cid ∙ and-right (mid.ack_logs a.0) _ a.2)))
          (and-right (listed cid) _ e)

      back : is_done config w i cid ≡ true → (listed cid && not (logs_call config w i cid)) ≡ true
      back e =
          let a = list_any-among (λ (x : LogAck). w.received i x.spot && same_cid cid x.cid) w.acks (and-left (has_ack w.acks (w.received i) cid) _ e) in
          let here = and-left (w.received i a.0.spot) _ a.2 in
          let of : same_cid cid a.0.cid ≡ true = and-right (w.received i a.0.spot) _ a.2 in
          let cids : cid ≡ a.0.cid = same_cid-is cid a.0.cid of in
          let in_list : mid.ack_logs a.0 ≡ true = never-false (mid.ack_logs a.0) (λ out.
          true≢false (sym ((each-at _ a.0 w.acks mid.unnoted a.1 here out).1 (ap (is_ready w i) (sym cids) ∙ is_there)) ∙ ap mid.left (sym cids) ∙ stays)) in
          and-intro (listed cid) _
          (among-list_any (λ (x : LogAck). mid.ack_logs x && same_cid x.cid cid) a.0 w.acks a.1 (and-intro (mid.ack_logs a.0) _ in_list (same_cid-sym a.0.cid cid ∙ of)))
          (and-right (has_ack w.acks (w.received i) cid) _ e)

  -- the calls that stay are those that are known still
  stays-same : (cid : Cid) → ((is_ready w i cid && not (mid.left cid)) && not (logs_ack state.acks cid && not (logs_update updates cid))) ≡ (is_ready w i cid && not (is_left config w i cid))
  stays-same cid =
      (λ k. (is_ready w i cid && not (mid.left cid)) && not (listed-same cid k && not (logs-same cid k))) ∙ by_test (is_ready w i cid) refl (mid.left cid) refl
    where
      by_test : (there : Bool) → is_ready w i cid ≡ there → (gone : Bool) → mid.left cid ≡ gone
          → ((there && not gone) && not (listed cid && not (logs_call config w i cid))) ≡ (there && not (there && is_done config w i cid))
      by_test false e gone f = refl
      by_test true e false f = ap not (done-same cid e f)
      by_test true e true f = sym (ap not (and-right (is_ready w i cid) _ (mid.away cid f)))

  abbrev keeps : Cid → Bool
  keeps cid = not (logs_ack state.acks cid && not (logs_update updates cid))

  abbrev calls : List (Cid × Known)
  calls = filter (λ e. keeps e.0) (applied m state).calls

  table_end : IsTableOf w.accepted (ready w.accepted (w.received i)) (is_left config w i) kept calls
  table_end = record {
    spots = λ cid stays. spots_at cid stays (keeps cid) refl;
    known = λ cid. ap is_some (known-filter keeps (applied m state).calls cid) ∙ some-kept (keeps cid) (known_of (applied m state).calls cid)
        ∙ ap (λ t. t && keeps cid) (done.table.known cid) ∙ stays-same cid;
    were = λ cid gone. and-left (is_ready w i cid) _ gone;
    stamps = λ cid k e. done.table.stamps cid k (was cid k (keeps cid) refl (sym (known-filter keeps (applied m state).calls cid) ∙ e));
  }
    where
      some-kept : (t : Bool) (o : Option Known) → is_some (cond t o None) ≡ (is_some o && t)
      some-kept true (Some k) = refl
      some-kept true None = refl
      some-kept false (Some k) = refl
      some-kept false None = refl

      none-is : (o : Option Known) → is_some o ≡ false → o ≡ None
      none-is None e = refl
      none-is (Some k) e = absurd (true≢false e)

      was : (cid : Cid) (k : Known) (t : Bool) → keeps cid ≡ t → cond t (known_of (applied m state).calls cid) None ≡ Some k → known_of (applied m state).calls cid ≡ Some k
      was cid k true q e = e
      was cid k false q e = cc

      -- what didn't leave was known, or isn't ready
      spots_at : (cid : Cid) → is_left config w i cid ≡ false → (t : Bool) → keeps cid ≡ t → option_map (λ k. k.spot) (known_of calls cid) ≡ kept_spot kept cid
      spots_at cid stays t q =
          let gone : mid.left cid ≡ false = never (mid.left cid) (λ e. true≢false (sym (mid.away cid e) ∙ stays)) in
          let spots = done.table.spots cid gone in
          ap (option_map (λ k. k.spot)) (known-filter keeps (applied m state).calls cid) ∙ by_keep t q gone spots
        where
          by_keep : (t : Bool) → keeps cid ≡ t → mid.left cid ≡ false → option_map (λ k. k.spot) (known_of (applied m state).calls cid) ≡ kept_spot kept cid
              → option_map (λ k. k.spot) (cond (keeps cid) (known_of (applied m state).calls cid) None) ≡ kept_spot kept cid
          by_keep true q gone spots = ap (λ t. option_map (λ k. k.spot) (cond t (known_of (applied m state).calls cid) None)) q ∙ spots
          by_keep false q gone spots =
              let absent : (is_ready w i cid && not (mid.left cid)) ≡ false = unready (is_ready w i cid) refl gone q in
              ap (λ t. option_map (λ k. k.spot) (cond t (known_of (applied m state).calls cid) None)) q
              ∙ sym (ap (option_map (λ k. k.spot)) (none-is (known_of (applied m state).calls cid) (done.table.known cid ∙ absent))) ∙ spots
            where
              unready : (t : Bool) → is_ready w i cid ≡ t → mid.left cid ≡ false → keeps cid ≡ false → (is_ready w i cid && not (mid.left cid)) ≡ false
              unready false e gone q = ap (λ t. t && not (mid.left cid)) e
              unready true e gone q =
                  let known : (is_ready w i cid && not (is_left config w i cid)) ≡ true = (λ k. e k && not (stays k)) in
                  absurd (true≢false (sym known ∙ sym (stays-same cid) ∙ ap (λ t. (is_ready w i cid && not (mid.left cid)) && t) q ∙ and-false (is_ready w i cid && not (mid.left cid))))

  pub ended-at : IsReplicaAt m config w.accepted (w.received i) (logged config w i) (is_left config w i) kept (filter (λ c. not (is_within w.accepted c.label (w.received i))) (w.held i)) (pruned config.delta (still_held (applied m state)))
  ended-at = record {
    counted = mid.pending.counted;
    log = log_end;
    covered = each-from _ w.accepted (λ a member here unready. and-intro (w.received i a.spot) _ here (ap not (never (known a.spot) (λ e. true≢false (sym (each-at _ a w.accepted whole.known member e) ∙ unready)))));
    within = λ s h. and-left (w.received i s) _ h;
    over = whole.left;
    kept_are = kept_are;
    applied = record { names = done.names; value_is = done.value_is; table = table_end };
    still = record { imm = mid.still.imm; parts = mid.still.parts; keys = ascends-filter (λ a b. cid_before a.0 b.0) (λ e. keeps e.0) (applied m state).calls (keys-applied m state mid.still.keys) };
    held_are = same-kept m config w i sound (applied m state) mid-test done.names done.value_is (w.held i) state.held mid.held_are;
  }

  -- the acknowledgements that stay
  pub ended-noted : HasNoted config.replicas w.acks (is_acked config w i) (w.clock i) (told_by w i) (pruned config.delta (still_held (applied m state)))
  ended-noted = record {
    clock_is = mid.noted.clock_is;
    acks_are = ap (filter useful) mid.noted.acks_are ∙ filter-acks mid.ack_logs useful w.acks apart ∙ acks-same _ _ w.acks (each-from _ w.acks (λ a member. same a member));
    rows = record { rows = mid.noted.rows.rows; counted = mid.noted.rows.counted };
  }
    where
      useful : LogAck → Bool
      useful a = not (is_spent_by config.delta state.clock state.table updates a)

      spent-same : (a : LogAck) → IsAmong a w.acks → is_spent_by config.delta state.clock state.table updates a ≡ is_spent config w i a
      spent-same a member = λ k.
          known-same config.replicas (told_by w i) state mid.noted.rows a.spot (each-at _ a w.acks numbered member) k
          && (is_late a.time config.delta (mid.noted.clock_is k) && not (logs-same a.cid k))

      same : (a : LogAck) → IsAmong a w.acks → (mid.ack_logs a && useful a) ≡ is_acked config w i a
      same a member = ap (λ t. mid.ack_logs a && not t) (spent-same a member) ∙ by_test (mid.ack_logs a) refl (w.received i a.spot) refl
        where
          by_test : (listed : Bool) → mid.ack_logs a ≡ listed → (here : Bool) → w.received i a.spot ≡ here → (listed && not (is_spent config w i a)) ≡ (here && not (is_spent config w i a))
          by_test true e true f = refl
          by_test true e false f = absurd (true≢false (sym (each-at _ a w.acks mid.acks_within member e) ∙ f))
          by_test false e false f = refl
          by_test false e true f = sym (ap not (each-at _ a w.acks mid.unnoted member f e).0)
