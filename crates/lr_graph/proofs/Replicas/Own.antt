-- What a message itself does at a replica that goes on as it was.
use Rattle.std.proofs.Common.{◌≡◌, ◌≢◌, ℕ, ◌+◌, ◌<◌, max, true, cond, inl, inr, List, [], ◌∷◌, ◌++◌, length, Option, Some, refl, sym, ap, ◌∙◌, subst, arith}
use Rattle.std.proofs.lemmas.List.{append-nil}
use Rattle.lr_base.specs.Config.{is_late}
use Rattle.lr_base.specs.Meaning.{Meaning}
use Rattle.lr_base.specs.Orders.{IsAmong}
use Rattle.lr_base.specs.Rules.{CausalState, ticked}
use Rattle.lr_base.specs.Steps.{answer_act, done_act, refusing, idle}
use Rattle.lr_base.specs.declared.acts.Act.TheVariants.{Say}
use Rattle.lr_base.specs.declared.acts.Posted.{Posted}
use Rattle.lr_base.specs.declared.events.Outcome.TheVariants.{ClockAt, Refuse, Send}
use Rattle.lr_base.specs.declared.events.Refusal.{Refusal}
use Rattle.lr_base.specs.declared.events.Refusal.TheVariants.{Again}
use Rattle.lr_base.specs.declared.events.Sent.TheVariants.{Answer as AnswerSent, Done as DoneSent}
use Rattle.lr_base.specs.declared.messages.Call.{Call}
use Rattle.lr_base.specs.declared.messages.Message.TheVariants.{Answer, Done}
use Rattle.lr_base.specs.declared.messages.LogAck.{LogAck}
use Rattle.lr_base.specs.declared.names.Actor.TheVariants.{Client, Replica}
use Rattle.lr_base.specs.declared.names.Cid.{Cid}
use Rattle.lr_base.specs.declared.names.Config.{Config}
use Rattle.lr_base.specs.declared.names.Spot.{Spot}
use Rattle.lr_graph.specs.Closed.{Each, HasApartSpots}
use Rattle.lr_graph.specs.Graph.{Acceptance, AnswerReply, DoneReply, Facts, LabelledCall, SentMessage, below_of, ready}
use Rattle.lr_graph.specs.Legal.{answer_line, done_line, next_number}
use Rattle.lr_graph.specs.Names.{Names}
use Rattle.lr_graph.specs.Runs.{RunState}
use Rattle.lr_graph.specs.Sets.{SpotSet, put_at, same_spot}
use Rattle.lr_graph.proofs.Replicas.Accepting.{unchanged-pending}
use Rattle.lr_graph.proofs.Stamps.Central.{below-set}
use Rattle.lr_graph.proofs.Replicas.Ending.{IsMid, ready-set}
use Rattle.lr_graph.proofs.Lists.Members.{each-at, each-from}
use Rattle.lr_graph.proofs.Lists.Tests.{and-intro, and-left, and-right}
use Rattle.lr_graph.proofs.Pruning.Elsewhere.{tied-elsewhere}
use Rattle.lr_graph.proofs.Pruning.Spreading.{spread-beside}
use Rattle.lr_graph.proofs.Pruning.Spent.{late-later, spent-left, spent-unlogged, unacked-spent, unlogged-known}
use Rattle.lr_graph.proofs.Replicas.Posting.{message-sent, posting}
use Rattle.lr_graph.proofs.Related.Relation.{HasNoted, IsReplicaAt, IsShared, IsTied, SameCall, same_answer, same_done}
use Rattle.lr_graph.proofs.Handled.{alone}
use Rattle.lr_graph.proofs.Replicas.Stepping.{IsOwnPart, put-other, put-same}
use Rattle.lr_graph.proofs.Lists.Tests.{same_spot-self}
use Rattle.lr_graph.specs.After.{Handling, clock_set}
use Rattle.lr_graph.specs.Pruned.{is_acked, is_left, is_spent, known_everywhere, logged, told_by}

-- what is below the acceptance of a spot
pub below_of-is : {Op : Type 0} (l : List (Acceptance Op)) → HasApartSpots l → (a : Acceptance Op) → IsAmong a l → below_of l a.spot ≡ a.below
below_of-is [] apart a member = absurd member
below_of-is (b ∷ l) apart a (inl e) =
    ap (λ t. cond t b.below (below_of l a.spot)) (ap (λ (c : Acceptance _). same_spot a.spot c.spot) (sym e) ∙ same_spot-self a.spot) ∙ ap (λ (c : Acceptance _). c.below) (sym e)
below_of-is (b ∷ l) apart a (inr member) =
    ap (λ t. cond t b.below (below_of l a.spot)) (each-at _ a l apart.0 member) ∙ below_of-is l apart.1 a member

-- a replica that goes on as it was is within a step at which nothing came
pub unchanged-mid : {Value Op : Type 0} (m : Meaning Value Op) (config : Config) (w : Facts Op) (i : ℕ) (state : CausalState Value Op) → Rattle.lr_graph.specs.Closed.IsSound w.accepted
    → IsReplicaAt m config w.accepted (w.received i) (logged config w i) (is_left config w i) (w.kept i) (w.held i) state → HasNoted config.replicas w.acks (is_acked config w i) (w.clock i) (told_by w i) state → IsMid m config w i state
unchanged-mid m config w i state sound ok noted = record {
  logs = logged config w i;
  done = ready w.accepted (w.received i);
  left = is_left config w i;
  ack_logs = is_acked config w i;
  pending = unchanged-pending m config w.accepted sound (w.received i) (logged config w i) (is_left config w i) (w.kept i) (w.held i) state ok;
  still = ok.still;
  noted = noted;
  held_are = ok.held_are;
  unlogged = λ s here out. unlogged-known config w i s here out;
  acks_within = each-from _ w.acks (λ a member h. and-left (w.received i a.spot) _ h);
  unnoted = each-from _ w.acks (λ a member here out. (let spent = unacked-spent config w i a here out in (spent, λ r. spent-left config w i a member here spent r)));
  away = λ cid gone. gone;
}

module _ {Value Op : Type 0} (m : Meaning Value Op) (config : Config) (issued : Cid → Option (LabelledCall Op)) (w : Facts Op) (v : RunState Value Op) (shared : IsShared m config issued w v.fronts v.posted)
    (i : ℕ) (state : CausalState Value Op) (ok : IsReplicaAt m config w.accepted (w.received i) (logged config w i) (is_left config w i) (w.kept i) (w.held i) state)
    (noted : HasNoted config.replicas w.acks (is_acked config w i) (w.clock i) (told_by w i) state) (others : (j : ℕ) → j ≢ i → j < config.replicas → IsTied m config w v.replicas j) (x : Handling Op) where
  same_posts : IsShared m config issued w v.fronts (v.posted ++ [])
  same_posts = subst (λ (ps : List (Posted Op)). IsShared m config issued w v.fronts ps) (sym (append-nil v.posted)) shared

  abbrev next_is : next_number w ≡ length v.posted + 1
  next_is = let c = shared.count in omega arith

  -- nothing is done
  pub own-idle : IsOwnPart m config issued w v i x [] (idle state)
  own-idle = record { lines = refl; shared = same_posts; mid = unchanged-mid m config w i state shared.sound ok noted; others = others }

  -- a refusal
  pub own-refused : (why : Refusal) → IsOwnPart m config issued w v i x (Refuse why ∷ []) (refusing state why)
  own-refused why = record { lines = refl; shared = same_posts; mid = unchanged-mid m config w i state shared.sound ok noted; others = others }

  -- a call that was taken before is replied to again
  pub own-again : (cid : Cid) → cid.client < config.clients → (a : Acceptance Op) → IsAmong a w.accepted → a.cid ≡ cid → (spot other : Spot) → spot ≡ a.spot → spot ≡ other → (stamp : List ℕ) → Names stamp a.below
      → IsOwnPart m config issued w v i x (Refuse (Again spot) ∷ done_line w i cid spot ∷ []) (record { state = state; acts = Rattle.lr_base.specs.declared.acts.Act.TheVariants.Say (Refuse (Again other)) ∷ done_act cid other stamp ∷ [] })
  own-again cid client a member named spot other is same stamp names = record {
    lines = λ k. Refuse (Again (same k)) ∷ Send (next_is k) (Replica i) (Client cid.client) (DoneSent cid (same k)) ∷ [];
    shared = message-sent m config issued w v.fronts v.posted shared sent (posting (Replica i) (Client cid.client) (Done cid other stamp)) next_is
        (record {
          from = refl;
          to = refl;
          way = tt;
          there = client;
          what = same_done cid cid (below_of w.accepted spot) other stamp refl (subst (Names stamp) (sym below) names) (subst (λ (y : SpotSet). Rattle.lr_graph.specs.Closed.IsSetOf w.accepted y) (sym below) (below-set w.accepted shared.sound a member))
              (record { acceptance = a; among = member; call = named; at = sym is ∙ same; below = sym below });
        }) tt;
    mid = unchanged-mid m config (record w { messages = sent ∷ w.messages }) i state shared.sound ok noted;
    others = others;
  }
    where
      sent : SentMessage Op
      sent = record { number = next_number w; from = Replica i; to = Client cid.client; what = DoneReply cid (below_of w.accepted spot) }

      below : below_of w.accepted spot ≡ a.below
      below = ap (below_of w.accepted) is ∙ below_of-is w.accepted shared.sound.apart a member

  -- a query is answered
  pub own-answered : (c : LabelledCall Op) (d : Call Op) → SameCall w.accepted c d → c.cid.client < config.clients
      → IsOwnPart m config issued w v i x (answer_line m w (next_number w) i c ∷ []) (record { state = state; acts = answer_act m state d ∷ [] })
  own-answered c d same client = record {
    lines = λ k. Send (next_is k) (Replica i) (Client (same.cid k).client) (AnswerSent (same.cid k) (m.read (sym ok.applied.value_is k) (same.op k))) ∷ [];
    shared = message-sent m config issued w v.fronts v.posted shared sent (posting (Replica i) (Client d.cid.client) (Answer d.cid (m.read state.value d.op) state.val_ts)) next_is
        (record { from = refl; to = ap (λ (cid : Cid). Client cid.client) same.cid; way = tt; there = client; what = same_answer c.cid d.cid (ready w.accepted (w.received i)) _ state.val_ts same.cid ok.applied.names (ready-set w.accepted shared.sound (w.received i)) }) tt;
    mid = unchanged-mid m config (record w { messages = sent ∷ w.messages }) i state shared.sound ok noted;
    others = others;
  }
    where
      sent : SentMessage Op
      sent = record { number = next_number w; from = Replica i; to = Client c.cid.client; what = AnswerReply c.cid (ready w.accepted (w.received i)) }

-- ---- the clock

module _ {Value Op : Type 0} (m : Meaning Value Op) (config : Config) (issued : Cid → Option (LabelledCall Op)) (w : Facts Op) (v : RunState Value Op) (shared : IsShared m config issued w v.fronts v.posted)
    (i : ℕ) (state : CausalState Value Op) (ok : IsReplicaAt m config w.accepted (w.received i) (logged config w i) (is_left config w i) (w.kept i) (w.held i) state)
    (noted : HasNoted config.replicas w.acks (is_acked config w i) (w.clock i) (told_by w i) state) (others : (j : ℕ) → j ≢ i → j < config.replicas → IsTied m config w v.replicas j) where
  -- the clock is read
  pub own-ticked : (reading : ℕ)
      → IsOwnPart m config issued w v i (alone (Some (Replica i))) (ClockAt (max (w.clock i) reading) ∷ []) (record { state = ticked reading state; acts = Say (ClockAt (max state.clock reading)) ∷ [] })
  own-ticked reading = record {
    lines = λ k. ClockAt (max (sym noted.clock_is k) reading) ∷ [];
    shared = let s = same_posts m config issued w v shared i state ok noted others (alone (Some (Replica i))) in record { sound = s.sound; each = s.each; apart = s.apart; numbered = s.numbered; own = s.own; exist = s.exist; spread = spread-beside config w w.front w.kept w.held (put_at i (max (w.clock i) reading) w.clock) s.spread; fronts_are = s.fronts_are; opened = s.opened; count = s.count; messages = s.messages };
    mid = let p = unchanged-pending m config w.accepted shared.sound (w.received i) (logged config w i) (is_left config w i) (w.kept i) (w.held i) state ok in record {
      logs = logged config w i;
      done = ready w.accepted (w.received i);
      left = is_left config w i;
      ack_logs = is_acked config w i;
      pending = record { counted = p.counted; log = p.log; received = p.received; covered = p.covered; within = p.within; flagged = p.flagged; over = p.over; applied = record { names = p.applied.names; value_is = p.applied.value_is; table = p.applied.table } };
      still = record { imm = ok.still.imm; parts = ok.still.parts; keys = ok.still.keys };
      noted = record { clock_is = ap (λ n. max n reading) noted.clock_is ∙ sym (put-same i (max (w.clock i) reading) w.clock); acks_are = noted.acks_are; rows = record { rows = noted.rows.rows; counted = noted.rows.counted } };
      held_are = ok.held_are;
      unlogged = λ s here out. unlogged-known config w i s here out;
      acks_within = each-from _ w.acks (λ a member h. and-left (w.received i a.spot) _ h);
      unnoted = each-from _ w.acks (λ a member here out. (
        later a (unacked-spent config w i a here out),
        λ r. spent-left config w i a member here (unacked-spent config w i a here out) r,
      ));
      away = λ cid gone. gone;
    };
    others = λ j apart within. tied-elsewhere m config v.replicas j w w.received w.told w.kept w.held (put_at i (max (w.clock i) reading) w.clock)
        refl refl refl refl (put-other i j (max (w.clock i) reading) w.clock apart) (others j apart within);
  }
    where
      next : Facts Op
      next = clock_set w i (max (w.clock i) reading)

      -- what is spent is spent at a later clock
      later : (a : LogAck) → is_spent config w i a ≡ true → is_spent config next i a ≡ true
      later a spent =
          let late = and-left (is_late a.time config.delta (w.clock i)) _ (and-right (known_everywhere config w i a.spot) _ spent) in
          let risen : is_late a.time config.delta (max (w.clock i) reading) ≡ true = late-later a.time config.delta (w.clock i) (max (w.clock i) reading) (omega arith) late in
          and-intro (known_everywhere config w i a.spot) _ (and-left (known_everywhere config w i a.spot) _ spent)
          (and-intro _ _ (ap (is_late a.time config.delta) (put-same i (max (w.clock i) reading) w.clock) ∙ risen) (spent-unlogged config w i a spent))
