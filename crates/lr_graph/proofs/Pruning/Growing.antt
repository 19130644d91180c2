-- What only grows along a legal history: what there is, what replicas received and were told, and their clocks; and
-- a replica accepts no call of which it received an item.
use Rattle.std.proofs.Common.{◌≡◌, ◌<◌, ◌≤◌, ◌^◌, ℕ, ◌==◌, max, find, Bool, true, false, cond, ◌⊎◌, inl, inr}
use Rattle.std.proofs.Common.{List, [], ◌∷◌, ◌++◌, Option, Some, None, refl, sym, ap, ◌∙◌, subst, true≢false, arith}
use Rattle.lr_base.specs.Ascending.{same_cid}
use Rattle.lr_base.specs.Config.{is_late}
use Rattle.lr_base.specs.Kinds.{has_rules}
use Rattle.lr_base.specs.Meaning.{Meaning}
use Rattle.lr_base.specs.Orders.{IsAmong}
use Rattle.lr_base.specs.declared.events.Event.{Event}
use Rattle.lr_base.specs.declared.events.Event.TheVariants.{Call, Resend, Ack as AckEvent, Deliver, Tick}
use Rattle.lr_base.specs.declared.events.Event.TheVariants.{Gossip as GossipEvent, Show}
use Rattle.lr_base.specs.declared.events.Outcome.{Outcome}
use Rattle.lr_base.specs.declared.events.Outcome.TheVariants.{Got, Stale}
use Rattle.lr_base.specs.declared.events.Step.{Step}
use Rattle.lr_base.specs.declared.messages.LogAck.{LogAck}
use Rattle.lr_base.specs.declared.names.Actor.{Actor}
use Rattle.lr_base.specs.declared.names.Actor.TheVariants.{Client, Replica}
use Rattle.lr_base.specs.declared.names.Cid.{Cid}
use Rattle.lr_base.specs.declared.names.Config.{Config}
use Rattle.lr_base.specs.declared.names.Spot.{Spot}
use Rattle.lr_graph.specs.After.{Handling, accepts, after, call_read, clock_read, clock_set, end_read, got_read, handling}
use Rattle.lr_graph.specs.After.{lines_read, step_ended, stepping, takes, with_front}
use Rattle.lr_graph.specs.Closed.{Each}
use Rattle.lr_graph.specs.Graph.{Acceptance, AckCopy, AnswerReply, Carried, DoneReply, Facts, FrontFacts, GossipOf}
use Rattle.lr_graph.specs.Graph.{Kept, LabelledCall, QueryCopy, SentMessage, UpdateCopy, has_call, least_spot}
use Rattle.lr_graph.specs.Legal.{accept_lines, ack_lines, acknowledge_lines, answers_at, call_lines, copy_lines}
use Rattle.lr_graph.specs.Legal.{delivery_lines, kept_at, message_lines, next_number, next_spot, noted_at}
use Rattle.lr_graph.specs.Legal.{outcomes_of, query_lines, reply_line, resend_lines, taken_at, update_lines}
use Rattle.lr_graph.specs.Once.{AcceptsOnce}
use Rattle.lr_graph.specs.Pruned.{logged}
use Rattle.lr_graph.specs.Runs.{RunState}
use Rattle.lr_graph.specs.Sets.{SpotSet, only, put_at, ◌∪◌}
use Rattle.lr_graph.specs.Spread.{has_item}
use Rattle.lr_graph.specs.Timed.{IsNotLater, IsTimed, WasSent}
use Rattle.lr_graph.proofs.Handled.{alone, came_in}
use Rattle.lr_graph.proofs.Lists.Members.{each-at, each-map, find-some}
use Rattle.lr_graph.proofs.Lists.Tests.{never, or-cases, or-left, or-right}
use Rattle.lr_graph.proofs.Promised.Again.{sent-there}
use Rattle.lr_graph.proofs.Promised.Walk.{after-parts, answers-send, own_read}
use Rattle.lr_graph.proofs.Pruning.Once.{new-here}
use Rattle.lr_graph.proofs.Pruning.Spreading.{has_ack-holds, holds-has_ack}
use Rattle.lr_graph.proofs.Related.Relation.{IsSame, IsThere}
use Rattle.lr_graph.proofs.Replicas.OwnParts.{item-own, item-places}
use Rattle.lr_graph.proofs.Sets.PutAt.{put-each}
use Rattle.lr_graph.proofs.Sets.Values.{has_call-holds, holds-has_call}

module _ {Op : Type 0} where
  -- from these facts to those
  pub record Grows (w next : Facts Op) : Type 0 where
    pub accepted : (a : Acceptance Op) → IsAmong a w.accepted → IsAmong a next.accepted
    pub acks : (a : LogAck) → IsAmong a w.acks → IsAmong a next.acks
    pub received : (i : ℕ) (s : Spot) → w.received i s ≡ true → next.received i s ≡ true
    pub told : (i k : ℕ) (s : Spot) → w.told i k s ≡ true → next.told i k s ≡ true
    pub clocks : (i : ℕ) → w.clock i ≤ next.clock i
    pub new : (a : Acceptance Op) → IsAmong a next.accepted
        → IsAmong a w.accepted ⊎ (has_item w (w.received a.spot.place) a.cid ≡ false)
    pub once : AcceptsOnce w.accepted → AcceptsOnce next.accepted

  -- nothing of it goes by messages, by what replicas keep and hold, or by front ends
  pub grows-beside : (w : Facts Op) (messages : List (SentMessage Op)) (kept : ℕ → List Kept)
      (held : ℕ → List (LabelledCall Op)) (front : ℕ → FrontFacts Op)
      → Grows w (record w { messages = messages; kept = kept; held = held; front = front })
  grows-beside w messages kept held front = record {
    accepted = λ a member. member;
    acks = λ a member. member;
    received = λ i s e. e;
    told = λ i k s e. e;
    clocks = λ i. omega arith;
    new = λ a member. inl member;
    once = λ h. h;
  }

  pub grows-self : (w : Facts Op) → Grows w w
  grows-self w = grows-beside w w.messages w.kept w.held w.front

  -- what was received of a call goes on to be
  pub item-later : (w next : Facts Op) → Grows w next → (k : ℕ) (cid : Cid)
      → has_item w (w.received k) cid ≡ true → has_item next (next.received k) cid ≡ true
  item-later w next g k cid has = elim (or-cases (has_call w.accepted (w.received k) cid) _ has) [
    | inl e ↦
        let a = has_call-holds w.accepted (w.received k) cid e in
        or-left _ _ (holds-has_call next.accepted (next.received k) cid a.0 (g.accepted a.0 a.1) (g.received k a.0.spot a.2) a.3)
    | inr e ↦
        let a = has_ack-holds w.acks (w.received k) cid e in
        or-right (has_call next.accepted (next.received k) cid) _
        (holds-has_ack next.acks (next.received k) cid a.0 (g.acks a.0 a.1) (g.received k a.0.spot a.2) a.3)
  ]

  pub grows-more : (w v u : Facts Op) → Grows w v → Grows v u → Grows w u
  grows-more w v u one two = record {
    accepted = λ a member. two.accepted a (one.accepted a member);
    acks = λ a member. two.acks a (one.acks a member);
    received = λ i s e. two.received i s (one.received i s e);
    told = λ i k s e. two.told i k s (one.told i k s e);
    clocks = λ i. (let p = one.clocks i in let q = two.clocks i in omega arith);
    new = λ a member. by_new a (two.new a member);
    once = λ h. two.once (one.once h);
  }
    where
      by_new : (a : Acceptance Op) → IsAmong a v.accepted ⊎ (has_item v (v.received a.spot.place) a.cid ≡ false)
          → IsAmong a w.accepted ⊎ (has_item w (w.received a.spot.place) a.cid ≡ false)
      by_new a (inl member) = one.new a member
      by_new a (inr none) = inr (never _ (λ has. true≢false (sym (item-later w v one a.spot.place a.cid has) ∙ none)))

  -- ---- one thing that grows

  grows-clock : (w : Facts Op) (i reading : ℕ) → Grows w (clock_set w i (max (w.clock i) reading))
  grows-clock w i reading = record {
    accepted = λ a member. member;
    acks = λ a member. member;
    received = λ j s e. e;
    told = λ j k s e. e;
    clocks = put-each (λ j t. w.clock j ≤ t) i _ w.clock (omega arith) (λ j. omega arith);
    new = λ a member. inl member;
    once = λ h. h;
  }

  -- a replica receives more
  more-received : (w : Facts Op) (i : ℕ) (x : SpotSet) (j : ℕ) (s : Spot) → w.received j s ≡ true
      → put_at i (w.received i ∪ x) w.received j s ≡ true
  more-received w i x j s e =
      put-each (λ j (r : SpotSet). w.received j s ≡ true → r s ≡ true) i _ w.received (λ h. or-left (w.received i s) _ h) (λ j h. h) j e

  grows-noted : (w : Facts Op) (i : ℕ) (a : LogAck) (x : SpotSet)
      → Grows w (record w { acks = a ∷ w.acks; received = put_at i (w.received i ∪ x) w.received })
  grows-noted w i a x = record {
    accepted = λ a member. member;
    acks = λ b member. inr member;
    received = more-received w i x;
    told = λ j k s e. e;
    clocks = λ j. omega arith;
    new = λ b member. inl member;
    once = λ h. h;
  }

  grows-taken : (w : Facts Op) (from : Actor) (i : ℕ) (names : SpotSet) → Grows w (takes w from i names)
  grows-taken w (Client client) i names = record {
    accepted = λ a member. member;
    acks = λ a member. member;
    received = more-received w i names;
    told = λ j k s e. e;
    clocks = λ j. omega arith;
    new = λ a member. inl member;
    once = λ h. h;
  }
  grows-taken w (Replica from) i names = record {
    accepted = λ a member. member;
    acks = λ a member. member;
    received = more-received w i names;
    told = put-each (λ j (row : ℕ → SpotSet). (k : ℕ) (s : Spot) → w.told j k s ≡ true → row k s ≡ true) i _ w.told
        (put-each (λ k (x : SpotSet). (s : Spot) → w.told i k s ≡ true → x s ≡ true) from _ (w.told i)
        (λ s e. or-left (w.told i from s) _ e) (λ k s e. e))
        (λ j k s e. e);
    clocks = λ j. omega arith;
    new = λ a member. inl member;
    once = λ h. h;
  }

  -- a replica accepts a call of which it received nothing
  grows-accepted : (w : Facts Op) (i : ℕ) (call : LabelledCall Op) (messages : List (SentMessage Op))
      → ((a : Acceptance Op) → IsAmong a w.accepted → w.received a.spot.place a.spot ≡ true)
      → has_item w (w.received i) call.cid ≡ false
      → Grows w (record (accepts w i (next_spot w i) call) { messages = messages })
  grows-accepted w i call messages own none = record {
    accepted = λ a member. inr member;
    acks = λ a member. member;
    received = more-received w i (only (next_spot w i));
    told = λ j k s e. e;
    clocks = λ j. omega arith;
    new = by_new;
    once = λ h. by_both h;
  }
    where
      l : List (Acceptance Op)
      l = (accepts w i (next_spot w i) call).accepted

      by_new : (a : Acceptance Op) → IsAmong a l
          → IsAmong a w.accepted ⊎ (has_item w (w.received a.spot.place) a.cid ≡ false)
      by_new a (inl e) = inr (ap (λ (b : Acceptance Op). has_item w (w.received b.spot.place) b.cid) e ∙ none)
      by_new a (inr member) = inl member

      -- no older acceptance of the call is at this place
      apart : (a : Acceptance Op) → IsAmong a w.accepted → a.spot.place ≡ i → a.cid ≡ call.cid → ⊥
      apart a member at is =
          let here : w.received i a.spot ≡ true = ap (λ n. w.received n a.spot) (sym at) ∙ own a member in
          true≢false (sym (or-left _ _ (holds-has_call w.accepted (w.received i) call.cid a member here is)) ∙ none)

      by_both : AcceptsOnce w.accepted → AcceptsOnce l
      by_both h a b (inl e) (inl f) at is = e ∙ sym f
      by_both h a b (inl e) (inr in_b) at is =
          absurd (apart b in_b (sym at ∙ ap (λ (c : Acceptance Op). c.spot.place) e) (sym is ∙ ap (λ (c : Acceptance Op). c.cid) e))
      by_both h a b (inr in_a) (inl f) at is =
          absurd (apart a in_a (at ∙ ap (λ (c : Acceptance Op). c.spot.place) f) (is ∙ ap (λ (c : Acceptance Op). c.cid) f))
      by_both h a b (inr in_a) (inr in_b) at is = h a b in_a in_b at is

  -- no acknowledgement of a call is earlier than a copy of it
  pub copy-in_time : (w : Facts Op) → IsTimed w → (call : LabelledCall Op) (time : ℕ) → WasSent w.messages (UpdateCopy call time)
      → Each (λ a. a.cid ≡ call.cid → time ≤ a.time) w.acks
  copy-in_time w timed call time sent = each-map _ _ w.acks (λ a over same.
      subst (IsNotLater a.cid a.time) sent.2 (each-at (λ x. IsNotLater a.cid a.time x.what) sent.0 w.messages over.copies sent.1) (sym same)) timed.noted

-- ---- a legal step

module _ {Value Op : Type 0} (m : Meaning Value Op) (config : Config) (w : Facts Op) (v : RunState Value Op)
    (same : IsSame m config w v) (timed : IsTimed w) where
  -- a call of which a copy isn't refused is new
  pub copy-new : (i : ℕ) → i < config.replicas → (call : LabelledCall Op) (time : ℕ) → WasSent w.messages (UpdateCopy call time)
      → is_late time config.delta (w.clock i) ≡ false → kept_at config w i call.cid ≡ None
      → least_spot w.accepted (logged config w i) call.cid ≡ None → noted_at config w i call.cid ≡ None
      → has_item w (w.received i) call.cid ≡ false
  copy-new i here call time sent early unkept unlogged unnoted =
      new-here config w same.shared.sound (item-places m config same.issued w v same.shared) (item-own m config same.issued w v same.shared)
      same.shared.spread i here (same.replicas i here).2.kept_are call.cid time (copy-in_time w timed call time sent) early unkept unlogged unnoted

  module _ (number : ℕ) (from : Actor) where
    abbrev message : Actor → Carried Op → SentMessage Op
    message to what = record { number = number; from = from; to = to; what = what }

    -- what these lines leave, where this comes
    abbrev read_by : Actor → Carried Op → List Outcome → Facts Op
    read_by to what lines = lines_read m config (came_in (Some (message to what))) w lines

    accept-grows : (i : ℕ) (call : LabelledCall Op) (time : ℕ) → has_item w (w.received i) call.cid ≡ false → (room left : Bool)
        → Grows w (read_by (Replica i) (UpdateCopy call time) (accept_lines w i call.cid room left))
    accept-grows i call time none false left = grows-self w
    accept-grows i call time none true false = grows-self w
    accept-grows i call time none true true = grows-accepted w i call _ (item-own m config same.issued w v same.shared) none

    update-grows : (i : ℕ) → i < config.replicas → (call : LabelledCall Op) (time : ℕ) → WasSent w.messages (UpdateCopy call time)
        → (late : Bool) (kept noted : Option Spot) → is_late time config.delta (w.clock i) ≡ late → kept_at config w i call.cid ≡ kept
        → noted_at config w i call.cid ≡ noted
        → Grows w (read_by (Replica i) (UpdateCopy call time) (update_lines config w i call.cid time late (taken_at config w i call.cid kept) noted))
    update-grows i here call time sent true kept noted e f g = grows-self w
    update-grows i here call time sent false (Some spot) noted e f g = grows-beside w _ w.kept w.held w.front
    update-grows i here call time sent false None noted e f g = by_least (least_spot w.accepted (logged config w i) call.cid) refl noted g
      where
        by_least : (least : Option Spot) → least_spot w.accepted (logged config w i) call.cid ≡ least → (noted : Option Spot)
            → noted_at config w i call.cid ≡ noted
            → Grows w (read_by (Replica i) (UpdateCopy call time) (update_lines config w i call.cid time false least noted))
        by_least (Some spot) h noted g = grows-beside w _ w.kept w.held w.front
        by_least None h (Some spot) g = grows-self w
        by_least None h None g = accept-grows i call time (copy-new i here call time sent e f h g) _ _

    copy-grows : (i : ℕ) → i < config.replicas → (call : LabelledCall Op) (time : ℕ) → WasSent w.messages (UpdateCopy call time)
        → (rules : Bool) → Grows w (read_by (Replica i) (UpdateCopy call time) (copy_lines config w i call time rules))
    copy-grows i here call time sent false = grows-self w
    copy-grows i here call time sent true = update-grows i here call time sent _ (kept_at config w i call.cid) _ refl refl refl

    query-grows : (i : ℕ) (call : LabelledCall Op) (within room : Bool)
        → Grows w (read_by (Replica i) (QueryCopy call) (query_lines m w i call within room))
    query-grows i call true room = grows-beside w _ w.kept w.held w.front
    query-grows i call false true = grows-beside w w.messages w.kept _ w.front
    query-grows i call false false = grows-self w

    note-grows : (i : ℕ) (cid : Cid) (time : ℕ) (noted : Option Spot) (room left : Bool)
        → Grows w (read_by (Replica i) (AckCopy cid time) (ack_lines w i cid noted room left))
    note-grows i cid time (Some spot) room left = grows-self w
    note-grows i cid time None false left = grows-self w
    note-grows i cid time None true false = grows-self w
    note-grows i cid time None true true = grows-noted w i _ _

    reply-grows : (client : ℕ) (cid : Cid) (what : Carried Op) (front : ℕ → FrontFacts Op) (o : Option (LabelledCall Op))
        → got_read w (Client client) what ≡ record w { front = front }
        → Grows w (read_by (Client client) what (reply_line o cid ∷ []))
    reply-grows client cid what front None is = grows-self w
    reply-grows client cid what front (Some call) is = by_test (same_cid call.cid cid)
      where
        by_test : (t : Bool) → Grows w (read_by (Client client) what (cond t (Got cid) (Stale cid) ∷ []))
        by_test true = subst (Grows w) (sym is) (grows-beside w w.messages w.kept w.held front)
        by_test false = grows-self w

    message-grows : (to : Actor) (what : Carried Op) → IsThere config to → WasSent w.messages what
        → Grows w (read_by to what (message_lines m config w to what))
    message-grows (Replica i) (UpdateCopy call time) here sent = copy-grows i here call time sent (has_rules (m.kind call.op))
    message-grows (Replica i) (QueryCopy call) here sent = query-grows i call _ _
    message-grows (Replica i) (AckCopy cid time) here sent = note-grows i cid time _ _ _
    message-grows (Replica i) (GossipOf names) here sent = grows-taken w from i names
    message-grows (Client c) (DoneReply cid names) here sent = reply-grows c cid (DoneReply cid names) _ (w.front c).open_call refl
    message-grows (Client c) (AnswerReply cid names) here sent = reply-grows c cid (AnswerReply cid names) _ (w.front c).open_call refl
    message-grows _ _ here sent = grows-self w

  delivery-grows : (n : ℕ) (o : Option (SentMessage Op)) → find (λ x. x.number == n) w.messages ≡ o
      → Grows w (lines_read m config (came_in o) w (delivery_lines m config w n o))
  delivery-grows n None e = grows-self w
  delivery-grows n (Some x) e =
      message-grows x.number x.from x.to x.what (sent-there m config w v same n x e) (x, (find-some (λ x. x.number == n) w.messages x e).0, refl)

  -- ---- a front end's step

  module _ (client replica reading : ℕ) where
    -- what these lines leave of these facts in this front end's step
    abbrev spoken : Facts Op → List Outcome → Facts Op
    spoken now lines = lines_read m config (alone (Some (Client client))) now lines

    -- this front end's clock then
    abbrev clock : ℕ
    clock = max (w.front client).clock reading

    call-grows : (op : Op) (o : Option (LabelledCall Op)) (worn : Bool)
        → Grows w (spoken (with_front w client (call_read client reading op (w.front client) o worn)) (call_lines m w client replica clock op o worn))
    call-grows op (Some call) worn = grows-beside w w.messages w.kept w.held _
    call-grows op None true = grows-beside w w.messages w.kept w.held _
    call-grows op None false = grows-beside w _ w.kept w.held _

    resend-grows : (o : Option (LabelledCall Op))
        → Grows w (spoken (with_front w client (clock_read reading (w.front client))) (resend_lines m w client replica clock o))
    resend-grows None = grows-beside w w.messages w.kept w.held _
    resend-grows (Some call) = grows-beside w _ w.kept w.held _

    acknowledge-grows : (o : Option Cid)
        → Grows w (spoken (with_front w client (clock_read reading (w.front client))) (acknowledge_lines w client replica clock o))
    acknowledge-grows None = grows-beside w w.messages w.kept w.held _
    acknowledge-grows (Some cid) = grows-beside w _ w.kept w.held _

  -- ---- a whole step

  own-grows : (event : Event Op) → Grows w (own_read m config w event)
  own-grows (Call client replica reading op) =
      call-grows client replica reading op (w.front client).open_call ((w.front client).calls == 2 ^ 62)
  own-grows (Resend client replica reading) = resend-grows client replica reading (w.front client).open_call
  own-grows (AckEvent client replica reading) = acknowledge-grows client replica reading (w.front client).answered
  own-grows (Deliver n) = delivery-grows n _ refl
  own-grows (Tick i reading) = grows-clock w i reading
  own-grows (GossipEvent from to) = grows-beside w _ w.kept w.held w.front
  own-grows (Show i) = grows-self w

  pub step-grows : (step : Step Op) → step.outcomes ≡ outcomes_of m config w step.event → Grows w (after m config w step)
  step-grows step legal =
      subst (Grows w) (sym (after-parts m config w step legal))
      (by_actor (stepping w step.event) (handling w step.event) (own_read m config w step.event) (own-grows step.event))
    where
      by_actor : (o : Option ℕ) (x : Handling Op) (mid : Facts Op) → Grows w mid
          → Grows w (step_ended m config o (lines_read m config x mid (answers_at m mid o)))
      by_actor None x mid before = before
      by_actor (Some i) x mid before =
          let sent = answers-send m config mid i x (next_number mid) (mid.held i) mid.messages in
          subst (λ (u : Facts Op). Grows w (end_read u i)) (sym sent.1)
          (grows-more w mid _ before (grows-beside mid (sent.0 ++ mid.messages) _ _ mid.front))
