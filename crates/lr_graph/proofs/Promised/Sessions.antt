-- What a client was told is in all that comes of its later calls.
use Rattle.std.proofs.Common.{◌≡◌, ℕ, ◌<◌, ◌≤◌, ◌==◌, Bool, true, cond, false, find, inl, inr, List, [], ◌∷◌, ◌++◌}
use Rattle.std.proofs.Common.{Option, Some, None, refl, sym, ap, ◌∙◌, subst, subst₂, arith}
use Rattle.lr_base.specs.Ascending.{same_cid}
use Rattle.lr_base.specs.Meaning.{Encoding, Lawful, Meaning}
use Rattle.lr_base.specs.Orders.{IsAmong}
use Rattle.lr_base.specs.declared.acts.Posted.{Posted}
use Rattle.lr_base.specs.declared.events.Event.{Event}
use Rattle.lr_base.specs.declared.events.Event.TheVariants.{Call, Resend, Ack as AckEvent, Deliver, Tick, Gossip as GossipEvent, Show}
use Rattle.lr_base.specs.declared.events.Outcome.{Outcome}
use Rattle.lr_base.specs.declared.events.Outcome.TheVariants.{Got, Stale}
use Rattle.lr_base.specs.declared.events.Step.{Step}
use Rattle.lr_base.specs.declared.lr_service.Kind.{Kind}
use Rattle.lr_base.specs.declared.messages.Message.{Message}
use Rattle.lr_base.specs.declared.names.Actor.{Actor}
use Rattle.lr_base.specs.declared.names.Actor.TheVariants.{Client}
use Rattle.lr_base.specs.declared.names.Cid.{Cid}
use Rattle.lr_base.specs.declared.names.Config.{Config}
use Rattle.lr_graph.specs.After.{after, delivery_of, got_read, lines_read, step_ended, takes_reply}
use Rattle.lr_graph.specs.Central.{facts_after}
use Rattle.lr_graph.specs.Closed.{IsSetOf, IsSound}
use Rattle.lr_graph.specs.Graph.{Acceptance, Carried, Facts, FrontFacts, LabelledCall, SentMessage}
use Rattle.lr_graph.specs.Graph.{UpdateCopy, QueryCopy, AckCopy, DoneReply, AnswerReply, GossipOf, Blank, ready}
use Rattle.lr_graph.specs.Legal.{LegalFrom, answers_at, delivery_lines, outcomes_of, reply_line, IsLegalStep}
use Rattle.lr_graph.specs.Promises.{◌⊆◌}
use Rattle.lr_graph.specs.Runs.{RunState, message_at}
use Rattle.lr_graph.specs.Sets.{SpotSet}
use Rattle.lr_graph.proofs.Lists.Members.{each-at, each-from, find-some}
use Rattle.lr_graph.proofs.Lists.Tests.{or-left, or-right, same_cid-is}
use Rattle.lr_graph.proofs.Promised.Changes.{IsOpenFine, Keeps, Rule, holds-more}
use Rattle.lr_graph.proofs.Promised.Points.{IsPoint, fresh, set-later, step-point}
use Rattle.lr_graph.proofs.Promised.Walk.{IsAnswered, IsOpened, step-next}
use Rattle.lr_graph.proofs.Related.Relation.{at_actor, SameCarried, SameMessage, SameOption, calls_in}
use Rattle.lr_graph.proofs.Related.Relation.{same_ack, same_answer, same_done, same_gossip, same_query, same_update}
use Rattle.lr_graph.proofs.Replicas.Stepping.{put-same}
use Rattle.lr_graph.proofs.Sets.ReadySets.{ready-greatest, within-holds}
use Rattle.lr_graph.proofs.Handled.{receiving, came_in}

-- ---- taking a reply

-- a reply to this call, that stands for this set
abbrev pub IsReply : {Op : Type 0} → Cid → SpotSet → Carried Op → Type 0
IsReply cid names (DoneReply other x) = (other ≡ cid) × (x ≡ names)
IsReply cid names (AnswerReply other x) = (other ≡ cid) × (x ≡ names)
IsReply cid names _ = ⊥

-- a call was open, and the front end takes the reply to it
pub record IsTaken {Op : Type 0} (w : Facts Op) (client : ℕ) (cid : Cid) (names : SpotSet)
    (next : Facts Op) : Type 0 where
  pub call : LabelledCall Op
  pub opened : (w.front client).open_call ≡ Some call
  pub is : call.cid ≡ cid
  pub answered : Option Cid
  pub next_is : next ≡ takes_reply w client names answered

module _ {Value Op : Type 0} (m : Meaning Value Op) (config : Config) (w : Facts Op) where
  -- the lines of a delivery, and the facts after it
  abbrev lines_by : ℕ → Option (SentMessage Op) → List Outcome
  lines_by n o =
      let own = delivery_lines m config w n o in
      own ++ answers_at m (lines_read m config (came_in o) w own) (receiving o)

  abbrev facts_by : ℕ → Option (SentMessage Op) → Facts Op
  facts_by n o = step_ended m config (receiving o) (lines_read m config (came_in o) w (lines_by n o))

  got_stale : (g cid : Cid) → Got g ≡ Stale cid → ⊥
  got_stale g cid e = cc

  by_test : (client : ℕ) (cid : Cid) (names : SpotSet) (answered : Option Cid) (x : SentMessage Op)
      → got_read w x.to x.what ≡ takes_reply w client names answered → (o : Option (LabelledCall Op))
      → (w.front client).open_call ≡ o → (g : Cid) → IsAmong (Got g) (reply_line o cid ∷ [])
      → IsTaken w client cid names (lines_read m config (came_in (Some x)) w (reply_line o cid ∷ []))
  by_test client cid names answered x is None at g (inr none) = absurd none
  by_test client cid names answered x is None at g (inl e) = absurd (got_stale g cid e)
  by_test client cid names answered x is (Some call) at g (inr none) = absurd none
  by_test client cid names answered x is (Some call) at g (inl e) = go (same_cid call.cid cid) refl e
    where
      go : (t : Bool) → same_cid call.cid cid ≡ t → Got g ≡ cond t (Got cid) (Stale cid)
          → IsTaken w client cid names (lines_read m config (came_in (Some x)) w (cond t (Got cid) (Stale cid) ∷ []))
      go true test e = record { call = call; opened = at; is = same_cid-is call.cid cid test; answered = answered; next_is = is }
      go false test e = absurd (got_stale g cid e)

  -- where `got` is among the lines, the open call takes the reply
  by_reply : (n number client : ℕ) (from : Actor) (cid : Cid) (names : SpotSet) (what : Carried Op)
      → IsReply cid names what → (g : Cid)
      → IsAmong (Got g) (lines_by n (Some (record { number = number; from = from; to = Client client; what = what })))
      → IsTaken w client cid names
      (facts_by n (Some (record { number = number; from = from; to = Client client; what = what })))
  by_reply n number client from cid names (UpdateCopy call time) reply g got = absurd reply
  by_reply n number client from cid names (QueryCopy call) reply g got = absurd reply
  by_reply n number client from cid names (AckCopy other time) reply g got = absurd reply
  by_reply n number client from cid names (GossipOf x) reply g got = absurd reply
  by_reply n number client from cid names Blank reply g got = absurd reply
  by_reply n number client from cid names (DoneReply other x) reply g got =
      let sent : SentMessage Op =
      record { number = number; from = from; to = Client client; what = DoneReply other x } in
      subst₂ (λ c y. IsTaken w client c y (facts_by n (Some sent))) reply.0 reply.1
      (by_test client other x (Some other) sent refl (w.front client).open_call refl g got)
  by_reply n number client from cid names (AnswerReply other x) reply g got =
      let sent : SentMessage Op =
      record { number = number; from = from; to = Client client; what = AnswerReply other x } in
      subst₂ (λ c y. IsTaken w client c y (facts_by n (Some sent))) reply.0 reply.1
      (by_test client other x (w.front client).answered sent refl (w.front client).open_call refl g got)

  -- a step takes a reply that was sent
  pub record HasTaken (step : Step Op) (client : ℕ) (cid : Cid) (names : SpotSet) (x : SentMessage Op) : Type 0 where
    pub taken : IsTaken w client cid names (after m config w step)
    pub among : IsAmong x w.messages
    pub number : ℕ
    pub found : find (λ y. y.number == number) w.messages ≡ Some x

  pub reply-taken : (step : Step Op) → step.outcomes ≡ outcomes_of m config w step.event → (client : ℕ) (cid g : Cid)
      (names : SpotSet) (x : SentMessage Op) → IsReply cid names x.what → delivery_of w step.event ≡ Some x
      → x.to ≡ Client client → IsAmong (Got g) step.outcomes → HasTaken step client cid names x
  reply-taken step legal client cid g names x is comes to got = by_event step.event refl comes
    where
      none_some : ◌≡◌ {A = Option (SentMessage Op)} None (Some x) → ⊥
      none_some e = cc

      by_event : (event : Event Op) → step.event ≡ event → delivery_of w event ≡ Some x
          → HasTaken step client cid names x
      by_event (Call f i reading op) at comes = absurd (none_some comes)
      by_event (Resend f i reading) at comes = absurd (none_some comes)
      by_event (AckEvent f i reading) at comes = absurd (none_some comes)
      by_event (Tick i reading) at comes = absurd (none_some comes)
      by_event (GossipEvent i j) at comes = absurd (none_some comes)
      by_event (Show i) at comes = absurd (none_some comes)
      by_event (Deliver n) at comes =
          let lines : step.outcomes ≡ lines_by n (Some x) =
          legal ∙ ap (outcomes_of m config w) at ∙ ap (lines_by n) comes in
          let next : after m config w step ≡ facts_by n (Some x) =
          (λ k. after m config w (record { event = at k; outcomes = lines k }))
          ∙ ap (λ o. step_ended m config (receiving o) (lines_read m config (came_in o) w (lines_by n (Some x)))) comes in
          let turned = λ (to : Actor). Some (record x { to = to }) in
          let done = subst
          (λ (to : Actor). IsAmong (Got g) (lines_by n (turned to))
          → IsTaken w client cid names (facts_by n (turned to)))
          (sym to) (by_reply n x.number client x.from cid names x.what is g) (subst (IsAmong (Got g)) lines got) in
          record {
            taken = record { call = done.call; opened = done.opened; is = done.is; answered = done.answered; next_is = next ∙ done.next_is };
            among = (find-some (λ y. y.number == n) w.messages x comes).0;
            number = n;
            found = comes;
          }

-- ---- all that comes of later calls has what the client was told

-- each set of a later call of the client, after so many, has what it was told; an open call is its own front end's,
-- and the client's is a later one
abbrev pub above : ℕ → ℕ → SpotSet → Rule
above client k told = record {
  of = λ n cid x. cid.client ≡ client → k < cid.seq → told ⊆ x;
  of_open = λ f cid. (cid.client ≡ f) × (f ≡ client → k < cid.seq);
  counts = λ n more up cid x f. f;
  grows = λ n cid x y f own past s here. or-left _ _ (f own past s here);
}

-- the client was told this, and made so many calls
pub record IsTold {Op : Type 0} (client k : ℕ) (told : SpotSet) (w : Facts Op) : Type 0 where
  pub keeps : Keeps (above client k told) w
  pub label : told ⊆ (w.front client).label
  pub calls : k ≤ calls_in w client
  pub set : IsSetOf w.accepted told

module _ {Value Op : Type 0} (m : Meaning Value Op) (config : Config) (client k : ℕ) (told : SpotSet) where
  answered : (l : List (Acceptance Op)) → IsSetOf l told → IsAnswered m config (above client k told) l
  answered l set n cid x r f within own past s here =
      let a = set.exist s here in
      let inside = each-from _ l
      (λ b in_b in_told. each-at _ b l (within-holds l x r within) in_b (f own past b.spot in_told)) in
      ap (ready l r) (sym a.2) ∙ each-at _ a.0 l (ready-greatest l r told inside set.closed) a.1 (ap told a.2 ∙ here)

  opens : (w : Facts Op) → IsTold client k told w → IsOpened m config (above client k told) w
  opens w h n f cid own seq e = (
    (λ is past s here. ap (λ j. (w.front j).label s) (sym own ∙ is) ∙ h.label s here),
    (own, λ is. (let j = ap (calls_in w) is in let c = h.calls in omega arith)),
  )

  module _ {e : Encoding Value} (kind_of : Op → Kind) (lawful : Lawful m e kind_of) where
    told-step : (w : Facts Op) (v : RunState Value Op) → IsPoint m config w v → IsTold client k told w
        → (step : Step Op) → IsLegalStep m config w step
        → (u : RunState Value Op) × IsPoint m config (after m config w step) u
        × IsTold client k told (after m config w step)
    told-step w v p h step legal =
        let one = step-point m kind_of lawful config w v p step legal in
        let more = one.2.later in
        let sound = subst IsSound more.accepted.1 one.1.same.shared.sound in
        let set = subst (λ l. IsSetOf l told) (sym more.accepted.1)
        (set-later w.accepted more.accepted.0 told sound h.set) in
        let next = step-next m config (above client k told) w v h.keeps p.same (answered w.accepted h.set) (opens w h)
        step legal.outcomes (answered (after m config w step).accepted set) in (
          one.0,
          one.1,
          record {
            keeps = next.keeps;
            label = λ s e. more.label client s (h.label s e);
            calls = (let c = more.calls client in let d = h.calls in omega arith);
            set = set;
          },
        )

    pub told-later : (steps : List (Step Op)) (w : Facts Op) (v : RunState Value Op) → IsPoint m config w v
        → IsTold client k told w → LegalFrom m config w steps
        → (u : RunState Value Op) × IsPoint m config (facts_after m config w steps) u
        × IsTold client k told (facts_after m config w steps)
    told-later [] w v p h legal = (v, p, h)
    told-later (step ∷ steps) w v p h legal =
        let one = told-step w v p h step legal.0 in
        told-later steps (after m config w step) one.0 one.1 one.2 legal.1

-- ---- after a reply is taken

-- where a front end has no open call, nothing came of its later calls
started : {Op : Type 0} (client : ℕ) (told : SpotSet) (w : Facts Op) → (w.front client).open_call ≡ None
    → Keeps fresh w → Keeps (above client (calls_in w client) told) w
started {Op} client told w closed h =
    holds-more (fresh.of (calls_in w)) (later.of (calls_in w)) none fresh.of_open later.of_open w
    (λ f. other f (w.front f).open_call refl) h
  where
    later : Rule
    later = above client (calls_in w client) told

    none : (cid : Cid) (x : SpotSet) → cid.seq ≤ calls_in w cid.client → later.of (calls_in w) cid x
    none cid x old own past = let e = ap (calls_in w) own in absurd (omega arith)

    some_none : (c : LabelledCall Op) → Some c ≡ None → ⊥
    some_none c e = cc

    other : (f : ℕ) (o : Option (LabelledCall Op)) → (w.front f).open_call ≡ o
        → IsOpenFine (fresh.of (calls_in w)) fresh.of_open f o → IsOpenFine (later.of (calls_in w)) later.of_open f o
    other f None at h = tt
    other f (Some c) at h = (
      none c.cid c.label h.0,
      (h.1, λ own. absurd (some_none c (sym at ∙ ap (λ j. (w.front j).open_call) own ∙ closed))),
    )

module _ {Value Op : Type 0} (m : Meaning Value Op) {e : Encoding Value} (kind_of : Op → Kind) (lawful : Lawful m e kind_of) (config : Config)
    (w : Facts Op) (v : RunState Value Op) (p : IsPoint m config w v) where
  abbrev Same : SentMessage Op → Posted Op → Type 0
  Same x y = SameMessage m config w.accepted w.acks w.received p.same.issued (calls_in w) x y

  -- a reply stands for a set of acceptances
  reply-set : (n : ℕ) (x : SentMessage Op) → find (λ y. y.number == n) w.messages ≡ Some x
      → (cid : Cid) (names : SpotSet)
      → IsReply cid names x.what → IsSetOf w.accepted names
  reply-set n x found cid names is =
      by_posted (message_at v.posted n)
      (subst (λ o. SameOption Same o (message_at v.posted n)) found (p.same.shared.messages n))
    where
      by_what : (what : Carried Op) (message : Message Op)
          → SameCarried m config w.accepted w.acks (at_actor w.received x.to) p.same.issued (calls_in w) what message
          → IsReply cid names what → IsSetOf w.accepted names
      by_what what message (same_update c d t time call times by update) is = absurd is
      by_what what message (same_query c d call by) is = absurd is
      by_what what message (same_ack c other t time cids times client) is = absurd is
      by_what what message (same_done c other x at stamp cids named set done) is = subst (IsSetOf w.accepted) is.1 set
      by_what what message (same_answer c other x text stamp cids named set) is = subst (IsSetOf w.accepted) is.1 set
      by_what what message (same_gossip x g s) is = absurd is

      by_posted : (o : Option (Posted Op)) → SameOption Same (Some x) o → IsSetOf w.accepted names
      by_posted None s = absurd s
      by_posted (Some y) s = by_what x.what y.message s.what is

  -- a client that took a reply was told what this stands for
  pub taken-told : (step : Step Op) → IsLegalStep m config w step
      → (client : ℕ) (cid : Cid) (names : SpotSet) (x : SentMessage Op) → IsReply cid names x.what
      → HasTaken m config w step client cid names x
      → (u : RunState Value Op) × IsPoint m config (after m config w step) u
      × IsTold client (calls_in (after m config w step) client) names (after m config w step)
  taken-told step legal client cid names x is took =
      let one = step-point m kind_of lawful config w v p step legal in
      let next = took.taken.next_is in
      let front = ap (λ (u : Facts Op). u.front client) next ∙ put-same client _ w.front in (
        one.0,
        one.1,
        record {
          keeps = started client names (after m config w step) (ap (λ (f : FrontFacts Op). f.open_call) front) one.1.keeps;
          label = λ s here. ap (λ (f : FrontFacts Op). f.label s) front ∙ or-right _ _ here;
          calls = omega arith;
          set = subst (λ (l : List (Acceptance Op)). IsSetOf l names) (sym (ap (λ (u : Facts Op). u.accepted) next))
              (reply-set took.number x took.found cid names is);
        },
      )
