-- What answers and replies to updates say, where they are sent and where they are taken.
use Rattle.std.proofs.Common.{◌≡◌, ◌^◌, ℕ, suc, ◌==◌, Bool, true, false, cond, find, inl, inr, List, [], ◌∷◌, ◌++◌}
use Rattle.std.proofs.Common.{Option, Some, None, refl, sym, ap, ◌∙◌, subst, arith}
use Rattle.lr_base.specs.Ascending.{same_cid}
use Rattle.lr_base.specs.Kinds.{is_query, has_rules}
use Rattle.lr_base.specs.Meaning.{Encoding, Lawful, Meaning}
use Rattle.lr_base.specs.Orders.{IsAmong}
use Rattle.lr_base.specs.declared.events.Event.{Event}
use Rattle.lr_base.specs.declared.events.Event.TheVariants.{Call, Resend, Ack as AckEvent, Deliver, Tick, Gossip as GossipEvent, Show}
use Rattle.lr_base.specs.declared.events.Outcome.{Outcome}
use Rattle.lr_base.specs.declared.events.Outcome.TheVariants.{Send, Got, Stale}
use Rattle.lr_base.specs.declared.events.Sent.TheVariants.{Answer, Done, Query, Update}
use Rattle.lr_base.specs.declared.events.Step.{Step}
use Rattle.lr_base.specs.declared.lr_service.Kind.{Kind}
use Rattle.lr_base.specs.declared.names.Actor.{Actor}
use Rattle.lr_base.specs.declared.names.Actor.TheVariants.{Client, Replica}
use Rattle.lr_base.specs.declared.names.Cid.{Cid}
use Rattle.lr_base.specs.declared.names.Config.{Config}
use Rattle.lr_base.specs.declared.names.Spot.{Spot}
use Rattle.lr_graph.specs.After.{accepts, after, causes_of, delivery_of, lines_read, next_call, step_ended, stepping, Handling, handling}
use Rattle.lr_graph.specs.Central.{facts_after}
use Rattle.lr_graph.specs.Closed.{Each, IsDoneAt}
use Rattle.lr_graph.specs.Graph.{Acceptance, Carried, Facts, LabelledCall, SentMessage, UpdateCopy, QueryCopy, AckCopy}
use Rattle.lr_graph.specs.Graph.{DoneReply, AnswerReply, GossipOf, Blank, below_of, first_facts, is_within}
use Rattle.lr_graph.specs.Legal.{kept_at}
use Rattle.lr_graph.specs.Graph.{ready, value}
use Rattle.lr_graph.specs.Legal.{IsLegal, accept_lines, ack_lines, acknowledge_lines, answer_line, answers, answers_at, call_lines, delivery_lines, copy_lines}
use Rattle.lr_graph.specs.Legal.{done_line, message_lines, next_number, next_spot, outcomes_of, own_lines, query_lines}
use Rattle.lr_graph.specs.Legal.{copy_line, reply_line, resend_lines, taken_at, update_lines}
use Rattle.lr_graph.specs.Promises.{IsReadAfter, Takes, facts_of}
use Rattle.lr_graph.specs.Runs.{RunState}
use Rattle.lr_graph.specs.Sets.{SpotSet, only, ◌∪◌}
use Rattle.lr_graph.specs.Timed.{WasSent}
use Rattle.lr_graph.proofs.Lists.Members.{among-right, each-append, each-at, each-map, find-some}
use Rattle.lr_graph.proofs.Lists.Tests.{same_spot-self}
use Rattle.lr_graph.proofs.Promised.Changes.{Keeps, found-among}
use Rattle.lr_graph.proofs.Promised.Points.{IsPoint, any-point, facts-parts, fresh, later-point}
use Rattle.lr_graph.proofs.Promised.Points.{legal-parts, step-point}
use Rattle.lr_graph.proofs.Promised.Walk.{after-parts, answers-send, own-next, own_read}
use Rattle.lr_graph.proofs.Promised.Again.{sent-there, taken-again}
use Rattle.lr_graph.proofs.Related.Relation.{IsSame, IsThere}
use Rattle.lr_graph.proofs.Replicas.Own.{below_of-is}
use Rattle.lr_graph.proofs.Handled.{came_in}

-- ---- what lines say

module _ {Value Op : Type 0} (m : Meaning Value Op) (l : List (Acceptance Op)) (received : ℕ → SpotSet)
    (messages : List (SentMessage Op)) (n : ℕ) (from to : Actor) (cid : Cid) where
  -- a message of this number carries this
  abbrev pub Carries : Carried Op → Type 0
  Carries what = IsAmong (record { number = n; from = from; to = to; what = what }) messages

  -- the text is what is read, for a query of which a copy was sent, after what is ready; and so the message says
  pub record IsAnswerSaid (text : List ℕ) : Type 0 where
    pub i : ℕ
    pub replica : from ≡ Replica i
    pub call : LabelledCall Op
    pub asked : WasSent messages (QueryCopy call)
    pub name : call.cid ≡ cid
    pub text_is : text ≡ m.read (value m l (ready l (received i))) call.op
    pub carries : Carries (AnswerReply cid (ready l (received i)))

  -- the call was accepted at the spot; and the message says what is below this acceptance
  pub record IsDoneSaid (spot : Spot) : Type 0 where
    pub acceptance : Acceptance Op
    pub there : IsAmong acceptance l
    pub call : acceptance.cid ≡ cid
    pub at : acceptance.spot ≡ spot
    pub carries : Carries (DoneReply cid acceptance.below)

module _ {Value Op : Type 0} (m : Meaning Value Op) where
  -- what answers and replies to updates say holds
  abbrev pub IsSaid : List (Acceptance Op) → (ℕ → SpotSet) → List (SentMessage Op) → Outcome → Type 0
  IsSaid l r messages (Send n from to (Answer cid text)) = IsAnswerSaid m l r messages n from to cid text
  IsSaid l r messages (Send n from to (Done cid spot)) = IsDoneSaid m l r messages n from to cid spot
  IsSaid l r messages _ = Unit {0}

  abbrev pub AllSaid : Facts Op → List Outcome → Type 0
  AllSaid u lines = Each (IsSaid u.accepted u.received u.messages) lines

  -- the answer to a call that a replica sends
  abbrev reply_to : Facts Op → ℕ → ℕ → LabelledCall Op → SentMessage Op
  reply_to w j number call = record {
    number = number;
    from = Replica j;
    to = Client call.cid.client;
    what = AnswerReply call.cid (ready w.accepted (w.received j));
  }

  answer-said : (w : Facts Op) (j number : ℕ) (call : LabelledCall Op) (messages new : List (SentMessage Op))
      → WasSent messages (QueryCopy call)
      → IsSaid w.accepted w.received (new ++ reply_to w j number call ∷ messages) (answer_line m w number j call)
  answer-said w j number call messages new asked = record {
    i = j;
    replica = refl;
    call = call;
    asked = (asked.0, among-right asked.0 new (reply_to w j number call ∷ messages) (inr asked.1), asked.2);
    name = refl;
    text_is = refl;
    carries = among-right (reply_to w j number call) new (reply_to w j number call ∷ messages) (inl refl);
  }

  -- held queries
  module _ (config : Config) (w : Facts Op) (j : ℕ) (x : Handling Op) where
    abbrev read : List (SentMessage Op) → List Outcome → Facts Op
    read messages lines = lines_read m config x (record w { messages = messages }) lines

    answers-said : (number : ℕ) (calls : List (LabelledCall Op)) (messages : List (SentMessage Op))
        → Each (λ call. WasSent messages (QueryCopy call)) calls
        → AllSaid (read messages (answers m w number j calls)) (answers m w number j calls)
    answers-said number [] messages asked = tt
    answers-said number (call ∷ calls) messages asked =
        by_test (is_within w.accepted call.label (w.received j)) (answers-said (suc number) calls
        (reply_to w j number call ∷ messages) (each-map _ _ calls (λ c s. (s.0, inr s.1, s.2)) asked.1))
        (answers-said number calls messages asked.1)
      where
        more : List Outcome
        more = answers m w (suc number) j calls

        by_test : (t : Bool) → AllSaid (read (reply_to w j number call ∷ messages) more) more
            → AllSaid (read messages (answers m w number j calls)) (answers m w number j calls)
            → AllSaid (read messages (cond t (answer_line m w number j call ∷ more) (answers m w number j calls)))
            (cond t (answer_line m w number j call ∷ more) (answers m w number j calls))
        by_test false said none = none
        by_test true said none =
            let rest = answers-send m config w j x (suc number) calls (reply_to w j number call ∷ messages) in
            let one = answer-said w j number call messages rest.0 asked.0 in (
              subst (λ (u : Facts Op). IsSaid u.accepted u.received u.messages (answer_line m w number j call))
                  (sym rest.1) one,
              said,
            )

  module _ (l : List (Acceptance Op)) (r : ℕ → SpotSet) (messages : List (SentMessage Op)) where
    reply-said : (o : Option (LabelledCall Op)) (c : Cid) → Each (IsSaid l r messages) (reply_line o c ∷ [])
    reply-said None c = (tt, tt)
    reply-said (Some call) c = by_test (same_cid call.cid c)
      where
        by_test : (t : Bool) → Each (IsSaid l r messages) (cond t (Got c) (Stale c) ∷ [])
        by_test true = (tt, tt)
        by_test false = (tt, tt)

    copy-said : (w : Facts Op) (f replica clock : ℕ) (call : LabelledCall Op)
        → Each (IsSaid l r messages) (copy_line m w f replica clock call ∷ [])
    copy-said w f replica clock call = by_kind (is_query (m.kind call.op))
      where
        by_kind : (t : Bool) → Each (IsSaid l r messages)
            (Send (next_number w) (Client f) (Replica replica) (cond t (Query call.cid) (Update call.cid clock)) ∷ [])
        by_kind true = (tt, tt)
        by_kind false = (tt, tt)

    call-said : (w : Facts Op) (f replica clock : ℕ) (op : Op) (o : Option (LabelledCall Op)) (worn : Bool)
        → Each (IsSaid l r messages) (call_lines m w f replica clock op o worn)
    call-said w f replica clock op (Some call) worn = (tt, tt)
    call-said w f replica clock op None true = (tt, tt)
    call-said w f replica clock op None false = copy-said w f replica clock (next_call f (w.front f) op)

    resend-said : (w : Facts Op) (f replica clock : ℕ) (o : Option (LabelledCall Op))
        → Each (IsSaid l r messages) (resend_lines m w f replica clock o)
    resend-said w f replica clock None = (tt, tt)
    resend-said w f replica clock (Some call) = copy-said w f replica clock call

    acknowledge-said : (w : Facts Op) (f replica clock : ℕ) (o : Option Cid)
        → Each (IsSaid l r messages) (acknowledge_lines w f replica clock o)
    acknowledge-said w f replica clock None = (tt, tt)
    acknowledge-said w f replica clock (Some cid) = (tt, tt)

  -- ---- the lines of the event itself, behind which more may be sent

  module _ (config : Config) (w : Facts Op) (new : List (SentMessage Op)) where
    -- it says what holds of these facts
    abbrev Said : Facts Op → List Outcome → Type 0
    Said u lines = Each (IsSaid u.accepted u.received (new ++ u.messages)) lines

    -- the reply to an update that a replica sends
    abbrev done_to : List (Acceptance Op) → ℕ → Cid → Spot → SentMessage Op
    done_to l j c spot = record {
      number = next_number w;
      from = Replica j;
      to = Client c.client;
      what = DoneReply c (below_of l spot);
    }

    done-said : (l : List (Acceptance Op)) (r : ℕ → SpotSet) (j : ℕ) (c : Cid) (spot : Spot) (a : Acceptance Op)
        → IsAmong a l → a.cid ≡ c → a.spot ≡ spot → below_of l spot ≡ a.below
        → IsSaid l r (new ++ done_to l j c spot ∷ w.messages) (done_line w j c spot)
    done-said l r j c spot a there call at below = record {
      acceptance = a;
      there = there;
      call = call;
      at = at;
      carries = subst
          (λ set. IsAmong (record (done_to l j c spot) { what = DoneReply c set })
          (new ++ done_to l j c spot ∷ w.messages)) below
          (among-right (done_to l j c spot) new (done_to l j c spot ∷ w.messages) (inl refl));
    }

    module _ (number : ℕ) (from : Actor) where
      -- the facts after the lines of a delivery
      abbrev came : Actor → Carried Op → List Outcome → Facts Op
      came to what lines = lines_read m config (came_in (Some (record { number = number; from = from; to = to; what = what }))) w lines

      accept-said : (j time : ℕ) (call : LabelledCall Op) (room left : Bool)
          → Said (came (Replica j) (UpdateCopy call time) (accept_lines w j call.cid room left))
          (accept_lines w j call.cid room left)
      accept-said j time call false left = (tt, tt)
      accept-said j time call true false = (tt, tt)
      accept-said j time call true true =
          let spot = next_spot w j in
          let u = accepts w j spot call in
          let a : Acceptance Op =
          record { spot = spot; cid = call.cid; op = call.op; below = causes_of call ∪ only spot } in
          let below = ap (λ t. cond t a.below (below_of w.accepted spot)) (same_spot-self spot) in
          (tt, (done-said u.accepted u.received j call.cid spot a (inl refl) refl refl below, tt))

      query-said : (j : ℕ) (call : LabelledCall Op) (within room : Bool) → WasSent w.messages (QueryCopy call)
          → Said (came (Replica j) (QueryCopy call) (query_lines m w j call within room))
          (query_lines m w j call within room)
      query-said j call true room asked = (answer-said w j (next_number w) call w.messages new asked, tt)
      query-said j call false true asked = (tt, tt)
      query-said j call false false asked = (tt, tt)

      message-said : (v : RunState Value Op) → IsSame m config w v → (to : Actor) (what : Carried Op)
          → IsThere config to
          → WasSent w.messages what
          → Said (came to what (message_lines m config w to what)) (message_lines m config w to what)
      message-said v same (Replica j) (UpdateCopy call time) there asked = by_rules (has_rules (m.kind call.op))
        where
          by_spot : (late : Bool) (o noted : Option Spot)
              → taken_at config w j call.cid (kept_at config w j call.cid) ≡ o
              → Said (came (Replica j) (UpdateCopy call time) (update_lines config w j call.cid time late o noted))
              (update_lines config w j call.cid time late o noted)
          by_spot true o noted e = (tt, tt)
          by_spot false None None e = accept-said j time call _ _
          by_spot false None (Some spot) e = (tt, tt)
          by_spot false (Some spot) noted e =
              let a = taken-again m config w v same j there call.cid spot e in
              let below = ap (below_of w.accepted) (sym a.3) ∙ below_of-is w.accepted same.shared.sound.apart a.0 a.1 in
              (tt, (done-said w.accepted w.received j call.cid spot a.0 a.1 a.2 a.3 below, tt))

          by_rules : (rules : Bool) → Said (came (Replica j) (UpdateCopy call time) (copy_lines config w j call time rules))
              (copy_lines config w j call time rules)
          by_rules false = tt
          by_rules true = by_spot _ (taken_at config w j call.cid (kept_at config w j call.cid)) _ refl
      message-said v same (Replica j) (QueryCopy call) there asked = query-said j call _ _ asked
      message-said v same (Replica j) (AckCopy c time) there asked = by_spot _ _ _
        where
          by_spot : (noted : Option Spot) (room left : Bool)
              → Said (came (Replica j) (AckCopy c time) (ack_lines w j c noted room left)) (ack_lines w j c noted room left)
          by_spot (Some spot) room left = (tt, tt)
          by_spot None false left = (tt, tt)
          by_spot None true false = (tt, tt)
          by_spot None true true = (tt, tt)
      message-said v same (Replica j) (DoneReply c names) there asked = tt
      message-said v same (Replica j) (AnswerReply c names) there asked = tt
      message-said v same (Replica j) (GossipOf names) there asked = (tt, tt)
      message-said v same (Replica j) Blank there asked = tt
      message-said v same (Client f) (UpdateCopy call time) there asked = tt
      message-said v same (Client f) (QueryCopy call) there asked = tt
      message-said v same (Client f) (AckCopy c time) there asked = tt
      message-said v same (Client f) (DoneReply c names) there asked = reply-said _ _ _ (w.front f).open_call c
      message-said v same (Client f) (AnswerReply c names) there asked = reply-said _ _ _ (w.front f).open_call c
      message-said v same (Client f) (GossipOf names) there asked = tt
      message-said v same (Client f) Blank there asked = tt

    own-said : (v : RunState Value Op) → IsSame m config w v → (event : Event Op)
        → Said (own_read m config w event) (own_lines m config w event)
    own-said v same (Call f replica reading op) =
        call-said _ _ _ w f replica _ op (w.front f).open_call ((w.front f).calls == 2 ^ 62)
    own-said v same (Resend f replica reading) =
        resend-said _ _ _ w f replica _ (w.front f).open_call
    own-said v same (AckEvent f replica reading) =
        acknowledge-said _ _ _ w f replica _ (w.front f).answered
    own-said v same (Tick i reading) = (tt, tt)
    own-said v same (GossipEvent from to) = (tt, tt)
    own-said v same (Show j) = (tt, tt)
    own-said v same (Deliver number) = by_found (find (λ x. x.number == number) w.messages) refl
      where
        by_found : (o : Option (SentMessage Op)) → find (λ x. x.number == number) w.messages ≡ o
            → Said (lines_read m config (came_in o) w (delivery_lines m config w number o)) (delivery_lines m config w number o)
        by_found None e = (tt, tt)
        by_found (Some x) e =
            message-said x.number x.from v same x.to x.what (sent-there m config w v same number x e)
            (x, (find-some (λ x. x.number == number) w.messages x e).0, refl)

  -- what a step's lines say holds after the step
  pub step-said : (config : Config) (w : Facts Op) (v : RunState Value Op) → IsPoint m config w v → (step : Step Op)
      → step.outcomes ≡ outcomes_of m config w step.event → AllSaid (after m config w step) step.outcomes
  step-said config w v p step legal =
      let mid = own_read m config w step.event in
      let opens = own-next m config fresh w p.keeps v p.same (λ n cid x r f e. f)
      (λ n client cid own seq e. (let i = ap n own in omega arith, own)) step.event in
      subst (AllSaid (after m config w step)) (sym legal)
      (subst (λ (u : Facts Op). AllSaid u (outcomes_of m config w step.event)) (sym (after-parts m config w step legal))
      (by_actor (stepping w step.event) mid (handling w step.event) (own_lines m config w step.event) opens.keeps
      (λ new. own-said config w new v p.same step.event)))
    where
      by_actor : (o : Option ℕ) (mid : Facts Op) (x : Handling Op) (own : List Outcome) → Keeps fresh mid
          → ((new : List (SentMessage Op)) → Each (IsSaid mid.accepted mid.received (new ++ mid.messages)) own)
          → AllSaid (step_ended m config o (lines_read m config x mid (answers_at m mid o))) (own ++ answers_at m mid o)
      by_actor None mid x own k said = each-append _ own [] (said []) tt
      by_actor (Some j) mid x own k said =
          let rest = answers-send m config mid j x (next_number mid) (mid.held j) mid.messages in
          let asked = each-map _ _ (mid.held j) (λ c f. f.1) (k.held j) in
          each-append _ own (answers_at m mid (Some j))
          (subst (λ (u : Facts Op). AllSaid u own) (sym rest.1) (said rest.0))
          (answers-said config mid j x (next_number mid) (mid.held j) mid.messages asked)

-- ---- where a message is taken

module _ {Value Op : Type 0} (m : Meaning Value Op) {e : Encoding Value} (kind_of : Op → Kind) (lawful : Lawful m e kind_of) (config : Config)
    (before between later : List (Step Op)) (sending taking : Step Op)
    (legal : IsLegal m config (before ++ sending ∷ between ++ taking ∷ later))
    (n : ℕ) (delivers : taking.event ≡ Deliver n) (client : ℕ) (cid : Cid) (reply : Carried Op)
    (takes : Takes m config (before ++ sending ∷ between) taking client cid reply) where
  abbrev start : List (Step Op)
  start = before ++ sending ∷ between

  abbrev sent : Facts Op
  sent = facts_of m config (before ++ sending ∷ [])

  sent-is : sent ≡ after m config (facts_of m config before) sending
  sent-is = facts-parts m config before (sending ∷ []) first_facts

  start_legal : IsLegal m config start
  start_legal = (legal-parts m config start (taking ∷ later) first_facts legal).0

  -- what the sending step's lines say
  pub all-said : AllSaid m sent sending.outcomes
  all-said =
      let legal0 = legal-parts m config before (sending ∷ between) first_facts start_legal in
      let at = any-point m kind_of lawful config before legal0.0 in
      subst (λ (u : Facts Op). AllSaid m u sending.outcomes) (sym sent-is)
      (step-said m config (facts_of m config before) at.0 at.1 sending legal0.1.0.outcomes)

  -- what it sent under this number is taken
  pub reply-is : (x : SentMessage Op) → x.number ≡ n → IsAmong x sent.messages → reply ≡ x.what
  reply-is x number among =
      let legal0 = legal-parts m config before (sending ∷ between) first_facts start_legal in
      let w = facts_of m config before in
      let at = any-point m kind_of lawful config before legal0.0 in
      let next = step-point m kind_of lawful config w at.0 at.1 sending legal0.1.0 in
      let last = later-point m kind_of lawful config between (after m config w sending) next.0 next.1
      legal0.1.1 in
      let now = facts_after m config (after m config w sending) between in
      let was = subst (λ (u : Facts Op). IsAmong x u.messages) sent-is among in
      let stays = subst (IsAmong x) (sym last.2.messages.1)
      (among-right x last.2.messages.0 (after m config w sending).messages was) in
      let same : facts_of m config start ≡ now = facts-parts m config before (sending ∷ between) first_facts in
      let one : Some takes.message ≡ Some x =
      sym takes.comes ∙ ap (delivery_of (facts_of m config start)) delivers
      ∙ ap (λ (u : Facts Op). find (λ x. x.number == n) u.messages) same
      ∙ ap (λ k. find (λ (x : SentMessage Op). x.number == k) now.messages) (sym number)
      ∙ found-among x now.messages last.1.keeps.numbered stays in
      let message : takes.message ≡ x = cc in
      sym takes.what ∙ ap (λ (x : SentMessage Op). x.what) message

  module _ (i : ℕ) where
    -- an answer that is taken was read after what is ready where it was sent, and says what the service reads then
    pub answer-taken : (text : List ℕ) (seen : SpotSet) → reply ≡ AnswerReply cid seen
        → IsAmong (Send n (Replica i) (Client client) (Answer cid text)) sending.outcomes
        → (seen ≡ ready sent.accepted (sent.received i)) × IsReadAfter m sent seen cid text
    answer-taken text seen is among =
        let s : IsAnswerSaid m sent.accepted sent.received sent.messages n (Replica i) (Client client) cid text =
        each-at _ _ sending.outcomes all-said among in
        let what : ◌≡◌ {A = Carried Op} (AnswerReply cid seen)
        (AnswerReply cid (ready sent.accepted (sent.received s.i))) =
        sym is ∙ reply-is _ refl s.carries in
        let replica : i ≡ s.i = (let e = s.replica in cc) in
        let ready_is : seen ≡ ready sent.accepted (sent.received s.i) = cc in (
          ready_is ∙ ap (λ j. ready sent.accepted (sent.received j)) (sym replica),
          record {
            call = s.call;
            copy = s.asked.0;
            sent = s.asked.1;
            what = s.asked.2;
            name = s.name;
            text_is = s.text_is ∙ ap (λ set. m.read (value m sent.accepted set) s.call.op) (sym ready_is);
          },
        )

    -- a reply that is taken stands for an acceptance of the call at the spot that it was sent with
    pub done-taken : (spot : Spot) (names : SpotSet) → reply ≡ DoneReply cid names
        → IsAmong (Send n (Replica i) (Client client) (Done cid spot)) sending.outcomes
        → IsDoneAt sent.accepted cid spot names
    done-taken spot names is among =
        let s : IsDoneSaid m sent.accepted sent.received sent.messages n (Replica i) (Client client) cid spot =
        each-at _ _ sending.outcomes all-said among in
        let what : ◌≡◌ {A = Carried Op} (DoneReply cid names) (DoneReply cid s.acceptance.below) =
        sym is ∙ reply-is _ refl s.carries in
        let below : s.acceptance.below ≡ names = cc in
        record { acceptance = s.acceptance; among = s.there; call = s.call; at = s.at; below = below }
