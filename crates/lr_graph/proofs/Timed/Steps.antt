-- A legal step is made of changes, where times were in order before.
use Rattle.std.proofs.Common.{◌≡◌, ◌^◌, ℕ, suc, ◌==◌, max, find, Bool, true, false, cond, List, [], ◌∷◌}
use Rattle.std.proofs.Common.{Option, Some, None, refl, sym, ap, ◌∙◌, subst}
use Rattle.lr_base.specs.Ascending.{same_cid}
use Rattle.lr_base.specs.Kinds.{has_rules, is_query}
use Rattle.lr_base.specs.Meaning.{Meaning}
use Rattle.lr_base.specs.declared.events.Event.{Event}
use Rattle.lr_base.specs.declared.events.Event.TheVariants.{Call, Resend, Ack as AckEvent, Deliver, Tick}
use Rattle.lr_base.specs.declared.events.Event.TheVariants.{Gossip as GossipEvent, Show}
use Rattle.lr_base.specs.declared.events.Outcome.{Outcome}
use Rattle.lr_base.specs.declared.events.Outcome.TheVariants.{Got, Stale}
use Rattle.lr_base.specs.declared.events.Sent.TheVariants.{Query, Update}
use Rattle.lr_base.specs.declared.events.Step.{Step}
use Rattle.lr_base.specs.declared.names.Actor.{Actor}
use Rattle.lr_base.specs.declared.names.Actor.TheVariants.{Client, Replica}
use Rattle.lr_base.specs.declared.names.Cid.{Cid}
use Rattle.lr_base.specs.declared.names.Config.{Config}
use Rattle.lr_base.specs.declared.names.Spot.{Spot}
use Rattle.lr_graph.specs.After.{Handling, after, call_read, carried, clock_read, copy_of, got_read, handling}
use Rattle.lr_graph.specs.After.{line_read, lines_read, next_call, step_ended, stepping, with_front}
use Rattle.lr_graph.specs.Graph.{Carried, Facts, FrontFacts, LabelledCall, SentMessage, is_within}
use Rattle.lr_graph.specs.Graph.{UpdateCopy, QueryCopy, AckCopy, DoneReply, AnswerReply, GossipOf}
use Rattle.lr_graph.specs.Legal.{accept_lines, ack_lines, acknowledge_lines, answer_line, answers, answers_at}
use Rattle.lr_graph.specs.Legal.{call_lines, copy_lines, delivery_lines, message_lines, next_number, outcomes_of}
use Rattle.lr_graph.specs.Legal.{query_lines, reply_line, resend_lines, update_lines}
use Rattle.lr_graph.specs.Timed.{IsTimed, WasSent}
use Rattle.lr_graph.proofs.Handled.{alone, came_in}
use Rattle.lr_graph.proofs.Lists.Members.{find-some}
use Rattle.lr_graph.proofs.Lists.Tests.{same_cid-is}
use Rattle.lr_graph.proofs.Promised.Walk.{after-parts, own_read}
use Rattle.lr_graph.proofs.Replicas.Stepping.{put-same}
use Rattle.lr_graph.proofs.Timed.Changes.{Change, Changes, MaySend, ack_noted, call_opened, clock_raised, message_sent}
use Rattle.lr_graph.proofs.Timed.Changes.{no_change, one_more, query_answered, replica_changed, update_answered}

-- a copy of an open call may be sent, with its client's clock
copy-may : {Op : Type 0} (w : Facts Op) (from : Actor) (call : LabelledCall Op) (time : ℕ)
    → (w.front call.cid.client).open_call ≡ Some call → time ≡ (w.front call.cid.client).clock
    → (t : Bool) → MaySend w (carried w from (cond t (Query call.cid) (Update call.cid time)))
copy-may {Op} w from call time is clock true =
    subst (λ (o : Option (LabelledCall Op)). MaySend w (copy_of o QueryCopy)) (sym is) tt
copy-may {Op} w from call time is clock false =
    subst (λ (o : Option (LabelledCall Op)). MaySend w (copy_of o (λ c. UpdateCopy c time))) (sym is) (is, clock)

module _ {Value Op : Type 0} (m : Meaning Value Op) (config : Config) where
  -- ---- a front end calls, sends again, or acknowledges

  module _ (w : Facts Op) (client replica reading : ℕ) where
    -- the lines of this front end's step, from these facts on
    abbrev read_on : Facts Op → List Outcome → Facts Op
    read_on now lines = lines_read m config (alone (Some (Client client))) now lines

    -- the facts with this front end after the reading
    abbrev raised : Facts Op
    raised = with_front w client (clock_read reading (w.front client))

    -- its clock then
    abbrev clock : ℕ
    clock = max (w.front client).clock reading

    only-raised : Changes w raised
    only-raised = one_more w raised no_change (clock_raised client reading)

    call-changes : (op : Op) (o : Option (LabelledCall Op)) (worn : Bool)
        → Changes w (read_on (with_front w client (call_read client reading op (w.front client) o worn))
        (call_lines m w client replica clock op o worn))
    call-changes op (Some call) worn = only-raised
    call-changes op None true = only-raised
    call-changes op None false =
        one_more opened _ (one_more w opened no_change (call_opened client reading op)) (message_sent _
        (copy-may opened (Client client) (next_call client (w.front client) op) clock
        (ap (λ (g : FrontFacts Op). g.open_call) same) (sym (ap (λ (g : FrontFacts Op). g.clock) same))
        (is_query (m.kind op))))
      where
        front : FrontFacts Op
        front = call_read client reading op (w.front client) None false

        opened : Facts Op
        opened = with_front w client front

        same : opened.front client ≡ front
        same = put-same client front w.front

    module _ (h : IsTimed w) where
      -- another name of this front end, after the reading
      there : (other : ℕ) → other ≡ client → raised.front other ≡ clock_read reading (w.front client)
      there other own = ap raised.front own ∙ put-same client (clock_read reading (w.front client)) w.front

      resend-changes : (o : Option (LabelledCall Op)) → (w.front client).open_call ≡ o
          → Changes w (read_on raised (resend_lines m raised client replica clock o))
      resend-changes None is = only-raised
      resend-changes (Some call) is =
          let same = there call.cid.client (h.opened client call is).own in
          one_more raised _ only-raised (message_sent _ (copy-may raised (Client client) call clock
          (ap (λ (g : FrontFacts Op). g.open_call) same ∙ is) (sym (ap (λ (g : FrontFacts Op). g.clock) same))
          (is_query (m.kind call.op))))

      acknowledge-changes : (o : Option Cid) → (w.front client).answered ≡ o
          → Changes w (read_on raised (acknowledge_lines raised client replica clock o))
      acknowledge-changes None is = only-raised
      acknowledge-changes (Some cid) is =
          let same = there cid.client (h.answered client cid is).own in
          one_more raised _ only-raised (message_sent _ (
            ap (λ (g : FrontFacts Op). g.answered) same ∙ is,
            sym (ap (λ (g : FrontFacts Op). g.clock) same),
          ))

  -- ---- a message comes

  module _ (w : Facts Op) where
    module _ (number : ℕ) (from : Actor) where
      abbrev message : Actor → Carried Op → SentMessage Op
      message to what = record { number = number; from = from; to = to; what = what }

      -- changes by these lines, where this comes
      abbrev ChangesBy : Actor → Carried Op → List Outcome → Type 0
      ChangesBy to what lines = Changes w (lines_read m config (came_in (Some (message to what))) w lines)

      module _ (i : ℕ) where
        accept-changes : (call : LabelledCall Op) (time : ℕ) (room left : Bool)
            → ChangesBy (Replica i) (UpdateCopy call time) (accept_lines w i call.cid room left)
        accept-changes call time false left = no_change
        accept-changes call time true false = no_change
        accept-changes call time true true =
            one_more _ _ (one_more w _ no_change (replica_changed _ _ w.told w.kept w.held w.clock)) (message_sent _ tt)

        update-changes : (call : LabelledCall Op) (time : ℕ) (late : Bool) (taken noted : Option Spot)
            → ChangesBy (Replica i) (UpdateCopy call time) (update_lines config w i call.cid time late taken noted)
        update-changes call time true taken noted = no_change
        update-changes call time false (Some spot) noted = one_more w _ no_change (message_sent _ tt)
        update-changes call time false None (Some spot) = no_change
        update-changes call time false None None = accept-changes call time _ _

        copy-changes : (call : LabelledCall Op) (time : ℕ) (rules : Bool)
            → ChangesBy (Replica i) (UpdateCopy call time) (copy_lines config w i call time rules)
        copy-changes call time false = no_change
        copy-changes call time true = update-changes call time _ _ _

        query-changes : (call : LabelledCall Op) (within room : Bool)
            → ChangesBy (Replica i) (QueryCopy call) (query_lines m w i call within room)
        query-changes call true room = one_more w _ no_change (message_sent _ tt)
        query-changes call false true =
            one_more w _ no_change (replica_changed w.accepted w.received w.told w.kept _ w.clock)
        query-changes call false false = no_change

        note-changes : (cid : Cid) (time : ℕ) → WasSent w.messages (AckCopy cid time) → (noted : Option Spot)
            (room left : Bool) → ChangesBy (Replica i) (AckCopy cid time) (ack_lines w i cid noted room left)
        note-changes cid time sent (Some spot) room left = no_change
        note-changes cid time sent None false left = no_change
        note-changes cid time sent None true false = no_change
        note-changes cid time sent None true true = one_more w _ no_change (ack_noted i _ cid time sent)

      -- a reply is taken where this is a change
      reply-changes : (client : ℕ) (cid : Cid) (what : Carried Op) (o : Option (LabelledCall Op))
          → ((call : LabelledCall Op) → o ≡ Some call → call.cid ≡ cid
          → Change w (got_read w (Client client) what))
          → ChangesBy (Client client) what (reply_line o cid ∷ [])
      reply-changes client cid what None change = no_change
      reply-changes client cid what (Some call) change = by_test (same_cid call.cid cid) refl
        where
          by_test : (t : Bool) → same_cid call.cid cid ≡ t
              → ChangesBy (Client client) what (cond t (Got cid) (Stale cid) ∷ [])
          by_test true e = one_more w _ no_change (change call refl (same_cid-is call.cid cid e))
          by_test false e = no_change

      message-changes : (to : Actor) (what : Carried Op) → WasSent w.messages what
          → ChangesBy to what (message_lines m config w to what)
      message-changes (Replica i) (UpdateCopy call time) sent = copy-changes i call time (has_rules (m.kind call.op))
      message-changes (Replica i) (QueryCopy call) sent = query-changes i call _ _
      message-changes (Replica i) (AckCopy cid time) sent = note-changes i cid time sent _ _ _
      message-changes (Replica i) (GossipOf names) sent =
          one_more w _ no_change (replica_changed w.accepted _ _ w.kept w.held w.clock)
      message-changes (Client c) (DoneReply cid names) sent =
          reply-changes c cid (DoneReply cid names) (w.front c).open_call
          (λ call is same. update_answered c names call cid is same)
      message-changes (Client c) (AnswerReply cid names) sent =
          reply-changes c cid (AnswerReply cid names) (w.front c).open_call (λ call is same. query_answered c names)
      message-changes _ _ sent = no_change

    delivery-changes : (n : ℕ) (o : Option (SentMessage Op)) → find (λ x. x.number == n) w.messages ≡ o
        → Changes w (lines_read m config (came_in o) w (delivery_lines m config w n o))
    delivery-changes n None e = no_change
    delivery-changes n (Some x) e =
        message-changes x.number x.from x.to x.what (x, (find-some (λ x. x.number == n) w.messages x e).0, refl)

    -- ---- a whole step

    own-changes : IsTimed w → (event : Event Op) → Changes w (own_read m config w event)
    own-changes h (Call client replica reading op) =
        call-changes w client replica reading op (w.front client).open_call ((w.front client).calls == 2 ^ 62)
    own-changes h (Resend client replica reading) =
        resend-changes w client replica reading h (w.front client).open_call refl
    own-changes h (AckEvent client replica reading) =
        acknowledge-changes w client replica reading h (w.front client).answered refl
    own-changes h (Deliver n) = delivery-changes n _ refl
    own-changes h (Tick i reading) = one_more w _ no_change (replica_changed w.accepted w.received w.told w.kept w.held _)
    own-changes h (GossipEvent from to) = one_more w _ no_change (message_sent _ tt)
    own-changes h (Show i) = no_change

    -- answers are sent one after another
    answers-changes : (mid : Facts Op) (x : Handling Op) (i number : ℕ) (calls : List (LabelledCall Op))
        (now : Facts Op) → Changes w now → Changes w (lines_read m config x now (answers m mid number i calls))
    answers-changes mid x i number [] now before = before
    answers-changes mid x i number (call ∷ calls) now before =
        by_test (is_within mid.accepted call.label (mid.received i))
        (answers-changes mid x i (suc number) calls _ (one_more now _ before (message_sent _ tt)))
        (answers-changes mid x i number calls now before)
      where
        by_test : (t : Bool)
            → Changes w (lines_read m config x (line_read m config x now (answer_line m mid number i call))
            (answers m mid (suc number) i calls))
            → Changes w (lines_read m config x now (answers m mid number i calls))
            → Changes w (lines_read m config x now
            (cond t (answer_line m mid number i call ∷ answers m mid (suc number) i calls)
            (answers m mid number i calls)))
        by_test true sent none = sent
        by_test false sent none = none

    pub step-changes : IsTimed w → (step : Step Op) → step.outcomes ≡ outcomes_of m config w step.event
        → Changes w (after m config w step)
    step-changes h step legal =
        subst (Changes w) (sym (after-parts m config w step legal))
        (by_actor (stepping w step.event) (handling w step.event) (own_read m config w step.event)
        (own-changes h step.event))
      where
        by_actor : (o : Option ℕ) (x : Handling Op) (mid : Facts Op) → Changes w mid
            → Changes w (step_ended m config o (lines_read m config x mid (answers_at m mid o)))
        by_actor None x mid before = before
        by_actor (Some i) x mid before =
            one_more _ _ (answers-changes mid x i (next_number mid) (mid.held i) mid before)
            (replica_changed _ _ _ _ _ _)
