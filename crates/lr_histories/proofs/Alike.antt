-- Two meanings that answer alike, whatever was accepted, make the same histories legal.
use Rattle.std.proofs.Common.{◌≡◌, ◌∙◌, ℕ, suc, Bool, true, false, ◌&&◌, not, List, [], ◌∷◌, ◌++◌, ap, refl, sym, subst}
use Rattle.std.specs.Prelude.{nat_lt, Option, Some, None, if◌then◌else◌}
use Rattle.lr_base.specs.Kinds.{has_rules, is_query}
use Rattle.lr_base.specs.Meaning.{Meaning}
use Rattle.lr_base.specs.declared.events.Event.{Event}
use Rattle.lr_base.specs.declared.events.Event.TheVariants.{Call, Resend, Ack as AckEvent, Deliver, Tick, Gossip, Show}
use Rattle.lr_base.specs.declared.events.Outcome.{Outcome}
use Rattle.lr_base.specs.declared.events.Outcome.TheVariants.{Send, Accept, Note, Hold, Take, Got, Stale}
use Rattle.lr_base.specs.declared.events.Outcome.TheVariants.{ClockAt, NoMessage, Refuse, State}
use Rattle.lr_base.specs.declared.events.Sent.TheVariants.{Update, Query, Answer}
use Rattle.lr_base.specs.declared.events.Step.{Step}
use Rattle.lr_base.specs.declared.names.Actor.{Actor}
use Rattle.lr_base.specs.declared.names.Actor.TheVariants.{Client, Replica}
use Rattle.lr_base.specs.declared.names.Config.{Config}
use Rattle.lr_graph.specs.After.{Handling, after, event_read, handling, line_read, lines_read, next_call}
use Rattle.lr_graph.specs.After.{step_ended, stepping}
use Rattle.lr_graph.specs.Graph.{Acceptance, Carried, Facts, LabelledCall, SentMessage}
use Rattle.lr_graph.specs.Graph.{UpdateCopy, QueryCopy, AckCopy, DoneReply, AnswerReply, GossipOf, Blank}
use Rattle.lr_graph.specs.Graph.{first_facts, has_call, is_within, ready, value}
use Rattle.lr_graph.specs.Legal.{IsLegal, LegalFrom, answer_line, answers, answers_at, call_lines, delivery_lines}
use Rattle.lr_graph.specs.Legal.{copy_line, copy_lines, is_event_in, message_lines, next_number, outcomes_of}
use Rattle.lr_graph.specs.Legal.{own_lines, query_lines, resend_lines}
use Rattle.lr_graph.specs.Sets.{SpotSet}

-- the operations are the same, with one kind each, and every set of acceptances has one answer
pub record Alike {V W Op : Type 0} (m : Meaning V Op) (n : Meaning W Op) : Type 0 where
  pub kind : (op : Op) → m.kind op ≡ n.kind op
  pub is_op : (op : Op) → m.is_op op ≡ n.is_op op
  pub read : (accepted : List (Acceptance Op)) (set : SpotSet) (op : Op)
      → m.read (value m accepted set) op ≡ n.read (value n accepted set) op

-- the same the other way round
pub turned : {V W Op : Type 0} {m : Meaning V Op} {n : Meaning W Op} → Alike m n → Alike n m
turned h = record {
  kind = λ op. sym (h.kind op);
  is_op = λ op. sym (h.is_op op);
  read = λ accepted set op. sym (h.read accepted set op);
}

module _ {V W Op : Type 0} (m : Meaning V Op) (n : Meaning W Op) where
  -- values are related that are made by related steps
  pub related : (R : V → W → Type 0) → R m.start n.start
      → ((v : V) (w : W) (op : Op) → R v w → R (m.apply v op) (n.apply w op))
      → (accepted : List (Acceptance Op)) (set : SpotSet) → R (value m accepted set) (value n accepted set)
  related R start next [] set = start
  related R start next (a ∷ older) set =
      go (set a.spot && not (has_call older set a.cid)) (related R start next older set)
    where
      go : (b : Bool) → R (value m older set) (value n older set)
          → R (if b then m.apply (value m older set) a.op else value m older set)
          (if b then n.apply (value n older set) a.op else value n older set)
      go true before = next _ _ a.op before
      go false before = before

module _ {V W Op : Type 0} {m : Meaning V Op} {n : Meaning W Op} (h : Alike m n) where
  same-answer : (w : Facts Op) (number i : ℕ) (call : LabelledCall Op)
      → answer_line m w number i call ≡ answer_line n w number i call
  same-answer w number i call =
      ap (λ text. Send number (Replica i) (Client call.cid.client) (Answer call.cid text))
      (h.read w.accepted (ready w.accepted (w.received i)) call.op)

  same-query : (w : Facts Op) (i : ℕ) (call : LabelledCall Op) (all room : Bool)
      → query_lines m w i call all room ≡ query_lines n w i call all room
  same-query w i call true room = ap (λ line. line ∷ []) (same-answer w (next_number w) i call)
  same-query w i call false true = refl
  same-query w i call false false = refl

  same-message : (config : Config) (w : Facts Op) (to : Actor) (what : Carried Op)
      → message_lines m config w to what ≡ message_lines n config w to what
  same-message config w (Replica i) (UpdateCopy call time) =
      ap (λ kind. copy_lines config w i call time (has_rules kind)) (h.kind call.op)
  same-message config w (Replica i) (QueryCopy call) = same-query w i call _ _
  same-message config w (Replica i) (AckCopy cid time) = refl
  same-message config w (Replica i) (DoneReply cid names) = refl
  same-message config w (Replica i) (AnswerReply cid names) = refl
  same-message config w (Replica i) (GossipOf names) = refl
  same-message config w (Replica i) Blank = refl
  same-message config w (Client client) (UpdateCopy call time) = refl
  same-message config w (Client client) (QueryCopy call) = refl
  same-message config w (Client client) (AckCopy cid time) = refl
  same-message config w (Client client) (DoneReply cid names) = refl
  same-message config w (Client client) (AnswerReply cid names) = refl
  same-message config w (Client client) (GossipOf names) = refl
  same-message config w (Client client) Blank = refl

  same-delivery : (config : Config) (w : Facts Op) (number : ℕ) (x : Option (SentMessage Op))
      → delivery_lines m config w number x ≡ delivery_lines n config w number x
  same-delivery config w number None = refl
  same-delivery config w number (Some x) = same-message config w x.to x.what

  same-copy : (w : Facts Op) (client replica clock : ℕ) (call : LabelledCall Op)
      → copy_line m w client replica clock call ≡ copy_line n w client replica clock call
  same-copy w client replica clock call =
      ap (λ kind. Send (next_number w) (Client client) (Replica replica)
      (if is_query kind then Query call.cid else Update call.cid clock)) (h.kind call.op)

  same-call : (w : Facts Op) (client replica clock : ℕ) (op : Op) (known : Option (LabelledCall Op)) (worn : Bool)
      → call_lines m w client replica clock op known worn ≡ call_lines n w client replica clock op known worn
  same-call w client replica clock op (Some call) worn = refl
  same-call w client replica clock op None true = refl
  same-call w client replica clock op None false =
      ap (λ line. line ∷ []) (same-copy w client replica clock (next_call client (w.front client) op))

  same-resend : (w : Facts Op) (client replica clock : ℕ) (known : Option (LabelledCall Op))
      → resend_lines m w client replica clock known ≡ resend_lines n w client replica clock known
  same-resend w client replica clock None = refl
  same-resend w client replica clock (Some call) = ap (λ line. line ∷ []) (same-copy w client replica clock call)

  same-own : (config : Config) (w : Facts Op) (event : Event Op)
      → own_lines m config w event ≡ own_lines n config w event
  same-own config w (Call client replica reading op) = same-call w client replica _ op _ _
  same-own config w (Resend client replica reading) = same-resend w client replica _ _
  same-own config w (AckEvent client replica reading) = refl
  same-own config w (Deliver message) = same-delivery config w message _
  same-own config w (Tick replica reading) = refl
  same-own config w (Gossip from to) = refl
  same-own config w (Show replica) = refl

  same-answers : (w : Facts Op) (number i : ℕ) (calls : List (LabelledCall Op))
      → answers m w number i calls ≡ answers n w number i calls
  same-answers w number i [] = refl
  same-answers w number i (call ∷ calls) =
      go (is_within w.accepted call.label (w.received i)) (same-answers w (suc number) i calls)
      (same-answers w number i calls)
    where
      go : (b : Bool) → answers m w (suc number) i calls ≡ answers n w (suc number) i calls
          → answers m w number i calls ≡ answers n w number i calls
          → (if b then answer_line m w number i call ∷ answers m w (suc number) i calls else answers m w number i calls)
          ≡ (if b then answer_line n w number i call ∷ answers n w (suc number) i calls else answers n w number i calls)
      go true answered held = λ k. same-answer w number i call k ∷ answered k
      go false answered held = held

  same-end : (w : Facts Op) (x : Option ℕ) → answers_at m w x ≡ answers_at n w x
  same-end w None = refl
  same-end w (Some i) = same-answers w (next_number w) i (w.held i)

  same-line : (config : Config) (x : Handling Op) (w : Facts Op) (line : Outcome)
      → line_read m config x w line ≡ line_read n config x w line
  same-line config x w (Send number from to what) = refl
  same-line config x w (Accept spot cid) = refl
  same-line config x w (Note spot cid) = refl
  same-line config x w (Hold cid) = refl
  same-line config x w (Take count) = refl
  same-line config x w (Got cid) = refl
  same-line config x w (Stale cid) = refl
  same-line config x w (ClockAt reading) = refl
  same-line config x w (NoMessage message) = refl
  same-line config x w (Refuse why) = refl
  same-line config x w (State line) = refl

  same-lines : (config : Config) (x : Handling Op) (w : Facts Op) (lines : List Outcome)
      → lines_read m config x w lines ≡ lines_read n config x w lines
  same-lines config x w [] = refl
  same-lines config x w (line ∷ lines) =
      ap (λ (u : Facts Op). lines_read m config x u lines) (same-line config x w line)
      ∙ same-lines config x (line_read n config x w line) lines

  same-ended : (config : Config) (i : Option ℕ) (w : Facts Op) → step_ended m config i w ≡ step_ended n config i w
  same-ended config None w = refl
  same-ended config (Some i) w = refl

  same-outcomes : (config : Config) (w : Facts Op) (event : Event Op)
      → outcomes_of m config w event ≡ outcomes_of n config w event
  same-outcomes config w event =
      let read : List Outcome → Facts Op = lines_read m config (handling w event) (event_read w event) in
      ap (λ own. own ++ answers_at m (read own) (stepping w event)) (same-own config w event)
      ∙ ap (λ end. own_lines n config w event ++ end)
      (same-end (read (own_lines n config w event)) (stepping w event)
      ∙ ap (λ (u : Facts Op). answers_at n u (stepping w event))
      (same-lines config (handling w event) (event_read w event) (own_lines n config w event)))

  same-after : (config : Config) (w : Facts Op) (step : Step Op) → after m config w step ≡ after n config w step
  same-after config w step =
      ap (λ (u : Facts Op). step_ended m config (stepping w step.event) u)
      (same-lines config (handling w step.event) (event_read w step.event) step.outcomes)
      ∙ same-ended config (stepping w step.event)
      (lines_read n config (handling w step.event) (event_read w step.event) step.outcomes)

  same-event : (config : Config) (event : Event Op) → is_event_in m config event ≡ is_event_in n config event
  same-event config (Call client replica reading op) =
      ap (λ is. nat_lt client config.clients && (nat_lt replica config.replicas && is)) (h.is_op op)
  same-event config (Resend client replica reading) = refl
  same-event config (AckEvent client replica reading) = refl
  same-event config (Deliver message) = refl
  same-event config (Tick replica reading) = refl
  same-event config (Gossip from to) = refl
  same-event config (Show replica) = refl

  legal-from : (config : Config) (w : Facts Op) (steps : List (Step Op)) → LegalFrom m config w steps
      → LegalFrom n config w steps
  legal-from config w [] legal = tt
  legal-from config w (step ∷ steps) legal = (
    record {
      event = sym (same-event config step.event) ∙ legal.0.event;
      outcomes = legal.0.outcomes ∙ same-outcomes config w step.event;
    },
    subst (λ (u : Facts Op). LegalFrom n config u steps) (same-after config w step)
        (legal-from config (after m config w step) steps legal.1),
  )

  -- what is legal by the one is legal by the other
  pub legal-alike : (config : Config) (steps : List (Step Op)) → IsLegal m config steps → IsLegal n config steps
  legal-alike config steps legal = legal-from config first_facts steps legal
