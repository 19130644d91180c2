-- In a legal history that calls operations of the service each answer is printable.
use Rattle.std.proofs.Common.{◌≡◌, ◌^◌, ℕ, Bool, true, false, cond, ◌&&◌, ◌==◌, not, List, [], ◌∷◌, Option, Some, None, sym, subst, nat_lt}
use Rattle.lr_base.specs.Kinds.{is_query}
use Rattle.lr_base.specs.Meaning.{Encoding, Lawful, Meaning, is_printable}
use Rattle.lr_base.specs.declared.events.Event.{Event}
use Rattle.lr_base.specs.declared.events.Event.TheVariants.{Call, Resend, Ack as AckEvent, Deliver, Tick, Gossip as GossipEvent, Show}
use Rattle.lr_base.specs.declared.events.Outcome.{Outcome}
use Rattle.lr_base.specs.declared.events.Outcome.TheVariants.{Send, Accept, Note, Hold, Take, Got, Stale, ClockAt, NoMessage, Refuse, State}
use Rattle.lr_base.specs.declared.events.Sent.TheVariants.{Update, Query, Ack, Done, Answer, Gossip}
use Rattle.lr_base.specs.declared.events.Step.{Step}
use Rattle.lr_base.specs.declared.lr_service.Kind.{Kind}
use Rattle.lr_base.specs.declared.names.Actor.TheVariants.{Client, Replica}
use Rattle.lr_base.specs.declared.names.Cid.{Cid}
use Rattle.lr_base.specs.declared.names.Config.{Config}
use Rattle.lr_graph.specs.After.{after, delivery_of, event_read, lines_read, next_call, stepping, handling}
use Rattle.lr_graph.specs.Answers.{HasPrintableAnswer}
use Rattle.lr_graph.specs.Closed.{Each}
use Rattle.lr_graph.specs.Graph.{Acceptance, Facts, LabelledCall, first_facts, has_call, ready, value}
use Rattle.lr_graph.specs.Legal.{IsLegal, LegalFrom, acknowledge_lines, answers_at, call_lines, copy_line, next_number, outcomes_of, own_lines, resend_lines, is_event_in}
use Rattle.lr_graph.specs.Sets.{SpotSet}
use Rattle.lr_graph.proofs.Lists.Members.{each-append, each-map}
use Rattle.lr_graph.proofs.Histories.Updates.{AnswersFine, CallsFine, Holds, IsOther, answers_at-other, delivery-other, own-fine, step-fine}
use Rattle.lr_graph.proofs.Lists.Tests.{and-right}

-- a text that is printable
abbrev IsPrinted : List ℕ → Type 0
IsPrinted text = is_printable text ≡ true

-- what such a line sends as an answer is printable
other-printable : (line : Outcome) → IsOther IsPrinted line → HasPrintableAnswer line
other-printable (Send number from to (Update cid time)) other = tt
other-printable (Send number from to (Query cid)) other = tt
other-printable (Send number from to (Ack cid time)) other = tt
other-printable (Send number from to (Done cid spot)) other = tt
other-printable (Send number from to (Answer cid text)) other = other
other-printable (Send number from to Gossip) other = tt
other-printable (Accept spot cid) other = tt
other-printable (Note spot cid) other = tt
other-printable (Hold cid) other = tt
other-printable (Take count) other = tt
other-printable (Got cid) other = tt
other-printable (Stale cid) other = tt
other-printable (ClockAt reading) other = tt
other-printable (NoMessage message) other = tt
other-printable (Refuse why) other = tt
other-printable (State line) other = tt

others-printable : (lines : List Outcome) → Each (IsOther IsPrinted) lines → Each HasPrintableAnswer lines
others-printable lines others = each-map (IsOther IsPrinted) HasPrintableAnswer lines other-printable others

module _ {Value Op : Type 0} (m : Meaning Value Op) where
  -- an operation of the service
  abbrev pub IsOp : Op → Type 0
  IsOp op = m.is_op op ≡ true

  pub calls-ops : (config : Config) (event : Event Op) → is_event_in m config event ≡ true → CallsFine m IsOp event
  calls-ops config (Call client replica reading op) own =
      λ update. and-right (nat_lt replica config.replicas) _ (and-right (nat_lt client config.clients) _ own)
  calls-ops config (Resend client replica reading) is = tt
  calls-ops config (AckEvent client replica reading) is = tt
  calls-ops config (Deliver message) is = tt
  calls-ops config (Tick replica reading) is = tt
  calls-ops config (GossipEvent from to) is = tt
  calls-ops config (Show replica) is = tt

  copy-printable : (w : Facts Op) (client replica clock : ℕ) (call : LabelledCall Op) → HasPrintableAnswer (copy_line m w client replica clock call)
  copy-printable w client replica clock call = sent (is_query (m.kind call.op))
    where
      sent : (t : Bool) → HasPrintableAnswer (Send (next_number w) (Client client) (Replica replica) (cond t (Query call.cid) (Update call.cid clock)))
      sent true = tt
      sent false = tt

  call-printable : (w : Facts Op) (client replica clock : ℕ) (op : Op) (o : Option (LabelledCall Op)) (worn : Bool) → Each HasPrintableAnswer (call_lines m w client replica clock op o worn)
  call-printable w client replica clock op (Some call) worn = (tt, tt)
  call-printable w client replica clock op None true = (tt, tt)
  call-printable w client replica clock op None false = (copy-printable w client replica clock (next_call client (w.front client) op), tt)

  resend-printable : (w : Facts Op) (client replica clock : ℕ) (o : Option (LabelledCall Op)) → Each HasPrintableAnswer (resend_lines m w client replica clock o)
  resend-printable w client replica clock None = (tt, tt)
  resend-printable w client replica clock (Some call) = (copy-printable w client replica clock call, tt)

  acknowledge-printable : (w : Facts Op) (client replica clock : ℕ) (o : Option Cid) → Each HasPrintableAnswer (acknowledge_lines w client replica clock o)
  acknowledge-printable w client replica clock None = (tt, tt)
  acknowledge-printable w client replica clock (Some cid) = (tt, tt)

module _ {Value Op : Type 0} (m : Meaning Value Op) {e : Encoding Value} (kind_of : Op → Kind) (lawful : Lawful m e kind_of) where
  -- what operations make of the start is a value
  value-is : (accepted : List (Acceptance Op)) (set : SpotSet) → Each (λ a. m.is_op a.op ≡ true) accepted → e.is_value (value m accepted set) ≡ true
  value-is [] set ops = lawful.start_is
  value-is (a ∷ older) set ops = split (set a.spot && not (has_call older set a.cid)) (value-is older set ops.1)
    where
      split : (t : Bool) → e.is_value (value m older set) ≡ true → e.is_value (cond t (m.apply (value m older set) a.op) (value m older set)) ≡ true
      split true is = lawful.stays _ a.op is ops.0
      split false is = is

  -- what a replica would answer is printable
  pub answers-fine : (w : Facts Op) → Holds m.kind (IsOp m) w → AnswersFine m IsPrinted w
  answers-fine w h i op = lawful.printable_answer _ op (value-is w.accepted (ready w.accepted (w.received i)) h.accepted)

  own-printable : (config : Config) (w : Facts Op) (event : Event Op) → Holds m.kind (IsOp m) w → Each HasPrintableAnswer (own_lines m config w event)
  own-printable config w (Call client replica reading op) h = call-printable m w client replica _ op (w.front client).open_call ((w.front client).calls == 2 ^ 62)
  own-printable config w (Resend client replica reading) h = resend-printable m w client replica _ (w.front client).open_call
  own-printable config w (AckEvent client replica reading) h = acknowledge-printable m w client replica _ (w.front client).answered
  own-printable config w (Tick replica reading) h = (tt, tt)
  own-printable config w (Deliver message) h = others-printable _ (delivery-other m IsPrinted config w (answers-fine w h) message (delivery_of w (Deliver message)))
  own-printable config w (GossipEvent from to) h = (tt, tt)
  own-printable config w (Show replica) h = (tt, tt)

  event-printable : (config : Config) (w : Facts Op) (event : Event Op) → is_event_in m config event ≡ true → Holds m.kind (IsOp m) w → Each HasPrintableAnswer (outcomes_of m config w event)
  event-printable config w event is h =
      let own = own_lines m config w event in
      let mid = lines_read m config (handling w event) (event_read w event) own in
      let fine = answers-fine mid (own-fine m (IsOp m) config w event (calls-ops m config event is) h) in
      each-append HasPrintableAnswer own (answers_at m mid (stepping w event)) (own-printable config w event h)
      (others-printable _ (answers_at-other m IsPrinted mid fine (stepping w event)))

  from-printable : (config : Config) (w : Facts Op) (steps : List (Step Op)) → LegalFrom m config w steps → Holds m.kind (IsOp m) w → Each (λ step. Each HasPrintableAnswer step.outcomes) steps
  from-printable config w [] legal h = tt
  from-printable config w (step ∷ steps) legal h = (
    subst (λ (lines : List Outcome). Each HasPrintableAnswer lines) (sym legal.0.outcomes) (event-printable config w step.event legal.0.event h),
    from-printable config (after m config w step) steps legal.1 (step-fine m (IsOp m) config w step (calls-ops m config step.event legal.0.event) legal.0.outcomes h),
  )

  pub answers-printable : (config : Config) (steps : List (Step Op)) → IsLegal m config steps → Each (λ step. Each HasPrintableAnswer step.outcomes) steps
  answers-printable config steps legal = from-printable config first_facts steps legal (record { accepted = tt; messages = tt; opened = λ client. tt })
