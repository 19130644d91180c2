-- A front end that sends its open call again, or acknowledges, does the same in the graph and by the rules.
use Rattle.std.proofs.Common.{◌≡◌, ◌==◌, ℕ, ◌+◌, ◌<◌, ◌≤◌, max, Bool, true, false, cond, List, [], ◌∷◌, ◌++◌, length, set, Option, Some, None, refl, sym, ap, ◌∙◌, subst, arith, eqb-true}
use Rattle.std.specs.List.{slice_get}
use Rattle.lr_base.specs.Fronts.{FrontState, ack_acts, clock_read as rules_read, message_of, resend_acts}
use Rattle.lr_base.specs.Kinds.{is_query}
use Rattle.lr_base.specs.Meaning.{Meaning}
use Rattle.lr_base.specs.declared.acts.Act.{Act}
use Rattle.lr_base.specs.declared.acts.Act.TheVariants.{Send}
use Rattle.lr_base.specs.declared.events.Outcome.{Outcome}
use Rattle.lr_base.specs.declared.events.Outcome.TheVariants.{Refuse, Send as SendLine}
use Rattle.lr_base.specs.declared.events.Refusal.TheVariants.{Idle, Nothing}
use Rattle.lr_base.specs.declared.events.Sent.{Sent}
use Rattle.lr_base.specs.declared.events.Sent.TheVariants.{Ack as AckSent, Query as QuerySent, Update as UpdateSent}
use Rattle.lr_base.specs.declared.lr_service.Kind.{Kind}
use Rattle.lr_base.specs.declared.lr_service.Kind.TheVariants.{Causal, Forced, Immediate, Query as AQuery}
use Rattle.lr_base.specs.declared.messages.Call.{Call}
use Rattle.lr_base.specs.declared.messages.Message.{Message}
use Rattle.lr_base.specs.declared.messages.Message.TheVariants.{Ack, Query, Update}
use Rattle.lr_base.specs.declared.names.Actor.TheVariants.{Client, Replica}
use Rattle.lr_base.specs.declared.names.Cid.{Cid}
use Rattle.lr_base.specs.declared.names.Config.{Config}
use Rattle.lr_graph.specs.After.{carried, clock_read, copy_of, lines_read, with_front as front_put}
use Rattle.lr_graph.specs.Graph.{AckCopy, Carried, Facts, FrontFacts, LabelledCall, QueryCopy, UpdateCopy}
use Rattle.lr_graph.specs.Legal.{acknowledge_lines, copy_line, next_number, resend_lines}
use Rattle.lr_graph.specs.Runs.{RunState, acted, sent_of_message, with_front}
use Rattle.lr_graph.proofs.Events.FrontSteps.{front-shared, says-only}
use Rattle.lr_graph.proofs.Handled.{alone}
use Rattle.lr_graph.proofs.Related.Relation.{IsIssued, IsOpen, IsOwnCall, IsOwnName, IsSame, IsShared, IsWay, SameCall, SameCarried, SameFront, SameOption, calls_in, same_ack, same_query, same_update}
use Rattle.lr_graph.proofs.Replicas.Posting.{message-sent, posting}
use Rattle.lr_graph.proofs.Replicas.Stepping.{put-same}

module _ {Value Op : Type 0} (m : Meaning Value Op) (config : Config) where
  module _ (w : Facts Op) (v : RunState Value Op) (same : IsSame m config w v) (client replica reading : ℕ) (here : client < config.clients) (other : replica < config.replicas)
      (front : FrontState Op) (there : slice_get v.fronts client ≡ Some front) (is : SameFront w.accepted client (w.front client) front) where
    abbrev facts : FrontFacts Op
    facts = w.front client

    -- the facts and the run after the reading
    abbrev w1 : Facts Op
    w1 = front_put w client (clock_read reading facts)

    abbrev now : FrontState Op
    now = rules_read reading front

    abbrev v1 : RunState Value Op
    v1 = with_front v client now

    clock_is : max facts.clock reading ≡ max front.clock reading
    clock_is = ap (λ n. max n reading) is.clock

    calls_stay : (j : ℕ) → calls_in w j ≤ calls_in w1 j
    calls_stay j = by_place (j == client) refl
      where
        by_place : (t : Bool) → (j == client) ≡ t → calls_in w j ≤ (cond t (clock_read reading facts) (w.front j)).calls
        by_place true q = subst (λ (k : ℕ). calls_in w k ≤ facts.calls) (sym (eqb-true j client q)) (omega arith)
        by_place false q = omega arith

    still : (o : Option (LabelledCall Op)) → IsOpen config.clients same.issued (calls_in w) o → IsOpen config.clients same.issued (calls_in w1) o
    still None h = tt
    still (Some c) h = record { is = h.is; number = (let g = calls_stay c.cid.client in let n = h.number in omega arith); client = h.client }

    -- a reading counts on both sides
    shared_read : IsShared m config same.issued w1 (set v.fronts client now) v.posted
    shared_read = front-shared m config w v same client here front there same.issued (clock_read reading facts) now
        (record { client_is = is.client_is; calls = is.calls; clock = clock_is; open_call = is.open_call; own_call = is.own_call; answered = is.answered; own_answered = is.own_answered; names = is.names; set = is.set })
        (omega arith) (λ c h. refl) (still facts.open_call (same.shared.opened client))

    same_read : IsSame m config w1 v1
    same_read = record { issued = same.issued; shared = shared_read; replicas = same.replicas }

    -- the step of a front end that does this after the reading
    abbrev pub Does : List Outcome → List (Act Op) → Type 0
    Does lines acts =
        ((acted v1 (Client client) acts).outcomes ≡ lines ++ [])
        × IsSame m config (lines_read m config (alone (Some (Client client))) w1 (lines ++ [])) (acted v1 (Client client) acts).run

    -- a message goes out
    sends : (what : Carried Op) (sent : Sent) (message : Message Op) → IsWay (Client client) (Replica replica) what → carried w1 (Client client) sent ≡ what → sent ≡ sent_of_message message
        → SameCarried m config w.accepted w.acks (w.received replica) same.issued (calls_in w1) what message
        → Does (SendLine (next_number w) (Client client) (Replica replica) sent ∷ []) (Send (Replica replica) message ∷ [])
    sends what sent message way reads says carries = (
      (λ k. SendLine (sym next_is k) (Client client) (Replica replica) (sym says k) ∷ []),
      record {
        issued = same.issued;
        shared = message-sent m config same.issued w1 (set v.fronts client now) v.posted shared_read
            (record { number = next_number w; from = Client client; to = Replica replica; what = carried w1 (Client client) sent }) (posting (Client client) (Replica replica) message) next_is
            (record { from = refl; to = refl; way = subst (λ (c : Carried Op). IsWay (Client client) (Replica replica) c) (sym reads) way; there = other; what = subst (λ (c : Carried Op). SameCarried m config w.accepted w.acks (w.received replica) same.issued (calls_in w1) c message) (sym reads) carries }) tt;
        replicas = same.replicas;
      },
    )
      where
        next_is : next_number w ≡ length v.posted + 1
        next_is = let n = same.shared.count in omega arith

    -- ---- the open call is sent again

    module _ (c : LabelledCall Op) (d : Call Op) (at : facts.open_call ≡ Some c) (call : SameCall w.accepted c d) where
      own : c.cid.client ≡ client
      own = subst (IsOwnCall client) at is.own_call

      by : IsIssued config.clients same.issued (calls_in w1) c
      by = still (Some c) (subst (IsOpen config.clients same.issued (calls_in w)) at (same.shared.opened client))

      reads_copy : (copy : LabelledCall Op → Carried Op) → copy_of (w1.front c.cid.client).open_call copy ≡ copy c
      reads_copy copy =
          ap (λ (j : ℕ). copy_of (w1.front j).open_call copy) own
          ∙ ap (λ (f : FrontFacts Op). copy_of f.open_call copy) (put-same client (clock_read reading facts) w.front)
          ∙ ap (λ (o : Option (LabelledCall Op)). copy_of o copy) at

      message_is : (k : Kind) → message_of k now.clock d ≡ cond (is_query k) (Query d) (Update d now.clock)
      message_is AQuery = refl
      message_is Causal = refl
      message_is Forced = refl
      message_is Immediate = refl

      by_query : (b : Bool) → is_query (m.kind c.op) ≡ b
          → Does (SendLine (next_number w) (Client client) (Replica replica) (cond b (QuerySent c.cid) (UpdateSent c.cid (max facts.clock reading))) ∷ []) (Send (Replica replica) (cond b (Query d) (Update d now.clock)) ∷ [])
      by_query true q = sends (QueryCopy c) (QuerySent c.cid) (Query d) tt (reads_copy QueryCopy) (ap QuerySent call.cid) (same_query c d call by)
      by_query false q = sends (UpdateCopy c (max facts.clock reading)) (UpdateSent c.cid (max facts.clock reading)) (Update d now.clock) tt (reads_copy (λ e. UpdateCopy e (max facts.clock reading)))
          (λ k. UpdateSent (call.cid k) (clock_is k)) (same_update c d (max facts.clock reading) now.clock call clock_is by q)

      copied : Does (copy_line m w client replica (max facts.clock reading) c ∷ []) (Send (Replica replica) (message_of (m.kind d.op) now.clock d) ∷ [])
      copied =
          subst (λ (message : Message Op). Does (copy_line m w client replica (max facts.clock reading) c ∷ []) (Send (Replica replica) message ∷ []))
          (sym (message_is (m.kind d.op) ∙ ap (λ b. cond b (Query d) (Update d now.clock)) (ap (λ op. is_query (m.kind op)) (sym call.op)))) (by_query (is_query (m.kind c.op)) refl)

    resent : (o : Option (LabelledCall Op)) (p : Option (Call Op)) → facts.open_call ≡ o → SameOption (SameCall w.accepted) o p
        → Does (resend_lines m w client replica (max facts.clock reading) o) (resend_acts m.kind (Replica replica) now p)
    resent None None at e = ((λ k. Refuse Idle ∷ []), says-only m config w1 v1 same_read)
    resent None (Some d) at e = absurd e
    resent (Some c) None at e = absurd e
    resent (Some c) (Some d) at e = copied c d at e

    pub resend-same : Does (resend_lines m w client replica (max facts.clock reading) facts.open_call) (resend_acts m.kind (Replica replica) now front.open_call)
    resend-same = resent facts.open_call front.open_call refl is.open_call

    -- ---- the last answered update is acknowledged

    acknowledged : (o p : Option Cid) → o ≡ p → IsOwnName client o
        → Does (acknowledge_lines w client replica (max facts.clock reading) o) (ack_acts (Replica replica) now p)
    acknowledged None None e mine = ((λ k. Refuse Nothing ∷ []), says-only m config w1 v1 same_read)
    acknowledged None (Some q) e mine = absurd (none_some e)
      where
        none_some : ◌≡◌ {A = Option Cid} None (Some q) → ⊥
        none_some e = cc
    acknowledged (Some c) None e mine = absurd (some_none e)
      where
        some_none : Some c ≡ None → ⊥
        some_none e = cc
    acknowledged (Some c) (Some d) e mine =
        let cids : c ≡ d = cc in
        sends (AckCopy c (max facts.clock reading)) (AckSent c (max facts.clock reading)) (Ack d now.clock) tt refl (λ k. AckSent (cids k) (clock_is k))
        (same_ack c d (max facts.clock reading) now.clock cids clock_is (subst (λ j. j < config.clients) (sym mine) here))

    pub acknowledge-same : Does (acknowledge_lines w client replica (max facts.clock reading) facts.answered) (ack_acts (Replica replica) now front.answered)
    acknowledge-same = acknowledged facts.answered front.answered is.answered is.own_answered
