-- A call that a front end makes or refuses is the same in the graph and by the rules.
use Rattle.std.proofs.Common.{◌≡◌, ◌==◌, ℕ, suc, ◌+◌, ◌<◌, ◌≤◌, max, Bool, true, false, cond, [], ◌∷◌, ◌++◌, length, set, Option, Some, None, refl, sym, ap, ◌∙◌, subst, subst₂, arith, eqb-true, true≢false}
use Rattle.std.specs.List.{slice_get}
use Rattle.lr_base.specs.Ascending.{same_cid}
use Rattle.lr_base.specs.Fronts.{FrontState, after_call, call_acts, call_of as by_rules_call, clock_read, message_of}
use Rattle.lr_base.specs.Kinds.{is_query}
use Rattle.lr_base.specs.Meaning.{Meaning}
use Rattle.lr_base.specs.declared.acts.Act.TheVariants.{Send}
use Rattle.lr_base.specs.declared.events.Outcome.{Outcome}
use Rattle.lr_base.specs.declared.events.Outcome.TheVariants.{Refuse, Send as SendLine}
use Rattle.lr_base.specs.declared.events.Refusal.TheVariants.{Unfinished, Worn}
use Rattle.lr_base.specs.declared.events.Sent.{Sent}
use Rattle.lr_base.specs.declared.events.Sent.TheVariants.{Query as QuerySent, Update as UpdateSent}
use Rattle.lr_base.specs.declared.lr_service.Kind.{Kind}
use Rattle.lr_base.specs.declared.lr_service.Kind.TheVariants.{Causal, Forced, Immediate, Query as AQuery}
use Rattle.lr_base.specs.declared.messages.Call.{Call}
use Rattle.lr_base.specs.declared.messages.Message.{Message}
use Rattle.lr_base.specs.declared.messages.Message.TheVariants.{Query, Update}
use Rattle.lr_base.specs.declared.names.Actor.TheVariants.{Client, Replica}
use Rattle.lr_base.specs.declared.names.Cid.{Cid}
use Rattle.lr_base.specs.declared.names.Config.{Config}
use Rattle.lr_graph.specs.After.{call_read, carried, copy_of, lines_read, next_call}
use Rattle.lr_graph.specs.Graph.{Carried, Facts, FrontFacts, LabelledCall, QueryCopy, UpdateCopy}
use Rattle.lr_graph.specs.Legal.{call_lines, next_number}
use Rattle.lr_graph.specs.Runs.{RunState, Stepped, act_lines, acted, sent_of_message, with_front}
use Rattle.lr_graph.specs.Sets.{put_at}
use Rattle.lr_graph.proofs.Events.FrontSteps.{front-changed, front-shared, says-only}
use Rattle.lr_graph.proofs.Replicas.Posting.{message-sent, posting}
use Rattle.lr_graph.proofs.Related.Relation.{IsIssued, IsOpen, IsSame, IsShared, IsWay, SameCall, SameCarried, SameFront, SameOption, calls_in, same_query, same_update}
use Rattle.lr_graph.proofs.Replicas.Stepping.{put-same}
use Rattle.lr_graph.proofs.Lists.Tests.{same_cid-is, same_cid-self}
use Rattle.lr_graph.proofs.Handled.{alone}

module _ {Value Op : Type 0} (m : Meaning Value Op) (config : Config) where
  module _ (w : Facts Op) (v : RunState Value Op) (same : IsSame m config w v) (client replica reading : ℕ) (op : Op) (here : client < config.clients) (other : replica < config.replicas)
      (front : FrontState Op) (there : slice_get v.fronts client ≡ Some front) (is : SameFront w.accepted client (w.front client) front) where
    abbrev facts : FrontFacts Op
    facts = w.front client

    clock_is : max facts.clock reading ≡ max front.clock reading
    clock_is = ap (λ n. max n reading) is.clock

    -- the step of a call whose front end is at this
    abbrev pub Calls : Option (LabelledCall Op) → Bool → Stepped Value Op → Type 0
    Calls o worn s =
        (s.outcomes ≡ call_lines m w client replica (max facts.clock reading) op o worn ++ [])
        × IsSame m config (lines_read m config (alone (Some (Client client))) (record w { front = put_at client (call_read client reading op facts o worn) w.front }) (call_lines m w client replica (max facts.clock reading) op o worn ++ [])) s.run

    -- a refused call's reading counts
    refused : (o : Option (LabelledCall Op)) → facts.open_call ≡ o
        → IsSame m config (record w { front = put_at client (record facts { clock = max facts.clock reading }) w.front }) (with_front (record v { posted = v.posted ++ [] }) client (clock_read reading front))
    refused o e = says-only m config (record w { front = put_at client (record facts { clock = max facts.clock reading }) w.front }) (with_front v client (clock_read reading front)) (front-changed m config w v same client here front there same.issued (record facts { clock = max facts.clock reading }) (clock_read reading front)
        (record { client_is = is.client_is; calls = is.calls; clock = clock_is; open_call = is.open_call; own_call = is.own_call; answered = is.answered; own_answered = is.own_answered; names = is.names; set = is.set })
        (omega arith) (λ c h. refl) (still facts.open_call (same.shared.opened client)))
      where
        calls_stay : (j : ℕ) → calls_in w j ≤ (put_at client (record facts { clock = max facts.clock reading }) w.front j).calls
        calls_stay j = by_place (j == client) refl
          where
            by_place : (t : Bool) → (j == client) ≡ t → calls_in w j ≤ (cond t (record facts { clock = max facts.clock reading }) (w.front j)).calls
            by_place true q = subst (λ (k : ℕ). calls_in w k ≤ facts.calls) (sym (eqb-true j client q)) (omega arith)
            by_place false q = omega arith

        still : (o : Option (LabelledCall Op)) → IsOpen config.clients same.issued (calls_in w) o
            → IsOpen config.clients same.issued (λ j. (put_at client (record facts { clock = max facts.clock reading }) w.front j).calls) o
        still None h = tt
        still (Some c) h = record { is = h.is; number = (let g = calls_stay c.cid.client in let n = h.number in omega arith); client = h.client }

    -- the new call
    abbrev call : LabelledCall Op
    call = next_call client facts op

    abbrev by_rules : Call Op
    by_rules = by_rules_call front op

    cid_is : call.cid ≡ by_rules.cid
    cid_is = λ k. record { client = sym is.client_is k; seq = number k }
      where
        number : suc facts.calls ≡ front.calls + 1
        number = let n = is.calls in omega arith

    same_call : SameCall w.accepted call by_rules
    same_call = record { cid = cid_is; op = refl; names = is.names; set = is.set }

    -- the front end by the rules after the reading, and after the call
    abbrev now : FrontState Op
    now = clock_read reading front

    abbrev opened_by_rules : FrontState Op
    opened_by_rules = after_call op now None false

    -- the step of a front end that has this call open or none
    abbrev by_call : Option (Call Op) → Bool → Stepped Value Op
    by_call o worn = acted (with_front v client (after_call op now o worn)) (Client client) (call_acts (m.kind op) (Replica replica) op now o worn)

    abbrev more : Cid → Option (LabelledCall Op)
    more c = cond (same_cid c call.cid) (Some call) (same.issued c)

    agree : (c : Cid) → c.seq ≤ calls_in w c.client → more c ≡ same.issued c
    agree c le = by_test (same_cid c call.cid) refl
      where
        by_test : (t : Bool) → same_cid c call.cid ≡ t → cond t (Some call) (same.issued c) ≡ same.issued c
        by_test false e = refl
        by_test true e =
            let is_new : c ≡ call.cid = same_cid-is c call.cid e in
            let seq : c.seq ≡ suc facts.calls = ap (λ (k : Cid). k.seq) is_new in
            let calls : calls_in w c.client ≡ facts.calls = ap (λ (k : Cid). calls_in w k.client) is_new in
            absurd (omega arith)

    abbrev opened_front : FrontFacts Op
    opened_front = record facts { clock = max facts.clock reading; calls = suc facts.calls; open_call = Some call }

    abbrev w1 : Facts Op
    w1 = record w { front = put_at client opened_front w.front }

    is_issued : IsIssued config.clients more (calls_in w1) call
    is_issued = record {
      is = ap (λ t. cond t (Some call) (same.issued call.cid)) (same_cid-self call.cid);
      number = subst (λ (f : FrontFacts Op). suc facts.calls ≤ f.calls) (sym (put-same client opened_front w.front)) (omega arith);
      client = here;
    }

    opened : IsShared m config more w1 (set v.fronts client opened_by_rules) v.posted
    opened = front-shared m config w v same client here front there more opened_front opened_by_rules
        (record { client_is = is.client_is; calls = (let n = is.calls in omega arith); clock = clock_is; open_call = same_call; own_call = refl; answered = is.answered; own_answered = is.own_answered; names = is.names; set = is.set })
        (omega arith) agree is_issued

    -- its message goes out
    sends : (what : Carried Op) (sent : Sent) (message : Message Op) → IsWay (Client client) (Replica replica) what → carried w1 (Client client) sent ≡ what → sent ≡ sent_of_message message
        → SameCarried m config w.accepted w.acks (w.received replica) more (calls_in w1) what message
        → (act_lines (length v.posted) (Client client) (Send (Replica replica) message ∷ []) ≡ SendLine (next_number w) (Client client) (Replica replica) sent ∷ [])
        × IsSame m config (lines_read m config (alone (Some (Client client))) w1 (SendLine (next_number w) (Client client) (Replica replica) sent ∷ [])) (record (with_front v client opened_by_rules) { posted = v.posted ++ posting (Client client) (Replica replica) message ∷ [] })
    sends what sent message way reads says carries = (
      (λ k. SendLine (sym next_is k) (Client client) (Replica replica) (sym says k) ∷ []),
      record {
        issued = more;
        shared = message-sent m config more w1 (set v.fronts client opened_by_rules) v.posted opened
            (record { number = next_number w; from = Client client; to = Replica replica; what = carried w1 (Client client) sent }) (posting (Client client) (Replica replica) message) next_is
            (record { from = refl; to = refl; way = subst (λ (c : Carried Op). IsWay (Client client) (Replica replica) c) (sym reads) way; there = other; what = subst (λ (c : Carried Op). SameCarried m config w.accepted w.acks (w.received replica) more (calls_in w1) c message) (sym reads) carries }) tt;
        replicas = same.replicas;
      },
    )
      where
        next_is : next_number w ≡ length v.posted + 1
        next_is = let n = same.shared.count in omega arith

    reads_copy : (copy : LabelledCall Op → Carried Op) → copy_of (w1.front client).open_call copy ≡ copy call
    reads_copy copy = ap (λ (f : FrontFacts Op). copy_of f.open_call copy) (put-same client opened_front w.front)

    made : (kind : Kind) → m.kind op ≡ kind → Calls None false (by_call None false)
    made kind e = by_query (is_query (m.kind op)) refl (message_is (m.kind op))
      where
        message_is : (k : Kind) → message_of k now.clock by_rules ≡ cond (is_query k) (Query by_rules) (Update by_rules (max front.clock reading))
        message_is AQuery = refl
        message_is Causal = refl
        message_is Forced = refl
        message_is Immediate = refl

        abbrev_line : Bool → Outcome
        abbrev_line b = SendLine (next_number w) (Client client) (Replica replica) (cond b (QuerySent call.cid) (UpdateSent call.cid (max facts.clock reading)))

        by_query : (b : Bool) → is_query (m.kind op) ≡ b → message_of (m.kind op) now.clock by_rules ≡ cond (is_query (m.kind op)) (Query by_rules) (Update by_rules (max front.clock reading))
            → Calls None false (by_call None false)
        by_query true q p =
            let out = sends (QueryCopy call) (QuerySent call.cid) (Query by_rules) tt (reads_copy QueryCopy) (ap QuerySent cid_is) (same_query call by_rules same_call is_issued) in
            subst₂ (λ (b : Bool) (message : Message Op).
            (act_lines (length v.posted) (Client client) (Send (Replica replica) message ∷ []) ≡ SendLine (next_number w) (Client client) (Replica replica) (cond b (QuerySent call.cid) (UpdateSent call.cid (max facts.clock reading))) ∷ [])
            × IsSame m config (lines_read m config (alone (Some (Client client))) w1 (SendLine (next_number w) (Client client) (Replica replica) (cond b (QuerySent call.cid) (UpdateSent call.cid (max facts.clock reading))) ∷ [])) (record (with_front v client opened_by_rules) { posted = v.posted ++ posting (Client client) (Replica replica) message ∷ [] }))
            (sym q) (sym (p ∙ ap (λ b. cond b (Query by_rules) (Update by_rules (max front.clock reading))) q)) out
        by_query false q p =
            let out = sends (UpdateCopy call (max facts.clock reading)) (UpdateSent call.cid (max facts.clock reading)) (Update by_rules (max front.clock reading)) tt
            (reads_copy (λ c. UpdateCopy c (max facts.clock reading))) (λ k. UpdateSent (cid_is k) (clock_is k)) (same_update call by_rules (max facts.clock reading) (max front.clock reading) same_call clock_is is_issued q) in
            subst₂ (λ (b : Bool) (message : Message Op).
            (act_lines (length v.posted) (Client client) (Send (Replica replica) message ∷ []) ≡ SendLine (next_number w) (Client client) (Replica replica) (cond b (QuerySent call.cid) (UpdateSent call.cid (max facts.clock reading))) ∷ [])
            × IsSame m config (lines_read m config (alone (Some (Client client))) w1 (SendLine (next_number w) (Client client) (Replica replica) (cond b (QuerySent call.cid) (UpdateSent call.cid (max facts.clock reading))) ∷ [])) (record (with_front v client opened_by_rules) { posted = v.posted ++ posting (Client client) (Replica replica) message ∷ [] }))
            (sym q) (sym (p ∙ ap (λ b. cond b (Query by_rules) (Update by_rules (max front.clock reading))) q)) out

    pub calls-same : (o : Option (LabelledCall Op)) (p : Option (Call Op)) → facts.open_call ≡ o → SameOption (SameCall w.accepted) o p → (s t : Bool) → s ≡ t → Calls o s (by_call p t)
    calls-same None None e f true true q = ((λ k. Refuse Worn ∷ []), refused None e)
    calls-same None None e f false false q = made (m.kind op) refl
    calls-same None None e f true false q = absurd (true≢false q)
    calls-same None None e f false true q = absurd (true≢false (sym q))
    calls-same None (Some d) e f s t q = absurd f
    calls-same (Some c) None e f s t q = absurd f
    calls-same (Some c) (Some d) e f s t q = ((λ k. Refuse (Unfinished (sym f.cid k)) ∷ []), refused (Some c) e)
