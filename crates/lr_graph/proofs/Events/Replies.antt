-- A reply that comes to a front end is taken in the graph as by the rules.
use Rattle.std.proofs.Common.{◌≡◌, ◌==◌, ℕ, ◌<◌, ◌≤◌, Bool, true, false, cond, ◌⊎◌, inl, inr, List, [], ◌∷◌, ◌++◌, set, Option, Some, None, refl, sym, ap, ◌∙◌, subst, arith, eqb-true, true≢false}
use Rattle.std.specs.List.{slice_get}
use Rattle.lr_base.specs.Ascending.{same_cid}
use Rattle.lr_base.specs.Fronts.{FrontState, after_message, is_open, message_acts, reply_acts}
use Rattle.lr_base.specs.Meaning.{Meaning}
use Rattle.lr_base.specs.Orders.{IsAmong}
use Rattle.lr_base.specs.Stamps.{join}
use Rattle.lr_base.specs.declared.acts.Act.{Act}
use Rattle.lr_base.specs.declared.events.Outcome.{Outcome}
use Rattle.lr_base.specs.declared.events.Outcome.TheVariants.{Got, Stale}
use Rattle.lr_base.specs.declared.messages.Call.{Call}
use Rattle.lr_base.specs.declared.messages.Message.{Message}
use Rattle.lr_base.specs.declared.names.Actor.{Actor}
use Rattle.lr_base.specs.declared.names.Actor.TheVariants.{Client, Replica}
use Rattle.lr_base.specs.declared.names.Cid.{Cid}
use Rattle.lr_base.specs.declared.names.Config.{Config}
use Rattle.lr_graph.specs.After.{lines_read, replied, takes_reply}
use Rattle.lr_graph.specs.Graph.{Acceptance, AnswerReply, Carried, DoneReply, Facts, FrontFacts, LabelledCall}
use Rattle.lr_graph.specs.Legal.{message_lines, reply_line}
use Rattle.lr_graph.specs.Runs.{RunState, acted, with_front}
use Rattle.lr_graph.specs.Sets.{SpotSet, nothing, put_at, ◌∪◌}
use Rattle.lr_graph.specs.Closed.{IsAccepted, IsSetOf, IsWithin}
use Rattle.lr_graph.specs.Names.{Names}
use Rattle.lr_graph.proofs.Events.FrontSteps.{front-changed, says-only}
use Rattle.lr_graph.proofs.Lists.Members.{each-at, each-from, each-map}
use Rattle.lr_graph.proofs.Sets.ReadySets.{names-join}
use Rattle.lr_graph.proofs.Related.Relation.{IsOpen, IsOwnCall, IsOwnName, IsSame, IsWay, SameCall, SameCarried, SameFront, SameOption, calls_in, same_ack, same_answer, same_done, same_gossip, same_query, same_update}
use Rattle.lr_graph.proofs.Lists.Tests.{same_cid-is, or-cases, or-left, or-right}
use Rattle.lr_graph.proofs.Handled.{came_in}

-- two sets of acceptances make one
pub set-both : {Op : Type 0} (l : List (Acceptance Op)) (x y : SpotSet) → IsSetOf l x → IsSetOf l y → IsSetOf l (x ∪ y)
set-both l x y f g = record {
  exist = λ s e. by_part s (or-cases (x s) _ e);
  closed = each-from _ l (λ a member e. below a member (or-cases (x a.spot) _ e));
}
  where
    by_part : (s : _) → (x s ≡ true) ⊎ (y s ≡ true) → IsAccepted l s
    by_part s (inl e) = f.exist s e
    by_part s (inr e) = g.exist s e

    below : (a : _) → IsAmong a l → (x a.spot ≡ true) ⊎ (y a.spot ≡ true) → IsWithin l a.below (x ∪ y)
    below a member (inl e) = each-map _ _ l (λ b k h. or-left (x b.spot) _ (k h)) (each-at _ a l f.closed member e)
    below a member (inr e) = each-map _ _ l (λ b k h. or-right (x b.spot) _ (k h)) (each-at _ a l g.closed member e)

module _ {Value Op : Type 0} (m : Meaning Value Op) (config : Config) where
  module _ (w : Facts Op) (v : RunState Value Op) (same : IsSame m config w v) (client : ℕ) (here : client < config.clients) (front : FrontState Op) (there : slice_get v.fronts client ≡ Some front) (is : SameFront w.accepted client (w.front client) front) where
    same_again : IsSame m config (record w { front = put_at client (w.front client) w.front }) (with_front v client front)
    same_again = front-changed m config w v same client here front there same.issued (w.front client) front is (omega arith) (λ c h. refl) (same_open (w.front client).open_call (same.shared.opened client))
      where
        same_open : (o : Option (LabelledCall Op)) → IsOpen config.clients same.issued (calls_in w) o → IsOpen config.clients same.issued (λ j. (put_at client (w.front client) w.front j).calls) o
        same_open None h = tt
        same_open (Some c) h = record { is = h.is; number = number; client = h.client }
          where
            number : c.cid.seq ≤ (put_at client (w.front client) w.front c.cid.client).calls
            number = by_place (c.cid.client == client) refl
              where
                by_place : (t : Bool) → (c.cid.client == client) ≡ t → c.cid.seq ≤ (cond t (w.front client) (w.front c.cid.client)).calls
                by_place true e = subst (λ (k : ℕ). c.cid.seq ≤ (w.front k).calls) (eqb-true c.cid.client client e) h.number
                by_place false e = h.number

    -- putting back what was there changes nothing
    put_back : put_at client (w.front client) w.front ≡ w.front
    put_back = λ k j. at j k
      where
        at : (j : ℕ) → put_at client (w.front client) w.front j ≡ w.front j
        at j = by_place (j == client) refl
          where
            by_place : (t : Bool) → (j == client) ≡ t → cond t (w.front client) (w.front j) ≡ w.front j
            by_place true e = ap w.front (sym (eqb-true j client e))
            by_place false e = refl

    unchanged_front : IsSame m config w (with_front v client front)
    unchanged_front = subst (λ (fs : ℕ → FrontFacts Op). IsSame m config (record w { front = fs }) (with_front v client front)) put_back same_again

    -- the reply to the open call is taken
    taken_front : (names : SpotSet) (stamp : List ℕ) (answered other : Option Cid) → answered ≡ other → IsOwnName client answered → Names stamp names → IsSetOf w.accepted names
        → IsSame m config (takes_reply w client names answered) (with_front v client (record front { label = join front.label stamp; open_call = None; answered = other }))
    taken_front names stamp answered other alike mine named set = front-changed m config w v same client here front there same.issued
        (replied names answered (w.front client)) (record front { label = join front.label stamp; open_call = None; answered = other })
        (record { client_is = is.client_is; calls = is.calls; clock = is.clock; open_call = tt; own_call = tt; answered = alike; own_answered = mine; names = names-join front.label stamp (w.front client).label names is.names named; set = set-both w.accepted (w.front client).label names is.set set })
        (omega arith) (λ c h. refl) tt

    -- the step of a front end that goes on as this and does this
    abbrev pub Given : Carried Op → FrontState Op → List (Act Op) → List Outcome → Type 0
    Given what next acts lines =
        ((acted (with_front v client next) (Client client) acts).outcomes ≡ lines)
        × ((number : ℕ) (from : Actor) → IsSame m config (lines_read m config (came_in (Some (record { number = number; from = from; to = Client client; what = what }))) w lines) (acted (with_front v client next) (Client client) acts).run)

    -- the front end after a reply, which is taken or not
    abbrev by_reply : List ℕ → Option Cid → Bool → FrontState Op
    by_reply stamp answered opened = cond opened (record front { label = join front.label stamp; open_call = None; answered = answered }) front

    -- a reply to another call changes nothing
    not_taken : (number : ℕ) (from : Actor) → IsSame m config w (with_front (record v { posted = v.posted ++ [] }) client front)
    not_taken number from = says-only m config w (with_front v client front) unchanged_front

    reply : (what : Carried Op) (names : SpotSet) (cid other : Cid) (stamp : List ℕ) (answered by_rules : Option Cid) → cid ≡ other → answered ≡ by_rules → ((c : LabelledCall Op) → (w.front client).open_call ≡ Some c → c.cid ≡ cid → IsOwnName client answered) → Names stamp names → IsSetOf w.accepted names
        → ((number : ℕ) (from : Actor) → lines_read m config (came_in (Some (record { number = number; from = from; to = Client client; what = what }))) w (Got cid ∷ []) ≡ takes_reply w client names answered)
        → (o : Option (LabelledCall Op)) (p : Option (Call Op)) → (w.front client).open_call ≡ o → SameOption (SameCall w.accepted) o p
        → Given what (by_reply stamp by_rules (is_open p other)) (reply_acts other (is_open p other)) (reply_line o cid ∷ [])
    reply what names cid other stamp answered by_rules same_cids alike mine named set reads None None at e = (λ k. Stale (sym same_cids k) ∷ [], not_taken)
    reply what names cid other stamp answered by_rules same_cids alike mine named set reads None (Some d) at e = absurd e
    reply what names cid other stamp answered by_rules same_cids alike mine named set reads (Some c) None at e = absurd e
    reply what names cid other stamp answered by_rules same_cids alike mine named set reads (Some c) (Some d) at e =
        by_test (same_cid c.cid cid) (same_cid d.cid other) (λ k. same_cid (e.cid k) (same_cids k)) refl
      where
        by_test : (s t : Bool) → s ≡ t → same_cid c.cid cid ≡ s → Given what (by_reply stamp by_rules t) (reply_acts other t) (cond s (Got cid) (Stale cid) ∷ [])
        by_test true true q test = (
          λ k. Got (sym same_cids k) ∷ [],
          λ number from. subst (λ (facts : Facts Op). IsSame m config facts (record (with_front v client (by_reply stamp by_rules true)) { posted = v.posted ++ [] })) (sym (reads number from))
              (says-only m config (takes_reply w client names answered) (with_front v client (by_reply stamp by_rules true)) (taken_front names stamp answered by_rules alike (mine c at (same_cid-is c.cid cid test)) named set)),
        )
        by_test false false q test = (λ k. Stale (sym same_cids k) ∷ [], not_taken)
        by_test true false q test = absurd (true≢false q)
        by_test false true q test = absurd (true≢false (sym q))

    pub front-given : (from : Actor) (what : Carried Op) (message : Message Op) → IsWay from (Client client) what → SameCarried m config w.accepted w.acks nothing same.issued (calls_in w) what message
        → Given what (after_message message front) (message_acts message front) (message_lines m config w (Client client) what)
    front-given from what message way (same_done cid other names spot stamp cids named set done) =
        reply (DoneReply cid names) names cid other stamp (Some cid) (Some other) cids (ap Some cids) (λ c at same. sym (ap (λ (k : Cid). k.client) same) ∙ subst (IsOwnCall client) at is.own_call) named set (λ number from. refl) (w.front client).open_call front.open_call refl is.open_call
    front-given from what message way (same_answer cid other names text stamp cids named set) =
        reply (AnswerReply cid names) names cid other stamp (w.front client).answered front.answered cids is.answered (λ c at same. is.own_answered) named set (λ number from. refl) (w.front client).open_call front.open_call refl is.open_call
    front-given (Client f) what message way (same_update c d t time call times by update) = absurd way
    front-given (Replica k) what message way (same_update c d t time call times by update) = absurd way
    front-given (Client f) what message way (same_query c d call by) = absurd way
    front-given (Replica k) what message way (same_query c d call by) = absurd way
    front-given (Client f) what message way (same_ack cid other t time cids times there) = absurd way
    front-given (Replica k) what message way (same_ack cid other t time cids times there) = absurd way
    front-given (Client f) what message way (same_gossip names g h) = absurd way
    front-given (Replica k) what message way (same_gossip names g h) = absurd way
