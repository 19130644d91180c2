-- What clients read and write later has what they were told.
use Rattle.std.proofs.Common.{◌≡◌, ℕ, suc, ◌<◌, Bool, true, false, cond, inl, inr, List, [], ◌∷◌, ◌++◌}
use Rattle.std.proofs.Common.{Option, Some, None, refl, sym, ap, ◌∙◌, subst, arith}
use Rattle.lr_base.specs.Kinds.{is_query}
use Rattle.lr_base.specs.Meaning.{Encoding, Lawful, Meaning}
use Rattle.lr_base.specs.Orders.{IsAmong}
use Rattle.lr_base.specs.declared.events.Outcome.TheVariants.{Send, Refuse}
use Rattle.lr_base.specs.declared.events.Refusal.{Refusal}
use Rattle.lr_base.specs.declared.events.Sent.TheVariants.{Query, Update}
use Rattle.lr_base.specs.declared.events.Step.{Step}
use Rattle.lr_base.specs.declared.lr_service.Kind.{Kind}
use Rattle.lr_base.specs.declared.names.Actor.{Actor}
use Rattle.lr_base.specs.declared.names.Actor.TheVariants.{Client, Replica}
use Rattle.lr_base.specs.declared.names.Cid.{Cid}
use Rattle.lr_base.specs.declared.names.Config.{Config}
use Rattle.lr_graph.specs.After.{after}
use Rattle.lr_graph.specs.Central.{facts_after}
use Rattle.lr_graph.specs.Graph.{Acceptance, Carried, DoneReply, Facts, LabelledCall, AnswerReply, first_facts}
use Rattle.lr_graph.specs.Legal.{IsLegal, call_lines, next_number, outcomes_of}
use Rattle.lr_graph.specs.Promises.{◌⊆◌, CallsUpdate, HasDoneUpdate, Takes, facts_of}
use Rattle.lr_graph.specs.Runs.{RunState}
use Rattle.lr_graph.specs.Sets.{SpotSet}
use Rattle.lr_graph.proofs.Lists.Members.{each-at}
use Rattle.lr_graph.proofs.Promised.Changes.{IsFine, IsOpenFine}
use Rattle.lr_graph.proofs.Promised.Points.{IsPoint, any-point, facts-parts, fresh, legal-parts}
use Rattle.lr_graph.proofs.Promised.Sessions.{HasTaken, IsReply, IsTold, above, reply-taken, taken-told, told-later}
use Rattle.lr_graph.proofs.Related.Relation.{calls_in}
use Rattle.lr_graph.proofs.Sets.ReadySets.{self-below}

-- ---- the name of a call

module _ {Value Op : Type 0} (m : Meaning Value Op) where
  -- a call that is sent as an update's has its front end's next name
  call-named : (w : Facts Op) (client replica clock : ℕ) (op : Op) (o : Option (LabelledCall Op)) (worn : Bool)
      (number time : ℕ) (from to : Actor) (cid : Cid)
      → IsAmong (Send number from to (Update cid time)) (call_lines m w client replica clock op o worn ++ [])
      → cid ≡ record { client = client; seq = suc (calls_in w client) }
  call-named w client replica clock op o worn number time from to cid sent = by_case o worn sent
    where
      next : Cid
      next = record { client = client; seq = suc (calls_in w client) }

      refused : (why : Refusal) → Send number from to (Update cid time) ≡ Refuse why → ⊥
      refused why e = cc

      query : (n : ℕ) (a b : Actor) (c : Cid) → Send number from to (Update cid time) ≡ Send n a b (Query c) → ⊥
      query n a b c e = cc

      by_kind : (t : Bool) → Send number from to (Update cid time)
          ≡ Send (next_number w) (Client client) (Replica replica) (cond t (Query next) (Update next clock))
          → cid ≡ next
      by_kind true e = absurd (query _ _ _ _ e)
      by_kind false e = cc

      by_case : (o : Option (LabelledCall Op)) (worn : Bool)
          → IsAmong (Send number from to (Update cid time)) (call_lines m w client replica clock op o worn ++ [])
          → cid ≡ next
      by_case (Some call) worn (inl e) = absurd (refused _ e)
      by_case (Some call) worn (inr none) = absurd none
      by_case None true (inl e) = absurd (refused _ e)
      by_case None true (inr none) = absurd none
      by_case None false (inl e) = by_kind (is_query (m.kind op)) e
      by_case None false (inr none) = absurd none

-- ---- two steps of a history

module _ {Value Op : Type 0} (m : Meaning Value Op) {e : Encoding Value} (kind_of : Op → Kind) (lawful : Lawful m e kind_of)
    (config : Config) where
  -- in a legal history, what a step does that takes a reply
  takes-taken : (before later : List (Step Op)) (step : Step Op) → IsLegal m config (before ++ step ∷ later)
      → (client : ℕ) (cid : Cid) (names : SpotSet) (reply : Carried Op) → IsReply cid names reply
      → (takes : Takes m config before step client cid reply)
      → HasTaken m config (facts_of m config before) step client cid names takes.message
  takes-taken before later step legal client cid names reply is takes =
      let parts = legal-parts m config before (step ∷ later) first_facts legal in
      reply-taken m config (facts_of m config before) step parts.1.0.outcomes client cid cid names takes.message
      (subst (IsReply cid names) (sym takes.what) is) takes.comes takes.to takes.got

  -- a client was told this after so many calls
  record KnowsAt (client : ℕ) (names : SpotSet) (w : Facts Op) : Type 0 where
    k : ℕ
    run : RunState Value Op
    point : IsPoint m config w run
    told : IsTold client k names w

  -- behind a reply that a client took it was told what this stands for
  told-at : (before between : List (Step Op)) (one : Step Op)
      → IsLegal m config (before ++ one ∷ between) → (client : ℕ) (cid : Cid) (names : SpotSet) (reply : Carried Op)
      → IsReply cid names reply → Takes m config before one client cid reply
      → KnowsAt client names (facts_of m config (before ++ one ∷ between))
  told-at before between one legal client cid names reply is takes =
      let parts = legal-parts m config before (one ∷ between) first_facts legal in
      let w = facts_of m config before in
      let at = any-point m kind_of lawful config before parts.0 in
      let took = takes-taken before between one legal client cid names reply is takes in
      let told = taken-told m kind_of lawful config w at.0 at.1 one parts.1.0 client cid names takes.message
      (subst (IsReply cid names) (sym takes.what) is) took in
      let now = told-later m config client (calls_in (after m config w one) client) names kind_of lawful between (after m config w one)
      told.0 told.1 told.2 parts.1.1 in
      let same : facts_of m config (before ++ one ∷ between) ≡ facts_after m config (after m config w one) between =
      facts-parts m config before (one ∷ between) first_facts in
      subst (KnowsAt client names) (sym same)
      (record { k = calls_in (after m config w one) client; run = now.0; point = now.1; told = now.2 })

  -- a reply that a client took, and a later step, in a legal history
  module _ (before between later : List (Step Op)) (one other : Step Op)
      (legal : IsLegal m config (before ++ one ∷ between ++ other ∷ later))
      (client : ℕ) (first second : Cid) (names : SpotSet) (reply : Carried Op) (is : IsReply first names reply)
      (took : Takes m config before one client first reply) where
    abbrev start : List (Step Op)
    start = before ++ one ∷ between

    abbrev w : Facts Op
    w = facts_of m config start

    first_legal : IsLegal m config start
    first_legal = (legal-parts m config start (other ∷ later) first_facts legal).0

    knows : KnowsAt client names w
    knows = told-at before between one first_legal client first names reply is took

    -- a later answer was read after what the client was told
    pub told-answer : (seen : SpotSet) → Takes m config start other client second (AnswerReply second seen) → names ⊆ seen
    told-answer seen takes =
        let got = takes-taken start later other legal client second seen (AnswerReply second seen) (refl, refl) takes in
        let call = got.taken.call in
        let rule = above client knows.k names in
        let fine = subst (IsFine (rule.of (calls_in w)) w.accepted) takes.what
        (each-at _ takes.message w.messages knows.told.keeps.messages got.among) in
        let opened = subst (IsOpenFine (rule.of (calls_in w)) rule.of_open client) got.taken.opened
        (knows.told.keeps.opened client) in
        let named = got.taken.is in
        fine (ap (λ (cid : Cid). cid.client) (sym named) ∙ opened.1.0)
        (subst (λ (cid : Cid). knows.k < cid.seq) named (opened.1.1 refl))

    -- what is accepted of a later update has what the client was told below it
    pub told-update : CallsUpdate other client second → (a : Acceptance Op)
        → IsAmong a (facts_of m config (before ++ one ∷ between ++ other ∷ later)).accepted → a.cid ≡ second → names ⊆ a.below
    told-update calls a member of =
        let parts = legal-parts m config start (other ∷ later) first_facts legal in
        let last = told-later m config client knows.k names kind_of lawful (other ∷ later) w knows.run knows.point
        knows.told parts.1 in
        let named = of ∙ call-named m w client calls.replica _ calls.op _ _ calls.number calls.time _ _ second
        (subst (IsAmong _) (parts.1.0.outcomes ∙ ap (outcomes_of m config w) calls.event) calls.sent) in
        let among = subst (λ (v : Facts Op). IsAmong a v.accepted)
        (facts-parts m config start (other ∷ later) first_facts) member in
        let past = ap (λ (cid : Cid). cid.seq) named in
        let most = knows.told.calls in
        each-at _ a _ last.2.keeps.accepted among (ap (λ (cid : Cid). cid.client) named) (omega arith)

    -- the update that was done is in each set that has what the reply stands for
    pub done-there : (set : SpotSet) → reply ≡ DoneReply first names → names ⊆ set
        → HasDoneUpdate (facts_of m config before).accepted first names set
    done-there set is_done within =
        let u = facts_of m config before in
        let parts = legal-parts m config before (one ∷ between) first_facts first_legal in
        let at = any-point m kind_of lawful config before parts.0 in
        let got = takes-taken before between one first_legal client first names reply is took in
        let a = subst (IsFine (fresh.of (calls_in u)) u.accepted) (took.what ∙ is_done)
        (each-at _ took.message u.messages at.1.keeps.messages got.among) in
        let self = self-below u.accepted at.1.same.shared.sound.older a.0 a.1 in
        record {
          acceptance = a.0;
          among = a.1;
          call = a.2;
          below = a.3;
          there = within _ (ap (λ x. x a.0.spot) (sym a.3) ∙ self);
        }
