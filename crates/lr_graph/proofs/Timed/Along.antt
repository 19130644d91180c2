-- Times are in order after every legal history, and a call that is over stays so.
use Rattle.std.proofs.Common.{ℕ, List, [], ◌∷◌, ◌++◌, sym, subst, arith}
use Rattle.lr_base.specs.Meaning.{Meaning}
use Rattle.lr_base.specs.declared.events.Step.{Step}
use Rattle.lr_base.specs.declared.names.Cid.{Cid}
use Rattle.lr_base.specs.declared.names.Config.{Config}
use Rattle.lr_graph.specs.After.{after}
use Rattle.lr_graph.specs.Central.{facts_after}
use Rattle.lr_graph.specs.Closed.{Each}
use Rattle.lr_graph.specs.Graph.{AckCopy, Facts, first_facts}
use Rattle.lr_graph.specs.Legal.{IsLegal, LegalFrom}
use Rattle.lr_graph.specs.Promises.{facts_of}
use Rattle.lr_graph.specs.Timed.{IsOver, IsTimed, IsTimely, WasSent}
use Rattle.lr_graph.proofs.Lists.Members.{each-at, each-map}
use Rattle.lr_graph.proofs.Promised.Points.{facts-parts, legal-parts}
use Rattle.lr_graph.proofs.Timed.Keeping.{GoesOn, changes-go_on, changes-timed, first-timed}
use Rattle.lr_graph.proofs.Timed.Steps.{step-changes}

module _ {Value Op : Type 0} (m : Meaning Value Op) (config : Config) where
  -- along legal steps times stay in order, and what is over stays over
  pub legal-timed : (w : Facts Op) (steps : List (Step Op)) → LegalFrom m config w steps → IsTimed w
      → IsTimed (facts_after m config w steps) × GoesOn w (facts_after m config w steps)
  legal-timed w [] legal h = (h, record { over = λ cid last over. over; clocks = λ client. omega arith })
  legal-timed w (step ∷ steps) legal h =
      let next = after m config w step in
      let changes = step-changes m config w h step legal.0.outcomes in
      let one = changes-go_on w next changes in
      let rest = legal-timed next steps legal.1 (changes-timed w next h changes) in (
        rest.0,
        record {
          over = λ cid last over. rest.1.over cid last (one.over cid last over);
          clocks = λ client. (let a = one.clocks client in let b = rest.1.clocks client in omega arith);
        },
      )

  pub always-timed : (steps : List (Step Op)) → IsLegal m config steps → IsTimed (facts_of m config steps)
  always-timed steps legal = (legal-timed first_facts steps legal first-timed).0

  module _ (steps later : List (Step Op)) (legal : IsLegal m config (steps ++ later)) where
    abbrev now : Facts Op
    now = facts_of m config steps

    now-timed : IsTimed now
    now-timed = always-timed steps (legal-parts m config steps later first_facts legal).0

    -- what is over after a legal history is over after each that goes on with it
    over-later : (cid : Cid) (last : ℕ) → IsOver now cid last → IsOver (facts_of m config (steps ++ later)) cid last
    over-later cid last over =
        subst (λ (w : Facts Op). IsOver w cid last) (sym (facts-parts m config steps later first_facts))
        ((legal-timed now later (legal-parts m config steps later first_facts legal).1 now-timed).1.over cid last over)

    -- what an acknowledgement is of is over, from when it is noted and from when it is sent
    pub noted-over : Each (λ a. IsOver (facts_of m config (steps ++ later)) a.cid a.time) now.acks
    noted-over = each-map _ _ now.acks (λ a. over-later a.cid a.time) now-timed.noted

    pub sent-over : (cid : Cid) (time : ℕ) → WasSent now.messages (AckCopy cid time)
        → IsOver (facts_of m config (steps ++ later)) cid time
    sent-over cid time sent =
        over-later cid time (subst (IsTimely now) sent.2 (each-at _ sent.0 now.messages now-timed.sent sent.1))
