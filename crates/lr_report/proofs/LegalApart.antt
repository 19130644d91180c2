-- A legal history is told apart by its text.
use Rattle.std.proofs.Common.{◌≡◌, ℕ, nat_lt, ltb-true, true, ◌&&◌, not, ◌==◌, List, [], ◌∷◌, arith}
use Rattle.std.specs.List.{All}
use Rattle.std.proofs.lemmas.List.Elements.{All-cons, All-nil}
use Rattle.lr_base.specs.Config.{IsValid}
use Rattle.lr_base.specs.Limits.{most_clients-is, most_replicas-is}
use Rattle.lr_base.specs.Meaning.{Meaning}
use Rattle.lr_base.specs.declared.events.Event.{Event}
use Rattle.lr_base.specs.declared.events.Event.TheVariants.{Call, Resend, Ack, Deliver, Tick, Gossip as GossipEvent, Show}
use Rattle.lr_base.specs.declared.events.Step.{Step}
use Rattle.lr_base.specs.declared.names.Config.{Config}
use Rattle.lr_graph.specs.After.{after}
use Rattle.lr_graph.specs.Closed.{Each}
use Rattle.lr_graph.specs.Fitting.{EventNumberFits, NumberFits, OutcomeFits}
use Rattle.lr_graph.specs.Graph.{Facts}
use Rattle.lr_graph.specs.Legal.{LegalFrom, is_event_in}
use Rattle.lr_report.specs.Tellable.{IsTellable}
use Rattle.lr_script.specs.Script.{EventFits}
use Rattle.lr_script.specs.CutLaws.{all_head, all_tail}

module _ {Value Op : Type 0} (m : Meaning Value Op) (config : Config) (valid : IsValid config) where
  -- the number of a replica or a client that is there fits
  replica-fits : (i : ℕ) → nat_lt i config.replicas ≡ true → NumberFits i
  replica-fits i is =
      let here = ltb-true i config.replicas is in
      let most = valid.most_replicas in
      omega (arith, most_replicas-is)

  client-fits : (client : ℕ) → nat_lt client config.clients ≡ true → NumberFits client
  client-fits client is =
      let here = ltb-true client config.clients is in
      let most = valid.most_clients in
      omega (arith, most_clients-is)

  -- the numbers of a front end's event without an operation fit
  asked-fits : (client replica reading : ℕ)
      → nat_lt client config.clients && nat_lt replica config.replicas ≡ true → NumberFits reading
      → NumberFits client × NumberFits replica × NumberFits reading
  asked-fits client replica reading is brings = (
    client-fits client (all_head (nat_lt client config.clients) (nat_lt replica config.replicas) is),
    replica-fits replica (all_tail (nat_lt client config.clients) (nat_lt replica config.replicas) is),
    brings,
  )

  -- an event of a run fits, if the number does that it brings
  event-fits : (event : Event Op) → is_event_in m config event ≡ true → EventNumberFits event → EventFits m event
  event-fits (Call client replica reading op) is brings =
      let rest = all_tail (nat_lt client config.clients) (nat_lt replica config.replicas && m.is_op op) is in (
        client-fits client (all_head (nat_lt client config.clients) _ is),
        replica-fits replica (all_head (nat_lt replica config.replicas) (m.is_op op) rest),
        brings,
        all_tail (nat_lt replica config.replicas) (m.is_op op) rest,
      )
  event-fits (Resend client replica reading) is brings = asked-fits client replica reading is brings
  event-fits (Ack client replica reading) is brings = asked-fits client replica reading is brings
  event-fits (Deliver message) is brings = brings
  event-fits (Tick replica reading) is brings = (replica-fits replica is, brings)
  event-fits (GossipEvent from to) is brings =
      let rest = all_tail (nat_lt from config.replicas) (nat_lt to config.replicas && not (from == to)) is in (
        replica-fits from (all_head (nat_lt from config.replicas) _ is),
        replica-fits to (all_head (nat_lt to config.replicas) (not (from == to)) rest),
      )
  event-fits (Show replica) is brings = replica-fits replica is

  -- steps of a legal history keep to all that tells them apart, where what is printed of them fits
  pub legal-tellable : (w : Facts Op) (steps : List (Step Op)) → LegalFrom m config w steps
      → Each (λ step. EventNumberFits step.event) steps → Each (λ step. All OutcomeFits step.outcomes) steps
      → All (IsTellable m) steps
  legal-tellable w [] legal brings fit = All-nil (IsTellable m)
  legal-tellable w (step ∷ steps) legal brings fit =
      All-cons (IsTellable m) step steps (event-fits step.event legal.0.event brings.0, fit.0)
      (legal-tellable (after m config w step) steps legal.1 brings.1 fit.1)
