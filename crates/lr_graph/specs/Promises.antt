-- What clients are told in a history: the replies that they take, with the sets that these stand for.
-- What every legal history promises to its clients. The contracts of `promises` cite these. In the examples a step
-- stands behind the steps of `add_and_read` before it.
use Rattle.std.specs.Prelude.{◌≡◌, ◌≢◌, ◌<◌, ℕ, true, List, ◌∷◌, ◌++◌, Some}
use Rattle.lr_base.specs.Meaning.{Meaning}
use Rattle.lr_base.specs.Orders.{IsAmong}
use Rattle.lr_base.specs.declared.events.Event.TheVariants.{Call, Deliver, Gossip as GossipEvent}
use Rattle.lr_base.specs.declared.events.Outcome.TheVariants.{Send, Got}
use Rattle.lr_base.specs.declared.events.Sent.TheVariants.{Update, Gossip}
use Rattle.lr_base.specs.declared.events.Step.{Step}
use Rattle.lr_base.specs.declared.names.Actor.TheVariants.{Client, Replica}
use Rattle.lr_base.specs.declared.names.Cid.{Cid}
use Rattle.lr_base.specs.declared.names.Config.{Config}
use Rattle.lr_base.specs.declared.names.Spot.{Spot}
use Rattle.lr_graph.specs.After.{delivery_of}
use Rattle.lr_graph.specs.Central.{facts_after}
use Rattle.lr_graph.specs.Closed.{Each}
use Rattle.lr_graph.specs.Graph.{Acceptance, Carried, Facts, LabelledCall, SentMessage, first_facts, value}
use Rattle.lr_graph.specs.Graph.{QueryCopy, DoneReply, AnswerReply}
use Rattle.lr_graph.specs.Sets.{SpotSet}

-- the facts of a history
-- for example: `first_facts` of no step
abbrev pub facts_of : {Value Op : Type 0} → Meaning Value Op → Config → List (Step Op) → Facts Op
facts_of m config steps = facts_after m config first_facts steps

-- each spot of one set is in the other
-- for example: `only 0:1 ⊆ everything`
infix 30 ◌⊆◌
abbrev pub ◌⊆◌ : SpotSet → SpotSet → Type 0
x ⊆ y = (spot : Spot) → x spot ≡ true → y spot ≡ true

-- in the step behind a history this reply comes to a client, which takes it as the one to its call
-- for example: `deliver 2`, `got 0.1`; not `stale 0.1`
pub record Takes {Value Op : Type 0} (m : Meaning Value Op) (config : Config) (before : List (Step Op)) (step : Step Op)
    (client : ℕ) (cid : Cid) (reply : Carried Op) : Type 0 where
  pub message : SentMessage Op
  pub comes : delivery_of (facts_of m config before) step.event ≡ Some message
  pub to : message.to ≡ Client client
  pub what : message.what ≡ reply
  pub got : IsAmong (Got cid) step.outcomes

-- a client is told that its update is done: the reply stands for the acceptance and its causes
-- for example: `deliver 2` with `got 0.1`
abbrev pub TakesDone : {Value Op : Type 0} → Meaning Value Op → Config → List (Step Op) → Step Op → ℕ → Cid → SpotSet
    → Type 0
TakesDone m config before step client cid names = Takes m config before step client cid (DoneReply cid names)

-- a client is told the answer to its query: it was read after what this set names
-- for example: `deliver 4` with `got 0.2`
abbrev pub TakesAnswer : {Value Op : Type 0} → Meaning Value Op → Config → List (Step Op) → Step Op → ℕ → Cid → SpotSet
    → Type 0
TakesAnswer m config before step client cid names = Takes m config before step client cid (AnswerReply cid names)

-- the acceptance of this call that a reply with these names stands for is in the set
-- for example: that of `0.1` at `0:1`, in the set of the answer to `0.2`
pub record HasDoneUpdate {Op : Type 0} (accepted : List (Acceptance Op)) (cid : Cid)
    (names set : SpotSet) : Type 0 where
  pub acceptance : Acceptance Op
  pub among : IsAmong acceptance accepted
  pub call : acceptance.cid ≡ cid
  pub below : acceptance.below ≡ names
  pub there : set acceptance.spot ≡ true

-- the text is what the service reads after the set, for the query of this name, a copy of which was sent
-- for example: `3` of `0.2`, after `0:1`
pub record IsReadAfter {Value Op : Type 0} (m : Meaning Value Op) (w : Facts Op) (set : SpotSet) (cid : Cid)
    (text : List ℕ) : Type 0 where
  pub call : LabelledCall Op
  pub copy : SentMessage Op
  pub sent : IsAmong copy w.messages
  pub what : copy.what ≡ QueryCopy call
  pub name : call.cid ≡ cid
  pub text_is : text ≡ m.read (value m w.accepted set) call.op

-- in this step a client calls an update, and sends it
-- for example: `call 0 0 5 add x 3`
pub record CallsUpdate {Op : Type 0} (step : Step Op) (client : ℕ) (cid : Cid) : Type 0 where
  pub replica : ℕ
  pub reading : ℕ
  pub op : Op
  pub number : ℕ
  pub time : ℕ
  pub event : step.event ≡ Call client replica reading op
  pub sent : IsAmong (Send number (Client client) (Replica replica) (Update cid time)) step.outcomes

-- two replicas received the same of what was accepted
-- for example: any two before any event
abbrev pub HaveReceivedAlike : {Op : Type 0} → Facts Op → ℕ → ℕ → Type 0
HaveReceivedAlike w i j = Each (λ a. w.received i a.spot ≡ w.received j a.spot) w.accepted

-- a replica received all that was accepted
-- for example: `r0` after the addition
abbrev pub HasReceivedAll : {Op : Type 0} → Facts Op → ℕ → Type 0
HasReceivedAll w i = Each (λ a. w.received i a.spot ≡ true) w.accepted

-- within these steps a replica sent gossip to another, and this was delivered
-- for example: `gossip 0 2` with message 11, and `deliver 11`
pub record HasGossiped {Op : Type 0} (steps : List (Step Op)) (from to : ℕ) : Type 0 where
  pub first : List (Step Op)
  pub sending : Step Op
  pub between : List (Step Op)
  pub delivering : Step Op
  pub last : List (Step Op)
  pub steps_are : steps ≡ first ++ sending ∷ between ++ delivering ∷ last
  pub number : ℕ
  pub event : sending.event ≡ GossipEvent from to
  pub sent : IsAmong (Send number (Replica from) (Replica to) Gossip) sending.outcomes
  pub delivered : delivering.event ≡ Deliver number

-- within these steps each replica's gossip to each other was sent and delivered
-- for example: no step, of one replica
abbrev pub IsRound : {Op : Type 0} → Config → List (Step Op) → Type 0
IsRound config steps =
    (from to : ℕ) → from < config.replicas → to < config.replicas → from ≢ to → HasGossiped steps from to
