-- What stamps stand for in a run: the sets of acceptances that they name. The contract of `stamps_stand_for_sets`
-- says that `IsCentral` holds after every history that is made. In the examples `0:1` was accepted, and then `1:1`
-- with the cause `0:1`.
use Rattle.std.specs.Prelude.{◌≡◌, ◌<◌, ℕ, true, false, find, length, ◌&&◌, ◌==◌, max, if◌then◌else◌, List, [], ◌∷◌}
use Rattle.std.specs.Prelude.{Option, Some, None, is_some}
use Rattle.std.specs.List.{slice_get}
use Rattle.std.specs.Option.{option_map}
use Rattle.lr_base.specs.Calls.{AreByCall}
use Rattle.lr_base.specs.Fronts.{FrontState}
use Rattle.lr_base.specs.Meaning.{Meaning}
use Rattle.lr_base.specs.Orders.{IsAmong}
use Rattle.lr_base.specs.Replicas.{ReplicaState}
use Rattle.lr_base.specs.Rules.{stamp_of, known_of}
use Rattle.lr_base.specs.Stamps.{part, stamp_le}
use Rattle.lr_base.specs.declared.acts.Posted.{Posted}
use Rattle.lr_base.specs.declared.messages.Call.{Call}
use Rattle.lr_base.specs.declared.messages.Gossip.{Gossip as GossipRecord}
use Rattle.lr_base.specs.declared.messages.Known.{Known}
use Rattle.lr_base.specs.declared.messages.LogUpdate.{LogUpdate}
use Rattle.lr_base.specs.declared.messages.Message.{Message}
use Rattle.lr_base.specs.declared.messages.Message.TheVariants.{Update, Query, Ack, Done, Answer, Gossip}
use Rattle.lr_base.specs.declared.names.Cid.{Cid}
use Rattle.lr_base.specs.declared.names.Config.{Config}
use Rattle.lr_base.specs.declared.events.Step.{Step}
use Rattle.lr_graph.specs.After.{after, received_at}
use Rattle.lr_graph.specs.Closed.{Each, IsSetOf, IsSound, causes, IsDoneAt}
use Rattle.lr_graph.specs.Graph.{Acceptance, Carried, Facts, LabelledCall, SentMessage}
use Rattle.lr_graph.specs.Graph.{is_within, ready}
use Rattle.lr_graph.specs.Graph.{UpdateCopy, QueryCopy, AckCopy, DoneReply, AnswerReply, GossipOf}
use Rattle.lr_graph.specs.Names.{IsCounted}
use Rattle.lr_graph.specs.Runs.{RunState, message_at}
use Rattle.lr_graph.specs.Sets.{SpotSet}
use Rattle.lr_graph.specs.Legal.{kept_at}
use Rattle.lr_graph.specs.Pruned.{acked, is_known}

-- the facts after a history
-- for example: `first_facts` after no step
abbrev pub facts_after : {Value Op : Type 0} → Meaning Value Op → Config → Facts Op → List (Step Op) → Facts Op
facts_after m config w [] = w
facts_after m config w (step ∷ steps) = facts_after m config (after m config w step) steps

-- the greatest number that a set has at a place, or 0 where it has none
-- for example: 1 at place 0 of what is below `1:1`
abbrev pub greatest : {Op : Type 0} → List (Acceptance Op) → SpotSet → ℕ → ℕ
greatest [] x place = 0
greatest (a ∷ accepted) x place =
    if x a.spot && (a.spot.place == place)
    then max a.spot.number (greatest accepted x place)
    else greatest accepted x place

-- the join of the stamps of a set's acceptances, at a place;
-- the stamp of an acceptance has the greatest numbers of what is below it
-- for example: of `only 1:1`: 1 at place 0 and 1 at place 1
abbrev pub joined : {Op : Type 0} → List (Acceptance Op) → List (Acceptance Op) → SpotSet → ℕ → ℕ
joined all [] x place = 0
joined all (a ∷ accepted) x place =
    if x a.spot
    then max (greatest all a.below place) (joined all accepted x place)
    else joined all accepted x place

-- a stamp stands for a set that has all its causes: it is the join of the stamps of the set's acceptances,
-- and is at most the value's stamp of each replica exactly where the set was received there
-- for example: `[1, 1, 0]` stands for `0:1`, `1:1`
pub record StandsForSet {Value Op : Type 0} (config : Config) (w : Facts Op) (v : RunState Value Op)
    (stamp : List ℕ) (x : SpotSet) : Type 0 where
  pub set : IsSetOf w.accepted x
  pub join : (place : ℕ) → part stamp place ≡ joined w.accepted w.accepted x place
  pub within : (i : ℕ) → i < config.replicas
      → (replica : ReplicaState Value Op) → slice_get v.replicas i ≡ Some replica
      → stamp_le stamp replica.causal.val_ts ≡ is_within w.accepted x (w.received i)

-- a logged update is that of an acceptance, of its call and its operation: its causes' stamp and its own stand for
-- their sets
-- for example: causes `[1, 0, 0]` of `1:1`
pub record IsUpdateIn {Value Op : Type 0} (config : Config) (w : Facts Op) (v : RunState Value Op)
    (u : LogUpdate Op) : Type 0 where
  pub of : Acceptance Op
  pub among : IsAmong of w.accepted
  pub spot : u.spot ≡ of.spot
  pub cid : u.cid ≡ of.cid
  pub op : u.op ≡ of.op
  pub prev : StandsForSet config w v u.prev (causes of)
  pub stamp : StandsForSet config w v (stamp_of u) of.below

-- a call of the run is this one of the facts, and its stamp stands for the label
pub record IsCallIn {Value Op : Type 0} (config : Config) (w : Facts Op) (v : RunState Value Op)
    (of : LabelledCall Op) (d : Call Op) : Type 0 where
  pub cid : d.cid ≡ of.cid
  pub op : d.op ≡ of.op
  pub label : StandsForSet config w v d.prev of.label

-- gossip counts what its sender had received; each item that it has is one of these, and each of these that it lacks
-- was received where it goes
pub record IsGossipIn {Value Op : Type 0} (config : Config) (w : Facts Op) (v : RunState Value Op)
    (there names : SpotSet) (gossip : GossipRecord Op) : Type 0 where
  pub counted : IsCounted names gossip.rep_ts
  pub updates : Each (λ u. IsUpdateIn config w v u × (names u.spot ≡ true)) gossip.updates
  pub lacking : Each (λ a. names a.spot ≡ true → there a.spot ≡ false
      → (u : LogUpdate Op) × IsAmong u gossip.updates × (u.spot ≡ a.spot)) w.accepted
  pub acks : Each (λ a. IsAmong a w.acks × (names a.spot ≡ true)) gossip.acks
  pub acks_lacking : Each (λ a. names a.spot ≡ true → there a.spot ≡ false → IsAmong a gossip.acks) w.acks

-- what a message of the run has is what this one of the facts carries: of the same call, with a stamp for its set; of
-- gossip, with what was received where it goes
-- for example: the label of a copy of `0.2`
abbrev pub CarriesStamp : {Value Op : Type 0} → Config → Facts Op → RunState Value Op → SpotSet → Carried Op
    → Message Op → Type 0
CarriesStamp config w v there (UpdateCopy c t) (Update d time) = IsCallIn config w v c d × (time ≡ t)
CarriesStamp config w v there (QueryCopy c) (Query d) = IsCallIn config w v c d
CarriesStamp config w v there (AckCopy cid t) (Ack other time) = (other ≡ cid) × (time ≡ t)
CarriesStamp config w v there (DoneReply cid names) (Done other spot stamp) =
    (other ≡ cid) × IsDoneAt w.accepted cid spot names × StandsForSet config w v stamp names
CarriesStamp config w v there (AnswerReply cid names) (Answer other text stamp) =
    (other ≡ cid) × StandsForSet config w v stamp names
CarriesStamp config w v there (GossipOf names) (Gossip gossip) = IsGossipIn config w v there names gossip
CarriesStamp config w v there _ _ = ⊥

-- a message of the run is this one of the facts: it goes from the one to the other, and has what it carries
pub record IsMessageIn {Value Op : Type 0} (config : Config) (w : Facts Op) (v : RunState Value Op)
    (x : SentMessage Op) (p : Posted Op) : Type 0 where
  pub from : p.from ≡ x.from
  pub to : p.to ≡ x.to
  pub what : CarriesStamp config w v (received_at w x.to) x.what p.message

-- a held query is one that the facts hold there
-- for example: `0.3` at `r2`
pub record IsHeldIn {Value Op : Type 0} (config : Config) (w : Facts Op) (v : RunState Value Op)
    (i : ℕ) (d : Call Op) : Type 0 where
  pub of : LabelledCall Op
  pub among : IsAmong of (w.held i)
  pub call : IsCallIn config w v of d

-- what the table of executed calls has of a call is the spot of an acceptance of this call, and what is below it
pub record IsKnownIn {Value Op : Type 0} (config : Config) (w : Facts Op) (v : RunState Value Op)
    (cid : Cid) (known : Known) : Type 0 where
  pub of : Acceptance Op
  pub among : IsAmong of w.accepted
  pub cid_is : of.cid ≡ cid
  pub spot : known.spot ≡ of.spot
  pub stamp : StandsForSet config w v known.stamp of.below

-- what a replica received of each place is a prefix of its numbers, its clock is that of the facts, its stamps stand
-- for sets, its acknowledgements are those that it still logs, and its table has just the calls that it still knows,
-- each once, at the spots that the facts keep of them
-- for example: at `r1` `[0, 1, 0]` counts `1:1`, and nothing is ready
pub record HasStamps {Value Op : Type 0} (config : Config) (w : Facts Op) (v : RunState Value Op)
    (i : ℕ) (replica : ReplicaState Value Op) : Type 0 where
  pub prefixes : IsCounted (w.received i) replica.causal.rep_ts
  pub clock : replica.causal.clock ≡ w.clock i
  pub value : StandsForSet config w v replica.causal.val_ts (ready w.accepted (w.received i))
  pub updates : Each (IsUpdateIn config w v) replica.causal.updates
  pub acks : replica.causal.acks ≡ acked config w i
  pub held : Each (IsHeldIn config w v i) replica.causal.held
  pub by_call : AreByCall replica.causal.calls
  pub executed : (cid : Cid) → is_some (known_of replica.causal.calls cid) ≡ is_known config w i cid
  pub kept : (cid : Cid) → option_map (λ known. known.spot) (known_of replica.causal.calls cid)
      ≡ kept_at config w i cid
  pub known : (cid : Cid) (known : Known) → known_of replica.causal.calls cid ≡ Some known
      → IsKnownIn config w v cid known

-- a call of the run is this one of the facts, or there is neither
-- for example: of no open call: none
abbrev pub IsOpenIn : {Value Op : Type 0} → Config → Facts Op → RunState Value Op → Option (LabelledCall Op)
    → Option (Call Op) → Type 0
IsOpenIn config w v None None = Unit {0}
IsOpenIn config w v (Some of) (Some d) = IsCallIn config w v of d
IsOpenIn config w v _ _ = ⊥

-- a front end of the run is this client's: it made as many calls as in the facts, shows the same clock and has the same
-- open call and the same last answered update, and its stamp stands for the label
pub record IsFrontIn {Value Op : Type 0} (config : Config) (w : Facts Op) (v : RunState Value Op)
    (client : ℕ) (front : FrontState Op) : Type 0 where
  pub client_is : front.client ≡ client
  pub calls : front.calls ≡ (w.front client).calls
  pub clock : front.clock ≡ (w.front client).clock
  pub open_call : IsOpenIn config w v (w.front client).open_call front.open_call
  pub answered : front.answered ≡ (w.front client).answered
  pub label : StandsForSet config w v front.label (w.front client).label

-- causes exist and come first, the facts have as many messages as the run sent, each message is that of its number,
-- and each stamp that the run has reached stands for a set: those of replicas, of front ends and of messages
pub record IsCentral {Value Op : Type 0} (config : Config) (w : Facts Op) (v : RunState Value Op) : Type 0 where
  pub sound : IsSound w.accepted
  pub replicas : (i : ℕ) → i < config.replicas
      → (replica : ReplicaState Value Op) × (slice_get v.replicas i ≡ Some replica) × HasStamps config w v i replica
  pub fronts : (client : ℕ) → client < config.clients
      → (front : FrontState Op) × (slice_get v.fronts client ≡ Some front) × IsFrontIn config w v client front
  pub count : length w.messages ≡ length v.posted
  pub messages : (n : ℕ) (p : Posted Op) → message_at v.posted n ≡ Some p
      → (x : SentMessage Op)
      × (find (λ y. y.number == n) w.messages ≡ Some x)
      × IsMessageIn config w v x p
