-- How a run by the rules and the facts of its history belong together.
use Rattle.std.proofs.Common.{◌≡◌, ◌<◌, ◌≤◌, ◌+◌, ◌==◌, ◌++◌, ℕ, Bool, true, false, List, [], ◌∷◌, length, map, find, get_or, Option, Some, None, is_some}
use Rattle.std.specs.List.{slice_get}
use Rattle.lr_base.specs.Calls.{AreByCall}
use Rattle.lr_base.specs.Fronts.{FrontState}
use Rattle.lr_base.specs.Kinds.{IsUpdate, has_rules}
use Rattle.lr_base.specs.Meaning.{Meaning}
use Rattle.lr_base.specs.Orders.{IsAmong}
use Rattle.lr_base.specs.Replicas.{ReplicaState}
use Rattle.lr_base.specs.Rules.{CausalState}
use Rattle.lr_base.specs.Stamps.{part}
use Rattle.lr_base.specs.declared.acts.Posted.{Posted}
use Rattle.lr_base.specs.declared.messages.Call.{Call}
use Rattle.lr_base.specs.declared.messages.Gossip.{Gossip}
use Rattle.lr_base.specs.declared.messages.LogAck.{LogAck}
use Rattle.lr_base.specs.declared.messages.Message.{Message}
use Rattle.lr_base.specs.declared.messages.Message.TheVariants.{Update, Query, Ack, Done, Answer, Gossip as GossipMessage}
use Rattle.lr_base.specs.declared.names.Actor.{Actor}
use Rattle.lr_base.specs.declared.names.Actor.TheVariants.{Client, Replica}
use Rattle.lr_base.specs.declared.names.Cid.{Cid}
use Rattle.lr_base.specs.declared.names.Config.{Config}
use Rattle.lr_base.specs.declared.names.Spot.{Spot}
use Rattle.lr_graph.specs.Closed.{Each, IsSetOf, IsSound, causes, IsDoneAt}
use Rattle.lr_graph.specs.Graph.{Acceptance, AckCopy, AnswerReply, GossipOf, Carried, DoneReply, Facts, FrontFacts, Kept, LabelledCall, QueryCopy, SentMessage, UpdateCopy, acks_of, has_call, item_spots, kept_spot, ready}
use Rattle.lr_graph.specs.Names.{IsCounted, Names}
use Rattle.lr_graph.specs.Runs.{RunState, message_at}
use Rattle.lr_graph.specs.Sets.{SpotSet, nothing}
use Rattle.lr_graph.specs.Spread.{IsSpread}
use Rattle.lr_graph.specs.Pruned.{is_acked, is_left, logged, told_by}
use Rattle.lr_graph.proofs.Logs.Items.{AreApart}
use Rattle.lr_graph.proofs.Related.Ties.{HasApplied, IsLogOf}

-- ---- one thing beside another

abbrev pub SameOption : {A B : Type 0} → (A → B → Type 0) → Option A → Option B → Type 0
SameOption R None None = Unit {0}
SameOption R (Some a) (Some b) = R a b
SameOption R _ _ = ⊥

abbrev pub SameList : {A B : Type 0} → (A → B → Type 0) → List A → List B → Type 0
SameList R [] [] = Unit {0}
SameList R (a ∷ xs) (b ∷ ys) = R a b × SameList R xs ys
SameList R _ _ = ⊥

-- ---- calls and messages

-- a call by the rules is this call of the graph
pub record SameCall {Op : Type 0} (l : List (Acceptance Op)) (c : LabelledCall Op) (d : Call Op) : Type 0 where
  pub cid : c.cid ≡ d.cid
  pub op : c.op ≡ d.op
  pub names : Names d.prev c.label
  pub set : IsSetOf l c.label

-- this is the call that was issued under its name, by a client that there is
pub record IsIssued {Op : Type 0} (clients : ℕ) (issued : Cid → Option (LabelledCall Op)) (calls : ℕ → ℕ) (c : LabelledCall Op) : Type 0 where
  pub is : issued c.cid ≡ Some c
  pub number : c.cid.seq ≤ calls c.cid.client
  pub client : c.cid.client < clients

-- the spots of these acceptances and acknowledgements
abbrev pub spots_in : {Op : Type 0} → List (Acceptance Op) → List LogAck → List Spot
spots_in l acks = map (λ a. a.spot) l ++ map (λ a. a.spot) acks

-- gossip counts the items that it names; it has some of them, and the rest were received there, where it goes
pub record SameGossip {Op : Type 0} (replicas : ℕ) (l : List (Acceptance Op)) (acks : List LogAck) (there names : SpotSet) (g : Gossip Op) : Type 0 where
  pub logs : SpotSet
  pub counted : IsCounted names g.rep_ts
  pub exist : (s : Spot) → names s ≡ true → IsAmong s (spots_in l acks)
  pub log : IsLogOf l logs g.updates
  pub within : (s : Spot) → logs s ≡ true → names s ≡ true
  pub elsewhere : (s : Spot) → names s ≡ true → logs s ≡ false → there s ≡ true
  pub ack_logs : LogAck → Bool
  pub acks_are : g.acks ≡ acks_of ack_logs acks
  pub acks_within : Each (λ a. ack_logs a ≡ true → names a.spot ≡ true) acks
  pub acks_elsewhere : Each (λ a. names a.spot ≡ true → ack_logs a ≡ false → there a.spot ≡ true) acks
  pub parts : length g.rep_ts ≡ replicas + 1

-- what was received at an actor: nothing at a front end
abbrev pub at_actor : (ℕ → SpotSet) → Actor → SpotSet
at_actor received (Replica i) = received i
at_actor received (Client client) = nothing

-- a message of the rules carries what this one of the graph does, to where this was received
pub data SameCarried {Value Op : Type 0} (m : Meaning Value Op) (config : Config) (l : List (Acceptance Op)) (acks : List LogAck) (there : SpotSet) (issued : Cid → Option (LabelledCall Op)) (calls : ℕ → ℕ) : Carried Op → Message Op → Type 0 where
  same_update : (c : LabelledCall Op) (d : Call Op) (t time : ℕ) → SameCall l c d → t ≡ time → IsIssued config.clients issued calls c → IsUpdate (m.kind c.op) → SameCarried m config l acks there issued calls (UpdateCopy c t) (Update d time)
  same_query : (c : LabelledCall Op) (d : Call Op) → SameCall l c d → IsIssued config.clients issued calls c → SameCarried m config l acks there issued calls (QueryCopy c) (Query d)
  same_ack : (cid other : Cid) (t time : ℕ) → cid ≡ other → t ≡ time → cid.client < config.clients → SameCarried m config l acks there issued calls (AckCopy cid t) (Ack other time)
  same_done : (cid other : Cid) (names : SpotSet) (spot : Spot) (stamp : List ℕ) → cid ≡ other → Names stamp names → IsSetOf l names → IsDoneAt l cid spot names → SameCarried m config l acks there issued calls (DoneReply cid names) (Done other spot stamp)
  same_answer : (cid other : Cid) (names : SpotSet) (text stamp : List ℕ) → cid ≡ other → Names stamp names → IsSetOf l names → SameCarried m config l acks there issued calls (AnswerReply cid names) (Answer other text stamp)
  same_gossip : (names : SpotSet) (g : Gossip Op) → SameGossip config.replicas l acks there names g → SameCarried m config l acks there issued calls (GossipOf names) (GossipMessage g)

-- such a message goes from such an actor to such a one: gossip from a replica to another
abbrev pub IsWay : {Op : Type 0} → Actor → Actor → Carried Op → Type 0
IsWay (Client f) (Replica i) (UpdateCopy c t) = Unit {0}
IsWay (Client f) (Replica i) (QueryCopy c) = Unit {0}
IsWay (Client f) (Replica i) (AckCopy cid t) = Unit {0}
IsWay (Replica i) (Client f) (DoneReply cid names) = Unit {0}
IsWay (Replica i) (Client f) (AnswerReply cid names) = Unit {0}
IsWay (Replica k) (Replica i) (GossipOf names) = (k == i) ≡ false
IsWay _ _ _ = ⊥

-- there is such an actor
abbrev pub IsThere : Config → Actor → Type 0
IsThere config (Client client) = client < config.clients
IsThere config (Replica replica) = replica < config.replicas

-- a message of the rules is this one of the graph
pub record SameMessage {Value Op : Type 0} (m : Meaning Value Op) (config : Config) (l : List (Acceptance Op)) (acks : List LogAck) (received : ℕ → SpotSet) (issued : Cid → Option (LabelledCall Op)) (calls : ℕ → ℕ) (x : SentMessage Op) (p : Posted Op) : Type 0 where
  pub from : x.from ≡ p.from
  pub to : x.to ≡ p.to
  pub way : IsWay x.from x.to x.what
  pub there : IsThere config x.to
  pub what : SameCarried m config l acks (at_actor received x.to) issued calls x.what p.message

-- ---- front ends

-- an open call is one that was issued
abbrev pub IsOpen : {Op : Type 0} → ℕ → (Cid → Option (LabelledCall Op)) → (ℕ → ℕ) → Option (LabelledCall Op) → Type 0
IsOpen clients issued calls None = Unit {0}
IsOpen clients issued calls (Some c) = IsIssued clients issued calls c

-- a client's own call, or none
abbrev pub IsOwnCall : {Op : Type 0} → ℕ → Option (LabelledCall Op) → Type 0
IsOwnCall client None = Unit {0}
IsOwnCall client (Some c) = c.cid.client ≡ client

-- the name of a client's own call, or none
abbrev pub IsOwnName : ℕ → Option Cid → Type 0
IsOwnName client None = Unit {0}
IsOwnName client (Some cid) = cid.client ≡ client

-- a front end by the rules is this one of the graph
pub record SameFront {Op : Type 0} (l : List (Acceptance Op)) (client : ℕ) (a : FrontFacts Op) (f : FrontState Op) : Type 0 where
  pub client_is : f.client ≡ client
  pub calls : a.calls ≡ f.calls
  pub clock : a.clock ≡ f.clock
  pub open_call : SameOption (SameCall l) a.open_call f.open_call
  pub own_call : IsOwnCall client a.open_call
  pub answered : a.answered ≡ f.answered
  pub own_answered : IsOwnName client a.answered
  pub names : Names f.label a.label
  pub set : IsSetOf l a.label

-- the rules have this front end in its place
abbrev pub HasFront : {Op : Type 0} → List (Acceptance Op) → List (FrontState Op) → ℕ → FrontFacts Op → Type 0
HasFront {Op} l fronts client a = (f : FrontState Op) × (slice_get fronts client ≡ Some f) × SameFront l client a f

-- ---- acceptances

-- an acceptance is that of an issued call, at a replica that there is
pub record IsAcceptance {Value Op : Type 0} (m : Meaning Value Op) (config : Config) (issued : Cid → Option (LabelledCall Op)) (calls : ℕ → ℕ) (a : Acceptance Op) : Type 0 where
  pub call : LabelledCall Op
  pub is : issued a.cid ≡ Some call
  pub op : a.op ≡ call.op
  pub label : (s : Spot) → causes a s ≡ call.label s
  pub number : a.cid.seq ≤ calls a.cid.client
  pub client : a.cid.client < config.clients
  pub place : a.spot.place < config.replicas
  pub update : IsUpdate (m.kind a.op)
  pub plain : has_rules (m.kind a.op) ≡ true

-- how many calls each front end made
abbrev pub calls_in : {Op : Type 0} → Facts Op → ℕ → ℕ
calls_in w client = (w.front client).calls

-- what acceptances, front ends and messages keep, whatever a replica is at
pub record IsShared {Value Op : Type 0} (m : Meaning Value Op) (config : Config) (issued : Cid → Option (LabelledCall Op)) (w : Facts Op) (fronts : List (FrontState Op)) (posted : List (Posted Op)) : Type 0 where
  pub sound : IsSound w.accepted
  pub each : Each (IsAcceptance m config issued (calls_in w)) w.accepted
  pub apart : AreApart (item_spots w)
  pub numbered : Each (λ s. 0 < s.number) (item_spots w)
  pub own : (s : Spot) → IsAmong s (item_spots w) → w.received s.place s ≡ true
  pub exist : (i : ℕ) (s : Spot) → w.received i s ≡ true → IsAmong s (item_spots w)
  pub spread : IsSpread config w
  pub fronts_are : (client : ℕ) → client < config.clients → HasFront w.accepted fronts client (w.front client)
  pub opened : (client : ℕ) → IsOpen config.clients issued (calls_in w) (w.front client).open_call
  pub count : length w.messages ≡ length posted
  pub messages : (n : ℕ) → SameOption (SameMessage m config w.accepted w.acks w.received issued (calls_in w)) (find (λ x. x.number == n) w.messages) (message_at posted n)

-- ---- replicas

-- what no causal update changes
pub record IsStill {Value Op : Type 0} (config : Config) (state : CausalState Value Op) : Type 0 where
  pub imm : (place : ℕ) → part state.imm_ts place ≡ 0
  pub parts : length state.rep_ts ≡ config.replicas + 1
  pub keys : AreByCall state.calls

-- a replica's table has a row for each replica, and each counts what that one told
pub record HasTold {Value Op : Type 0} (replicas : ℕ) (told : ℕ → SpotSet) (state : CausalState Value Op) : Type 0 where
  pub rows : length state.table ≡ replicas
  pub counted : (k : ℕ) → k < replicas → IsCounted (told k) (get_or state.table k [])

-- a replica's clock is that of the facts, its acknowledgements are those of the test, in the order of spots, and it was told
-- this
pub record HasNoted {Value Op : Type 0} (replicas : ℕ) (acks : List LogAck) (logs : LogAck → Bool) (clock : ℕ) (told : ℕ → SpotSet) (state : CausalState Value Op) : Type 0 where
  pub clock_is : state.clock ≡ clock
  pub acks_are : state.acks ≡ acks_of logs acks
  pub rows : HasTold replicas told state

-- a held query, of a client that there is
pub record SameHeld {Op : Type 0} (clients : ℕ) (l : List (Acceptance Op)) (c : LabelledCall Op) (d : Call Op) : Type 0 where
  pub call : SameCall l c d
  pub client : c.cid.client < clients

-- a replica between two steps: all that is ready is applied, the log has what it is to have, and all acceptances of a call
-- that left are ready
pub record IsReplicaAt {Value Op : Type 0} (m : Meaning Value Op) (config : Config) (l : List (Acceptance Op)) (r g : SpotSet) (left : Cid → Bool) (kept : List Kept) (held : List (LabelledCall Op)) (state : CausalState Value Op) : Type 0 where
  pub counted : IsCounted r state.rep_ts
  pub log : IsLogOf l g state.updates
  pub covered : Each (λ a. r a.spot ≡ true → ready l r a.spot ≡ false → g a.spot ≡ true) l
  pub within : (s : Spot) → g s ≡ true → r s ≡ true
  pub over : Each (λ a. left a.cid ≡ true → ready l r a.spot ≡ true) l
  pub kept_are : (cid : Cid) → has_call l (ready l r) cid ≡ true → is_some (kept_spot kept cid) ≡ true
  pub applied : HasApplied m l (ready l r) left kept state
  pub still : IsStill config state
  pub held_are : SameList (SameHeld config.clients l) held state.held

-- the rules have a replica of this number in its place, in this state
pub record HasReplica {Value Op : Type 0} (config : Config) (replicas : List (ReplicaState Value Op)) (i : ℕ) (state : CausalState Value Op) : Type 0 where
  pub replica : ReplicaState Value Op
  pub there : slice_get replicas i ≡ Some replica
  pub setting : replica.config ≡ config
  pub number : replica.me ≡ i
  pub state_is : replica.causal ≡ state

-- a replica of the run and what the graph knows of it
abbrev pub IsTied : {Value Op : Type 0} → Meaning Value Op → Config → Facts Op → List (ReplicaState Value Op) → ℕ → Type 0
IsTied {Value} {Op} m config w replicas i =
    (state : CausalState Value Op) × HasReplica config replicas i state
    × IsReplicaAt m config w.accepted (w.received i) (logged config w i) (is_left config w i) (w.kept i) (w.held i) state
    × HasNoted config.replicas w.acks (is_acked config w i) (w.clock i) (told_by w i) state

-- a run and the facts of its history
pub record IsSame {Value Op : Type 0} (m : Meaning Value Op) (config : Config) (w : Facts Op) (v : RunState Value Op) : Type 0 where
  pub issued : Cid → Option (LabelledCall Op)
  pub shared : IsShared m config issued w v.fronts v.posted
  pub replicas : (i : ℕ) → i < config.replicas → IsTied m config w v.replicas i
