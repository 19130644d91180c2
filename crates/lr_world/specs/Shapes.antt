-- What every message and every act of a run keeps, so that each delivery meets what its receiver asks for. No
-- contract of a replica's or a front end's step cites them for what it sends: that it fits is a fact about the
-- rules.
use Rattle.std.specs.Prelude.{◌≡◌, ◌+◌, ℕ, Bool, true, not, List, [], ◌∷◌, nat_lt}
use Rattle.lr_base.specs.Kinds.{is_query}
use Rattle.lr_base.specs.declared.lr_service.Kind.{Kind}
use Rattle.lr_base.specs.declared.names.Actor.{Actor}
use Rattle.lr_base.specs.declared.names.Actor.TheVariants.{Client, Replica}
use Rattle.lr_base.specs.declared.names.Config.{Config}
use Rattle.lr_base.specs.declared.acts.Act.{Act}
use Rattle.lr_base.specs.declared.acts.Act.TheVariants.{Say, Send}
use Rattle.lr_base.specs.declared.messages.Message.{Message}
use Rattle.lr_base.specs.declared.messages.Message.TheVariants.{Update, Query, Ack, Done, Answer}
use Rattle.lr_base.specs.declared.messages.Message.TheVariants.{Gossip as GossipMessage}
use Rattle.lr_base.specs.declared.messages.Gossip.{Gossip}
use Rattle.lr_causal.specs.Causal.{AllStamps, IsGossip}

-- the stamps that a message carries: an acknowledgement has none
-- for example: `[1, 0]` of the reply of `0:1`
abbrev pub stamps_in : {Op : Type 0} → Message Op → List (List ℕ)
stamps_in (Update call time) = call.prev ∷ []
stamps_in (Query call) = call.prev ∷ []
stamps_in (Ack cid time) = []
stamps_in (Done cid spot stamp) = stamp ∷ []
stamps_in (Answer cid text stamp) = stamp ∷ []
stamps_in (GossipMessage gossip) = gossip.rep_ts ∷ []

-- whether the client whose call a message is about is one of the run's; gossip is about none
-- for example: `0.1` with one client
abbrev pub has_client : {Op : Type 0} → Config → Message Op → Bool
has_client config (Update call time) = nat_lt call.cid.client config.clients
has_client config (Query call) = nat_lt call.cid.client config.clients
has_client config (Ack cid time) = nat_lt cid.client config.clients
has_client config (Done cid spot stamp) = nat_lt cid.client config.clients
has_client config (Answer cid text stamp) = nat_lt cid.client config.clients
has_client config (GossipMessage gossip) = true

-- an update message holds an update, and a query message a query
abbrev pub has_kind : {Op : Type 0} → (Op → Kind) → Message Op → Bool
has_kind kind_of (Update call time) = not (is_query (kind_of call.op))
has_kind kind_of (Query call) = is_query (kind_of call.op)
has_kind kind_of (Ack cid time) = true
has_kind kind_of (Done cid spot stamp) = true
has_kind kind_of (Answer cid text stamp) = true
has_kind kind_of (GossipMessage gossip) = true

-- whether there is such a client or such a replica
-- for example: `r0`, not `r1`
abbrev pub is_actor : Config → Actor → Bool
is_actor config (Client client) = nat_lt client config.clients
is_actor config (Replica replica) = nat_lt replica config.replicas

-- a message of this run: its client is one of the run's, it holds what it is for, each stamp of it has a part for each
-- place, and what it tells can be taken
-- for example: 2 parts with one replica
pub record IsShaped {Op : Type 0} (kind_of : Op → Kind) (config : Config) (message : Message Op) : Type 0 where
  pub client : has_client config message ≡ true
  pub kind : has_kind kind_of message ≡ true
  pub stamps : AllStamps (config.replicas + 1) (stamps_in message)
  pub told : (gossip : Gossip Op) → message ≡ GossipMessage gossip → IsGossip kind_of (config.replicas + 1) gossip

-- whoever gets a message of this run is one of the run's clients or replicas
pub record IsSendable {Op : Type 0} (kind_of : Op → Kind) (config : Config) (to : Actor)
    (message : Message Op) : Type 0 where
  pub to_known : is_actor config to ≡ true
  pub shaped : IsShaped kind_of config message

-- what an act sends may be sent
abbrev pub IsFitting : {Op : Type 0} → (Op → Kind) → Config → Act Op → Type 0
IsFitting kind_of config (Say line) = Unit {0}
IsFitting kind_of config (Send to message) = IsSendable kind_of config to message

-- what each of these acts sends may be sent
abbrev pub AllFitting : {Op : Type 0} → (Op → Kind) → Config → List (Act Op) → Type 0
AllFitting kind_of config [] = Unit {0}
AllFitting kind_of config (act ∷ acts) = IsFitting kind_of config act × AllFitting kind_of config acts
