-- What the messages and the front ends of a run keep.
use Rattle.std.specs.Prelude.{◌≡◌, ◌+◌, ℕ, true, List, length, slice_get}
use Rattle.std.specs.Option.{ForSome}
use Rattle.lr_base.specs.declared.lr_service.Kind.{Kind}
use Rattle.lr_base.specs.declared.messages.Call.{Call}
use Rattle.lr_base.specs.declared.names.Config.{Config}
use Rattle.lr_base.specs.Fronts.{FrontState}
use Rattle.lr_front.specs.Undoing.{Saved}
use Rattle.lr_world.specs.Shapes.{IsSendable, is_actor}
use Rattle.lr_base.specs.declared.acts.Posted.{Posted}

-- a message of this run, between actors that there are
pub record IsPosted {Op : Type 0} (kind_of : Op → Kind) (config : Config) (posted : Posted Op) : Type 0 where
  pub from_known : is_actor config posted.from ≡ true
  pub sendable : IsSendable kind_of config posted.to posted.message

-- each message that was sent may be delivered
abbrev pub AllPosted : {Op : Type 0} → (Op → Kind) → Config → List (Posted Op) → Type 0
AllPosted kind_of config posted = (k : ℕ) → ForSome (slice_get posted k) (IsPosted kind_of config)

-- a call that a front end has open: its client's, with a label that has a part for each place
-- for example: `0.1`, `[0, 0]`
pub record IsOwnCall {Op : Type 0} (config : Config) (client : ℕ) (call : Call Op) : Type 0 where
  pub own : call.cid.client ≡ client
  pub parts : length call.prev ≡ config.replicas + 1

-- a front end of this run, with its client's number: its open call and its last answered update are its client's
-- for example: `new_front` of this client
pub record IsFront {Op : Type 0} (config : Config) (client : ℕ) (front : FrontState Op) : Type 0 where
  pub setting : front.replicas ≡ config.replicas
  pub number : front.client ≡ client
  pub parts : length front.label ≡ config.replicas + 1
  pub open_call : ForSome front.open_call (IsOwnCall config client)
  pub answered : ForSome front.answered (λ cid. cid.client ≡ client)

-- what a savepoint keeps of such a front end
-- for example: `[0, 0]`, no call, no update
pub record IsFrontPoint {Op : Type 0} (config : Config) (client : ℕ) (point : Saved Op) : Type 0 where
  pub parts : length point.label ≡ config.replicas + 1
  pub answered : ForSome point.answered (λ cid. cid.client ≡ client)
  pub ended : ForSome point.ended (IsOwnCall config client)

-- there is a front end for each client, in order
abbrev pub AllFronts : {Op : Type 0} → Config → List (FrontState Op) → Type 0
AllFronts config fronts = (k : ℕ) → ForSome (slice_get fronts k) (IsFront config k)
