-- What becomes of a front end, and what it answers, by the rules of its events.
use Rattle.std.specs.Prelude.{◌≡◌, ◌≢◌, ℕ, [], ◌∷◌, None, Result, Ok, Err}
use Rattle.lr_base.specs.Fronts.{FrontEvent, FrontState, front_acts, front_next}
use Rattle.lr_base.specs.Fronts.FrontEvent.{CallTo, ResendTo, AckTo, TakeMessage}
use Rattle.lr_base.specs.Limits.{last_number}
use Rattle.lr_base.specs.declared.acts.Act.{Act}
use Rattle.lr_base.specs.declared.acts.Act.TheVariants.{Say, Send}
use Rattle.lr_base.specs.declared.events.Outcome.TheVariants.{Got as GotLine, Stale as StaleLine, Refuse}
use Rattle.lr_base.specs.declared.events.Refusal.TheVariants.{Worn as IsWorn, Unfinished as IsUnfinished}
use Rattle.lr_base.specs.declared.events.Refusal.TheVariants.{Idle as IsIdle, Nothing as IsNothing}
use Rattle.lr_base.specs.declared.lr_service.Kind.{Kind}
use Rattle.lr_base.specs.declared.messages.Message.{Message}
use Rattle.lr_base.specs.declared.names.Actor.TheVariants.{Replica}
use Rattle.lr_front.specs.declared.front.AckFault.{AckFault}
use Rattle.lr_front.specs.declared.front.AckFault.TheVariants.{Nothing}
use Rattle.lr_front.specs.declared.front.CallFault.{CallFault}
use Rattle.lr_front.specs.declared.front.CallFault.TheVariants.{Unfinished, Worn, NoMemory}
use Rattle.lr_front.specs.declared.front.ResendFault.{ResendFault}
use Rattle.lr_front.specs.declared.front.ResendFault.TheVariants.{Idle, NoMemory as NoMemoryAgain}
use Rattle.lr_front.specs.declared.front.Taken.{Taken}
use Rattle.lr_front.specs.declared.front.Taken.TheVariants.{Got, Stale}

-- an event has its state after it and this one act, whichever replica it names
-- for example: `call 0 0 5 add x 3` sends `update 0.1 at 5`
pub record HasDone {Op : Type 0} (kind_of : Op → Kind) (event : ℕ → FrontEvent Op) (act : ℕ → Act Op)
    (before now : FrontState Op) : Type 0 where
  pub state : (replica : ℕ) → now ≡ front_next (event replica) before
  pub acts : (replica : ℕ) → front_acts kind_of (event replica) before ≡ act replica ∷ []

-- no call is open, and a further one can be numbered
-- for example: before the first call
pub record IsFree {Op : Type 0} (front : FrontState Op) : Type 0 where
  pub closed : front.open_call ≡ None
  pub not_worn : front.calls ≢ last_number

-- a call is sent or refused by its rule; for want of memory a free front end stays as it is
-- for example: `update 0.1 at 5` is sent
abbrev pub HasCalled : {Op : Type 0} → (Op → Kind) → ℕ → Op → FrontState Op → FrontState Op
    → Result (Message Op) CallFault → Type 0
HasCalled kind_of reading op before now (Ok message) =
    HasDone kind_of (λ to. CallTo to reading op) (λ to. Send (Replica to) message) before now
HasCalled kind_of reading op before now (Err (Unfinished cid)) =
    HasDone kind_of (λ to. CallTo to reading op) (λ to. Say (Refuse (IsUnfinished cid))) before now
HasCalled kind_of reading op before now (Err Worn) =
    HasDone kind_of (λ to. CallTo to reading op) (λ to. Say (Refuse IsWorn)) before now
HasCalled kind_of reading op before now (Err NoMemory) = IsFree before × (now ≡ before)

-- the open call is sent again or there is none; for want of memory a front end with an open call stays as it is
-- for example: `update 0.1 at 6` at 6
abbrev pub HasResent : {Op : Type 0} → (Op → Kind) → ℕ → FrontState Op → FrontState Op
    → Result (Message Op) ResendFault → Type 0
HasResent kind_of reading before now (Ok message) =
    HasDone kind_of (λ to. ResendTo to reading) (λ to. Send (Replica to) message) before now
HasResent kind_of reading before now (Err Idle) =
    HasDone kind_of (λ to. ResendTo to reading) (λ to. Say (Refuse IsIdle)) before now
HasResent kind_of reading before now (Err NoMemoryAgain) = (before.open_call ≢ None) × (now ≡ before)

-- the last answered update is acknowledged, or there is none
-- for example: `ack 0.1 at 7` at 7
abbrev pub HasAcknowledged : {Op : Type 0} → (Op → Kind) → ℕ → FrontState Op → FrontState Op
    → Result (Message Op) AckFault → Type 0
HasAcknowledged kind_of reading before now (Ok message) =
    HasDone kind_of (λ to. AckTo to reading) (λ to. Send (Replica to) message) before now
HasAcknowledged kind_of reading before now (Err Nothing) =
    HasDone kind_of (λ to. AckTo to reading) (λ to. Say (Refuse IsNothing)) before now

-- a reply is got or stale by its rule
-- for example: `got 0.1`
abbrev pub HasTaken : {Op : Type 0} → (Op → Kind) → Message Op → FrontState Op → FrontState Op → Taken → Type 0
HasTaken kind_of reply before now (Got cid) =
    HasDone kind_of (λ to. TakeMessage reply) (λ to. Say (GotLine cid)) before now
HasTaken kind_of reply before now (Stale cid) =
    HasDone kind_of (λ to. TakeMessage reply) (λ to. Say (StaleLine cid)) before now
