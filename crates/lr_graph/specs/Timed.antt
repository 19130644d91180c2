-- Times of copies and of acknowledgements.
-- The times that copies of a call have, and an acknowledgement of it. The contract of
-- `no_copy_is_later_than_an_acknowledgement` cites these. In the examples client 0 has called `0.1` with the reading 5,
-- was told that it is done, and acknowledges it with the reading 7.
use Rattle.std.specs.Prelude.{◌≡◌, ℕ, ◌≤◌, Bool, false, List, Option, Some, None}
use Rattle.lr_base.specs.Ascending.{same_cid}
use Rattle.lr_base.specs.Orders.{IsAmong}
use Rattle.lr_base.specs.declared.names.Cid.{Cid}
use Rattle.lr_graph.specs.Closed.{Each}
use Rattle.lr_graph.specs.Graph.{AckCopy, Carried, Facts, FrontFacts, LabelledCall, SentMessage, UpdateCopy}

-- a message that carries this was sent
-- for example: a copy of `0.1` at 5
abbrev pub WasSent : {Op : Type 0} → List (SentMessage Op) → Carried Op → Type 0
WasSent {Op} messages what = (x : SentMessage Op) × IsAmong x messages × (x.what ≡ what)

-- whether an open call, if there is one, has this name
-- for example: true of `0.1` until `got 0.1`, and false from then on
abbrev pub is_open : {Op : Type 0} → Option (LabelledCall Op) → Cid → Bool
is_open None cid = false
is_open (Some call) cid = same_cid call.cid cid

-- what is carried, if it is a copy of this update, isn't later than this time
-- for example: `update 0.1 at 5` isn't later than 7
abbrev pub IsNotLater : {Op : Type 0} → Cid → ℕ → Carried Op → Type 0
IsNotLater cid last (UpdateCopy call time) = call.cid ≡ cid → time ≤ last
IsNotLater cid last _ = Unit {0}

-- a call is over: its client made it, no front end has it open, and no copy of it that was sent is later than this time
-- for example: `0.1` with 7
pub record IsOver {Op : Type 0} (w : Facts Op) (cid : Cid) (last : ℕ) : Type 0 where
  pub made : cid.seq ≤ (w.front cid.client).calls
  pub closed : (client : ℕ) → is_open (w.front client).open_call cid ≡ false
  pub copies : Each (λ x. IsNotLater cid last x.what) w.messages

-- the time that is carried fits the facts: a copy's is at most the clock of its call's client, and the call of an
-- acknowledgement is over, with no copy later than this
-- for example: `update 0.1 at 5` at client 0's clock 7; `ack 0.1 at 7`
abbrev pub IsTimely : {Op : Type 0} → Facts Op → Carried Op → Type 0
IsTimely w (UpdateCopy call time) = time ≤ (w.front call.cid.client).clock
IsTimely w (AckCopy cid time) = IsOver w cid time
IsTimely w _ = Unit {0}

-- a front end's open call is one of its client's, with a number that is given out
-- for example: `0.1` at client 0 after one call
pub record IsOpenOf {Op : Type 0} (client : ℕ) (front : FrontFacts Op) (call : LabelledCall Op) : Type 0 where
  pub own : call.cid.client ≡ client
  pub made : call.cid.seq ≤ front.calls

-- the last answered update of a front end is its client's, and is over, with no copy later than the front end's clock
-- for example: `0.1` at client 0 after `got 0.1`
pub record IsAnsweredOf {Op : Type 0} (w : Facts Op) (client : ℕ) (front : FrontFacts Op) (cid : Cid) : Type 0 where
  pub own : cid.client ≡ client
  pub over : IsOver w cid front.clock

-- times are in order: each open call and each answered update is as above, and each message and each acknowledgement
-- that was noted has a time that fits
-- for example: `first_facts`
pub record IsTimed {Op : Type 0} (w : Facts Op) : Type 0 where
  pub opened : (client : ℕ) (call : LabelledCall Op) → (w.front client).open_call ≡ Some call
      → IsOpenOf client (w.front client) call
  pub answered : (client : ℕ) (cid : Cid) → (w.front client).answered ≡ Some cid
      → IsAnsweredOf w client (w.front client) cid
  pub sent : Each (λ x. IsTimely w x.what) w.messages
  pub noted : Each (λ a. IsOver w a.cid a.time) w.acks
