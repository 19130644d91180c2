-- Small histories with one client, and one replica or two.
use Rattle.std.specs.Prelude.{ℕ, suc, ◌+◌, true, List, [], ◌∷◌, ◌++◌, None, codes}
use Rattle.lr_base.specs.Meaning.{Meaning}
use Rattle.lr_base.specs.declared.events.Event.{Event}
use Rattle.lr_base.specs.declared.events.Event.TheVariants.{Ack as AckEvent, Call, Deliver, Gossip as GossipEvent}
use Rattle.lr_base.specs.declared.events.Event.TheVariants.{Show, Tick}
use Rattle.lr_base.specs.declared.events.Outcome.{Outcome}
use Rattle.lr_base.specs.declared.events.Outcome.TheVariants.{Send, Accept, ClockAt, Got, Note, State, Take}
use Rattle.lr_base.specs.declared.events.Sent.TheVariants.{Ack, Answer, Done, Gossip, Query, Update}
use Rattle.lr_base.specs.declared.events.StateLine.{StateLine}
use Rattle.lr_base.specs.declared.events.Step.{Step}
use Rattle.lr_base.specs.declared.lr_service.Kind.TheVariants.{Forced}
use Rattle.lr_base.specs.declared.names.Actor.TheVariants.{Client, Replica}
use Rattle.lr_base.specs.declared.names.Cid.{Cid}
use Rattle.lr_base.specs.declared.names.Config.{Config}
use Rattle.lr_base.specs.declared.names.Spot.{Spot}
use Rattle.svc_tally.specs.declared.op.TallyOp.{TallyOp}
use Rattle.svc_tally.specs.declared.op.TallyOp.TheVariants.{Add, Read}

-- one replica, one client, and a delta of 10
abbrev pub small : Config
small = record { replicas = 1; clients = 1; delta = 10 }

-- the client's first call
-- for example: `0.1`
abbrev pub first_call : Cid
first_call = record { client = 0; seq = 1 }

-- the client's second call
-- for example: `0.2`
abbrev pub second_call : Cid
second_call = record { client = 0; seq = 2 }

-- the replica's first spot
-- for example: `0:1`
abbrev pub first_spot : Spot
first_spot = record { place = 0; number = 1 }

-- an event with its outcomes
abbrev step : {Op : Type 0} → Event Op → List Outcome → Step Op
step event outcomes = record { event = event; outcomes = outcomes }

-- the replica after both: it received one update, logs nothing, and executed the addition
abbrev after_both : StateLine
after_both = record {
  replica = 0;
  view = 0;
  clock = 0;
  received = 1 ∷ 0 ∷ [];
  log = [];
  acks = [];
  calls = first_call ∷ [];
  held = [];
  marks = [];
}

-- an addition and then a read that has this answer, and what the front end prints of the addition's reply
-- for example: legal with `got 0.1` and 3; not with 4, and not where nothing is printed
abbrev pub add_and_read : List Outcome → List ℕ → List (Step TallyOp)
add_and_read got text =
    step (Call 0 0 5 (Add (codes "x") 3)) (Send 1 (Client 0) (Replica 0) (Update first_call 5) ∷ [])
    ∷ step (Deliver 1) (Accept first_spot first_call ∷ Send 2 (Replica 0) (Client 0) (Done first_call first_spot) ∷ [])
    ∷ step (Deliver 2) got
    ∷ step (Call 0 0 6 (Read (codes "x"))) (Send 3 (Client 0) (Replica 0) (Query second_call) ∷ [])
    ∷ step (Deliver 3) (Send 4 (Replica 0) (Client 0) (Answer second_call text) ∷ [])
    ∷ step (Deliver 4) (Got second_call ∷ [])
    ∷ step (Show 0) (State after_both ∷ [])
    ∷ []

-- a client's first call, which is a read
abbrev pub called_by : ℕ → List (Step TallyOp)
called_by client =
    step (Call client 0 5 (Read (codes "x")))
    (Send 1 (Client client) (Replica 0) (Query (record { client = client; seq = 1 })) ∷ []) ∷ []

-- a replica of these, as it is shown before any other event
abbrev pub shown_at_first : ℕ → List (Step TallyOp)
shown_at_first i =
    step (Show i) (State (record after_both { replica = i; received = 0 ∷ 0 ∷ []; calls = [] }) ∷ []) ∷ []

-- a service of forced additions, whose value is their sum
abbrev pub forced_sum : Meaning ℕ ℕ
forced_sum = record {
  start = 0;
  kind = λ op. Forced;
  apply = λ sum op. sum + op;
  read = λ sum op. [];
  is_op = λ op. true;
  text = λ op. [];
  op_of = λ text. None;
}

-- a forced addition is called and comes to the replica, which prints this of it
abbrev pub forced_call : List Outcome → List (Step ℕ)
forced_call printed =
    step (Call 0 0 5 3) (Send 1 (Client 0) (Replica 0) (Update first_call 5) ∷ [])
    ∷ step (Deliver 1) printed
    ∷ []

-- two replicas, one client, and a delta of 10
abbrev pub pair : Config
pair = record { replicas = 2; clients = 1; delta = 10 }

-- the spot of the first call's acknowledgement, where `r0` notes it next
-- for example: `0:2`
abbrev pub ack_spot : Spot
ack_spot = record { place = 0; number = 2 }

-- what is printed of `r0`: its clock, its log, the acknowledgements and the calls that it keeps
abbrev shown : ℕ → List Spot → List Spot → List Cid → Step TallyOp
shown clock log acks calls =
    let line = record after_both { clock = clock; received = 2 ∷ 0 ∷ 0 ∷ []; log = log; acks = acks; calls = calls } in
    step (Show 0) (State line ∷ [])

-- an addition at `r0`, whose client is told that it is done
abbrev added : List (Step TallyOp)
added =
    step (Call 0 0 5 (Add (codes "x") 3)) (Send 1 (Client 0) (Replica 0) (Update first_call 5) ∷ [])
    ∷ step (Deliver 1) (Accept first_spot first_call ∷ Send 2 (Replica 0) (Client 0) (Done first_call first_spot) ∷ [])
    ∷ step (Deliver 2) (Got first_call ∷ [])
    ∷ []

-- the client acknowledges it with the reading 7, in this message, and `r0` notes that
abbrev notes_ack : ℕ → List (Step TallyOp)
notes_ack number =
    step (AckEvent 0 0 7) (Send number (Client 0) (Replica 0) (Ack first_call 7) ∷ [])
    ∷ step (Deliver number) (Note ack_spot first_call ∷ [])
    ∷ []

-- `r0` gossips so many items to `r1`, and `r1` to `r0`, from this message on
abbrev gossips : ℕ → ℕ → List (Step TallyOp)
gossips number items =
    step (GossipEvent 0 1) (Send number (Replica 0) (Replica 1) Gossip ∷ [])
    ∷ step (Deliver number) (Take items ∷ [])
    ∷ step (GossipEvent 1 0) (Send (suc number) (Replica 1) (Replica 0) Gossip ∷ [])
    ∷ step (Deliver (suc number)) (Take 0 ∷ [])
    ∷ []

-- an addition is acknowledged before `r1` has heard of it, and these calls are shown
-- for example: legal with `0.1`, whose update `r0` logs; not without
abbrev pub acknowledged : List Cid → List (Step TallyOp)
acknowledged calls = added ++ notes_ack 3 ++ shown 0 (first_spot ∷ []) (ack_spot ∷ []) calls ∷ []

-- an addition and its acknowledgement come to `r1`, and these calls are shown; then `r0` reads this clock, and these
-- acknowledgements are shown
-- for example: legal with no call, and at the reading 18 with no acknowledgement; at 17 that of `0.1` is still shown
abbrev pub gossiped : List Cid → ℕ → List Spot → List (Step TallyOp)
gossiped calls reading acks =
    added ++ notes_ack 3 ++ gossips 4 2
    ++ shown 0 [] (ack_spot ∷ []) calls
    ∷ step (Tick 0 reading) (ClockAt reading ∷ [])
    ∷ shown reading [] acks []
    ∷ []

-- the addition comes to `r1`, and is acknowledged only then; at the reading 18 these acknowledgements are shown
-- for example: legal with that of `0.1`, which `r1` hasn't; not without
abbrev pub gossiped_before : List Spot → List (Step TallyOp)
gossiped_before acks =
    added ++ gossips 3 1 ++ notes_ack 5
    ++ step (Tick 0 18) (ClockAt 18 ∷ [])
    ∷ shown 18 [] acks []
    ∷ []
