-- This file is made by .ci/laws_of_histories, from
-- crates/lr_examples/data/one_replica_never_tells.stdout.
use Rattle.std.specs.Prelude.{[], ◌∷◌, codes}
use Rattle.lr_base.specs.declared.events.Event.TheVariants.{Call, Ack as AckEvent, Deliver, Tick, Gossip as GossipEvent}
use Rattle.lr_base.specs.declared.events.Event.TheVariants.{Show}
use Rattle.lr_base.specs.declared.events.Outcome.TheVariants.{Send, Accept, Note as NoteLine, Take, Got, ClockAt, State}
use Rattle.lr_base.specs.declared.events.Sent.TheVariants.{Update, Ack, Done, Gossip}
use Rattle.lr_base.specs.declared.names.Actor.TheVariants.{Client, Replica}
use Rattle.svc_tally.specs.declared.op.TallyOp.{TallyOp}
use Rattle.svc_tally.specs.declared.op.TallyOp.TheVariants.{Add}
use Rattle.lr_histories.specs.Terms.{PrintedHistory, cid, spot, step}

-- the history, with any outcome in the place of the one at its line 61
abbrev pub history : PrintedHistory TallyOp
history = record {
  config = record { replicas = 3; clients = 2; delta = 10 };
  steps = λ line.
      step (Call 0 0 1 (Add (codes "x") 3)) (Send 1 (Client 0) (Replica 0) (Update (cid 0 1) 1) ∷ [])
      ∷ step (Deliver 1) (Accept (spot 0 1) (cid 0 1) ∷ Send 2 (Replica 0) (Client 0) (Done (cid 0 1) (spot 0 1)) ∷ [])
      ∷ step (Call 1 1 2 (Add (codes "x") 4)) (Send 3 (Client 1) (Replica 1) (Update (cid 1 1) 2) ∷ [])
      ∷ step (Deliver 3) (Accept (spot 1 1) (cid 1 1) ∷ Send 4 (Replica 1) (Client 1) (Done (cid 1 1) (spot 1 1)) ∷ [])
      ∷ step (Deliver 2) (Got (cid 0 1) ∷ [])
      ∷ step (AckEvent 0 0 3) (Send 5 (Client 0) (Replica 0) (Ack (cid 0 1) 3) ∷ [])
      ∷ step (Deliver 5) (NoteLine (spot 0 2) (cid 0 1) ∷ [])
      ∷ step (GossipEvent 0 1) (Send 6 (Replica 0) (Replica 1) Gossip ∷ [])
      ∷ step (Deliver 6) (Take 2 ∷ [])
      ∷ step (GossipEvent 1 0) (Send 7 (Replica 1) (Replica 0) Gossip ∷ [])
      ∷ step (Deliver 7) (Take 1 ∷ [])
      ∷ step (GossipEvent 0 1) (Send 8 (Replica 0) (Replica 1) Gossip ∷ [])
      ∷ step (Deliver 8) (Take 0 ∷ [])
      ∷ step (Tick 0 14) (ClockAt 14 ∷ [])
      ∷ step (Tick 1 14) (ClockAt 14 ∷ [])
      ∷ step (Show 0) (State (record {
        replica = 0;
        view = 0;
        clock = 14;
        received = 2 ∷ 1 ∷ 0 ∷ 0 ∷ [];
        log = spot 0 1 ∷ spot 1 1 ∷ [];
        acks = spot 0 2 ∷ [];
        calls = cid 0 1 ∷ cid 1 1 ∷ [];
        held = [];
        marks = [];
      }) ∷ [])
      ∷ step (Show 1) (State (record {
        replica = 1;
        view = 0;
        clock = 14;
        received = 2 ∷ 1 ∷ 0 ∷ 0 ∷ [];
        log = spot 0 1 ∷ spot 1 1 ∷ [];
        acks = spot 0 2 ∷ [];
        calls = cid 0 1 ∷ cid 1 1 ∷ [];
        held = [];
        marks = [];
      }) ∷ [])
      ∷ step (GossipEvent 0 2) (Send 9 (Replica 0) (Replica 2) Gossip ∷ [])
      ∷ step (Deliver 9) (Take 3 ∷ [])
      ∷ step (Show 2) (State (record {
        replica = 2;
        view = 0;
        clock = 0;
        received = 2 ∷ 1 ∷ 0 ∷ 0 ∷ [];
        log = spot 0 1 ∷ spot 1 1 ∷ [];
        acks = spot 0 2 ∷ [];
        calls = cid 0 1 ∷ cid 1 1 ∷ [];
        held = [];
        marks = [];
      }) ∷ [])
      ∷ step (GossipEvent 1 0) (Send 10 (Replica 1) (Replica 0) Gossip ∷ [])
      ∷ step (Deliver 10) (Take 0 ∷ [])
      ∷ step (Show 0) (State (record {
        replica = 0;
        view = 0;
        clock = 14;
        received = 2 ∷ 1 ∷ 0 ∷ 0 ∷ [];
        log = spot 0 1 ∷ spot 1 1 ∷ [];
        acks = spot 0 2 ∷ [];
        calls = cid 0 1 ∷ cid 1 1 ∷ [];
        held = [];
        marks = [];
      }) ∷ [])
      ∷ step (GossipEvent 1 2) (Send 11 (Replica 1) (Replica 2) Gossip ∷ [])
      ∷ step (Deliver 11) (Take 0 ∷ [])
      ∷ step (Show 2) (State (record {
        replica = 2;
        view = 0;
        clock = 0;
        received = 2 ∷ 1 ∷ 0 ∷ 0 ∷ [];
        log = [];
        acks = spot 0 2 ∷ [];
        calls = cid 1 1 ∷ [];
        held = [];
        marks = [];
      }) ∷ [])
      ∷ step (GossipEvent 0 1) (Send 12 (Replica 0) (Replica 1) Gossip ∷ [])
      ∷ step (Deliver 12) (Take 0 ∷ [])
      ∷ step (Show 1) (line ∷ [])
      ∷ [];
  line = State (record {
    replica = 1;
    view = 0;
    clock = 14;
    received = 2 ∷ 1 ∷ 0 ∷ 0 ∷ [];
    log = spot 0 1 ∷ spot 1 1 ∷ [];
    acks = spot 0 2 ∷ [];
    calls = cid 0 1 ∷ cid 1 1 ∷ [];
    held = [];
    marks = [];
  });
  altered = State (record {
    replica = 1;
    view = 0;
    clock = 14;
    received = 2 ∷ 1 ∷ 0 ∷ 0 ∷ [];
    log = spot 0 1 ∷ spot 1 1 ∷ [];
    acks = spot 0 2 ∷ [];
    calls = cid 0 1 ∷ cid 1 2 ∷ [];
    held = [];
    marks = [];
  });
}
