-- This file is made by .ci/laws_of_histories, from
-- crates/lr_examples/data/an_acknowledgement_comes_before_its_call.stdout.
use Rattle.std.specs.Prelude.{[], ◌∷◌, codes}
use Rattle.lr_base.specs.declared.events.Event.TheVariants.{Call, Ack as AckEvent, Deliver, Tick, Gossip as GossipEvent}
use Rattle.lr_base.specs.declared.events.Event.TheVariants.{Show}
use Rattle.lr_base.specs.declared.events.Outcome.TheVariants.{Send, Accept, Note as NoteLine, Take, Got, ClockAt}
use Rattle.lr_base.specs.declared.events.Outcome.TheVariants.{Refuse, State}
use Rattle.lr_base.specs.declared.events.Refusal.TheVariants.{Late, Again, Settled}
use Rattle.lr_base.specs.declared.events.Sent.TheVariants.{Update, Query, Ack, Done, Answer, Gossip}
use Rattle.lr_base.specs.declared.names.Actor.TheVariants.{Client, Replica}
use Rattle.svc_tally.specs.declared.op.TallyOp.{TallyOp}
use Rattle.svc_tally.specs.declared.op.TallyOp.TheVariants.{Add, Read}
use Rattle.lr_histories.specs.Terms.{PrintedHistory, cid, spot, step}

-- the history, with any outcome in the place of the one at its line 77
abbrev pub history : PrintedHistory TallyOp
history = record {
  config = record { replicas = 3; clients = 1; delta = 10 };
  steps = λ line.
      step (Call 0 0 1 (Add (codes "x") 3)) (Send 1 (Client 0) (Replica 0) (Update (cid 0 1) 1) ∷ [])
      ∷ step (Deliver 1) (Accept (spot 0 1) (cid 0 1) ∷ Send 2 (Replica 0) (Client 0) (Done (cid 0 1) (spot 0 1)) ∷ [])
      ∷ step (Deliver 2) (Got (cid 0 1) ∷ [])
      ∷ step (AckEvent 0 1 4) (Send 3 (Client 0) (Replica 1) (Ack (cid 0 1) 4) ∷ [])
      ∷ step (Deliver 3) (NoteLine (spot 1 1) (cid 0 1) ∷ [])
      ∷ step (GossipEvent 1 2) (Send 4 (Replica 1) (Replica 2) Gossip ∷ [])
      ∷ step (Deliver 4) (Take 1 ∷ [])
      ∷ step (Show 2) (State (record {
        replica = 2;
        view = 0;
        clock = 0;
        received = 0 ∷ 1 ∷ 0 ∷ 0 ∷ [];
        log = [];
        acks = spot 1 1 ∷ [];
        calls = [];
        held = [];
        marks = [];
      }) ∷ [])
      ∷ step (GossipEvent 0 2) (Send 5 (Replica 0) (Replica 2) Gossip ∷ [])
      ∷ step (Deliver 5) (Take 1 ∷ [])
      ∷ step (Show 2) (State (record {
        replica = 2;
        view = 0;
        clock = 0;
        received = 1 ∷ 1 ∷ 0 ∷ 0 ∷ [];
        log = spot 0 1 ∷ [];
        acks = spot 1 1 ∷ [];
        calls = cid 0 1 ∷ [];
        held = [];
        marks = [];
      }) ∷ [])
      ∷ step (GossipEvent 2 1) (Send 6 (Replica 2) (Replica 1) Gossip ∷ [])
      ∷ step (Deliver 6) (Take 1 ∷ [])
      ∷ step (Show 1) (State (record {
        replica = 1;
        view = 0;
        clock = 0;
        received = 1 ∷ 1 ∷ 0 ∷ 0 ∷ [];
        log = spot 0 1 ∷ [];
        acks = spot 1 1 ∷ [];
        calls = cid 0 1 ∷ [];
        held = [];
        marks = [];
      }) ∷ [])
      ∷ step (GossipEvent 1 2) (Send 7 (Replica 1) (Replica 2) Gossip ∷ [])
      ∷ step (Deliver 7) (Take 0 ∷ [])
      ∷ step (Show 2) (State (record {
        replica = 2;
        view = 0;
        clock = 0;
        received = 1 ∷ 1 ∷ 0 ∷ 0 ∷ [];
        log = [];
        acks = spot 1 1 ∷ [];
        calls = [];
        held = [];
        marks = [];
      }) ∷ [])
      ∷ step (Tick 2 15) (ClockAt 15 ∷ [])
      ∷ step (Show 2) (State (record {
        replica = 2;
        view = 0;
        clock = 15;
        received = 1 ∷ 1 ∷ 0 ∷ 0 ∷ [];
        log = [];
        acks = spot 1 1 ∷ [];
        calls = [];
        held = [];
        marks = [];
      }) ∷ [])
      ∷ step (GossipEvent 2 0) (Send 8 (Replica 2) (Replica 0) Gossip ∷ [])
      ∷ step (Deliver 8) (Take 1 ∷ [])
      ∷ step (GossipEvent 0 2) (Send 9 (Replica 0) (Replica 2) Gossip ∷ [])
      ∷ step (Deliver 9) (Take 0 ∷ [])
      ∷ step (Show 2) (State (record {
        replica = 2;
        view = 0;
        clock = 15;
        received = 1 ∷ 1 ∷ 0 ∷ 0 ∷ [];
        log = [];
        acks = [];
        calls = [];
        held = [];
        marks = [];
      }) ∷ [])
      ∷ step (Show 0) (State (record {
        replica = 0;
        view = 0;
        clock = 0;
        received = 1 ∷ 1 ∷ 0 ∷ 0 ∷ [];
        log = spot 0 1 ∷ [];
        acks = spot 1 1 ∷ [];
        calls = cid 0 1 ∷ [];
        held = [];
        marks = [];
      }) ∷ [])
      ∷ step (Deliver 1) (Refuse (Again (spot 0 1)) ∷ Send 10 (Replica 0) (Client 0) (Done (cid 0 1) (spot 0 1)) ∷ [])
      ∷ step (GossipEvent 1 0) (Send 11 (Replica 1) (Replica 0) Gossip ∷ [])
      ∷ step (Deliver 11) (Take 0 ∷ [])
      ∷ step (Show 0) (State (record {
        replica = 0;
        view = 0;
        clock = 0;
        received = 1 ∷ 1 ∷ 0 ∷ 0 ∷ [];
        log = [];
        acks = spot 1 1 ∷ [];
        calls = [];
        held = [];
        marks = [];
      }) ∷ [])
      ∷ step (Deliver 1) (Refuse Settled ∷ [])
      ∷ step (Tick 0 14) (ClockAt 14 ∷ [])
      ∷ step (Show 0) (State (record {
        replica = 0;
        view = 0;
        clock = 14;
        received = 1 ∷ 1 ∷ 0 ∷ 0 ∷ [];
        log = [];
        acks = spot 1 1 ∷ [];
        calls = [];
        held = [];
        marks = [];
      }) ∷ [])
      ∷ step (Tick 0 15) (ClockAt 15 ∷ [])
      ∷ step (Show 0) (State (record {
        replica = 0;
        view = 0;
        clock = 15;
        received = 1 ∷ 1 ∷ 0 ∷ 0 ∷ [];
        log = [];
        acks = [];
        calls = [];
        held = [];
        marks = [];
      }) ∷ [])
      ∷ step (Deliver 1) (Refuse (Late 1 15) ∷ [])
      ∷ step (Call 0 2 16 (Read (codes "x"))) (Send 12 (Client 0) (Replica 2) (Query (cid 0 2)) ∷ [])
      ∷ step (Deliver 12) (line ∷ [])
      ∷ step (Deliver 13) (Got (cid 0 2) ∷ [])
      ∷ [];
  line = Send 13 (Replica 2) (Client 0) (Answer (cid 0 2) (codes "3"));
  altered = Send 13 (Replica 2) (Client 0) (Answer (cid 0 2) (codes "4"));
}
