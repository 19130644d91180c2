-- This file is made by .ci/laws_of_histories, from
-- examples/first.history.
use Rattle.std.specs.Prelude.{[], ◌∷◌, codes}
use Rattle.lr_base.specs.declared.events.Event.TheVariants.{Call, Deliver, Show}
use Rattle.lr_base.specs.declared.events.Outcome.TheVariants.{Send, Accept, Got, State}
use Rattle.lr_base.specs.declared.events.Sent.TheVariants.{Update, Query, Done, Answer}
use Rattle.lr_base.specs.declared.names.Actor.TheVariants.{Client, Replica}
use Rattle.svc_tally.specs.declared.op.TallyOp.{TallyOp}
use Rattle.svc_tally.specs.declared.op.TallyOp.TheVariants.{Add, Read}
use Rattle.lr_histories.specs.Terms.{PrintedHistory, cid, spot, step}

-- the history, with any outcome in the place of the one at its line 12
abbrev pub history : PrintedHistory TallyOp
history = record {
  config = record { replicas = 1; clients = 1; delta = 10 };
  steps = λ line.
      step (Call 0 0 5 (Add (codes "x") 3)) (Send 1 (Client 0) (Replica 0) (Update (cid 0 1) 5) ∷ [])
      ∷ step (Deliver 1) (Accept (spot 0 1) (cid 0 1) ∷ Send 2 (Replica 0) (Client 0) (Done (cid 0 1) (spot 0 1)) ∷ [])
      ∷ step (Deliver 2) (Got (cid 0 1) ∷ [])
      ∷ step (Call 0 0 6 (Read (codes "x"))) (Send 3 (Client 0) (Replica 0) (Query (cid 0 2)) ∷ [])
      ∷ step (Deliver 3) (line ∷ [])
      ∷ step (Deliver 4) (Got (cid 0 2) ∷ [])
      ∷ step (Show 0) (State (record {
        replica = 0;
        view = 0;
        clock = 0;
        received = 1 ∷ 0 ∷ [];
        log = [];
        acks = [];
        calls = cid 0 1 ∷ [];
        held = [];
        marks = [];
      }) ∷ [])
      ∷ [];
  line = Send 4 (Replica 0) (Client 0) (Answer (cid 0 2) (codes "3"));
  altered = Send 4 (Replica 0) (Client 0) (Answer (cid 0 2) (codes "4"));
}
