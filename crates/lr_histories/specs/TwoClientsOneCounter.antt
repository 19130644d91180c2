-- This file is made by .ci/laws_of_histories, from
-- examples/two_clients_one_counter.history.
use Rattle.std.specs.Prelude.{[], ◌∷◌, codes}
use Rattle.lr_base.specs.declared.events.Event.TheVariants.{Call, Deliver, Show}
use Rattle.lr_base.specs.declared.events.Outcome.TheVariants.{Send, Accept, Got, Stale, Refuse, State}
use Rattle.lr_base.specs.declared.events.Refusal.TheVariants.{Unfinished}
use Rattle.lr_base.specs.declared.events.Sent.TheVariants.{Update, Query, Done, Answer}
use Rattle.lr_base.specs.declared.names.Actor.TheVariants.{Client, Replica}
use Rattle.svc_tally.specs.declared.op.TallyOp.{TallyOp}
use Rattle.svc_tally.specs.declared.op.TallyOp.TheVariants.{Add, Read}
use Rattle.lr_histories.specs.Terms.{PrintedHistory, cid, spot, step}

-- the history, with any outcome in the place of the one at its line 21
abbrev pub history : PrintedHistory TallyOp
history = record {
  config = record { replicas = 1; clients = 2; delta = 10 };
  steps = λ line.
      step (Call 0 0 1 (Add (codes "votes") 18446744073709551615)) (Send 1 (Client 0) (Replica 0) (Update (cid 0 1) 1)
      ∷ [])
      ∷ step (Call 1 0 2 (Add (codes "votes") 3)) (Send 2 (Client 1) (Replica 0) (Update (cid 1 1) 2) ∷ [])
      ∷ step (Call 1 0 3 (Read (codes "votes"))) (Refuse (Unfinished (cid 1 1)) ∷ [])
      ∷ step (Deliver 2) (Accept (spot 0 1) (cid 1 1) ∷ Send 3 (Replica 0) (Client 1) (Done (cid 1 1) (spot 0 1)) ∷ [])
      ∷ step (Deliver 3) (Got (cid 1 1) ∷ [])
      ∷ step (Call 1 0 4 (Read (codes "votes"))) (Send 4 (Client 1) (Replica 0) (Query (cid 1 2)) ∷ [])
      ∷ step (Deliver 4) (Send 5 (Replica 0) (Client 1) (Answer (cid 1 2) (codes "3")) ∷ [])
      ∷ step (Deliver 1) (Accept (spot 0 2) (cid 0 1) ∷ Send 6 (Replica 0) (Client 0) (Done (cid 0 1) (spot 0 2)) ∷ [])
      ∷ step (Deliver 4) (line ∷ [])
      ∷ step (Deliver 5) (Got (cid 1 2) ∷ [])
      ∷ step (Deliver 7) (Stale (cid 1 2) ∷ [])
      ∷ step (Deliver 6) (Got (cid 0 1) ∷ [])
      ∷ step (Show 0) (State (record {
        replica = 0;
        view = 0;
        clock = 0;
        received = 2 ∷ 0 ∷ [];
        log = [];
        acks = [];
        calls = cid 0 1 ∷ cid 1 1 ∷ [];
        held = [];
        marks = [];
      }) ∷ [])
      ∷ [];
  line = Send 7 (Replica 0) (Client 1) (Answer (cid 1 2) (codes "2"));
  altered = Send 7 (Replica 0) (Client 1) (Answer (cid 1 2) (codes "3"));
}
