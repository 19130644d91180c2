-- This file is made by .ci/laws_of_histories, from
-- examples/a_second_call_while_one_is_open.history.
use Rattle.std.specs.Prelude.{[], ◌∷◌, codes}
use Rattle.lr_base.specs.declared.events.Event.TheVariants.{Call, Deliver}
use Rattle.lr_base.specs.declared.events.Outcome.TheVariants.{Send, Accept, Got, NoMessage, Refuse}
use Rattle.lr_base.specs.declared.events.Refusal.TheVariants.{Unfinished}
use Rattle.lr_base.specs.declared.events.Sent.TheVariants.{Update, Query, Done, Answer}
use Rattle.lr_base.specs.declared.names.Actor.TheVariants.{Client, Replica}
use Rattle.svc_tally.specs.declared.op.TallyOp.{TallyOp}
use Rattle.svc_tally.specs.declared.op.TallyOp.TheVariants.{Add, Read}
use Rattle.lr_histories.specs.Terms.{PrintedHistory, cid, spot, step}

-- the history, with any outcome in the place of the one at its line 25
abbrev pub history : PrintedHistory TallyOp
history = record {
  config = record { replicas = 1; clients = 1; delta = 10 };
  steps = λ line.
      step (Call 0 0 4 (Add (codes "tea") 1)) (Send 1 (Client 0) (Replica 0) (Update (cid 0 1) 4) ∷ [])
      ∷ step (Call 0 0 9 (Add (codes "tea") 1)) (Refuse (Unfinished (cid 0 1)) ∷ [])
      ∷ step (Deliver 1) (Accept (spot 0 1) (cid 0 1) ∷ Send 2 (Replica 0) (Client 0) (Done (cid 0 1) (spot 0 1)) ∷ [])
      ∷ step (Call 0 0 5 (Read (codes "tea"))) (Refuse (Unfinished (cid 0 1)) ∷ [])
      ∷ step (Deliver 2) (Got (cid 0 1) ∷ [])
      ∷ step (Call 0 0 6 (Add (codes "tea") 1)) (Send 3 (Client 0) (Replica 0) (Update (cid 0 2) 9) ∷ [])
      ∷ step (Deliver 3) (Accept (spot 0 2) (cid 0 2) ∷ Send 4 (Replica 0) (Client 0) (Done (cid 0 2) (spot 0 2)) ∷ [])
      ∷ step (Deliver 4) (Got (cid 0 2) ∷ [])
      ∷ step (Deliver 5) (NoMessage 5 ∷ [])
      ∷ step (Call 0 0 7 (Read (codes "tea"))) (Send 5 (Client 0) (Replica 0) (Query (cid 0 3)) ∷ [])
      ∷ step (Deliver 5) (line ∷ [])
      ∷ step (Deliver 6) (Got (cid 0 3) ∷ [])
      ∷ [];
  line = Send 6 (Replica 0) (Client 0) (Answer (cid 0 3) (codes "2"));
  altered = Send 6 (Replica 0) (Client 0) (Answer (cid 0 3) (codes "3"));
}
