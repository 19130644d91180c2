-- This file is made by .ci/laws_of_histories, from
-- crates/lr_examples/data/an_update_delivered_twice_and_a_second_open_call.stdout.
use Rattle.std.specs.Prelude.{[], ◌∷◌, codes}
use Rattle.lr_base.specs.declared.events.Event.TheVariants.{Call, Deliver}
use Rattle.lr_base.specs.declared.events.Outcome.TheVariants.{Send, Accept, Got, Stale, NoMessage, Refuse}
use Rattle.lr_base.specs.declared.events.Refusal.TheVariants.{Again, Unfinished}
use Rattle.lr_base.specs.declared.events.Sent.TheVariants.{Update, Query, Done}
use Rattle.lr_base.specs.declared.names.Actor.TheVariants.{Client, Replica}
use Rattle.svc_tally.specs.declared.op.TallyOp.{TallyOp}
use Rattle.svc_tally.specs.declared.op.TallyOp.TheVariants.{Add, Read}
use Rattle.lr_histories.specs.Terms.{PrintedHistory, cid, spot, step}

-- the history, with any outcome in the place of the one at its line 19
abbrev pub history : PrintedHistory TallyOp
history = record {
  config = record { replicas = 1; clients = 1; delta = 10 };
  steps = λ line.
      step (Call 0 0 5 (Add (codes "x") 3)) (Send 1 (Client 0) (Replica 0) (Update (cid 0 1) 5) ∷ [])
      ∷ step (Deliver 1) (Accept (spot 0 1) (cid 0 1) ∷ Send 2 (Replica 0) (Client 0) (Done (cid 0 1) (spot 0 1)) ∷ [])
      ∷ step (Deliver 1) (Refuse (Again (spot 0 1)) ∷ Send 3 (Replica 0) (Client 0) (Done (cid 0 1) (spot 0 1)) ∷ [])
      ∷ step (Deliver 2) (Got (cid 0 1) ∷ [])
      ∷ step (Deliver 3) (Stale (cid 0 1) ∷ [])
      ∷ step (Call 0 0 7 (Read (codes "x"))) (Send 4 (Client 0) (Replica 0) (Query (cid 0 2)) ∷ [])
      ∷ step (Call 0 0 7 (Read (codes "x"))) (Refuse (Unfinished (cid 0 2)) ∷ [])
      ∷ step (Deliver 9) (line ∷ [])
      ∷ [];
  line = NoMessage 9;
  altered = NoMessage 10;
}
