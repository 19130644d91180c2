-- This file is made by .ci/laws_of_histories, from
-- crates/lr_examples/data/a_query_is_sent_again.stdout.
use Rattle.std.specs.Prelude.{[], ◌∷◌, codes}
use Rattle.lr_base.specs.declared.events.Event.TheVariants.{Call, Resend, Ack as AckEvent, Deliver}
use Rattle.lr_base.specs.declared.events.Outcome.TheVariants.{Send, Got, Stale, Refuse}
use Rattle.lr_base.specs.declared.events.Refusal.TheVariants.{Idle, Nothing}
use Rattle.lr_base.specs.declared.events.Sent.TheVariants.{Update, Query, Answer}
use Rattle.lr_base.specs.declared.names.Actor.TheVariants.{Client, Replica}
use Rattle.svc_tally.specs.declared.op.TallyOp.{TallyOp}
use Rattle.svc_tally.specs.declared.op.TallyOp.TheVariants.{Add, Read}
use Rattle.lr_histories.specs.Terms.{PrintedHistory, cid, step}

-- the history, with any outcome in the place of the one at its line 19
abbrev pub history : PrintedHistory TallyOp
history = record {
  config = record { replicas = 2; clients = 1; delta = 10 };
  steps = λ line.
      step (Call 0 0 1 (Read (codes "x"))) (Send 1 (Client 0) (Replica 0) (Query (cid 0 1)) ∷ [])
      ∷ step (Resend 0 1 2) (Send 2 (Client 0) (Replica 1) (Query (cid 0 1)) ∷ [])
      ∷ step (Deliver 2) (Send 3 (Replica 1) (Client 0) (Answer (cid 0 1) (codes "0")) ∷ [])
      ∷ step (Deliver 1) (Send 4 (Replica 0) (Client 0) (Answer (cid 0 1) (codes "0")) ∷ [])
      ∷ step (Deliver 4) (Got (cid 0 1) ∷ [])
      ∷ step (Deliver 3) (Stale (cid 0 1) ∷ [])
      ∷ step (Resend 0 0 3) (Refuse Idle ∷ [])
      ∷ step (AckEvent 0 0 4) (Refuse Nothing ∷ [])
      ∷ step (Deliver 2) (line ∷ [])
      ∷ step (Call 0 1 0 (Add (codes "x") 7)) (Send 6 (Client 0) (Replica 1) (Update (cid 0 2) 4) ∷ [])
      ∷ [];
  line = Send 5 (Replica 1) (Client 0) (Answer (cid 0 1) (codes "0"));
  altered = Send 5 (Replica 1) (Client 0) (Answer (cid 0 1) (codes "1"));
}
