-- This file is made by .ci/laws_of_histories, from
-- crates/lr_examples/data/notes_with_repeats.stdout.
use Rattle.std.specs.Prelude.{[], ◌∷◌, codes}
use Rattle.lr_base.specs.declared.events.Event.TheVariants.{Call, Deliver}
use Rattle.lr_base.specs.declared.events.Outcome.TheVariants.{Send, Accept, Got, Stale, Refuse}
use Rattle.lr_base.specs.declared.events.Refusal.TheVariants.{Again}
use Rattle.lr_base.specs.declared.events.Sent.TheVariants.{Update, Query, Done, Answer}
use Rattle.lr_base.specs.declared.names.Actor.TheVariants.{Client, Replica}
use Rattle.svc_claims.specs.declared.op.ClaimsOp.{ClaimsOp}
use Rattle.svc_claims.specs.declared.op.ClaimsOp.TheVariants.{Note, Who}
use Rattle.lr_histories.specs.Terms.{PrintedHistory, cid, spot, step}

-- the history, with any outcome in the place of the one at its line 35
abbrev pub history : PrintedHistory ClaimsOp
history = record {
  config = record { replicas = 1; clients = 2; delta = 10 };
  steps = λ line.
      step (Call 0 0 1 (Note (codes "a") (codes "hi"))) (Send 1 (Client 0) (Replica 0) (Update (cid 0 1) 1) ∷ [])
      ∷ step (Deliver 1) (Accept (spot 0 1) (cid 0 1) ∷ Send 2 (Replica 0) (Client 0) (Done (cid 0 1) (spot 0 1)) ∷ [])
      ∷ step (Deliver 1) (Refuse (Again (spot 0 1)) ∷ Send 3 (Replica 0) (Client 0) (Done (cid 0 1) (spot 0 1)) ∷ [])
      ∷ step (Call 1 0 1 (Note (codes "a") (codes "abcdefghijklmnop"))) (Send 4 (Client 1) (Replica 0) (Update (cid 1 1)
      1) ∷ [])
      ∷ step (Deliver 4) (Accept (spot 0 2) (cid 1 1) ∷ Send 5 (Replica 0) (Client 1) (Done (cid 1 1) (spot 0 2)) ∷ [])
      ∷ step (Deliver 3) (Got (cid 0 1) ∷ [])
      ∷ step (Call 0 0 2 (Note (codes "a") (codes "hi"))) (Send 6 (Client 0) (Replica 0) (Update (cid 0 2) 2) ∷ [])
      ∷ step (Deliver 6) (Accept (spot 0 3) (cid 0 2) ∷ Send 7 (Replica 0) (Client 0) (Done (cid 0 2) (spot 0 3)) ∷ [])
      ∷ step (Deliver 7) (Got (cid 0 2) ∷ [])
      ∷ step (Deliver 2) (Stale (cid 0 1) ∷ [])
      ∷ step (Call 0 0 3 (Who (codes "a"))) (Send 8 (Client 0) (Replica 0) (Query (cid 0 3)) ∷ [])
      ∷ step (Deliver 8) (Send 9 (Replica 0) (Client 0) (Answer (cid 0 3) (codes "- 3 abcdefghijklmnop hi hi")) ∷ [])
      ∷ step (Deliver 9) (Got (cid 0 3) ∷ [])
      ∷ step (Call 0 0 4 (Who (codes "b"))) (Send 10 (Client 0) (Replica 0) (Query (cid 0 4)) ∷ [])
      ∷ step (Deliver 10) (line ∷ [])
      ∷ [];
  line = Send 11 (Replica 0) (Client 0) (Answer (cid 0 4) (codes "- 0"));
  altered = Send 11 (Replica 0) (Client 0) (Answer (cid 0 4) (codes "- 1"));
}
